use Rattle.std.proofs.Common.{◌≡◌, ◌∙◌, ap, arith, w64, to_z, pos, leb, ◌&&◌, ◌-◌}
use Rattle.std.proofs.lemmas.Int.{ints}
use Rattle.vp_dots.specs.Dots.{dot, shifted}
use Rattle.vp_dots.proofs.Paints.{painted_same}
use Rattle.vp_dots.proofs.Words.{word_row, narrow_bytes}
use Rattle.vp_dots.proofs.word.paint_narrow.Goals as goal

pub returns-then-i-row : goal.returns-then-i-row
returns-then-i-row c = painted_same _ _ _ _ _ (λ d l. narrow_bytes c.args.word c.args.at d c.ranges.word.fits (λ x h. c.requires.narrow x (omega arith))) c.paint_eight.ensures

pub returns-else-i-row : goal.returns-else-i-row
returns-else-i-row c =
    let right : to_z w64 c.args.at ≡ pos c.args.at = omega (arith, ints, c.requires.at) in
    painted_same _ _ _ _ _ (λ d l. ap (λ n. shifted n (dot c.to_be_bytes.result) d) right ∙ ap (λ b. leb c.args.at d && b) (ap (λ b. dot b (d - c.args.at)) c.to_be_bytes.ensures ∙ word_row c.args.word (d - c.args.at))) c.paint_into.ensures
