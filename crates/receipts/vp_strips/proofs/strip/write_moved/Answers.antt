use mir.Val.{SFits}
use Rattle.std.proofs.Common.{rules, replicate, refl, ◌∙◌, w64}
use Rattle.std.proofs.lemmas.Int.{to_z-of_z}
use Rattle.vp_page.specs.declared.page.TheConstants.{PAPER_BYTES}
use Rattle.vp_dots.specs.Dots.{dot}
use Rattle.vp_strips.proofs.Rows.{moved_dot, straight_dot}
use Rattle.vp_strips.proofs.strip.write_moved.Goals as goal

pub returns-then-source-ge-PAPER_BYTES : goal.returns-then-source-ge-PAPER_BYTES
returns-then-source-ge-PAPER_BYTES c = λ d h. straight_dot c.args.left c.args.source.now c.copy_from_slice.new.self d c.if-left-eq0.true c.copy_from_slice.ensures.after h

pub returns : goal.returns
returns c = λ d h.
    let fits : SFits w64 c.from.result = search rules in
    moved_dot PAPER_BYTES c.args.left _ (dot c.args.source.now) (replicate PAPER_BYTES 0) c.or_into.new.row refl (to_z-of_z w64 c.from.result fits ∙ c.from.ensures) c.or_into.ensures d h
