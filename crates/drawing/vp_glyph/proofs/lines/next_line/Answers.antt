use Rattle.std.proofs.Common.{refl, arith, take, drop, length-drop, length, ◌≡◌, ◌+◌, ◌-◌, ap, ◌∙◌}
use Rattle.std.proofs.lemmas.List.{take_all}
use Rattle.vp_glyph.specs.Blocks.{pieces, first, others}
use Rattle.vp_glyph.proofs.Breaking.{cut_hard}
use Rattle.vp_glyph.proofs.Handed.{size_behind}
use Rattle.vp_glyph.proofs.Plain.{AreCells, cells_enough, no_blank, first_behind, others_behind}
use Rattle.vp_glyph.proofs.lines.next_line.Goals as goal

pub returns-then-is_plain : goal.returns-then-is_plain
returns-then-is_plain c =
    let most = c.args.most in
    let text = c.args.text.now in
    let plain = c.if-is_plain.ensures refl in
    let cells : AreCells (most + 1) text = (omega (arith, plain.0), λ j l. (plain.1 j (omega arith)).1) in
    let fewer : AreCells most text = (omega (arith, plain.0), λ j l. (plain.1 j (omega arith)).1) in
    let enough = cells_enough (most + 1) text cells in
    let far = length-drop most text in
    let whole : take (length text - most) (drop most text) ≡ drop most text = take_all _ (drop most text) (omega (arith, far)) in
    let front = ap (λ t. first (pieces t)) whole ∙ first_behind most text fewer in
    let rest = ap (λ t. others (pieces t)) whole ∙ others_behind most text fewer in
    let size = size_behind most text (take (length text - most) (drop most text)) (omega (arith, enough)) front rest in
    record {
      text = refl;
      most = omega arith;
      cells = omega (arith, enough);
      lines = cut_hard most text (take (length text - most) (drop most text)) c.requires.some (omega (arith, enough)) (no_blank most text cells (λ j l. (plain.1 j l).0)) front rest;
      less = omega (arith, size);
    }
