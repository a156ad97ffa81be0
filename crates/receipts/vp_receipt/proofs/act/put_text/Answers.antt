use Rattle.std.proofs.Common.{◌≡◌, ◌+◌, ◌-◌, ◌++◌, ◌∷◌, [], suc, take, length, get_or, true, sym, subst, arith}
use Rattle.std.proofs.lemmas.List.{take_more, take_all}
use Rattle.std.proofs.lemmas.List.Elements.{All-from_recursion}
use Rattle.vp_esc.specs.Reader.{is_text}
use Rattle.vp_receipt.proofs.Texts.{Put, none_put, control_put, controls_put, character_put}
use Rattle.vp_receipt.proofs.act.put_text.Goals.{then-code-ge32, else-code-ge32}
use Rattle.vp_receipt.proofs.act.put_text.Goals as goal

pub returns-then-are_controls : goal.returns-then-are_controls
returns-then-are_controls g c =
    let text = c.args.text.now in
    let put = rw (take_all (length text) text (omega arith)) at (controls_put c.args.s.now c.args.sheets.now c.args.bitmap.now text (length text) (omega arith) (c.are_controls.ensures c.if-are_controls.true)
    c.requires.text (none_put c.args.s.now c.args.sheets.now c.args.bitmap.now (length text) c.requires.fit (omega (arith, c.requires.room)))) in
    record { fit = put.fit; settings = put.settings; line = put.line; others = put.others }

pub loop-code-init : goal.loop-code-init
loop-code-init g c = none_put c.args.s.now c.args.sheets.now c.args.bitmap.now (length c.args.text.now - 0) c.requires.fit (omega (arith, c.requires.room))

pub loop-code-preserved : goal.loop-code-preserved
loop-code-preserved g c =
    let text = c.args.text.now in
    let k = c.loop-code.code-index in
    let b = get_or text k 0 in
    let left = length text - (k + 1) in
    let old = c.args.s.now in
    let sheets = c.args.sheets.now in
    let more : take (k + 1) text ≡ take k text ++ b ∷ [] = take_more text k 0 c.loop-code-test.true in
    let was : Put old sheets c.args.bitmap.now (take k text) (suc left) c.loop-code.now c.loop-code.bitmap = grind (arith, c.loop-code.invariant, c.loop-code-test.true) in
    subst (λ xs. Put old sheets c.args.bitmap.now xs left c.if-code-ge32.now c.if-code-ge32.bitmap) (sym more) (elim c.if-code-ge32.branch [
      | then-code-ge32 w ↦ rw (w.now-is, w.bitmap-is) (character_put old sheets c.args.bitmap.now (take k text) left c.loop-code.now w.with_character-now.result c.loop-code.bitmap w.put_character.new.bitmap b w.if-code-ge32.true was
          w.with_character-now.ensures.settings w.with_character-now.ensures.position w.with_character-now.ensures.fit
          (rw (w.cell-cell.ensures.sheets, w.cell-cell.ensures.character, w.cell-cell.ensures.font, w.cell-cell.ensures.style) at w.put_character.ensures))
      | else-code-ge32 w ↦ rw (w.now-is, w.bitmap-is) (control_put old sheets c.args.bitmap.now (take k text) left c.loop-code.now c.loop-code.bitmap b w.if-code-ge32.false
          (All-from_recursion (λ b. is_text b ≡ true) text c.requires.text k 0 c.loop-code-test.true) was)
    ])

pub with_character-now-requires-clause-room : goal.with_character-now-requires-clause-room
with_character-now-requires-clause-room g c = grind (arith, c.loop-code-test.true, c.loop-code.invariant)

pub returns : goal.returns
returns g c = grind (arith, c.loop-code.invariant, take_all, c.loop-code-test.false)

pub with_character-now-requires-clause-fit : goal.with_character-now-requires-clause-fit
with_character-now-requires-clause-fit g c = c.loop-code.invariant.fit
