use Rattle.std.proofs.Common.{arith, rules, w64, Ok, ap, sym, ◌∙◌}
use Rattle.std.proofs.lemmas.Int.{ints, to_z-of_z}
use mir.Val.{SFits}
use Rattle.vp_format.specs.declared.field.Field.{Field}
use Rattle.vp_field.specs.Contents.{orientation_of}
use Rattle.vp_closing.specs.Closing.{asked_orientation, colour_of, field_with, operation}
use Rattle.vp_closing.specs.Contents.{content_of}
use Rattle.vp_closing.proofs.Kept.{kept_behind}
use Rattle.vp_closing.proofs.Shown.{placed_is, rows_kept, shown_of}
use Rattle.vp_closing.proofs.field.field_of.Goals as goal

pub returns-clause-value : goal.returns-clause-value
returns-clause-value g c =
    let sheets = c.args.sheets.now in
    let stored = c.args.stored.now in
    let st = c.args.settings.now in
    let p = c.args.parts.now in
    let s = c.in_ok-shown.shown in
    let op = operation st p (colour_of c.args.asked) in
    let is = shown_of sheets stored (content_of stored st p c.args.asked) s (sym c.content_of.ensures.value ∙ c.in_ok-shown.was) in
    let turned = c.orientation_of-orientation.ensures ∙ ap (λ o. orientation_of o s.content) c.asked_orientation.ensures in
    let left : SFits w64 c.left_of.result = search (rules, c.left_of.ensures.low, c.left_of.ensures.high) in
    let top : SFits w64 c.top_of.result = search (rules, c.top_of.ensures.low, c.top_of.ensures.high) in
    rw (to_z-of_z w64 c.left_of.result left, to_z-of_z w64 c.top_of.result top)
    (ap (λ (f : Field). Ok f) (placed_is sheets stored st p op c.operation.result (asked_orientation st p p.symbol) c.orientation_of-orientation.result s c.left_of.result c.top_of.result c.turned_rows.result
    turned is.1 c.left_of.ensures.left c.top_of.ensures.top c.turned_rows.ensures (c.operation.ensures ∙ ap (operation st p) c.colour_of.ensures))
    ∙ sym (ap (field_with sheets stored st p op) is.0))

pub returns-clause-kept : goal.returns-clause-kept
returns-clause-kept g c =
    let sheets = c.args.sheets.now in
    let stored = c.args.stored.now in
    let st = c.args.settings.now in
    let p = c.args.parts.now in
    let s = c.in_ok-shown.shown in
    let is = shown_of sheets stored (content_of stored st p c.args.asked) s (sym c.content_of.ensures.value ∙ c.in_ok-shown.was) in
    let turned = c.orientation_of-orientation.ensures ∙ ap (λ o. orientation_of o s.content) c.asked_orientation.ensures in
    kept_behind stored _ _ _ _ _ _ s.content (record {
      left_low = omega (arith, ints, c.left_of.ensures.low);
      left_high = omega (arith, ints, c.left_of.ensures.high);
      top_low = omega (arith, ints, c.top_of.ensures.low);
      top_high = omega (arith, ints, c.top_of.ensures.high);
    }) c.in_ok-shown.ensures.shown
    (λ any. c.turned_rows.ensures ∙ rows_kept sheets any stored (asked_orientation st p p.symbol) c.orientation_of-orientation.result s turned is.1)
