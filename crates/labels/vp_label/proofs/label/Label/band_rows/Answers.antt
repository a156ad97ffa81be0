use Rattle.std.proofs.Common.{◌<◌, ◌∙◌, rules, refl, arith, ap, sym, subst, length}
use Rattle.std.specs.Prelude.{map}
use Rattle.vp_field.specs.Fields.{stroke_of}
use Rattle.vp_field.specs.Strokes.{image_dot}
use Rattle.vp_glyph.specs.Sheets.{Sheets}
use Rattle.vp_label.specs.Gathered.{held_of, IsPrinted}
use Rattle.vp_label.specs.Press.{press_image}
use Rattle.vp_label.specs.Prints.{label_image, view_of}
use Rattle.vp_label.specs.Standing.{Printing}
use Rattle.vp_label.proofs.Counts.{held_rows, printed_image, same_image}
use Rattle.vp_label.proofs.label.Label.band_rows.Goals as goal

pub returns-clause-value : goal.returns-clause-value
returns-clause-value g c = λ sheets before st.
    let j = c.self.inside in
    let held = held_of j.gathered in
    let v = view_of j.gathered.in_force.settings in
    let now = c.args.self.now in
    let copies : 0 < j.press.copies.place.copies = search rules in
    let p = c.self.invariant.press copies in
    let some : 0 < length now.pending = subst (λ (x : Printing _). 0 < length x.pending) c.self.view_is
    ((c.if-not-is_pending.ensures.bytes (image_dot v (map (stroke_of j.sheets held.stored) held.fields))).0 refl) in
    let high : 0 < j.press.copies.height = (let h = p.high in let e = p.height in omega arith) in
    c.band_rows.ensures.value ∙ held_rows c.place_law.ensures sheets now.gathered before now.pending (press_image j.sheets held v j.press) j.press.copies.place some (st.printing some)
    (λ earlier (printed : IsPrinted sheets now.gathered earlier). same_image j.sheets held v j.press p.width p.height
    ∙ ap (λ (x : Printing _). label_image x.sheets (view_of x.gathered.in_force.settings) x.gathered.format.stored x.gathered.format.fields.items) c.self.view_is
    ∙ ap (λ (s : Sheets). label_image s (view_of now.gathered.in_force.settings) now.gathered.format.stored now.gathered.format.fields.items) st.sheets_are
    ∙ printed_image sheets now.gathered earlier printed)
    (sym (ap (λ (x : Printing _). x.pending) c.self.view_is)) high p.place copies
