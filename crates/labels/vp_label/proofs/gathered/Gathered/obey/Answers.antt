use Rattle.std.proofs.Common.{◌≡◌, ◌∙◌, arith, sym, ap, refl, length, [], ◌∷◌}
use Rattle.vp_zpl.specs.declared.name.Name.{Name}
use Rattle.vp_zpl.specs.Items.Item.{Given}
use Rattle.vp_label_settings.specs.declared.settings.Settings.{Settings}
use Rattle.vp_label_settings.specs.declared.in_force.InForce.{InForce}
use Rattle.vp_label_settings.specs.Formats.{is_open}
use Rattle.vp_label_settings.specs.Settings.{settings_of, quantity}
use Rattle.vp_label.specs.Entries.{printed_bytes, printed_entries}
use Rattle.vp_copies.specs.Copies.{copies_text}
use Rattle.vp_label.specs.Effects.{effect_of}
use Rattle.vp_label.specs.Gathered.{held_of}
use Rattle.vp_label.specs.Prints.{label_image, view_of}
use Rattle.vp_label.specs.declared.gathered.Effect.TheVariants.{Sets, Begins, Closes, Prints}
use Rattle.vp_label.proofs.Effects.{holds_still, begins_shut, closed_held, closed_made, closes, ends, idle, no_bytes, printed_copies, same_text, sets}
use Rattle.vp_label.proofs.gathered.Gathered.obey.Goals as goal

no_name : Name
no_name = record { sign = 0; first = 0; second = 0 }

pub returns-in-Sets-clause-stands : goal.returns-in-Sets-clause-stands
returns-in-Sets-clause-stands g c = λ before name sent g.
    let e : effect_of (is_open before) c.args.command ≡ Sets = ap (λ o. effect_of o c.args.command) (sym g.in_force.is_open) ∙ sym c.of.ensures ∙ c.in-Sets.is in
    record {
      in_force = c.in_ok-in_force.ensures.stands before name sent g.in_force (λ so. let h = g.held so in let made = g.made so in omega (arith, ap length (c.stored.ensures.bytes ∙ h.stored), made, c.saturating_sub-given.ensures));
      held = λ so. holds_still c.args.sheets.now before (held_of c.args.self.now) c.args.command name sent e g.held so;
      made = λ so. grind (arith, sets);
    }

pub returns-in-Begins-clause-stands : goal.returns-in-Begins-clause-stands
returns-in-Begins-clause-stands g c = λ before name sent g.
    let e : effect_of (is_open before) c.args.command ≡ Begins = ap (λ o. effect_of o c.args.command) (sym g.in_force.is_open) ∙ sym c.of.ensures ∙ c.in-Begins.is in
    let shut = (begins_shut (is_open before) c.args.command e).0 in
    record {
      in_force = c.in_ok-in_force.ensures.stands before name sent g.in_force (λ so. let h = g.held so in let made = g.made so in omega (arith, ap length (c.stored.ensures.bytes ∙ h.stored), made, c.saturating_sub-given.ensures));
      held = λ so. grind (arith, shut, idle c.args.sheets.now before shut, no_bytes before shut);
      made = λ so. grind (arith, shut, no_bytes before shut, c.between_formats.ensures.stored before shut);
    }

pub returns-in_ok-close-in-Closes-clause-stands : goal.returns-in_ok-close-in-Closes-clause-stands
returns-in_ok-close-in-Closes-clause-stands g c = λ before name sent g.
    let e : effect_of (is_open before) c.args.command ≡ Closes = ap (λ o. effect_of o c.args.command) (sym g.in_force.is_open) ∙ sym c.of.ensures ∙ c.in-Closes.is in
    let is = closes (is_open before) c.args.command e in
    record {
      in_force = c.in_ok-in_force.ensures.stands before name sent g.in_force (λ so. let h = g.held so in let made = g.made so in omega (arith, ap length (c.stored.ensures.bytes ∙ h.stored), made, c.saturating_sub-given.ensures));
      held = λ still. closed_held c.args.sheets.now before (held_of c.close.new.self) c.args.command name sent is.1 is.0 (c.in_ok-close-in-Closes.ensures.fields before g is.0) (c.in_ok-close-in-Closes.ensures.stored before g is.0) c.in_ok-close-in-Closes.ensures.kept c.in_ok-close-in-Closes.ensures.few;
      made = λ still. closed_made before c.args.command name sent c.close.new.self.made is.1 is.0 (c.in_ok-close-in-Closes.ensures.made before g is.0);
    }

pub returns-in_ok-close-in-Prints-clause-stands : goal.returns-in_ok-close-in-Prints-clause-stands
returns-in_ok-close-in-Prints-clause-stands g c = λ before name sent g.
    let e : effect_of (is_open before) c.args.command ≡ Prints = ap (λ o. effect_of o c.args.command) (sym g.in_force.is_open) ∙ sym c.of.ensures ∙ c.in-Prints.is in
    record {
      in_force = c.in_ok-in_force.ensures.stands before name sent g.in_force (λ so. let h = g.held so in let made = g.made so in omega (arith, ap length (c.stored.ensures.bytes ∙ h.stored), made, c.saturating_sub-given.ensures));
      held = grind (arith, ends (is_open before) c.args.command e);
      made = grind (arith, ends (is_open before) c.args.command e);
    }

pub returns-in_ok-close-in-Prints-clause-prints : goal.returns-in_ok-close-in-Prints-clause-prints
returns-in_ok-close-in-Prints-clause-prints g c = λ before name sent g.
    let sheets = c.args.sheets.now in
    let format = c.close-in-Prints.new.self.format in
    let e : effect_of (is_open before) c.args.command ≡ Prints = ap (λ o. effect_of o c.args.command) (sym g.in_force.is_open) ∙ sym c.of.ensures ∙ c.in-Prints.is in
    let so = (ends (is_open before) c.args.command e).0 in
    let end = (ends (is_open before) c.args.command e).1 in
    let held = g.held so in
    let image_now = label_image sheets (view_of c.in_ok-in_force.in_force.settings) format.stored format.fields.items in
    let after = c.in_ok-in_force.ensures.stands before name sent g.in_force (λ so. let h = g.held so in let made = g.made so in omega (arith, ap length (c.stored.ensures.bytes ∙ h.stored), made, c.saturating_sub-given.ensures)) in
    let view : view_of c.in_ok-in_force.in_force.settings ≡ view_of (settings_of before) = ap view_of after.settings ∙ rw (so, end) refl in
    let quantity_is : c.close-in-Prints.new.self.in_force.settings.quantity ≡ quantity before =
    ap (λ (s : InForce). s.settings.quantity) c.close-in-Prints.ensures.in_force ∙ ap (λ (s : Settings). s.quantity) g.in_force.settings in
    rw (so, end) (ap (copies_text image_now) c.copies-copies.ensures ∙ printed_copies image_now format.fields.items c.close-in-Prints.new.self.in_force.settings.quantity
    ∙ same_text sheets (view_of c.in_ok-in_force.in_force.settings) (view_of (settings_of before)) format.stored (printed_bytes before) format.fields.items (printed_entries sheets before) c.close-in-Prints.new.self.in_force.settings.quantity (quantity before)
    view (c.in_ok-close-in-Prints.ensures.stored before g so) (c.in_ok-close-in-Prints.ensures.fields before g so) quantity_is)

pub returns-in-Sets-clause-some : goal.returns-in-Sets-clause-some
returns-in-Sets-clause-some g c = (Given c.args.command no_name [] ∷ c.requires.0, returns-in-Sets-clause-stands g c c.requires.0 no_name [] c.requires.1)

pub returns-in-Begins-clause-some : goal.returns-in-Begins-clause-some
returns-in-Begins-clause-some g c = (Given c.args.command no_name [] ∷ c.requires.0, returns-in-Begins-clause-stands g c c.requires.0 no_name [] c.requires.1)

pub returns-in_ok-close-in-Closes-clause-some : goal.returns-in_ok-close-in-Closes-clause-some
returns-in_ok-close-in-Closes-clause-some g c = (Given c.args.command no_name [] ∷ c.requires.0, returns-in_ok-close-in-Closes-clause-stands g c c.requires.0 no_name [] c.requires.1)

pub returns-in_ok-close-in-Prints-clause-some : goal.returns-in_ok-close-in-Prints-clause-some
returns-in_ok-close-in-Prints-clause-some g c = (Given c.args.command no_name [] ∷ c.requires.0, returns-in_ok-close-in-Prints-clause-stands g c c.requires.0 no_name [] c.requires.1)

pub returns-in_ok-close-in-Prints-clause-printed : goal.returns-in_ok-close-in-Prints-clause-printed
returns-in_ok-close-in-Prints-clause-printed g c = λ before g some.
    let e : effect_of (is_open before) c.args.command ≡ Prints = ap (λ o. effect_of o c.args.command) (sym g.in_force.is_open) ∙ sym c.of.ensures ∙ c.in-Prints.is in
    let is = ends (is_open before) c.args.command e in
    let held = g.held is.0 in
    let after = c.in_ok-in_force.ensures.stands before no_name [] g.in_force (λ so. let h = g.held so in let made = g.made so in omega (arith, ap length (c.stored.ensures.bytes ∙ h.stored), made, c.saturating_sub-given.ensures)) in
    grind (arith, is, held, after, c.in_ok-close-in-Prints.ensures.fields before g is.0, c.in_ok-close-in-Prints.ensures.stored before g is.0)
