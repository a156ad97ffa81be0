use Rattle.std.proofs.Common.{◌≡◌, ◌∙◌, get_or, arith, refl, sym, ap, subst, length, true, ◌++◌, length-append}
use Rattle.std.proofs.lemmas.Bool.{cases_lt}
use Rattle.vp_format.specs.declared.format.Format.{Format}
use Rattle.vp_label_settings.specs.Formats.{followed_by, is_open, stored}
use Rattle.vp_label.specs.Entries.{all_stored}
use Rattle.vp_zpl.specs.Items.{data_items}
use Rattle.vp_label.specs.Gathered.{AreKept}
use Rattle.vp_label.proofs.Stores.{one_refused, all_taken, all_unheard, all-given, all-stored, entries-kept, open-kept}
use Rattle.vp_label.proofs.gathered.Gathered.store.Goals as goal

pub returns-then-not-self-clause-refusal : goal.returns-then-not-self-clause-refusal
returns-then-not-self-clause-refusal g c = grind (arith, all_unheard)

pub returns-then-not-self-clause-stands : goal.returns-then-not-self-clause-stands
returns-then-not-self-clause-stands g c = λ sheets before g. record {
  in_force = c.data_set_nothing.ensures c.args.self.now.in_force before c.args.bytes.now g.in_force;
  held = grind (arith, open-kept);
  made = grind (arith, open-kept);
}

pub returns-in-Ok-clause-refusal : goal.returns-in-Ok-clause-refusal
returns-in-Ok-clause-refusal g c = grind (arith, all_taken)

pub returns-in-Ok-clause-stands : goal.returns-in-Ok-clause-stands
returns-in-Ok-clause-stands g c = λ sheets before g.
    let old = c.args.self.now.format in
    let bytes = c.args.bytes.now in
    let so : is_open before ≡ true = sym g.in_force.is_open ∙ c.if-not-self.false in
    let h = g.held so in
    let fits = c.in-Ok.ensures.room.0 refl in
    let fields = ap (λ (x : Format _). x.fields.items) c.in-Ok.ensures.ok in
    let stored_is = ap (λ (x : Format _). x.stored) c.in-Ok.ensures.ok in
    record {
      in_force = c.data_set_nothing.ensures c.args.self.now.in_force before bytes g.in_force;
      held = λ still. record {
        fields = fields ∙ h.fields ∙ sym (entries-kept sheets before bytes);
        stored = stored_is ∙ ap (λ xs. xs ++ bytes) h.stored ∙ sym (all-stored before bytes so);
        kept = subst (λ (x : Format _). AreKept x.stored x.fields.items) (sym c.in-Ok.ensures.ok) (λ k d l. c.stored_behind.ensures.kept old.stored bytes (get_or old.fields.items k d) (h.kept k d l));
        few = omega (arith, ap length stored_is, length-append old.stored bytes);
      };
      made = λ still. omega (arith, g.made so, ap length (all-stored before bytes so), ap length (all-given before bytes so), length-append (all_stored before) bytes, length-append (stored before) bytes);
    }

pub returns-in-Ok-clause-some : goal.returns-in-Ok-clause-some
returns-in-Ok-clause-some g c = λ sheets some.
    (followed_by some.0 (data_items c.args.bytes.now), returns-in-Ok-clause-stands g c sheets some.0 some.1)

pub returns-in-Err-clause-refusal : goal.returns-in-Err-clause-refusal
returns-in-Err-clause-refusal g c = grind (arith, cases_lt, one_refused)
