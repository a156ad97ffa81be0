use Rattle.std.proofs.Common.{ℕ, arith, refl, length, ap, sym, ◌∙◌, Option, None}
use Rattle.std.proofs.lemmas.List.{length-replicate}
use Rattle.vp_format.specs.declared.format.TheConstants.{FIELDS}
use Rattle.vp_fields_by_band.proofs.table.Threads.new.Goals as goal

pub invariant_of-result : goal.invariant_of-result
invariant_of-result g c = record {
  entries = omega (arith, ap length c.in_ok-with_capacity.ensures.items);
  links = ap length c.in_ok-filled-2.ensures.items ∙ length-replicate {A = Option ℕ} FIELDS None;
  room = c.in_ok-with_capacity.ensures.exact;
  links_room = c.in_ok-filled-2.ensures.room;
  before = omega (arith, c.new.ensures.0, c.new.ensures.1);
  told = rw (c.new.ensures.0, c.new.ensures.1) refl;
  heads_room = c.in_ok-filled.ensures.room ∙ sym (ap length c.in_ok-filled.ensures.items ∙ length-replicate c.args.bands None);
}

pub returns-clause-bands : goal.returns-clause-bands
returns-clause-bands g c = ap length c.in_ok-filled.ensures.items ∙ length-replicate c.args.bands None

pub returns-clause-links : goal.returns-clause-links
returns-clause-links g c = ap length c.in_ok-filled-2.ensures.items ∙ length-replicate {A = Option ℕ} FIELDS None
