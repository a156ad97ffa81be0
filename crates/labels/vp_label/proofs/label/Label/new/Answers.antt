use Rattle.std.proofs.Common.{arith, refl, []}
use Rattle.vp_label.specs.Gathered.{held_of}
use Rattle.vp_label.specs.Press.{press_image}
use Rattle.vp_label.specs.Prints.{view_of}
use Rattle.vp_label.proofs.Idle.{nothing_left}
use Rattle.vp_label.proofs.Pending.{none_printing}
use Rattle.vp_label.proofs.label.Label.new.Goals as goal

pub invariant_of-result : goal.invariant_of-result
invariant_of-result g c = record {
  gathered = ([], c.in_ok-new.ensures c.args.sheets);
  press = λ some. absurd (omega (arith, c.in_ok-new-2.ensures.none));
}

pub returns-clause-stands : goal.returns-clause-stands
returns-clause-stands g c =
    let g = c.in_ok-new.field-0 in
    let p = c.in_ok-new-2.field-0 in
    record {
      sheets_are = refl;
      gathered = c.in_ok-new.ensures c.args.sheets;
      printing = λ some. none_printing c.args.sheets c.in_ok-new.field-0 [] _ (nothing_left (press_image c.args.sheets (held_of g) (view_of g.in_force.settings) p) p.copies.place c.in_ok-new-2.ensures.none) some;
      at_most = omega (arith, c.in_ok-new-2.ensures.work);
      at_least = λ none. omega arith;
    }
