use Rattle.std.proofs.Common.{arith, refl, sym, subst, [], List}
use Rattle.vp_zpl.specs.Items.{Item}
use Rattle.vp_glyph.specs.Sheets.{Sheets}
use Rattle.vp_label.specs.Gathered.{held_of}
use Rattle.vp_label.specs.Press.{press_image}
use Rattle.vp_label.specs.Prints.{view_of}
use Rattle.vp_label.specs.Printing.{printing_of}
use Rattle.vp_label.specs.Standing.{Printing, Stands}
use Rattle.vp_label.proofs.Idle.{nothing_left}
use Rattle.vp_label.proofs.Pending.{none_printing}
use Rattle.vp_label.proofs.label.Label.begin_anew.Goals as goal

pub invariant_of-self : goal.invariant_of-self
invariant_of-self g c = record {
  gathered = ([], c.begin_anew.ensures.gathers c.self.inside.sheets);
  press = λ some. absurd (omega (arith, c.begin_anew-2.ensures.none));
}

pub returns-clause-stands : goal.returns-clause-stands
returns-clause-stands g c = λ sheets before h.
    let was : Stands sheets (printing_of c.self.inside) before = subst (λ (p : Printing _). Stands sheets p before) (sym c.self.view_is) h in
    let g = c.begin_anew.new.self in
    let p = c.begin_anew-2.new.self in
    record {
      sheets_are = was.sheets_are;
      gathered = c.begin_anew.ensures.gathers sheets;
      printing = λ some. none_printing sheets g [] _ (nothing_left (press_image c.self.inside.sheets (held_of g) (view_of g.in_force.settings) p) p.copies.place c.begin_anew-2.ensures.none) some;
      at_most = omega (arith, c.begin_anew-2.ensures.work);
      at_least = λ none. omega arith;
    }
