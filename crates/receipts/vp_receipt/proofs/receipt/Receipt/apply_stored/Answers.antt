use Rattle.std.proofs.Common.{◌<◌, length, sym, subst, arith, ap, ◌∙◌}
use Rattle.std.proofs.lemmas.Bool.Decides.{nat_tests}
use Rattle.vp_receipt.specs.Printer.{printing_of}
use Rattle.vp_receipt.specs.Standing.{Printing, Stands}
use Rattle.vp_receipt.proofs.ItemKinds.{stores_all, raster_ends}
use Rattle.vp_receipt.proofs.Showing.{shows_nothing}
use Rattle.vp_receipt.proofs.receipt.Receipt.apply_stored.Goals as goal

pub invariant_of-self : goal.invariant_of-self
invariant_of-self g c = record { fit = c.self.invariant.fit; raster = c.end.ensures.part; job = c.self.invariant.job; turned = c.self.invariant.turned }

pub returns-clause-prints : goal.returns-clause-prints
returns-clause-prints g c = λ setup before h. (stores_all setup c.args.bytes.now before).printed

pub returns-clause-stands : goal.returns-clause-stands
returns-clause-stands g c = λ setup before h.
    let was : Stands setup (printing_of c.self.inside) before = subst (λ (p : Printing). Stands setup p before) (sym c.self.view_is) h in
    let same = stores_all setup c.args.bytes.now before in
    let some : 0 < length c.args.bytes.now = grind (arith, nat_tests, c.is_empty.ensures, c.if-is_empty.false) in
    grind (arith, shows_nothing, c.self.view_is, c.requires, raster_ends c.end.new.self c.args.bytes.now before some c.end.ensures.gathers, c.take_all.ensures before was.stored)

pub returns-clause-pending : goal.returns-clause-pending
returns-clause-pending g c = ap (λ (p : Printing). p.pending) c.self.view_is ∙ c.requires
