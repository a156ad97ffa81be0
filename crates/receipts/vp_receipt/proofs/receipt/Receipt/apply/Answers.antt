use Rattle.std.proofs.Common.{◌∷◌, ap, sym, ◌∙◌, subst, arith}
use Rattle.vp_receipt_settings.specs.declared.effect.Effect.{Effect}
use Rattle.vp_receipt.specs.Printer.{printing_of}
use Rattle.vp_receipt.specs.Standing.{Printing, Stands}
use Rattle.vp_receipt.proofs.Effects.{IsKind, kind_is, is_acting}
use Rattle.vp_receipt.proofs.ItemKinds.{does_nothing, no_refusal}
use Rattle.vp_receipt.proofs.Showing.{shows_nothing}
use Rattle.vp_receipt.proofs.receipt.Receipt.apply.Goals as goal

pub returns-in-Nothing-clause-stands : goal.returns-in-Nothing-clause-stands
returns-in-Nothing-clause-stands g c = λ setup before h.
    let was : Stands setup (printing_of c.self.inside) before = subst (λ (p : Printing). Stands setup p before) (sym c.self.view_is) h in
    let same = does_nothing setup before c.args.item.now (subst (λ (e : Effect). IsKind c.args.item.now e) (sym c.effect-effect.ensures ∙ c.in-Nothing.is) (kind_is c.self.inside.settings c.args.item.now)) in
    let none = ap (λ (p : Printing). p.pending) c.self.view_is ∙ c.requires in
    record {
      sheets = was.sheets;
      settings = was.settings ∙ sym same.settings;
      stops = grind (arith, c.take.ensures.stops before);
      raster = c.take.ensures.gathers before;
      stored = c.take.ensures.stored before was.stored;
      line = grind (arith, same.line, was.line);
      page = grind (arith, same.layers, same.mode, was.page);
      shows = shows_nothing setup _ _ before (c.args.item.now ∷ before) none was.shows;
      of_page = grind (arith, none);
    }

pub returns-in-Fills-clause-stands : goal.returns-in-Fills-clause-stands
returns-in-Fills-clause-stands g c = grind (arith, c.effect-effect.ensures, c.in-Fills.is, kind_is, c.fill.ensures.stands)

pub returns-in-Fills-clause-pending : goal.returns-in-Fills-clause-pending
returns-in-Fills-clause-pending g c = grind (arith, c.effect-effect.ensures, c.in-Fills.is, kind_is, c.fill.ensures.pending)

pub returns-in_default : goal.returns-in_default
returns-in_default g c = grind (arith, is_acting, c.effect-effect.ensures, kind_is, no_refusal, c.act.ensures.stands, c.act.ensures.pending)

pub set-requires : goal.set-requires
set-requires g c = grind (arith, c.requires, c.effect-effect.ensures, c.in-Sets.is)

pub returns-in-Sets-clause-refusal : goal.returns-in-Sets-clause-refusal
returns-in-Sets-clause-refusal g c = grind (arith, no_refusal, c.effect-effect.ensures, c.in-Sets.is, kind_is)

pub returns-in-Nothing-clause-refusal : goal.returns-in-Nothing-clause-refusal
returns-in-Nothing-clause-refusal g c = grind (arith, does_nothing, c.effect-effect.ensures, c.in-Nothing.is, kind_is)

pub returns-in-Nothing-clause-pending : goal.returns-in-Nothing-clause-pending
returns-in-Nothing-clause-pending g c = grind (arith, does_nothing, c.effect-effect.ensures, c.in-Nothing.is, kind_is, c.requires)

pub returns-in-Fills-clause-refusal : goal.returns-in-Fills-clause-refusal
returns-in-Fills-clause-refusal g c = grind (arith, c.effect-effect.ensures, c.in-Fills.is, kind_is)

pub draw-requires-clause-symbol : goal.draw-requires-clause-symbol
draw-requires-clause-symbol g c = grind (arith, c.effect-effect.ensures, c.in-Draws.is, kind_is)

pub act-requires : goal.act-requires
act-requires g c = grind (arith, c.requires, c.effect-effect.ensures, is_acting, kind_is)
