use Rattle.std.proofs.Common.{◌∙◌, refl, arith}
use Rattle.vp_format.proofs.Reached.{none_reached, next_reached}
use Rattle.vp_format.proofs.row.next_symbol.Goals as goal

pub returns-then-x-width-clause-reached : goal.returns-then-x-width-clause-reached
returns-then-x-width-clause-reached c all start r =
    none_reached _ _ c.short_runs.new.self _ _ _ _ _ c.short_runs.ensures.advanced.bytes refl (c.short_runs.ensures.read.reached all start r)

pub returns-in_default-clause-reached : goal.returns-in_default-clause-reached
returns-in_default-clause-reached c all start r =
    none_reached _ _ c.next.new.self _ _ _ _ _ (c.next.ensures.advanced.bytes ∙ c.short_runs.ensures.advanced.bytes) (omega (arith, c.in_default.ensures.at)) (c.short_runs.ensures.read.reached all start r)

pub returns-clause-reached : goal.returns-clause-reached
returns-clause-reached c all start r =
    let d = c.in-Some.ensures in
    next_reached _ c.short_runs.new.self.at c.symbol_of.new.codes _ _ _ _ _ c.next.new.self c.in-Some.first _ (d.advanced.bytes ∙ c.short_runs.ensures.advanced.bytes) d.at d.hand d.advanced.reading c.symbol_of.ensures.advanced.at c.symbol_of.ensures.symbol
    (c.short_runs.ensures.read.reached all start r)
