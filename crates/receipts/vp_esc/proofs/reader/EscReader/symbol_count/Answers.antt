use Rattle.vp_esc.specs.declared.reader.Phase.TheVariants as phases
use Rattle.vp_esc.proofs.Symbols.{symbol_counts, symbol_empty}
use Rattle.vp_esc.proofs.Kept.{lands_given}
use Rattle.vp_esc.proofs.reader.EscReader.symbol_count.Goals as goal

pub returns-then-count-eq0 : goal.returns-then-count-eq0
returns-then-count-eq0 c rest begun z =
    lands_given (record c.args.self.now { phase = phases.Ground; kept = c.symbol.new.self.kept }) c.symbol.new.self _ c.symbol.result
    c.symbol.ensures.event c.symbol.ensures.state
    (rw c.requires (symbol_empty c.args.self.now c.args.kind c.args.count rest c.symbol.new.self.kept begun z c.if-count-eq0.true))

pub returns : goal.returns
returns c rest begun z =
    symbol_counts c.args.self.now c.args.kind c.args.count rest begun c.requires z c.if-count-eq0.false c.ranges.count.fits
