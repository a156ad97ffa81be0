use Rattle.vp_esc.specs.declared.reader.Phase.TheVariants as phases
use Rattle.vp_esc.proofs.Symbols.{symbol_goes_on, symbol_last}
use Rattle.vp_esc.proofs.Kept.{advances_given}
use Rattle.vp_esc.proofs.reader.EscReader.symbol_data.Goals as goal

pub returns-then-left-le1 : goal.returns-then-left-le1
returns-then-left-le1 c rest hand =
    advances_given (record c.args.self.now { phase = phases.Ground; kept = c.symbol.new.self.kept }) c.symbol.new.self _ c.symbol.result
    c.symbol.ensures.event c.symbol.ensures.state
    (symbol_last c.args.self.now c.args.kind c.args.left c.args.byte rest c.keep.new.kept c.symbol.new.self.kept hand c.if-left-le1.true c.keep.ensures)

pub returns : goal.returns
returns c rest hand =
    symbol_goes_on c.args.self.now c.args.kind c.args.left c.args.byte rest _ hand c.if-left-le1.false c.keep.ensures
