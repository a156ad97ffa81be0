use Rattle.std.proofs.Common.{[]}
use Rattle.vp_inflate.specs.declared.phase.Phase.TheVariants.{Header, Block, Size, Table, Order, Lengths, Symbols}
use Rattle.vp_inflate.specs.Standing.{stand}
use Rattle.vp_inflate.proofs.ElementReadings.{room}
use Rattle.vp_inflate.proofs.reader.Reader.read.Goals as goal

pub returns-in-Header-clause-short : goal.returns-in-Header-clause-short
returns-in-Header-clause-short c = room Header (stand c.args.self.now []) c.args.self.now.held _ _ _ (c.read_header.ensures.gives [])

pub returns-in-Block-clause-short : goal.returns-in-Block-clause-short
returns-in-Block-clause-short c = room Block (stand c.args.self.now []) c.args.self.now.held _ _ _ (c.read_block.ensures.gives [])

pub returns-in-Size-clause-short : goal.returns-in-Size-clause-short
returns-in-Size-clause-short c = room Size (stand c.args.self.now []) c.args.self.now.held _ _ _ (c.read_size.ensures.gives [])

pub returns-in-Table-clause-short : goal.returns-in-Table-clause-short
returns-in-Table-clause-short c = room Table (stand c.args.self.now []) c.args.self.now.held _ _ _ (c.read_table.ensures.gives [])

pub returns-in-Order-clause-short : goal.returns-in-Order-clause-short
returns-in-Order-clause-short c = room (Order c.in-Order.literals c.in-Order.distances c.in-Order.n) (stand c.args.self.now []) c.args.self.now.held _ _ _ (c.read_order.ensures.gives [])

pub returns-in-Lengths-clause-short : goal.returns-in-Lengths-clause-short
returns-in-Lengths-clause-short c = room (Lengths c.in-Lengths.literals c.in-Lengths.distances) (stand c.args.self.now []) c.args.self.now.held _ _ _ (c.read_lengths.ensures.gives [])

pub returns-in-Symbols-clause-short : goal.returns-in-Symbols-clause-short
returns-in-Symbols-clause-short c = room Symbols (stand c.args.self.now []) c.args.self.now.held _ _ _ (c.read_symbols.ensures.gives [])
