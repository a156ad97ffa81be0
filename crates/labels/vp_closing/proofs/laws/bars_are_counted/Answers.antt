use Rattle.std.proofs.Common.{ap}
use Rattle.vp_closing.specs.Symbols.{bars, bars_if}
use Rattle.vp_field.specs.Contents.{bytes_of}
use Rattle.vp_closing.proofs.laws.bars_are_counted.Goals as goal

pub returns-clause-none : goal.returns-clause-none
returns-clause-none c stored s p b bytes none =
    ap (λ r. bars_if r (bars s.bar_defaults b bytes)) (c.data_are_counted.ensures.none b.code (bytes_of stored bytes) none)

pub returns-clause-many : goal.returns-clause-many
returns-clause-many c stored s p b bytes many =
    ap (λ r. bars_if r (bars s.bar_defaults b bytes)) (c.data_are_counted.ensures.many b.code (bytes_of stored bytes) many)
