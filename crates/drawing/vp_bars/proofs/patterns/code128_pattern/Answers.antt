use Rattle.std.proofs.Common.{take, sym, ◌∙◌, codes}
use Rattle.vp_bars.specs.Patterns.{numbers, code128_table}
use Rattle.vp_bars.proofs.Tables.{rows_without_last}
use Rattle.vp_bars.proofs.patterns.code128_pattern.Goals as goal

pub returns : goal.returns
returns c = c.row.ensures ∙ sym (rows_without_last (take 106 code128_table) (numbers (codes "2331112")) c.args.v c.if-v-eq106.false)
