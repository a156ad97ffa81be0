use Rattle.std.proofs.Common.{reverse, ◌∙◌}
use Rattle.std.proofs.lemmas.Bool.{ne_eqb}
use Rattle.vp_bars.specs.Elements.{set_a_widths}
use Rattle.vp_bars.proofs.Tables.{mapped_row}
use Rattle.vp_bars.proofs.patterns.left_digit.Goals as goal

pub returns : goal.returns
returns c = rw (ne_eqb c.args.set 0 c.if-set-eq0.false) (c.row-2.ensures ∙ mapped_row reverse set_a_widths c.args.digit)
