use Rattle.std.proofs.Common.{◌∙◌}
use Rattle.vp_escapes.specs.Laws.{escaped}
use Rattle.vp_escapes.proofs.Tokens.{read_doubled, gs1_doubled, unescaped_plain}
use Rattle.vp_escapes.proofs.laws.doubled_signs.Goals as goal

pub returns-clause-gs1 : goal.returns-clause-gs1
returns-clause-gs1 c = gs1_doubled

pub returns-clause-bytes : goal.returns-clause-bytes
returns-clause-bytes c = λ sign bytes. unescaped_plain sign (escaped sign bytes) (gs1_doubled sign bytes) ∙ read_doubled sign bytes
