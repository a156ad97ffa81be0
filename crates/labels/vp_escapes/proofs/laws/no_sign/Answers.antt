use Rattle.std.proofs.Common.{◌∙◌}
use Rattle.vp_escapes.proofs.Tokens.{read_no_sign, gs1_no_sign, unescaped_plain}
use Rattle.vp_escapes.proofs.laws.no_sign.Goals as goal

pub returns-clause-gs1 : goal.returns-clause-gs1
returns-clause-gs1 c = gs1_no_sign

pub returns-clause-bytes : goal.returns-clause-bytes
returns-clause-bytes c = λ sign bytes all. unescaped_plain sign bytes (gs1_no_sign sign bytes all) ∙ read_no_sign sign bytes all
