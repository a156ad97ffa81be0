use Rattle.std.proofs.Common.{arith}
use Rattle.std.proofs.lemmas.Grind.{common_steps}
use Rattle.vp_font.proofs.Lines.{first_of, only_one, no_lines}
use Rattle.vp_font.proofs.words.next_line.Goals as goal

pub returns-then-is_empty-clause-lines : goal.returns-then-is_empty-clause-lines
returns-then-is_empty-clause-lines c = grind (arith, common_steps, no_lines)

pub returns-then-n-text-clause-lines : goal.returns-then-n-text-clause-lines
returns-then-n-text-clause-lines c = grind (arith, common_steps, first_of)

pub returns-else-n-text-clause-lines : goal.returns-else-n-text-clause-lines
returns-else-n-text-clause-lines c = grind (arith, common_steps, only_one)
