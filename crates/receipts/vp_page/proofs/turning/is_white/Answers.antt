use Rattle.std.proofs.Common.{sym, ap, ◌∙◌, arith}
use Rattle.std.proofs.Math.Bool.{or-true}
use Rattle.std.proofs.lemmas.Bool.{eqb-true, false_from_ne_true, true≢false}
use Rattle.vp_dots.specs.Words.{word_dot}
use Rattle.vp_dots.proofs.Columns.{either_dot, white_dot}
use Rattle.vp_page.proofs.turning.is_white.Goals as goal

pub loop-k-preserved : goal.loop-k-preserved
loop-k-preserved c y x l h t = grind (arith, either_dot, or-true)

pub returns : goal.returns
returns c e y x l h = false_from_ne_true _ (λ t. true≢false (sym (c.loop-k.invariant y x (omega arith) h t) ∙ ap (λ b. word_dot b x) (eqb-true _ _ e) ∙ white_dot x))
