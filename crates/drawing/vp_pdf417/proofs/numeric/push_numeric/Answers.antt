use Rattle.std.proofs.Common.{ℕ, List, ◌∙◌, ◌++◌, take, arith, ap, sym}
use Rattle.vp_pdf417.specs.Numeric.{group, numeric}
use Rattle.vp_pdf417.specs.Written.{written}
use Rattle.vp_pdf417.proofs.NumberWords.{groups_of, groups_more, groups_last}
use Rattle.vp_pdf417.proofs.Held.{front_written}
use Rattle.vp_pdf417.proofs.numeric.push_numeric.Goals as goal

pub loop-left-preserved : goal.loop-left-preserved
loop-left-preserved c =
    let left = c.loop-left.left.now in
    let words = c.loop-left.words in
    front_written words c.push_group.new.words _ (group (take 44 left)) (groups_of c.split_at.result.1.now) (groups_of left)
    (c.push_group.ensures ∙ ap (λ (l : List ℕ). written words (group l)) c.split_at.ensures.front)
    (groups_more left (omega arith) ∙ ap (λ (l : List ℕ). group (take 44 left) ++ groups_of l) (sym c.split_at.ensures.back)) c.loop-left.invariant

pub returns-then-not-is_empty : goal.returns-then-not-is_empty
unfolding numeric
returns-then-not-is_empty c =
    c.push_group-then-not-is_empty.ensures ∙ ap (written c.loop-left.words) (sym (groups_last c.loop-left.left.now (grind arith) (omega arith))) ∙ c.loop-left.invariant
