use Rattle.std.proofs.Common.{arith, ◌∙◌, ap, sym, ◌++◌, ◌∷◌, [], ℕ, List, ◌+◌, subst, ◌<◌, get_or}
use Rattle.vp_data_matrix.specs.Blocks.{every}
use Rattle.vp_data_matrix.proofs.BlockWords.{every_more, elements_push}
use Rattle.vp_data_matrix.proofs.block.block_of.Goals as goal

pub loop-k-preserved : goal.loop-k-preserved
loop-k-preserved c = record {
  made = c.push.ensures.items ∙ ap (λ (l : List ℕ). l ++ c.from.result ∷ []) c.loop-k.invariant.made
      ∙ ap (λ (x : ℕ). every c.args.words.now c.args.b c.args.size.blocks c.loop-k.k ++ x ∷ []) c.from.ensures
      ∙ sym (every_more c.args.words.now c.args.b c.args.size.blocks c.loop-k.k);
  count = omega (arith, c.push.ensures.len);
  elements = λ (j : ℕ). subst (λ (l : List ℕ). get_or l j 0 < 256) (sym c.push.ensures.items) (elements_push c.loop-k.block.items c.from.result c.loop-k.invariant.elements (omega (arith, c.from.ensures, c.type_inv.words (c.args.b + c.loop-k.k))) j);
}
