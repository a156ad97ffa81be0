use Rattle.std.proofs.Common.{◌+◌, ◌*◌, ◌++◌, ◌∷◌, [], ap, sym, ◌∙◌, arith, List, ℕ}
use Rattle.std.proofs.lemmas.List.FromFn.{map-range_with_len_more}
use Rattle.vp_receipt_settings.proofs.tabs.first_stops.Goals as goal

pub loop-k-preserved : goal.loop-k-preserved
loop-k-preserved c = record {
  items = c.push.ensures.items ∙ ap (λ (xs : List ℕ). xs ++ 96 * (c.loop-k.k + 1) ∷ []) c.loop-k.invariant.items
      ∙ sym (map-range_with_len_more (λ k. 96 * (k + 1)) 0 c.loop-k.k c.loop-k.k (omega arith));
  len = omega (arith, c.push.ensures.len, c.loop-k.invariant.len);
}
