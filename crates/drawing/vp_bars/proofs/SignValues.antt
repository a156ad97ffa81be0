-- The values of signs, one after another.
use Rattle.std.proofs.Common.{◌≡◌, ℕ, ◌+◌, ◌<◌, List, [], ◌∷◌, ◌++◌, length, get_or, drop, Option, Some, None, ap, ◌∙◌, append_assoc, sym}
use Rattle.std.specs.Option.{option_map}
use Rattle.std.proofs.lemmas.List.{drop_more}
use Rattle.vp_bars.specs.Code39.{with_value}
use Rattle.vp_bars.specs.Signs.{value_among, values_among}

-- a value before those of what follows
onto_more : (vs : List ℕ) (v : ℕ) (o : Option ℕ) (r : Option (List ℕ)) → o ≡ Some v
    → option_map (λ ws. vs ++ ws) (with_value o r) ≡ option_map (λ ws. (vs ++ v ∷ []) ++ ws) r
onto_more vs v o None e = ap (λ p. option_map (λ ws. vs ++ ws) (with_value p None)) e
onto_more vs v o (Some ws) e = ap (λ p. option_map (λ us. vs ++ us) (with_value p (Some ws))) e ∙ ap (λ us. Some us) (sym (append_assoc vs (v ∷ []) ws))

onto_stop : (vs : List ℕ) (o : Option ℕ) (r : Option (List ℕ)) → o ≡ None → option_map (λ ws. vs ++ ws) (with_value o r) ≡ None
onto_stop vs o r e = ap (λ p. option_map (λ ws. vs ++ ws) (with_value p r)) e

module _ (alphabet signs : List ℕ) (i : ℕ) (vs : List ℕ) (h : i < length signs)
    (so_far : values_among alphabet signs ≡ option_map (λ ws. vs ++ ws) (values_among alphabet (drop i signs))) where
  next : values_among alphabet signs ≡ option_map (λ ws. vs ++ ws) (with_value (value_among alphabet (get_or signs i 0)) (values_among alphabet (drop (i + 1) signs)))
  next = so_far ∙ ap (λ cs. option_map (λ ws. vs ++ ws) (values_among alphabet cs)) (drop_more signs i 0 h)

  -- one more sign
  pub values_more : (v : ℕ) → value_among alphabet (get_or signs i 0) ≡ Some v
      → values_among alphabet signs ≡ option_map (λ ws. (vs ++ v ∷ []) ++ ws) (values_among alphabet (drop (i + 1) signs))
  values_more v e = next ∙ onto_more vs v (value_among alphabet (get_or signs i 0)) (values_among alphabet (drop (i + 1) signs)) e

  -- a byte that is none
  pub values_stop : value_among alphabet (get_or signs i 0) ≡ None → values_among alphabet signs ≡ None
  values_stop e = next ∙ onto_stop vs (value_among alphabet (get_or signs i 0)) (values_among alphabet (drop (i + 1) signs)) e
