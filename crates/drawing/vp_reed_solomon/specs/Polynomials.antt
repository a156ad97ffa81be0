-- Polynomials over a field, as the list of their coefficients, the highest first.
use Rattle.std.specs.Prelude.{ℕ, zero, suc, ◌+◌, List, [], ◌∷◌, ◌++◌, map, length, replicate, drop}
use Rattle.vp_reed_solomon.specs.declared.field.Field.{Field}
use Rattle.vp_reed_solomon.specs.Fields.{difference, times, power}

-- the difference term by term, beginning with the highest of each
abbrev pub minus : Field → List ℕ → List ℕ → List ℕ
minus field [] ys = map (difference field 0) ys
minus field (x ∷ xs) [] = x ∷ xs
minus field (x ∷ xs) (y ∷ ys) = difference field x y ∷ minus field xs ys

-- each coefficient times c
abbrev pub scaled : Field → ℕ → List ℕ → List ℕ
scaled field c xs = map (times field c) xs

-- the product of x - a^i for n powers of the primitive element a, from power number `first` on
unfoldable pub generator : Field → ℕ → ℕ → List ℕ
generator field first zero = 1 ∷ []
generator field first (suc n) = minus field (generator field first n ++ 0 ∷ [])
    (0 ∷ scaled field (power field (first + n)) (generator field first n))

-- n steps of the long division of xs by g, whose highest coefficient is 1:
-- each takes off the multiple of g that cancels the highest term
unfoldable pub divided : Field → List ℕ → ℕ → List ℕ → List ℕ
divided field g zero xs = xs
divided field g (suc n) [] = []
divided field g (suc n) (x ∷ xs) = divided field g n (drop 1 (minus field (x ∷ xs) (scaled field x g)))

-- the check codewords of data, by a generator with n roots: what has to stand in place of the n zeros behind
-- the data, so that nothing remains
unfoldable pub check_of : Field → List ℕ → ℕ → List ℕ → List ℕ
check_of field g n data_words =
    map (difference field 0) (divided field g (length data_words) (data_words ++ replicate n 0))
