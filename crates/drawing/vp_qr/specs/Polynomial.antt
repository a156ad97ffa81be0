-- Polynomials over the field of 256 elements, as the list of their coefficients, the highest first.
use Rattle.std.specs.Prelude.{ℕ, zero, suc, List, [], ◌∷◌, ◌++◌, map, length, replicate, drop, bit_xor}
use Rattle.vp_qr.specs.Field.{times, power}

-- the sum term by term, beginning with the highest of each; what one has more stays
abbrev pub plus : List ℕ → List ℕ → List ℕ
plus [] ys = ys
plus (x ∷ xs) [] = x ∷ xs
plus (x ∷ xs) (y ∷ ys) = bit_xor x y ∷ plus xs ys

-- each coefficient times c
abbrev pub scaled : ℕ → List ℕ → List ℕ
scaled c xs = map (times c) xs

-- the value at p of xs behind terms whose value is v
abbrev pub value_behind : ℕ → ℕ → List ℕ → ℕ
value_behind p v [] = v
value_behind p v (x ∷ xs) = value_behind p (bit_xor (times v p) x) xs

-- the value at p
abbrev pub value_at : ℕ → List ℕ → ℕ
value_at p xs = value_behind p 0 xs

-- the product of x - a^i for i below n
unfoldable pub generator : ℕ → List ℕ
generator zero = 1 ∷ []
generator (suc i) = plus (generator i ++ 0 ∷ []) (0 ∷ scaled (power i) (generator i))

-- n steps of the long division of xs by g, whose highest coefficient is 1:
-- each takes off the multiple of g that cancels the highest term
unfoldable pub divided : List ℕ → ℕ → List ℕ → List ℕ
divided g zero xs = xs
divided g (suc n) [] = []
divided g (suc n) (x ∷ xs) = divided g n (drop 1 (plus (x ∷ xs) (scaled x g)))

-- the n check codewords of a block (ISO/IEC 18004, 7.5.2): the remainder of the data, followed by n zeros,
-- by the generator
unfoldable pub check_of : List ℕ → ℕ → List ℕ
check_of data_bytes n = divided (generator n) (length data_bytes) (data_bytes ++ replicate n 0)
