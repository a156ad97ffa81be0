-- Pairs of digits in code sets A and C.
use Rattle.std.proofs.Common.{◌≡◌, ◌≢◌, ℕ, List, [], ◌∷◌, true, false, cond, refl, ap, ◌∙◌, arith}
use Rattle.std.specs.Char.{is_ascii_digit}
use Rattle.vp_bars.specs.declared.code_128.CodeSet.{CodeSet}
use Rattle.vp_bars.specs.declared.code_128.CodeSet.TheVariants.{A, B, C}
use Rattle.vp_bars.specs.declared.code_128.Token.{Token}
use Rattle.vp_bars.specs.declared.code_128.Token.TheVariants.{Byte, Code, Lead}
use Rattle.vp_bars.specs.CodeSets.{onto}
use Rattle.vp_bars.specs.Invocations.{pair_of, pair_in, invoked}

-- a byte that is no digit
pub dropped : (set : CodeSet) (d : ℕ) (ts : List Token) → set ≢ B → is_ascii_digit d ≡ false → invoked set (Byte d ∷ ts) ≡ invoked set ts
dropped B d ts n e = absurd (n refl)
dropped A d [] n e = refl
dropped A d (Byte b ∷ ts) n e = rw e refl
dropped A d (Code c ∷ ts) n e = refl
dropped A d (Lead ∷ ts) n e = refl
dropped C d [] n e = refl
dropped C d (Byte b ∷ ts) n e = rw e refl
dropped C d (Code c ∷ ts) n e = refl
dropped C d (Lead ∷ ts) n e = refl

-- a digit at the end, before a code or before a lead
module _ (set : CodeSet) (d : ℕ) (ts : List Token) (n : set ≢ B) where
  at_end : (u : CodeSet) → u ≢ B → invoked u (Byte d ∷ []) ≡ invoked u []
  at_end u h1 = grind arith

  at_code : (u : CodeSet) (c : ℕ) (rest : List Token) → u ≢ B → invoked u (Byte d ∷ Code c ∷ rest) ≡ invoked u (Code c ∷ rest)
  at_code u c rest h1 = grind arith

  at_lead : (u : CodeSet) (rest : List Token) → u ≢ B → invoked u (Byte d ∷ Lead ∷ rest) ≡ invoked u (Lead ∷ rest)
  at_lead u rest h1 = grind arith

  pub before_end : ts ≡ [] → invoked set (Byte d ∷ ts) ≡ invoked set ts
  before_end e = rw e (at_end set n)

  pub before_code : (c : ℕ) (rest : List Token) → ts ≡ Code c ∷ rest → invoked set (Byte d ∷ ts) ≡ invoked set ts
  before_code c rest e = rw e (at_code set c rest n)

  pub before_lead : (rest : List Token) → ts ≡ Lead ∷ rest → invoked set (Byte d ∷ ts) ≡ invoked set ts
  before_lead rest e = rw e (at_lead set rest n)

  module _ (digit : is_ascii_digit d ≡ true) where
    by_set : (u : CodeSet) (e : ℕ) (rest : List Token) → u ≢ B → invoked u (Byte d ∷ Byte e ∷ rest) ≡ onto (cond (is_ascii_digit e) (pair_in u (pair_of d e)) []) (invoked u rest)
    by_set u e rest h1 = grind arith

    -- two digits
    pub before_digit : (e : ℕ) (rest : List Token) → ts ≡ Byte e ∷ rest → is_ascii_digit e ≡ true → invoked set (Byte d ∷ ts) ≡ onto (pair_in set (pair_of d e)) (invoked set rest)
    before_digit e rest t h = rw t (by_set set e rest n ∙ ap (λ b. onto (cond b (pair_in set (pair_of d e)) []) (invoked set rest)) h)

    -- a digit and another byte
    pub before_other : (e : ℕ) (rest : List Token) → ts ≡ Byte e ∷ rest → is_ascii_digit e ≡ false → invoked set (Byte d ∷ ts) ≡ onto [] (invoked set rest)
    before_other e rest t h = rw t (by_set set e rest n ∙ ap (λ b. onto (cond b (pair_in set (pair_of d e)) []) (invoked set rest)) h)
