-- Bit strings as they are written.
use Rattle.std.proofs.Common.{◌≡◌, ℕ, zero, suc, ◌+◌, ◌-◌, ◌*◌, ◌^◌, ◌<◌, ◌≤◌, Bool, false, eqb, List, [], ◌∷◌, ◌++◌, length, take, drop, refl, sym, ap, ◌∙◌, arith, append_assoc, append-nil, cond, pow-suc, add-one, get_or, drop-cons}
use Rattle.std.proofs.Math.ListN.{drop_of_length-le}
use Rattle.std.specs.Int.{bit_at}
use Rattle.vp_qr.specs.Strings.{bits, number_behind, bytes_of, pads, pad}

-- one bit less is left
pub bits_more : (n k value : ℕ) → k < n → bits (n - k) value ≡ eqb (bit_at value (n - 1 - k)) 1 ∷ bits (n - (k + 1)) value
unfolding bits
bits_more n k value h = grind arith

pub bits_none : (n k value : ℕ) → n ≤ k → bits (n - k) value ≡ []
unfolding bits
bits_none n k value h = grind arith

pub length-bits : (n value : ℕ) → length (bits n value) ≡ n
unfolding bits
length-bits zero value = refl
length-bits (suc n) value = omega (arith, length-bits n value)

-- eight bits in front are a byte
pub bytes_more : (string : List Bool) → 8 ≤ length string → bytes_of string ≡ number_behind 0 (take 8 string) ∷ bytes_of (drop 8 string)
unfolding bytes_of
bytes_more [] h = absurd (omega arith)
bytes_more (a ∷ []) h = absurd (omega arith)
bytes_more (a ∷ b ∷ []) h = absurd (omega arith)
bytes_more (a ∷ b ∷ c ∷ []) h = absurd (omega arith)
bytes_more (a ∷ b ∷ c ∷ d ∷ []) h = absurd (omega arith)
bytes_more (a ∷ b ∷ c ∷ d ∷ e ∷ []) h = absurd (omega arith)
bytes_more (a ∷ b ∷ c ∷ d ∷ e ∷ f ∷ []) h = absurd (omega arith)
bytes_more (a ∷ b ∷ c ∷ d ∷ e ∷ f ∷ g ∷ []) h = absurd (omega arith)
bytes_more (a ∷ b ∷ c ∷ d ∷ e ∷ f ∷ g ∷ h ∷ rest) le = refl

pub bytes_none : (string : List Bool) → length string < 8 → bytes_of string ≡ []
unfolding bytes_of
bytes_none string h1 = grind arith

-- one bit more of a number
pub number_more : (n : ℕ) (bit : Bool) (rest : List Bool) → number_behind n (bit ∷ rest) ≡ number_behind (2 * n + cond bit 1 0) rest
unfolding number_behind
number_more n bit rest = refl

pub number_all : (n : ℕ) → number_behind n [] ≡ n
unfolding number_behind
number_all n = refl

pub pads_none : pads 0 ≡ []
unfolding pads
pads_none = refl

pub pads_more : (k : ℕ) → pads (k + 1) ≡ pads k ++ pad k ∷ []
unfolding pads
pads_more k = grind arith

-- what is written, and what is still to be written, are the whole: one element more
pub written_more : {X : Type 0} (out new whole rest behind : List X) (x : X) → new ≡ out ++ x ∷ [] → rest ≡ x ∷ behind → out ++ rest ≡ whole → new ++ behind ≡ whole
written_more out new whole rest behind x e f h = ap (λ l. l ++ behind) e ∙ append_assoc out (x ∷ []) behind ∙ ap (λ l. out ++ l) (sym f) ∙ h

-- and nothing more
pub written_all : {X : Type 0} (out whole rest : List X) → rest ≡ [] → out ++ rest ≡ whole → out ≡ whole
written_all out whole rest e h = sym (append-nil out) ∙ ap (λ l. out ++ l) (sym e) ∙ h

-- the same for what is appended to what stood there
pub appended_more : {X : Type 0} (start out new more behind : List X) (x : X) → new ≡ out ++ x ∷ [] → behind ≡ more ++ x ∷ [] → out ≡ start ++ more → new ≡ start ++ behind
appended_more start out new more behind x e f h = e ∙ ap (λ l. l ++ x ∷ []) h ∙ append_assoc start more (x ∷ []) ∙ ap (λ l. start ++ l) (sym f)

pub below_doubled : (n k b : ℕ) → n < 2 ^ k → b < 2 → 2 * n + b < 2 ^ (k + 1)
below_doubled n k b h lt = omega (arith, pow-suc 2 k, ap (λ m. 2 ^ m) (add-one k))

-- one bit read
pub number_step : (eight : List Bool) (n k b : ℕ) → k < length eight → b ≡ cond (get_or eight k false) 1 0
    → number_behind n (drop k eight) ≡ number_behind 0 eight → number_behind (2 * n + b) (drop (k + 1) eight) ≡ number_behind 0 eight
number_step eight n k b lt e h = grind (arith, drop-cons, number_more)

pub bit_small : (bit : Bool) (b : ℕ) → b ≡ cond bit 1 0 → b < 2
bit_small bit b e = grind arith

pub number_end : (eight : List Bool) (n k : ℕ) → length eight ≤ k → number_behind n (drop k eight) ≡ number_behind 0 eight → n ≡ number_behind 0 eight
number_end eight n k le h = sym (number_all n) ∙ ap (number_behind n) (sym (drop_of_length-le eight le)) ∙ h
