-- Codes as they are written, bit by bit and one after another.
use Rattle.std.proofs.Common.{◌≡◌, ℕ, zero, suc, ◌+◌, ◌-◌, ◌<◌, ◌≤◌, Bool, List, [], ◌∷◌, ◌++◌, length, eqb, refl, sym, ap, ◌∙◌, arith, Option, Some, None, append_assoc, append-nil, length-append, ◌⊎◌, inl, inr}
use Rattle.std.proofs.lemmas.Bool.{le-leb, lt-leb, cases_lt}
use Rattle.std.specs.Int.{bit_at}
use Rattle.vp_aztec.specs.Stuffing.{number, bits_of}
use Rattle.vp_aztec.specs.Written.{pushed, written}
use Rattle.vp_aztec.specs.Messages.{message}
use Rattle.vp_aztec.specs.Encoding.{bits}

-- a bit of n, the highest first
number_more : (n k value : ℕ) → k < n → number (n - k) value ≡ eqb (bit_at value (n - 1 - k)) 1 ∷ number (n - (k + 1)) value
number_more n k value h =
    let e : n - k ≡ suc (n - 1 - k) = omega arith in
    let f : n - 1 - k ≡ n - (k + 1) = omega arith in
    rw e (ap (λ m. eqb (bit_at value (n - 1 - k)) 1 ∷ number m value) f)

length_number : (n value : ℕ) → length (number n value) ≡ n
length_number zero value = refl
length_number (suc n) value = ap suc (length_number n value)

written_append : (w : Option (List Bool)) (xs ys : List (ℕ × ℕ)) → written w (xs ++ ys) ≡ written (written w xs) ys
written_append w [] ys = refl
written_append w (x ∷ xs) ys = written_append (pushed w x) xs ys

-- a front is written
pub front_written : (w new target : Option (List Bool)) (front behind rest : List (ℕ × ℕ)) → new ≡ written w front → rest ≡ front ++ behind → written w rest ≡ target → written new behind ≡ target
front_written w new target front behind rest e f h =
    ap (λ (v : Option (List Bool)). written v behind) e ∙ sym (written_append w front behind) ∙ ap (written w) (sym f) ∙ h

-- a bit is written
pub bit_written : (items new target : List Bool) (n k value : ℕ) (b : Bool) → k < n → new ≡ items ++ b ∷ [] → b ≡ eqb (bit_at value (n - 1 - k)) 1
    → items ++ number (n - k) value ≡ target → new ++ number (n - (k + 1)) value ≡ target
bit_written items new target n k value b lt e f h =
    ap (λ (l : List Bool). l ++ number (n - (k + 1)) value) (e ∙ ap (λ (x : Bool). items ++ x ∷ []) f)
    ∙ append_assoc items (eqb (bit_at value (n - 1 - k)) 1 ∷ []) (number (n - (k + 1)) value)
    ∙ ap (λ (l : List Bool). items ++ l) (sym (number_more n k value lt)) ∙ h

pushed_room : (l : List Bool) (code : ℕ × ℕ) → length l + code.0 ≤ 19968 → pushed (Some l) code ≡ Some (l ++ number code.0 code.1)
pushed_room l code h = rw (le-leb (length l + code.0) 19968 h) refl

pushed_full : (l : List Bool) (code : ℕ × ℕ) → 19968 < length l + code.0 → pushed (Some l) code ≡ None
pushed_full l code h = rw (lt-leb (length l + code.0) 19968 h) refl

written_none : (xs : List (ℕ × ℕ)) → written None xs ≡ None
written_none [] = refl
written_none (x ∷ xs) = written_none xs

written_some : (l : List Bool) (xs : List (ℕ × ℕ)) → length l + length (bits_of xs) ≤ 19968 → written (Some l) xs ≡ Some (l ++ bits_of xs)
written_some l [] h = ap Some (sym (append-nil l))
written_some l (x ∷ xs) h =
    let n = length_number x.0 x.1 in
    let m = length-append (number x.0 x.1) (bits_of xs) in
    ap (λ (v : Option (List Bool)). written v xs) (pushed_room l x (omega (arith, n, m)))
    ∙ written_some (l ++ number x.0 x.1) xs (omega (arith, n, m, length-append l (number x.0 x.1))) ∙ ap Some (append_assoc l (number x.0 x.1) (bits_of xs))

written_many : (l : List Bool) (xs : List (ℕ × ℕ)) → length l ≤ 19968 → 19968 < length l + length (bits_of xs) → written (Some l) xs ≡ None
written_many l [] h lt = absurd (omega arith)
written_many l (x ∷ xs) h lt =
    let n = length_number x.0 x.1 in
    let m = length-append (number x.0 x.1) (bits_of xs) in
    let o = length-append l (number x.0 x.1) in
    by_room l x xs (cases_lt 19968 (length l + x.0)) (λ room. written_many (l ++ number x.0 x.1) xs (omega (arith, n, m, o)) (omega (arith, n, m, o)))
  where
    by_room : (l : List Bool) (x : ℕ × ℕ) (xs : List (ℕ × ℕ)) → (19968 < length l + x.0) ⊎ (length l + x.0 ≤ 19968) → (length l + x.0 ≤ 19968 → written (Some (l ++ number x.0 x.1)) xs ≡ None) → written (Some l) (x ∷ xs) ≡ None
    by_room l x xs (inl full) h = ap (λ (v : Option (List Bool)). written v xs) (pushed_full l x full) ∙ written_none xs
    by_room l x xs (inr room) h = ap (λ (v : Option (List Bool)). written v xs) (pushed_room l x room) ∙ h room

some_same : (a b : List Bool) → Some a ≡ Some b → a ≡ b
some_same a b e = grind arith

none_some : (a : List Bool) → None ≡ Some a → ⊥
none_some a e = grind arith

-- what is held is all, or that is more than a symbol holds
held_all : (xs : List (ℕ × ℕ)) (all : List Bool) → written (Some []) xs ≡ Some all → all ≡ bits_of xs
held_all xs all h = by_room xs all h (cases_lt 19968 (length (bits_of xs)))
  where
    by_room : (xs : List (ℕ × ℕ)) (all : List Bool) → written (Some []) xs ≡ Some all → (19968 < length (bits_of xs)) ⊎ (length (bits_of xs) ≤ 19968) → all ≡ bits_of xs
    by_room xs all h (inl more) = absurd (none_some all (sym (written_many [] xs (omega arith) (omega arith)) ∙ h))
    by_room xs all h (inr room) = some_same all (bits_of xs) (sym h ∙ written_some [] xs (omega arith))

held_none : (xs : List (ℕ × ℕ)) → written (Some []) xs ≡ None → 19968 < length (bits_of xs)
held_none xs h = by_room xs h (cases_lt 19968 (length (bits_of xs)))
  where
    by_room : (xs : List (ℕ × ℕ)) → written (Some []) xs ≡ None → (19968 < length (bits_of xs)) ⊎ (length (bits_of xs) ≤ 19968) → 19968 < length (bits_of xs)
    by_room xs h (inl more) = more
    by_room xs h (inr room) = absurd (none_some (bits_of xs) (sym h ∙ written_some [] xs (omega arith)))

-- of bytes
pub bits_all : (src : List ℕ) (all : List Bool) → written (Some []) (message src) ≡ Some all → all ≡ bits src
unfolding bits
bits_all src all h = held_all (message src) all h

pub bits_many : (src : List ℕ) → written (Some []) (message src) ≡ None → 19968 < length (bits src)
unfolding bits
bits_many src h = held_none (message src) h
