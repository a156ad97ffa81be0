-- What is written, from the first codeword to the last.
use Rattle.std.proofs.Common.{◌≡◌, ℕ, ◌+◌, ◌<◌, ◌≤◌, List, [], ◌∷◌, ◌++◌, length, refl, sym, ap, ◌∙◌, arith, Option, Some, None, append_assoc, append-nil, length-append, ◌⊎◌, inl, inr}
use Rattle.std.proofs.lemmas.Bool.{lt-ltb, le-ltb, cases_lt}
use Rattle.vp_maxicode.specs.Written.{pushed, written}

pub written_append : (w : Option (List ℕ)) (xs ys : List ℕ) → written w (xs ++ ys) ≡ written (written w xs) ys
written_append w [] ys = refl
written_append w (x ∷ xs) ys = written_append (pushed w x) xs ys

pub written_none : (xs : List ℕ) → written None xs ≡ None
written_none [] = refl
written_none (x ∷ xs) = written_none xs

-- a front is written
pub front_written : (w new target : Option (List ℕ)) (front behind rest : List ℕ) → new ≡ written w front → rest ≡ front ++ behind → written w rest ≡ target → written new behind ≡ target
front_written w new target front behind rest e f h =
    ap (λ (v : Option (List ℕ)). written v behind) e ∙ sym (written_append w front behind) ∙ ap (written w) (sym f) ∙ h

pub pushed_room : (l : List ℕ) (x : ℕ) → length l < 93 → pushed (Some l) x ≡ Some (l ++ x ∷ [])
pushed_room l x h = rw (lt-ltb (length l) 93 h) refl

pub pushed_full : (l : List ℕ) (x : ℕ) → 93 ≤ length l → pushed (Some l) x ≡ None
pushed_full l x h = rw (le-ltb (length l) 93 h) refl

written_some : (l xs : List ℕ) → length l + length xs ≤ 93 → written (Some l) xs ≡ Some (l ++ xs)
written_some l [] h = ap Some (sym (append-nil l))
written_some l (x ∷ xs) h =
    ap (λ (v : Option (List ℕ)). written v xs) (pushed_room l x (omega arith)) ∙ written_some (l ++ x ∷ []) xs (omega (arith, length-append l (x ∷ []))) ∙ ap Some (append_assoc l (x ∷ []) xs)

written_many : (l xs : List ℕ) → length l ≤ 93 → 93 < length l + length xs → written (Some l) xs ≡ None
written_many l [] h lt = absurd (omega arith)
written_many l (x ∷ xs) h lt =
    by_room l x xs (cases_lt (length l) 93) (λ room. written_many (l ++ x ∷ []) xs (omega (arith, length-append l (x ∷ []))) (omega (arith, length-append l (x ∷ []))))
  where
    by_room : (l : List ℕ) (x : ℕ) (xs : List ℕ) → (length l < 93) ⊎ (93 ≤ length l) → (length l < 93 → written (Some (l ++ x ∷ [])) xs ≡ None) → written (Some l) (x ∷ xs) ≡ None
    by_room l x xs (inl room) h = ap (λ (v : Option (List ℕ)). written v xs) (pushed_room l x room) ∙ h room
    by_room l x xs (inr full) h = ap (λ (v : Option (List ℕ)). written v xs) (pushed_full l x full) ∙ written_none xs

written_least : (xs : List ℕ) → 93 < length xs → written (Some []) xs ≡ None
written_least xs h = written_many [] xs (omega arith) (omega arith)

written_whole : (xs : List ℕ) → length xs ≤ 93 → written (Some []) xs ≡ Some xs
written_whole xs h = written_some [] xs (omega arith)

some_same : (a b : List ℕ) → Some a ≡ Some b → a ≡ b
some_same a b e = grind arith

none_some : (a : List ℕ) → None ≡ Some a → ⊥
none_some a e = grind arith

-- what is held is all, or that is more than a symbol holds
pub held_all : (xs all : List ℕ) → written (Some []) xs ≡ Some all → all ≡ xs
held_all xs all h = by_room xs all h (cases_lt 93 (length xs))
  where
    by_room : (xs all : List ℕ) → written (Some []) xs ≡ Some all → (93 < length xs) ⊎ (length xs ≤ 93) → all ≡ xs
    by_room xs all h (inl more) = absurd (none_some all (sym (written_least xs more) ∙ h))
    by_room xs all h (inr room) = some_same all xs (sym h ∙ written_whole xs room)

pub held_none : (xs : List ℕ) → written (Some []) xs ≡ None → 93 < length xs
held_none xs h = by_room xs h (cases_lt 93 (length xs))
  where
    by_room : (xs : List ℕ) → written (Some []) xs ≡ None → (93 < length xs) ⊎ (length xs ≤ 93) → 93 < length xs
    by_room xs h (inl more) = more
    by_room xs h (inr room) = absurd (none_some xs (sym h ∙ written_whole xs room))
