-- Elements of the field in lists, and lists of each second codeword.
use Rattle.std.proofs.Common.{◌≡◌, ℕ, zero, suc, ◌+◌, ◌-◌, ◌*◌, ◌/◌, ◌%◌, ◌<◌, ◌≤◌, List, [], ◌∷◌, ◌++◌, map, take, get_or, refl, sym, ap, subst, ◌∙◌, arith, append_assoc, append-nil}
use Rattle.vp_maxicode.specs.Primaries.{ten}
use Rattle.vp_maxicode.specs.Codewords.{every_second}

-- each is less than n
abbrev pub below : ℕ → List ℕ → Type 0
below n xs = (j : ℕ) → get_or xs j 0 < n

pub below_none : (n : ℕ) → 0 < n → below n []
below_none n h j = h

pub below_cons : (n x : ℕ) (xs : List ℕ) → x < n → below n xs → below n (x ∷ xs)
below_cons n x xs h e zero = h
below_cons n x xs h e (suc j) = e j

pub below_take : (n k : ℕ) (xs : List ℕ) → 0 < n → below n xs → below n (take k xs)
below_take n zero xs some h = below_none n some
below_take n (suc k) [] some h = below_none n some
below_take n (suc k) (x ∷ xs) some h = below_cons n x (take k xs) (h 0) (below_take n k xs some (λ (j : ℕ). h (suc j)))

-- one more of each second
pub second_more : (n k i : ℕ) (words : List ℕ) → k < n
    → every_second (n - k) (i + 2 * k) words ≡ get_or words (i + 2 * k) 0 ∷ every_second (n - (k + 1)) (i + 2 * (k + 1)) words
unfolding every_second
second_more n k i words h =
    let e : n - k ≡ suc (n - (k + 1)) = omega arith in
    let f : i + 2 * k + 2 ≡ i + 2 * (k + 1) = omega arith in
    rw e (ap (λ (m : ℕ). get_or words (i + 2 * k) 0 ∷ every_second (n - (k + 1)) m words) f)

pub second_none : (n k i : ℕ) (words : List ℕ) → n ≤ k → every_second (n - k) i words ≡ []
unfolding every_second
second_none n k i words h =
    let e : n - k ≡ 0 = omega arith in
    rw e refl

-- it is written
pub second_written : (n k i x : ℕ) (words items new all : List ℕ) → k < n → x ≡ get_or words (i + 2 * k) 0 → new ≡ items ++ x ∷ []
    → items ++ every_second (n - k) (i + 2 * k) words ≡ all → new ++ every_second (n - (k + 1)) (i + 2 * (k + 1)) words ≡ all
second_written n k i x words items new all lt ex en h =
    rw (en, ex) (append_assoc items (get_or words (i + 2 * k) 0 ∷ []) (every_second (n - (k + 1)) (i + 2 * (k + 1)) words)
    ∙ ap (λ (l : List ℕ). items ++ l) (sym (second_more n k i words lt)) ∙ h)

pub second_done : (items rest all : List ℕ) → rest ≡ [] → items ++ rest ≡ all → items ≡ all
second_done items rest all e h = sym (append-nil items) ∙ ap (λ (l : List ℕ). items ++ l) (sym e) ∙ h

pub below_push : (n : ℕ) (xs new : List ℕ) (x : ℕ) → new ≡ xs ++ x ∷ [] → below n xs → x < n → below n new
below_push n xs new x e h lt j = rw e (pushed n xs x h lt j)
  where
    pushed : (n : ℕ) (xs : List ℕ) (x : ℕ) → below n xs → x < n → below n (xs ++ x ∷ [])
    pushed n [] x h lt zero = lt
    pushed n [] x h lt (suc j) = omega arith
    pushed n (y ∷ xs) x h lt zero = h 0
    pushed n (y ∷ xs) x h lt (suc j) = pushed n xs x (λ (k : ℕ). h (suc k)) lt j

below_mod : (xs : List ℕ) → below 64 (map (λ x. x % 64) xs)
below_mod [] = below_none 64 (omega arith)
below_mod (x ∷ xs) = below_cons 64 (x % 64) (map (λ x. x % 64) xs) (omega arith) (below_mod xs)

pub below_ten : (n : ℕ) → below 64 (ten n)
below_ten n =
    below_mod (n ∷ n / 64 ∷ n / 4096 ∷ n / 262144 ∷ n / 16777216 ∷ n / 1073741824 ∷ n / 68719476736 ∷ n / 4398046511104
    ∷ n / 281474976710656 ∷ n / 18014398509481984 ∷ [])

pub below_head : (x : ℕ) (words xs : List ℕ) → xs ≡ x ∷ take 9 words → x < 64 → below 64 words → below 64 xs
below_head x words xs e h all =
    subst (λ (l : List ℕ). below 64 l) (sym e) (below_cons 64 x (take 9 words) h (below_take 64 9 words (omega arith) all))
