-- What lines show of which it is told that some are the same as the one above.
use Rattle.std.proofs.Common.{◌≡◌, ℕ, ◌+◌, ◌-◌, ◌<◌, ◌≤◌, ◌∙◌, Bool, true, false, refl, ap, sym, arith, List, [], ◌∷◌, length, take, min, get_or, zero, suc, if◌then◌else◌}
use Rattle.std.proofs.lemmas.List.{ext_get_or, get_or_past, get_or-take, length-take}
use Rattle.vp_page.specs.declared.line.TheConstants.{LINE_BYTES}
use Rattle.vp_page.specs.Lines.{shown_below, shown_lines}

length-below : (above : List ℕ) (same : List Bool) (i : ℕ) (lines : List (List ℕ)) → length (shown_below above same i lines) ≡ length lines
length-below above same i [] = refl
length-below above same i (line ∷ lines) = ap suc (length-below (if get_or same i false then above else line) same (i + 1) lines)

-- there are as many
pub length-shown : (same : List Bool) (lines : List (List ℕ)) → length (shown_lines same lines) ≡ length lines
length-shown same [] = refl
length-shown same (line ∷ lines) = ap suc (length-below line same 1 lines)

-- the lines below one that shows these bytes
first_below : (above : List ℕ) (same : List Bool) (i : ℕ) (lines : List (List ℕ)) → 0 < length lines
    → get_or (shown_below above same i lines) 0 [] ≡ (if get_or same i false then above else get_or lines 0 [])
first_below above same i [] h = absurd (omega (arith, h))
first_below above same i (line ∷ lines) h = refl

own_below : (above : List ℕ) (same : List Bool) (i : ℕ) (lines : List (List ℕ)) (k : ℕ) → k < length lines → get_or same (i + k) false ≡ false
    → get_or (shown_below above same i lines) k [] ≡ get_or lines k []
own_below above same i [] k h e = absurd (omega (arith, h))
own_below above same i (line ∷ lines) zero h e = rw (let at : i + 0 ≡ i = omega arith in rw at at e) refl
own_below above same i (line ∷ lines) (suc k) h e =
    own_below (if get_or same i false then above else line) same (i + 1) lines k (omega (arith, h)) (let at : i + suc k ≡ i + 1 + k = omega arith in rw at at e)

next_below : (above : List ℕ) (same : List Bool) (i : ℕ) (lines : List (List ℕ)) (k : ℕ) → suc k < length lines → get_or same (i + suc k) false ≡ true
    → get_or (shown_below above same i lines) (suc k) [] ≡ get_or (shown_below above same i lines) k []
next_below above same i [] k h e = absurd (omega (arith, h))
next_below above same i (line ∷ lines) zero h e =
    let this : List ℕ = if get_or same i false then above else line in
    let at : i + suc zero ≡ i + 1 = omega arith in
    let first : get_or (shown_below this same (i + 1) lines) 0 [] ≡ this = first_below this same (i + 1) lines (omega (arith, h)) ∙ ap (λ (b : Bool). if b then this else get_or lines 0 []) (rw at at e) in first
next_below above same i (line ∷ lines) (suc k) h e =
    next_below (if get_or same i false then above else line) same (i + 1) lines k (omega (arith, h)) (let at : i + suc (suc k) ≡ i + 1 + suc k = omega arith in rw at at e)

-- one of which nothing is told shows its own bytes
pub shows_own : (same : List Bool) (lines : List (List ℕ)) (k : ℕ) → k < length lines → (0 < k → get_or same k false ≡ false) → get_or (shown_lines same lines) k [] ≡ get_or lines k []
shows_own same [] k h e = absurd (omega (arith, h))
shows_own same (line ∷ lines) zero h e = refl
shows_own same (line ∷ lines) (suc k) h e = own_below line same 1 lines k (omega (arith, h)) (let at : 1 + k ≡ suc k = omega arith in rw at (e (omega arith)))

-- and another what the one above does
above_suc : (same : List Bool) (lines : List (List ℕ)) (k : ℕ) → suc k < length lines → get_or same (suc k) false ≡ true
    → get_or (shown_lines same lines) (suc k) [] ≡ get_or (shown_lines same lines) k []
above_suc same [] k h e = absurd (omega (arith, h))
above_suc same (line ∷ lines) zero h e =
    let first : get_or (shown_below line same 1 lines) 0 [] ≡ line = first_below line same 1 lines (omega (arith, h)) ∙ ap (λ (b : Bool). if b then line else get_or lines 0 []) e in first
above_suc same (line ∷ lines) (suc k) h e = next_below line same 1 lines k (omega (arith, h)) (let at : 1 + suc k ≡ suc (suc k) = omega arith in rw at e)

pub shows_above : (same : List Bool) (lines : List (List ℕ)) (k : ℕ) → k + 1 < length lines → get_or same (k + 1) false ≡ true
    → get_or (shown_lines same lines) (k + 1) [] ≡ get_or (shown_lines same lines) k []
shows_above same lines k h e = let at : k + 1 ≡ suc k = omega arith in rw at (above_suc same lines k (omega (arith, h)) (rw at at e))

one_more : (P : ℕ → List ℕ → Type 0) (same : List Bool) (lines : List (List ℕ)) (k : ℕ) (told : Bool) → k + 1 < length lines → get_or same (k + 1) false ≡ told
    → (told ≡ false → P (k + 1) (get_or lines (k + 1) [])) → (told ≡ true → P (k + 1) (get_or (shown_lines same lines) k [])) → P (k + 1) (get_or (shown_lines same lines) (k + 1) [])
one_more P same lines k true h e own next = rw (shows_above same lines k h e) (next refl)
one_more P same lines k false h e own next = rw (shows_own same lines (k + 1) h (λ _. e)) (own refl)

-- what holds of a line that shows its own bytes, and of one below another of which it holds, holds of all
pub all_shown : (P : ℕ → List ℕ → Type 0) (same : List Bool) (lines : List (List ℕ)) → ((k : ℕ) → k < length lines → (0 < k → get_or same k false ≡ false) → P k (get_or lines k []))
    → ((k : ℕ) (line : List ℕ) → k + 1 < length lines → get_or same (k + 1) false ≡ true → P k line → P (k + 1) line)
    → (k : ℕ) → k < length lines → P k (get_or (shown_lines same lines) k [])
all_shown P same lines own next zero h = rw (shows_own same lines zero h (λ some. absurd (omega (arith, some)))) (own zero h (λ some. absurd (omega (arith, some))))
all_shown P same lines own next (suc k) h =
    let at : k + 1 ≡ suc k = omega arith in
    let within : k + 1 < length lines = omega (arith, h) in
    rw at at (one_more P same lines k (get_or same (k + 1) false) within refl (λ e. own (k + 1) within (λ _. e)) (λ e. next k _ within e (all_shown P same lines own next k (omega (arith, h)))))

-- where nothing is told, they show their own
pub none_told : (same : List Bool) (lines : List (List ℕ)) → length same ≡ 0 → shown_lines same lines ≡ lines
none_told same lines e = ext_get_or [] _ lines (length-shown same lines)
    (λ k h. shows_own same lines k (omega (arith, h, length-shown same lines)) (λ _. get_or_past same k false (omega (arith, e))))

-- those of the first lines
pub first_shown : (same : List Bool) (lines : List (List ℕ)) (n : ℕ) → n ≤ length lines → shown_lines same (take n lines) ≡ take n (shown_lines same lines)
first_shown same lines n few = ext_get_or [] _ _ (length-shown same (take n lines) ∙ length-take n lines ∙ sym (length-take n (shown_lines same lines) ∙ ap (min n) (length-shown same lines))) (λ k h.
    let within : k < length (take n lines) = omega (arith, h, length-shown same (take n lines)) in
    let in_few : k < n = omega (arith, within, length-take n lines) in
    all_shown (λ k line. k < n → line ≡ get_or (shown_lines same lines) k []) same (take n lines)
    (λ k h own l. get_or-take n lines k [] l ∙ sym (shows_own same lines k (omega (arith, l, few)) own))
    (λ k line h told before l. before (omega (arith, l)) ∙ sym (shows_above same lines k (omega (arith, l, few)) told))
    k within in_few ∙ sym (get_or-take n (shown_lines same lines) k [] in_few))

-- none is longer than the longest
pub shown_short : (same : List Bool) (lines : List (List ℕ)) → ((k : ℕ) → k < length lines → length (get_or lines k []) ≤ LINE_BYTES)
    → (k : ℕ) → k < length (shown_lines same lines) → length (get_or (shown_lines same lines) k []) ≤ LINE_BYTES
shown_short same lines short k h = all_shown (λ k line. length line ≤ LINE_BYTES) same lines (λ k l own. short k l) (λ k line l told before. before) k (omega (arith, h, length-shown same lines))

-- the last line above that shows its own bytes, or this one
pub next_own : (same : List Bool) (lines : List (List ℕ)) (own next i : ℕ) → i < length lines → own ≤ i - 1 → (0 < i → get_or lines own [] ≡ get_or (shown_lines same lines) (i - 1) [])
    → (get_or same i false ≡ true → next ≡ own) → (get_or same i false ≡ false → next ≡ i) → get_or lines next [] ≡ get_or (shown_lines same lines) i []
next_own same lines own next i h low last told not_told = grind (arith, shows_own same lines i, shows_above same lines (i - 1))

-- what was written of each
pub written_shown : (same : List Bool) (lines shown : List (List ℕ)) → length lines ≤ length shown → ((i : ℕ) → i < length lines → get_or shown i [] ≡ get_or (shown_lines same lines) i [])
    → take (length lines) shown ≡ shown_lines same lines
written_shown same lines shown room is = ext_get_or [] _ _ (omega (arith, room, length-take (length lines) shown, length-shown same lines)) (λ i h. grind (arith, is i, get_or-take, length-take))
