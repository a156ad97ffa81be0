-- Segments, one by one.
use Rattle.std.proofs.Common.{◌≡◌, ℕ, zero, suc, ◌+◌, ◌-◌, ◌<◌, ◌≤◌, ◌&&◌, Bool, true, false, List, [], ◌∷◌, ◌++◌, length, take, drop, leb, not, refl, sym, subst, ap, ◌∙◌, arith, length-drop, Option, Some}
use Rattle.std.specs.List.{list_all}
use Rattle.std.proofs.lemmas.List.{take_rest}
use Rattle.std.proofs.lemmas.Bool.{and_parts}
use Rattle.vp_pdf417.specs.declared.mode.Mode.{Mode}
use Rattle.vp_pdf417.specs.declared.mode.Mode.TheVariants.{Text, Bytes, Numeric}
use Rattle.vp_pdf417.specs.Text.{text}
use Rattle.vp_pdf417.specs.Messages.{is_digit, is_text, begins_numeric, mode_at, is_byte_mode, goes_on, front, segment, segments, all_segments, message_by, message}
use Rattle.vp_pdf417.specs.Written.{written}
use Rattle.vp_pdf417.proofs.Held.{written_append}

-- a byte more, or none
pub front_step : (mode : Mode) (xs : List ℕ) → 0 < length xs → goes_on mode xs ≡ true → front mode xs ≡ 1 + front mode (take (length xs - 1) (drop 1 xs))
unfolding front
front_step mode [] h on = absurd (omega arith)
front_step mode (x ∷ xs) h on = rw on (ap (λ (l : List ℕ). 1 + front mode l) (sym (take_rest (x ∷ xs) 1)))

pub front_stop : (mode : Mode) (xs : List ℕ) → goes_on mode xs ≡ false → front mode xs ≡ 0
unfolding front
front_stop mode [] off = refl
front_stop mode (x ∷ xs) off = rw off refl

pub front_none : (mode : Mode) (xs : List ℕ) → length xs < 1 → front mode xs ≡ 0
unfolding front
front_none mode [] h = refl
front_none mode (x ∷ xs) h = absurd (omega arith)

-- the compaction that bytes begin in goes on at them
mode_numeric : (xs : List ℕ) → begins_numeric xs ≡ true → mode_at xs ≡ Numeric
unfolding mode_at
mode_numeric xs h = rw h refl

mode_text : (xs : List ℕ) → begins_numeric xs ≡ false → list_all is_text (take 5 xs) ≡ true → mode_at xs ≡ Text
unfolding mode_at
mode_text xs h t = rw (h, t) refl

mode_bytes : (xs : List ℕ) → begins_numeric xs ≡ false → list_all is_text (take 5 xs) ≡ false → mode_at xs ≡ Bytes
unfolding mode_at
mode_bytes xs h t = rw (h, t) refl

on_numeric : (x : ℕ) (xs : List ℕ) → begins_numeric (x ∷ xs) ≡ true → goes_on Numeric (x ∷ xs) ≡ true
unfolding goes_on
on_numeric x xs h = (and_parts (is_digit x) (list_all is_digit (take 12 xs)) (and_parts (leb 13 (length (x ∷ xs))) (list_all is_digit (take 13 (x ∷ xs))) h).1).0

on_text : (x : ℕ) (xs : List ℕ) → begins_numeric (x ∷ xs) ≡ false → list_all is_text (take 5 (x ∷ xs)) ≡ true → goes_on Text (x ∷ xs) ≡ true
unfolding goes_on
on_text x xs h t =
    let first : is_text x ≡ true = (and_parts (is_text x) (list_all is_text (take 4 xs)) t).0 in
    ap (λ (b : Bool). b && not (begins_numeric (x ∷ xs))) first ∙ ap not h

on_bytes : (xs : List ℕ) → mode_at xs ≡ Bytes → goes_on Bytes xs ≡ true
unfolding goes_on
on_bytes xs h = ap is_byte_mode h

begun : (x : ℕ) (xs : List ℕ) → goes_on (mode_at (x ∷ xs)) (x ∷ xs) ≡ true
begun x xs = by_tests x xs (begins_numeric (x ∷ xs)) (list_all is_text (take 5 (x ∷ xs))) refl refl
  where
    by_tests : (x : ℕ) (xs : List ℕ) (n t : Bool) → begins_numeric (x ∷ xs) ≡ n → list_all is_text (take 5 (x ∷ xs)) ≡ t → goes_on (mode_at (x ∷ xs)) (x ∷ xs) ≡ true
    by_tests x xs true t n_is t_is = subst (λ (m : Mode). goes_on m (x ∷ xs) ≡ true) (sym (mode_numeric (x ∷ xs) n_is)) (on_numeric x xs n_is)
    by_tests x xs false true n_is t_is = subst (λ (m : Mode). goes_on m (x ∷ xs) ≡ true) (sym (mode_text (x ∷ xs) n_is t_is)) (on_text x xs n_is t_is)
    by_tests x xs false false n_is t_is =
        let e = mode_bytes (x ∷ xs) n_is t_is in
        subst (λ (m : Mode). goes_on m (x ∷ xs) ≡ true) (sym e) (on_bytes (x ∷ xs) e)

-- a segment has a byte
pub front_some : (xs : List ℕ) → 0 < length xs → 0 < front (mode_at xs) xs
unfolding front
front_some [] h = absurd (omega arith)
front_some (x ∷ xs) h = rw (begun x xs) (omega arith)

-- as many segments as there are bytes are enough
segments_fuel : (n m : ℕ) (xs : List ℕ) → length xs ≤ n → length xs ≤ m → segments n xs ≡ segments m xs
unfolding segments
segments_fuel zero zero xs h e = refl
segments_fuel zero (suc m) [] h e = refl
segments_fuel zero (suc m) (x ∷ xs) h e = absurd (omega arith)
segments_fuel (suc n) zero [] h e = refl
segments_fuel (suc n) zero (x ∷ xs) h e = absurd (omega arith)
segments_fuel (suc n) (suc m) [] h e = refl
segments_fuel (suc n) (suc m) (x ∷ xs) h e =
    let some = front_some (x ∷ xs) (omega arith) in
    let less = length-drop (front (mode_at (x ∷ xs)) (x ∷ xs)) (x ∷ xs) in
    ap (λ (l : List ℕ). segment (mode_at (x ∷ xs)) (take (front (mode_at (x ∷ xs)) (x ∷ xs)) (x ∷ xs)) ++ l)
    (segments_fuel n m (drop (front (mode_at (x ∷ xs)) (x ∷ xs)) (x ∷ xs)) (omega (arith, some, less)) (omega (arith, some, less)))

pub segments_more : (xs : List ℕ) → 0 < length xs → all_segments xs
    ≡ segment (mode_at xs) (take (front (mode_at xs) xs) xs) ++ all_segments (drop (front (mode_at xs) xs) xs)
unfolding segments
segments_more [] h = absurd (omega arith)
segments_more (x ∷ xs) h =
    let some = front_some (x ∷ xs) h in
    let less = length-drop (front (mode_at (x ∷ xs)) (x ∷ xs)) (x ∷ xs) in
    ap (λ (l : List ℕ). segment (mode_at (x ∷ xs)) (take (front (mode_at (x ∷ xs)) (x ∷ xs)) (x ∷ xs)) ++ l)
    (segments_fuel (length xs) (length (drop (front (mode_at (x ∷ xs)) (x ∷ xs)) (x ∷ xs))) (drop (front (mode_at (x ∷ xs)) (x ∷ xs)) (x ∷ xs)) (omega (arith, some, less)) (omega arith))

pub segments_none : (xs : List ℕ) → length xs < 1 → all_segments xs ≡ []
unfolding segments
segments_none [] h = refl
segments_none (x ∷ xs) h = absurd (omega arith)

-- bytes that begin in text
message_text : (src : List ℕ) → mode_at src ≡ Text → message src ≡ text (take (front Text src) src) ++ all_segments (drop (front Text src) src)
unfolding message
message_text src h = ap (λ (m : Mode). message_by m src) h

pub text_written : (none one all : Option (List ℕ)) (src first rest : List ℕ) (n : ℕ) → none ≡ Some [] → one ≡ written none (text first) → all ≡ written one (all_segments rest)
    → first ≡ take n src → rest ≡ drop n src → n ≡ front Text src → mode_at src ≡ Text → all ≡ written (Some []) (message src)
text_written none one all src first rest n e0 e1 e2 f r k h =
    e2 ∙ ap (λ (w : Option (List ℕ)). written w (all_segments rest)) (e1 ∙ ap (λ (w : Option (List ℕ)). written w (text first)) e0)
    ∙ sym (written_append (Some []) (text first) (all_segments rest))
    ∙ ap (λ (l : List ℕ). written (Some []) (text l ++ all_segments rest)) (f ∙ ap (λ (i : ℕ). take i src) k)
    ∙ ap (λ (l : List ℕ). written (Some []) (text (take (front Text src) src) ++ all_segments l)) (r ∙ ap (λ (i : ℕ). drop i src) k)
    ∙ ap (written (Some [])) (sym (message_text src h))
