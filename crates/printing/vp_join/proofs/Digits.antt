-- Numbers and headers, digit by digit.
use Rattle.std.proofs.Common.{inl, inr, ◌≡◌, ◌≢◌, ◌<◌, ◌≤◌, ◌+◌, ◌-◌, ◌*◌, ◌/◌, ◌%◌, ◌⊎◌, ℕ, true, false, cond, eqb, ltb, ◌&&◌, List, [], ◌∷◌, ◌++◌, refl, sym, ap, ◌∙◌, arith, append_assoc}
use Rattle.std.specs.Fmt.{decimal}
use Rattle.std.proofs.lemmas.Fmt.{decimal_by_steps, decimal_digit, decimal_step}
use Rattle.std.proofs.lemmas.Bool.{cases_Bool, lt-ltb, le-ltb, ne_eqb}
use Rattle.std.proofs.lemmas.List.{append-nil}
use Rattle.std.proofs.lemmas.Bool.Decides.{nat_tests}
use Rattle.vp_dots.specs.Headers.{header_of}
use Rattle.vp_join.specs.Strips.{greatest, IsNumber, HasHeader}
use Rattle.vp_join.specs.Told.{Seen, Told, stops, images, width, height, rows, with_digit, with_header, continues, nothing}
use Rattle.vp_join.specs.declared.fault.Offence.TheVariants.{Header}
use Rattle.vp_dots.specs.Images.{row_bytes}
use Rattle.vp_join.proofs.Grows.{begun, grows_rows}

-- what reads numbers goes on behind a digit
abbrev pub Reads : (ℕ → List ℕ → Told) → Type 0
Reads f = (n b : ℕ) (text : List ℕ) → continues n b ≡ true → f n (b ∷ text) ≡ f (with_digit n b) text

pub reads_width : (so : Seen) → Reads (width so)
reads_width so n b text e = rw e refl

pub reads_height : (so : Seen) (w : ℕ) → Reads (height so w)
reads_height so w n b text e = rw e refl

first_digit : (n : ℕ) → 0 < n → n < 10 → continues 0 (48 + n) ≡ true
first_digit n h l = grind (arith, nat_tests)

next_digit : (n : ℕ) → 10 ≤ n → n ≤ greatest → continues (n / 10) (48 + n % 10) ≡ true
next_digit n h l = grind (arith, nat_tests)

-- a number is read from its digits
pub read_number : (f : ℕ → List ℕ → Told) → Reads f → (n : ℕ) → IsNumber n → (text : List ℕ) → f 0 (decimal n ++ text) ≡ f n text
read_number f r n k = decimal_by_steps (λ m ds. 0 < m → m ≤ greatest → (text : List ℕ) → f 0 (ds ++ text) ≡ f m text)
    (λ m l p q text. r 0 (48 + m) text (first_digit m p l) ∙ ap (λ x. f x text) (omega arith))
    (λ m ds l h p q text. ap (f 0) (append_assoc ds ((48 + m % 10) ∷ []) text) ∙ h (omega arith) (omega arith) ((48 + m % 10) ∷ text)
    ∙ r (m / 10) (48 + m % 10) text (next_digit m l q) ∙ ap (λ x. f x text) (let e : with_digit (m / 10) (48 + m % 10) ≡ m = omega arith in e))
    n (omega (arith, k.most)) k.least k.most

-- the digits of what is read so far
abbrev pub written : ℕ → List ℕ
written n = cond (eqb n 0) [] (decimal n)

written_some : (n : ℕ) → 0 < n → written n ≡ decimal n
written_some n h = rw (ne_eqb n 0 (λ e. omega (arith, e, h))) refl

continued_fits : (n b : ℕ) → continues n b ≡ true → IsNumber (with_digit n b)
continued_fits n b e = record { least = grind (arith, nat_tests); most = grind (arith, nat_tests) }

is_digit : (n b : ℕ) → continues n b ≡ true → (48 ≤ b) × (b ≤ 57)
is_digit n b e = (grind (arith, nat_tests), grind (arith, nat_tests))

written_more : (n b : ℕ) → continues n b ≡ true → written n ++ b ∷ [] ≡ written (with_digit n b)
written_more n b e = grind (arith, is_digit, continued_fits, written_some, decimal_digit, decimal_step)

-- no digit follows that goes on with the number
abbrev pub Stops : ℕ → List ℕ → Type 0
Stops n [] = Unit {0}
Stops n (b ∷ text) = continues n b ≡ false

-- the digits in front
pub record Scanned (n : ℕ) (text : List ℕ) : Type 0 where
  pub number : ℕ
  pub digits : List ℕ
  pub rest : List ℕ
  pub text_is : text ≡ digits ++ rest
  pub written_is : written n ++ digits ≡ written number
  pub fits : n ≤ greatest → number ≤ greatest
  pub stops : Stops number rest
  pub told_is : (f : ℕ → List ℕ → Told) → Reads f → f n text ≡ f number rest

scan_none : (n : ℕ) (text : List ℕ) → Stops n text → Scanned n text
scan_none n text h = record { number = n; digits = []; rest = text; text_is = refl; written_is = append-nil (written n); fits = λ h. h; stops = h; told_is = λ f r. refl }

pub scan : (n : ℕ) (text : List ℕ) → Scanned n text
scan n [] = scan_none n [] tt
scan n (b ∷ text) = elim (cases_Bool (continues n b)) [
  | inl y ↦ let k = scan (with_digit n b) text in record {
    number = k.number;
    digits = b ∷ k.digits;
    rest = k.rest;
    text_is = ap (λ x. b ∷ x) k.text_is;
    written_is = sym (append_assoc (written n) (b ∷ []) k.digits) ∙ ap (λ x. x ++ k.digits) (written_more n b y) ∙ k.written_is;
    fits = λ h. k.fits (continued_fits n b y).most;
    stops = k.stops;
    told_is = λ f r. r n b text y ∙ k.told_is f r;
  }
  | inr e ↦ scan_none n (b ∷ text) e
]

-- the digits that were scanned are those of the number
pub scanned_digits : (text : List ℕ) (k : Scanned 0 text) → 0 < k.number → k.digits ≡ decimal k.number
scanned_digits text k h = k.written_is ∙ written_some k.number h

-- a header as its bytes
pub header_is : (w h : ℕ) (rest : List ℕ) → header_of w h ++ rest ≡ 80 ∷ 52 ∷ 10 ∷ (decimal w ++ 32 ∷ (decimal h ++ 10 ∷ rest))
header_is w h rest = simp append_assoc

-- a blank ends the width, and LF the height
width_ends : (so : Seen) (w : ℕ) (text : List ℕ) → 0 < w → width so w (32 ∷ text) ≡ height so w 0 text
width_ends so w text h = rw (lt-ltb 0 w h) refl

height_ends : (so : Seen) (w h : ℕ) (text : List ℕ) → 0 < h → height so w h (10 ∷ text) ≡ begun so w h text
height_ends so w h text l = rw (lt-ltb 0 h l) refl

-- a header is read
pub read_header : (so : Seen) (w h : ℕ) (rest text : List ℕ) → HasHeader w h rest text → images so text ≡ begun so w h rest
read_header so w h rest text k =
    ap (images so) (k.text_is ∙ header_is w h rest)
    ∙ read_number (width so) (reads_width so) w k.width_fits (32 ∷ (decimal h ++ 10 ∷ rest))
    ∙ width_ends so w (decimal h ++ 10 ∷ rest) k.width_fits.least
    ∙ read_number (height so w) (reads_height so w) h k.height_fits (10 ∷ rest)
    ∙ height_ends so w h rest k.height_fits.least

-- no header is read
pub record IsUnread (text : List ℕ) : Type 0 where
  pub some : text ≢ []
  pub refused : (so : Seen) → images so text ≡ stops so Header

unread : (a b c : ℕ) (text : List ℕ) → ((so : Seen) → images so (a ∷ b ∷ c ∷ text) ≡ stops so Header) → IsUnread (a ∷ b ∷ c ∷ text)
unread a b c text h = record { some = λ e. cc; refused = h }

-- a text that begins with a header
pub record Begun (text : List ℕ) : Type 0 where
  pub width : ℕ
  pub height : ℕ
  pub rest : List ℕ
  pub header : HasHeader width height rest text

-- what a text is: nothing, no header, or a header and a rest
abbrev pub Parsed : List ℕ → Type 0
Parsed text = (text ≡ []) ⊎ (IsUnread text ⊎ Begun text)

magic : (a b c : ℕ) → (eqb a 80 && eqb b 52 && eqb c 10) ≡ true → (a ≡ 80) × (b ≡ 52) × (c ≡ 10)
magic a b c e = (grind (arith, nat_tests), grind (arith, nat_tests), grind (arith, nat_tests))

ends_number : (n b stop : ℕ) → (ltb 0 n && eqb b stop) ≡ true → (0 < n) × (b ≡ stop)
ends_number n b stop e = (grind (arith, nat_tests), grind (arith, nat_tests))

two_numbers : (t : List ℕ) (k : Scanned 0 t) (u : List ℕ) → 0 < k.number → k.rest ≡ 32 ∷ u → (l : Scanned 0 u) (v : List ℕ) → 0 < l.number → l.rest ≡ 10 ∷ v
    → t ≡ decimal k.number ++ 32 ∷ (decimal l.number ++ 10 ∷ v)
two_numbers t k u p e l v q f = grind (arith, scanned_digits)

-- behind the width
in_height : (t : List ℕ) (k : Scanned 0 t) (u : List ℕ) → 0 < k.number → k.rest ≡ 32 ∷ u → (l : Scanned 0 u) → (v : List ℕ) → l.rest ≡ v → Parsed (80 ∷ 52 ∷ 10 ∷ t)
in_height t k u p e l [] f = inr (inl (unread 80 52 10 t (λ so. behind so ∙ ap (height so k.number l.number) f)))
  where
    behind : (so : Seen) → width so 0 t ≡ height so k.number l.number l.rest
    behind so = k.told_is (width so) (reads_width so) ∙ ap (width so k.number) e ∙ width_ends so k.number u p ∙ l.told_is (height so k.number) (reads_height so k.number)
in_height t k u p e l (b ∷ v) f = elim (cases_Bool (ltb 0 l.number && eqb b 10)) [
  | inl y ↦
      let q = ends_number l.number b 10 y in
      inr (inr (record {
        width = k.number;
        height = l.number;
        rest = v;
        header = record {
          width_fits = record { least = p; most = k.fits (omega arith) };
          height_fits = record { least = q.0; most = l.fits (omega arith) };
          text_is = ap (λ x. 80 ∷ 52 ∷ 10 ∷ x) (two_numbers t k u p e l v q.0 (f ∙ ap (λ x. x ∷ v) q.1)) ∙ sym (header_is k.number l.number v);
        };
      }))
  | inr n ↦ inr (inl (unread 80 52 10 t (λ so. behind so ∙ ap (height so k.number l.number) f ∙ (let s : continues l.number b ≡ false = rw f at l.stops in rw (s, n) refl))))
]
  where
    behind : (so : Seen) → width so 0 t ≡ height so k.number l.number l.rest
    behind so = k.told_is (width so) (reads_width so) ∙ ap (width so k.number) e ∙ width_ends so k.number u p ∙ l.told_is (height so k.number) (reads_height so k.number)

-- behind the magic
in_width : (t : List ℕ) (k : Scanned 0 t) (r : List ℕ) → k.rest ≡ r → Parsed (80 ∷ 52 ∷ 10 ∷ t)
in_width t k [] e = inr (inl (unread 80 52 10 t (λ so. k.told_is (width so) (reads_width so) ∙ ap (width so k.number) e)))
in_width t k (b ∷ u) e = elim (cases_Bool (ltb 0 k.number && eqb b 32)) [
  | inl y ↦ let q = ends_number k.number b 32 y in in_height t k u q.0 (e ∙ ap (λ x. x ∷ u) q.1) (scan 0 u) (scan 0 u).rest refl
  | inr n ↦ inr (inl (unread 80 52 10 t (λ so. k.told_is (width so) (reads_width so) ∙ ap (width so k.number) e ∙ (let s : continues k.number b ≡ false = rw e at k.stops in rw (s, n) refl))))
]

pub parse : (text : List ℕ) → Parsed text
parse [] = inl refl
parse (a ∷ []) = inr (inl (record { some = λ e. cc; refused = λ so. refl }))
parse (a ∷ b ∷ []) = inr (inl (record { some = λ e. cc; refused = λ so. refl }))
parse (a ∷ b ∷ c ∷ t) = elim (cases_Bool (eqb a 80 && eqb b 52 && eqb c 10)) [
  | inl y ↦ let m = magic a b c y in rw (m.0, m.1, m.2) (in_width t (scan 0 t) (scan 0 t).rest refl)
  | inr n ↦ inr (inl (unread a b c t (λ so. rw n refl)))
]

-- what begins with a header is read
pub not_unread : (text : List ℕ) (w h : ℕ) (rest : List ℕ) → HasHeader w h rest text → ((so : Seen) → images so text ≡ stops so Header) → ⊥
not_unread text w h rest k f =
    let z : ltb greatest (0 + h) ≡ false = le-ltb greatest (0 + h) (omega (arith, k.height_fits.most)) in
    let e : stops nothing Header ≡ begun nothing w h rest = sym (f nothing) ∙ read_header nothing w h rest text k in
    let g = grows_rows (with_header nothing w h) (row_bytes w * h - 1) rest in
    let l : 0 ≡ (rows (with_header nothing w h) (row_bytes w * h - 1) rest).so.height = ap (λ (t : Told). t.so.height) (rw z at e) in
    omega (arith, g.taller, l, k.height_fits.least)
