-- The form of a header against how it is read.
use Rattle.std.proofs.Common.{◌≡◌, ℕ, suc, ◌<◌, true, false, eqb, ◌||◌, List, [], ◌∷◌, ◌++◌, Some, length, get_or, take, drop, refl, ap, ◌∙◌, arith, append_assoc}
use Rattle.std.specs.List.{prefix_len}
use Rattle.std.specs.Str.Parse.{digits_value}
use Rattle.std.proofs.Math.Seq.{take-append_seam, drop-append_seam}
use Rattle.std.proofs.lemmas.Bool.{lt-ltb}
use Rattle.vp_glyph.specs.Headers.{white, ends_line, digit, begins_gap, past_gap, past_comment, number_behind, header_behind}
use Rattle.vp_glyph.specs.Grammar.{Comment, Gap, none, byte, comment, Digits, IsHeader}

-- a digit ends a gap
digit_stops : (b : ℕ) → digit b ≡ true → (white b ≡ false) × (eqb b 35 ≡ false)
digit_stops b t = (grind arith, grind arith)

-- and a gap ends digits
gap_stops : (b : ℕ) → (white b || eqb b 35) ≡ true → digit b ≡ false
gap_stops b t = grind arith

past_digit : (b : ℕ) (rest : List ℕ) → digit b ≡ true → past_gap (b ∷ rest) ≡ b ∷ rest
past_digit b rest t = let s = digit_stops b t in rw (s.0, s.1) refl

comment_passed : (text : List ℕ) (b : ℕ) (rest : List ℕ) → Comment text → ends_line b ≡ true → past_comment (text ++ b ∷ rest) ≡ past_gap rest
comment_passed [] b rest c e = rw e refl
comment_passed (t ∷ text) b rest c e = let z = c 0 (omega arith) in rw z (comment_passed text b rest (λ k l. c (suc k) (omega arith)) e)

gap_passed : {gap : List ℕ} (b : ℕ) (rest : List ℕ) → Gap gap → digit b ≡ true → past_gap (gap ++ b ∷ rest) ≡ b ∷ rest
gap_passed b rest none t = past_digit b rest t
gap_passed b rest (byte c g w h) t = rw w (gap_passed b rest h t)
gap_passed b rest (comment text e g c w h) t = ap past_comment (append_assoc text (e ∷ g) (b ∷ rest)) ∙ comment_passed text e (g ++ b ∷ rest) c w ∙ gap_passed b rest h t

gap_begins : {gap : List ℕ} (rest : List ℕ) → Gap gap → 0 < length gap → begins_gap (gap ++ rest) ≡ true
gap_begins h1 h2 = grind arith

-- no digit begins a gap
no_digits : (text : List ℕ) → begins_gap text ≡ true → prefix_len digit text ≡ 0
no_digits text h1 = grind arith

white_stops : (b : ℕ) (text : List ℕ) → white b ≡ true → prefix_len digit (b ∷ text) ≡ 0
white_stops b text w = rw (gap_stops b (rw w refl)) refl

digits_all : (ds rest : List ℕ) → ((k : ℕ) → k < length ds → digit (get_or ds k 0) ≡ true) → prefix_len digit rest ≡ 0 → prefix_len digit (ds ++ rest) ≡ length ds
digits_all [] rest c e = e
digits_all (d ∷ ds) rest c e =
    let h = digits_all ds rest (λ k l. c (suc k) (omega arith)) e in
    let z = c 0 (omega arith) in
    rw z (omega (arith, h))

number_is : (gap ds rest : List ℕ) → Gap gap → 0 < length gap → Digits ds → prefix_len digit rest ≡ 0 → number_behind (gap ++ (ds ++ rest)) ≡ Some (record { value = digits_value 10 ds; rest = rest })
number_is gap [] rest g l d e = absurd (let p = d.0 in omega arith)
number_is gap (c ∷ ds) rest g l d e =
    let passed : past_gap (gap ++ ((c ∷ ds) ++ rest)) ≡ (c ∷ ds) ++ rest = gap_passed c (ds ++ rest) g (d.1 0 d.0) in
    let count : prefix_len digit ((c ∷ ds) ++ rest) ≡ length (c ∷ ds) = digits_all (c ∷ ds) rest d.1 e in
    number_from (gap ++ ((c ∷ ds) ++ rest)) ((c ∷ ds) ++ rest) (length (c ∷ ds)) (gap_begins ((c ∷ ds) ++ rest) g l) passed count d.0
    ∙ rw (take-append_seam ds rest, drop-append_seam ds rest) refl
  where
    number_from : (text past : List ℕ) (n : ℕ) → begins_gap text ≡ true → past_gap text ≡ past → prefix_len digit past ≡ n → 0 < n → number_behind text ≡ Some (record { value = digits_value 10 (take n past); rest = drop n past })
    number_from text past n b p c l = rw (p, c, b, lt-ltb 0 n l) refl

pub header_is : (text : List ℕ) (w h : ℕ) (raster : List ℕ) → IsHeader text w h raster → header_behind text ≡ Some (record { width = w; height = h; raster = raster })
header_is text w h raster f = grind (arith, number_is, white_stops, no_digits, gap_begins)
