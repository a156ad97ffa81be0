-- What is read as a header has the form of one.
use Rattle.std.proofs.Common.{◌≡◌, ℕ, ◌<◌, true, false, eqb, List, [], ◌∷◌, ◌++◌, Option, Some, None, length, length-take, take, drop, refl, sym, ap, ◌∙◌, arith, append_assoc, inl, inr}
use Rattle.std.specs.List.{prefix_len}
use Rattle.std.specs.Str.Parse.{digits_value}
use Rattle.std.proofs.lemmas.Bool.{cases_Bool}
use Rattle.std.proofs.lemmas.List.{take-append-drop}
use Rattle.std.proofs.lemmas.List.Sums.{prefix_len-le-length}
use Rattle.vp_glyph.specs.Headers.{white, ends_line, digit, begins_gap, past_gap, past_comment, Number, number_behind, Header, header_behind, behind_white}
use Rattle.vp_glyph.specs.Grammar.{Comment, Gap, none, byte, comment, Digits, IsHeader}
use Rattle.vp_glyph.proofs.Numbers.{digits_counted}

-- a gap, and then what stands behind it
record Behind (text : List ℕ) (b : ℕ) (rest : List ℕ) : Type 0 where
  gap : List ℕ
  is_gap : Gap gap
  parts : text ≡ gap ++ b ∷ rest

-- the rest of a comment, and then a gap
record BehindComment (text : List ℕ) (b : ℕ) (rest : List ℕ) : Type 0 where
  body : List ℕ
  end : ℕ
  gap : List ℕ
  is_comment : Comment body
  ends : ends_line end ≡ true
  is_gap : Gap gap
  parts : text ≡ body ++ end ∷ (gap ++ b ∷ rest)

one_more : (c : ℕ) (body : List ℕ) → ends_line c ≡ false → Comment body → Comment (c ∷ body)
one_more c body h1 h2 = grind arith

comment_behind : (c : ℕ) (text : List ℕ) (b : ℕ) (rest : List ℕ) → c ≡ 35 → BehindComment text b rest → Behind (c ∷ text) b rest
comment_behind c text b rest e h = record {
  gap = 35 ∷ (h.body ++ h.end ∷ h.gap);
  is_gap = comment h.body h.end h.gap h.is_comment h.ends h.is_gap;
  parts = ap (λ (t : List ℕ). c ∷ t) h.parts ∙ ap (λ n. n ∷ (h.body ++ h.end ∷ (h.gap ++ b ∷ rest))) e
      ∙ ap (λ (t : List ℕ). 35 ∷ t) (sym (append_assoc h.body (h.end ∷ h.gap) (b ∷ rest)));
}

mutual
  behind_gap : (text : List ℕ) (b : ℕ) (rest : List ℕ) → past_gap text ≡ b ∷ rest → Behind text b rest
  behind_gap [] b rest e = cc
  behind_gap (c ∷ text) b rest e = elim (cases_Bool (white c)) [
    | inl w ↦
        let h = behind_gap text b rest (rw w at e) in
        record { gap = c ∷ h.gap; is_gap = byte c h.gap w h.is_gap; parts = ap (λ (t : List ℕ). c ∷ t) h.parts }
    | inr n ↦ elim (cases_Bool (eqb c 35)) [
      | inl s ↦ let is : c ≡ 35 = grind arith in comment_behind c text b rest is (behind_comment text b rest (rw (n, s) at e))
      | inr o ↦ let same : c ∷ text ≡ b ∷ rest = rw (n, o) at e in record { gap = []; is_gap = none; parts = same }
    ]
  ]

  behind_comment : (text : List ℕ) (b : ℕ) (rest : List ℕ) → past_comment text ≡ b ∷ rest → BehindComment text b rest
  behind_comment [] b rest e = cc
  behind_comment (c ∷ text) b rest e = elim (cases_Bool (ends_line c)) [
    | inl w ↦
        let h = behind_gap text b rest (rw w at e) in
        record {
          body = [];
          end = c;
          gap = h.gap;
          is_comment = λ k l. absurd (omega arith);
          ends = w;
          is_gap = h.is_gap;
          parts = ap (λ (t : List ℕ). c ∷ t) h.parts;
        }
    | inr n ↦
        let h = behind_comment text b rest (rw n at e) in
        record {
          body = c ∷ h.body;
          end = h.end;
          gap = h.gap;
          is_comment = one_more c h.body n h.is_comment;
          ends = h.ends;
          is_gap = h.is_gap;
          parts = ap (λ (t : List ℕ). c ∷ t) h.parts;
        }
  ]

-- a number behind a gap, and what stands behind it
record IsNumber (text : List ℕ) (number : Number) : Type 0 where
  gap : List ℕ
  digits : List ℕ
  is_gap : (0 < length gap) × Gap gap
  are_digits : Digits digits
  parts : text ≡ gap ++ (digits ++ number.rest)
  value : number.value ≡ digits_value 10 digits

first_digit : (past : List ℕ) → 0 < prefix_len digit past → (b : ℕ) × (rest : List ℕ) × (past ≡ b ∷ rest) × (digit b ≡ true)
first_digit [] l = absurd (omega arith)
first_digit (b ∷ rest) l = elim (cases_Bool (digit b)) [ inl y ↦ (b, rest, refl, y) | inr n ↦ absurd (let z : 0 < 0 = rw n at l in omega arith) ]

digit_begins_no_gap : (b : ℕ) (rest : List ℕ) → digit b ≡ true → begins_gap (b ∷ rest) ≡ false
digit_begins_no_gap b rest t = grind arith

no_gap : (b : ℕ) (rest gap : List ℕ) → begins_gap (b ∷ rest) ≡ false → begins_gap (gap ++ b ∷ rest) ≡ true → 0 < length gap
no_gap b rest [] n e = cc
no_gap b rest (c ∷ gap) n e = omega arith

-- the digits behind a gap, as a number
abbrev told : List ℕ → Number
told text = let past = past_gap text in let n = prefix_len digit past in record { value = digits_value 10 (take n past); rest = drop n past }

told_is : (text : List ℕ) → begins_gap text ≡ true → 0 < prefix_len digit (past_gap text) → IsNumber text (told text)
told_is text g l =
    let past : List ℕ = past_gap text in
    let n : ℕ = prefix_len digit (past_gap text) in
    let front = first_digit past l in
    let behind = behind_gap text front.0 front.1 front.2 in
    let begins : begins_gap (behind.gap ++ front.0 ∷ front.1) ≡ true = ap begins_gap (sym behind.parts) ∙ g in
    let some : 0 < length (take n past) = rw (length-take n past) (omega (arith, prefix_len-le-length digit past)) in
    record {
      gap = behind.gap;
      digits = take n past;
      is_gap = (no_gap front.0 front.1 behind.gap (digit_begins_no_gap front.0 front.1 front.3) begins, behind.is_gap);
      are_digits = (some, λ k h. digits_counted past n k refl h);
      parts = behind.parts ∙ ap (λ (t : List ℕ). behind.gap ++ t) (sym front.2 ∙ sym (take-append-drop n past));
      value = refl;
    }

number_read : (text : List ℕ) (number : Number) → number_behind text ≡ Some number → IsNumber text number
number_read text number e = grind (arith, told_is)

-- a white byte, and then the raster
white_read : (text raster : List ℕ) → behind_white text ≡ Some raster → (b : ℕ) × (white b ≡ true) × (text ≡ b ∷ raster)
white_read text raster h1 = grind arith

by_height : (text : List ℕ) (first : Number) (header : Header) → IsNumber text first → (o : Option Number) → number_behind first.rest ≡ o
    → (second : Number) → o ≡ Some second → (raster : List ℕ) → behind_white second.rest ≡ Some raster
    → header ≡ record { width = first.value; height = second.value; raster = raster }
    → IsHeader text header.width header.height header.raster
by_height text first header f o e second s raster w h =
    let n = number_read first.rest second (e ∙ s) in
    let last = white_read second.rest raster w in
    rw h (record {
      before_width = f.gap;
      width_digits = f.digits;
      before_height = n.gap;
      height_digits = n.digits;
      last = last.0;
      parts_are = f.parts ∙ ap (λ (t : List ℕ). f.gap ++ (f.digits ++ t)) (n.parts ∙ ap (λ (t : List ℕ). n.gap ++ (n.digits ++ t)) last.2);
      first_gap = f.is_gap;
      first_number = f.are_digits;
      second_gap = n.is_gap;
      second_number = n.are_digits;
      last_white = last.1;
      width_is = f.value;
      height_is = n.value;
    })

pub header_only : (text : List ℕ) (width height : ℕ) (raster : List ℕ)
    → header_behind text ≡ Some (record { width = width; height = height; raster = raster }) → IsHeader text width height raster
header_only text width height raster e = by_first (number_behind text) refl
  where
    by_white : (first second : Number) → number_behind text ≡ Some first → number_behind first.rest ≡ Some second
        → (o : Option (List ℕ)) → behind_white second.rest ≡ o → IsHeader text width height raster
    by_white first second a b None c = let none : ◌≡◌ {A = Option Header} None (Some (record { width = width; height = height; raster = raster })) = rw (a, b, c) at e in cc
    by_white first second a b (Some rest) c =
        let some : ◌≡◌ {A = Option Header} (Some (record { width = first.value; height = second.value; raster = rest })) (Some (record { width = width; height = height; raster = raster })) = rw (a, b, c) at e in
        by_height text first (record { width = width; height = height; raster = raster }) (number_read text first a) (Some second) b second refl rest c (cc)

    by_second : (first : Number) → number_behind text ≡ Some first → (o : Option Number) → number_behind first.rest ≡ o → IsHeader text width height raster
    by_second first a None b = let none : ◌≡◌ {A = Option Header} None (Some (record { width = width; height = height; raster = raster })) = rw (a, b) at e in cc
    by_second first a (Some second) b = by_white first second a b (behind_white second.rest) refl

    by_first : (o : Option Number) → number_behind text ≡ o → IsHeader text width height raster
    by_first None a = let none : ◌≡◌ {A = Option Header} None (Some (record { width = width; height = height; raster = raster })) = rw a at e in cc
    by_first (Some first) a = by_second first a (number_behind first.rest) refl
