-- The text of an EAN-13 symbol is its digits.
use Rattle.std.proofs.Common.{◌≡◌, ℕ, zero, suc, ◌+◌, ◌-◌, ◌<◌, Bool, true, List, [], ◌∷◌, ◌++◌, length, take, replicate, get_or, refl, sym, ap, ◌∙◌, arith, Result, Ok}
use Rattle.std.proofs.lemmas.Grind.{common_steps}
use Rattle.std.specs.List.{list_all}
use Rattle.std.specs.Char.{is_ascii_digit}
use Rattle.std.proofs.lemmas.Bool.{and_parts, lt-ltb}
use Rattle.std.proofs.lemmas.List.{length-map, take-map}
use Rattle.vp_dots.specs.declared.fault.Fault.{Fault}
use Rattle.vp_bars.specs.declared.symbology.Symbology.TheVariants.{Ean13}
use Rattle.vp_bars.specs.Symbols.{Linear}
use Rattle.vp_bars.specs.Code39.{alphabet}
use Rattle.vp_bars.specs.Ean13.{ean13_check, padded, with_check, is_count, digits_of, ean13_for, ean13_of}
use Rattle.vp_bars.specs.Symbologies.{text_of}
use Rattle.vp_bars.specs.Texts.{character_of, characters}
use Rattle.vp_bars.proofs.Digits.{digit_range, ean13_twelve, ean13_none}
use Rattle.vp_bars.proofs.PlainTexts.{within_ok}

-- the first ten characters are the digits
digit_shown : (d : ℕ) → d < 10 → get_or alphabet d 0 ≡ d + 48
digit_shown d h1 = grind arith

digit_character : (d : ℕ) → d < 10 → character_of d ≡ (d + 48) ∷ []
digit_character d l = let small : d < 43 = omega arith in rw (lt-ltb d 43 small) (ap (λ n. n ∷ []) (digit_shown d l))

digits_shown : (src : List ℕ) → list_all is_ascii_digit src ≡ true → characters (digits_of src) ≡ src
digits_shown [] e = refl
digits_shown (c ∷ src) e = grind (arith, and_parts, digit_range, digit_character, digits_shown src)

all_taken : (n : ℕ) (src : List ℕ) → list_all is_ascii_digit src ≡ true → list_all is_ascii_digit (take n src) ≡ true
all_taken zero src e = refl
all_taken (suc n) [] e = refl
all_taken (suc n) (c ∷ src) e = grind (arith, and_parts, all_taken n src)

all_behind_zeros : (k : ℕ) (src : List ℕ) → list_all is_ascii_digit src ≡ true → list_all is_ascii_digit (replicate k 48 ++ src) ≡ true
all_behind_zeros zero src e = e
all_behind_zeros (suc k) src e = all_behind_zeros k src e

digits_behind_zeros : (k : ℕ) (src : List ℕ) → digits_of (replicate k 48 ++ src) ≡ replicate k 0 ++ digits_of src
digits_behind_zeros zero src = refl
digits_behind_zeros (suc k) src = ap (λ (t : List ℕ). 0 ∷ t) (digits_behind_zeros k src)

-- twelve digits, with zeros on the left where there are fewer
abbrev twelve : List ℕ → List ℕ
twelve src = take 12 (replicate (12 - length src) 48 ++ src)

twelve_padded : (src : List ℕ) → padded true (digits_of src) ≡ digits_of (twelve src)
twelve_padded src =
    ap (λ n. take 12 (replicate (12 - n) 0 ++ digits_of src)) (length-map src (λ c. c - 48))
    ∙ ap (λ (ds : List ℕ). take 12 ds) (sym (digits_behind_zeros (12 - length src) src))
    ∙ take-map (λ c. c - 48) 12 (replicate (12 - length src) 48 ++ src)

checked_shown : (ds : List ℕ) → characters (with_check ds) ≡ characters ds ++ (ean13_check ds + 48) ∷ []
checked_shown ds = grind (arith, common_steps)

module _ (src : List ℕ) (pad : Bool) (bars : Linear) where
  twelve_shown : list_all is_ascii_digit src ≡ true → ◌≡◌ {A = Result Linear Fault} (Ok (record { symbology = Ean13; values = with_check (padded true (digits_of src)) })) (Ok bars)
      → text_of bars ≡ twelve src ++ (ean13_check (digits_of (twelve src)) + 48) ∷ []
  unfolding text_of
  twelve_shown digits e =
      rw (sym (ok_same e)) (
      checked_shown (padded true (digits_of src))
      ∙ ap (λ ds. characters ds ++ (ean13_check ds + 48) ∷ []) (twelve_padded src)
      ∙ ap (λ (t : List ℕ). t ++ (ean13_check (digits_of (twelve src)) + 48) ∷ []) (digits_shown (twelve src) (all_taken 12 (replicate (12 - length src) 48 ++ src) (all_behind_zeros (12 - length src) src digits))))
    where
      ok_same : {x y : Linear} → ◌≡◌ {A = Result Linear Fault} (Ok x) (Ok y) → x ≡ y
      ok_same h = cc

  made : (d c : Bool) → list_all is_ascii_digit src ≡ d → is_count (length src) pad ≡ c → ean13_for src pad ≡ Ok bars
      → text_of bars ≡ twelve src ++ (ean13_check (digits_of (twelve src)) + 48) ∷ []
  made d c h1 h2 h3 = grind (arith, twelve_shown, ean13_twelve, ean13_none)

  pub ean13_text : ean13_of src pad ≡ Ok bars → text_of bars ≡ twelve src ++ (ean13_check (digits_of (twelve src)) + 48) ∷ []
  ean13_text e = made (list_all is_ascii_digit src) (is_count (length src) pad) refl refl (within_ok src (ean13_for src pad) bars e)
