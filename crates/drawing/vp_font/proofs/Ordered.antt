-- Codes rise from letter to letter.
use Rattle.std.proofs.Common.{◌≡◌, ◌<◌, ◌≤◌, ℕ, ◌+◌, true, Option, Some, None, List, [], ◌∷◌, ◌++◌, length, arith, sym, ap, inl, inr}
use Rattle.std.proofs.lemmas.Bool.{cases_eq}
use Rattle.std.proofs.lemmas.List.{get_or_append_left, get_or_push, length-append}
use Rattle.vp_font.specs.declared.letter.Entry.{Entry}
use Rattle.vp_font.specs.declared.state.Given.{Given}
use Rattle.vp_font.specs.declared.state.Given.TheVariants.{Nothing, Letter, Row, End}
use Rattle.vp_font.specs.Letters.{rises}
use Rattle.vp_font.specs.Fonts.{letters_with}
use Rattle.vp_font.specs.Glyphs.{code_of, Rising}
use Rattle.vp_font.specs.Orders.{Follows, reached, Below}

passes : (last : Option ℕ) (a b : ℕ) → reached last a ≡ true → rises last b ≡ true → a < b
passes None a b e r = grind arith
passes (Some l) a b e r = grind arith

within : (a b : ℕ) → a ≤ b → reached (Some b) a ≡ true
within a b l = grind arith

module _ (letters : List Entry) (e : Entry) where
  before : (i : ℕ) (d : Entry) → i < length letters → code_of (letters ++ e ∷ []) i d ≡ code_of letters i d
  before i d l = ap (λ (x : Entry). x.letter.code) (get_or_append_left letters (e ∷ []) d i l)

  at_end : (i : ℕ) (d : Entry) → length letters ≡ i → code_of (letters ++ e ∷ []) i d ≡ e.letter.code
  at_end i d l = ap (λ (x : Entry). x.letter.code) (get_or_push letters e d i l)

  one_more : length (letters ++ e ∷ []) ≡ length letters + 1
  one_more = length-append letters (e ∷ [])

  rising_one : (last : Option ℕ) → rises last e.letter.code ≡ true → Rising letters → Below last letters → Rising (letters ++ e ∷ [])
  rising_one last r h b i j d l k = elim (cases_eq j (length letters)) [
    | inl q ↦ (let p = passes last (code_of letters i d) e.letter.code (b i d (omega (arith, q))) r in
        omega (arith, before i d (omega (arith, q)), at_end j d (sym q), p))
    | inr n ↦ (let w : j < length letters = omega (arith, one_more) in omega (arith, before i d (omega arith), before j d w, h i j d l w))
  ]

  below_one : (last : Option ℕ) → rises last e.letter.code ≡ true → Below last letters → Below (Some e.letter.code) (letters ++ e ∷ [])
  below_one last r b i d l = elim (cases_eq i (length letters)) [
    | inl q ↦ within _ _ (omega (arith, at_end i d (sym q)))
    | inr n ↦ (let w : i < length letters = omega (arith, one_more) in
        let p = passes last (code_of letters i d) e.letter.code (b i d w) r in within _ _ (omega (arith, before i d w, p)))
  ]

-- what is given keeps the order
pub rising_more : (last next : Option ℕ) (given : Given) (letters : List Entry) (raster : List ℕ) → Follows last given next → Rising letters → Below last letters
    → Rising (letters_with given letters raster) × Below next (letters_with given letters raster)
rising_more last next Nothing letters raster f r b = (r, rw f b)
rising_more last next (Letter x) letters raster f r b =
    let e : Entry = record { letter = x; from = length raster } in
    (rising_one letters e last f.0 r b, rw f.1 (below_one letters e last f.0 b))
rising_more last next (Row k) letters raster f r b = (r, rw f b)
rising_more last next End letters raster f r b = (r, rw f b)

pub none_rising : (letters : List Entry) → letters ≡ [] → Rising letters
none_rising letters e i j d l k = let z : length letters ≡ 0 = ap length e in absurd (omega (arith, z))

pub none_below : (last : Option ℕ) (letters : List Entry) → letters ≡ [] → Below last letters
none_below last letters e i d l = let z : length letters ≡ 0 = ap length e in absurd (omega (arith, z))
