-- Each module of a codeword has one place: what is found at each place, and where each module is found.
use Rattle.std.proofs.Common.{◌≡◌, ℕ, ◌+◌, ◌-◌, ◌*◌, ◌/◌, ◌%◌, ◌<◌, ◌&&◌, Bool, true, false, eqb, ltb, cond, get_or, refl, sym, ap, ◌∙◌, arith, Option, Some, None, unwrap_or}
use Rattle.std.proofs.lemmas.Bool.{and_parts, eqb-true, ltb-true}
use Rattle.vp_maxicode.proofs.Passes.{passes_below, passes_at}
use Rattle.vp_maxicode.specs.declared.place.TheConstants.{SCATTERED, BLOCKS}
use Rattle.vp_maxicode.specs.Places.{across, first_from, scattered, number_at, HavePlaces}

-- where module n lies, by 30 times its row and its column
abbrev block_of : ℕ → ℕ
block_of word = unwrap_or (first_from (λ k. eqb (get_or BLOCKS k 0) word) 0 154) 0

abbrev in_block : ℕ → ℕ → ℕ
in_block i b = 30 * (3 * (i / 14) + b / 2) + (2 * (i % 14) + (1 - b % 2))

abbrev on_edge : ℕ → ℕ
on_edge m = 30 * (2 * (m / 3) + 1 + cond (eqb (m % 3) 0) 0 1) + (28 + cond (eqb (m % 3) 1) 1 0)

unfoldable place_of : ℕ → ℕ
place_of n =
    cond (ltb n 54) (get_or SCATTERED n 0)
    (cond (ltb n 816) (in_block (block_of (n / 6 + 1)) (n % 6)) (on_edge (n - 816)))

-- a module is found where it lies
abbrev is_found : ℕ → Option ℕ → Bool
is_found p None = true
is_found p (Some n) = ltb n 864 && eqb (place_of n) p

abbrev holds : ℕ → ℕ → Bool
holds row column = is_found (30 * row + column) (number_at row column)

abbrev row_holds : ℕ → Bool
row_holds row = passes_below (across row) (holds row)

every_place : passes_below 33 row_holds ≡ true
unfolding number_at scattered place_of
every_place = refl

-- where it lies it is found
abbrev is_number : ℕ → Option ℕ → Bool
is_number n None = false
is_number n (Some k) = eqb k n

abbrev lies : ℕ → Bool
lies n =
    let p = place_of n in
    ltb (p / 30) 33 && (ltb (p % 30) (across (p / 30)) && is_number n (number_at (p / 30) (p % 30)))

every_module : passes_below 864 lies ≡ true
unfolding number_at scattered place_of
every_module = refl

-- at a place of the symbol
found_at : (row column n : ℕ) → row < 33 → column < across row → number_at row column ≡ Some n
    → (n < 864) × (place_of n ≡ 30 * row + column)
found_at row column n lr lc e =
    let all = passes_at (across row) (holds row) (passes_at 33 row_holds every_place row lr) column lc in
    let p = and_parts _ _ (ap (is_found (30 * row + column)) (sym e) ∙ all) in
    (ltb-true _ _ p.0, eqb-true _ _ p.1)

number_is : (n : ℕ) (o : Option ℕ) → is_number n o ≡ true → o ≡ Some n
number_is n None h = grind arith
number_is n (Some k) h = ap Some (eqb-true _ _ h)

lies_at : (n : ℕ) → n < 864 → (row : ℕ) × (column : ℕ) × (row < 33) × (column < across row) × (number_at row column ≡ Some n)
lies_at n lt =
    let h = and_parts _ _ (passes_at 864 lies every_module n lt) in
    let i = and_parts _ _ h.1 in
    (place_of n / 30, place_of n % 30, ltb-true _ _ h.0, ltb-true _ _ i.0, number_is n _ i.1)

same_place : (row column r c p : ℕ) → column < across row → c < across r → p ≡ 30 * row + column → p ≡ 30 * r + c → (row ≡ r) × (column ≡ c)
same_place row column r c p lc l e f = (omega arith, omega arith)

pub have_places : HavePlaces
have_places = record {
  within = λ (row column n : ℕ) lr lc e. (found_at row column n lr lc e).0;
  one = lies_at;
  own = λ (row column r c n : ℕ) lr lc l m e f. same_place row column r c (place_of n) lc m (found_at row column n lr lc e).1 (found_at r c n l m f).1;
}
