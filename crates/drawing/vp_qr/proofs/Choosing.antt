-- The least penalty, and symbols that differ only where no data stands.
use Rattle.std.proofs.Common.{◌≡◌, ℕ, zero, suc, ◌-◌, ◌<◌, ◌≤◌, ◌&&◌, Bool, true, false, eqb, leb, cond, List, [], ◌∷◌, length, get_or, map, refl, sym, ap, ◌∙◌, inl, inr, arith}
use Rattle.std.specs.List.{list_all, position_or_len}
use Rattle.std.proofs.lemmas.Bool.{lt-leb, le-leb, cases_lt}
use Rattle.std.proofs.lemmas.List.{ext_get_or}
use Rattle.std.proofs.lemmas.List.Sums.{position_or_len_is, fails_before_first}
use Rattle.vp_qr.specs.Places.{size, corner, alignment, version_area, reserved}
use Rattle.vp_qr.specs.Walk.{dark}
use Rattle.vp_qr.specs.Symbol.{finder, module_at, differ, formula}
use Rattle.vp_qr.specs.declared.level.Level.{Level}
use Rattle.vp_qr.specs.declared.symbol.Grid.{Grid}
use Rattle.vp_qr.specs.Grids.{IsGridOf}
use Rattle.vp_qr.specs.Codes.{format_code, version_code}
use Rattle.vp_qr.specs.Encoding.{least_place, masks, masked, best_mask}

all_least : (x : ℕ) (xs : List ℕ) → ((m : ℕ) → m < length xs → x ≤ get_or xs m 0) → list_all (leb x) xs ≡ true
all_least x [] h = refl
all_least x (y ∷ ys) h =
    ap (λ b. b && list_all (leb x) ys) (le-leb x y (h 0 (omega arith))) ∙ all_least x ys (λ m lt. h (suc m) (omega arith))

not_least : (x : ℕ) (xs : List ℕ) (b : ℕ) → b < length xs → get_or xs b 0 < x → list_all (leb x) xs ≡ false
not_least x [] b lt h = absurd (omega arith)
not_least x (y ∷ ys) zero lt h = ap (λ t. t && list_all (leb x) ys) (lt-leb x y h)
not_least x (y ∷ ys) (suc b) lt h = grind (arith, not_least x ys b)

pub least_place_is : (xs : List ℕ) (b : ℕ) → b < length xs → ((m : ℕ) → m < length xs → get_or xs b 0 ≤ get_or xs m 0) → ((m : ℕ) → m < b → get_or xs b 0 < get_or xs m 0) → b ≡ least_place xs
unfolding least_place
least_place_is xs b lt least lowest = grind (arith, all_least, not_least, position_or_len_is)

-- the penalties of the eight masks
pub penalties_are : (penalties : List ℕ) (f : ℕ → ℕ) → length penalties ≡ 8 → ((k : ℕ) → k < 8 → get_or penalties k 0 ≡ f k) → penalties ≡ map f masks
penalties_are penalties f e h = grind (arith, ext_get_or 0 penalties (map f masks))

-- what is tested last counts only where no test before it holds
last_only : (a b c d e f g : Bool) (p q r s t u v x y : Bool)
    → (b ≡ false → c ≡ false → d ≡ false → e ≡ false → g ≡ false → x ≡ y)
    → cond a p (cond b q (cond c r (cond d s (cond e t (cond f u (cond g v x)))))) ≡ cond a p (cond b q (cond c r (cond d s (cond e t (cond f u (cond g v y))))))
last_only a b c d e f g p q r s t u v x y h = grind arith

no_reserve : (v i j : ℕ) → eqb i 6 ≡ false → eqb j 6 ≡ false → alignment v i j ≡ false → version_area v i j ≡ false → corner (size v) i j ≡ false → reserved v i j ≡ false
unfolding reserved
no_reserve v i j a b c d e = grind arith

-- a module depends on the data only where it isn't reserved
pub module_same : (v format code m : ℕ) (f g : ℕ → ℕ → Bool) (i j : ℕ) → (reserved v i j ≡ false → f i j ≡ g i j) → module_at v format code m f i j ≡ module_at v format code m g i j
unfolding module_at
module_same v format code m f g i j h =
    let s : ℕ = size v in
    last_only (finder s i j) (eqb i 6) (eqb j 6) (alignment v i j) (version_area v i j) (eqb i (s - 8) && eqb j 8) (corner s i j) _ _ _ _ _ _ _
    (differ (f i j) (eqb (formula m i j) 0)) (differ (g i j) (eqb (formula m i j) 0))
    (λ a b c d e. ap (λ t. differ t (eqb (formula m i j) 0)) (h (no_reserve v i j a b c d e)))

-- the finished modules, taken from the placed data or from the codewords
pub same_modules : (level : Level) (m : ℕ) (codewords : List ℕ) (grid : Grid) → IsGridOf codewords grid → (i j : ℕ) → i < size grid.version → j < size grid.version
    → module_at grid.version (format_code level m) (version_code grid.version) m (dark grid.unmasked) i j ≡ masked level grid.version codewords m i j
unfolding masked
same_modules level m codewords grid of i j hi hj = grind (arith, module_same)

-- number b of a list is the least
record IsLeast (xs : List ℕ) (b : ℕ) : Type 0 where
  below : b < length xs
  least : (m : ℕ) → m < length xs → get_or xs b 0 ≤ get_or xs m 0

least_first : (x : ℕ) (xs : List ℕ) (b : ℕ) → IsLeast xs b → x < get_or xs b 0 → IsLeast (x ∷ xs) 0
least_first x xs b h lt = grind arith

least_later : (x : ℕ) (xs : List ℕ) (b : ℕ) → IsLeast xs b → get_or xs b 0 ≤ x → IsLeast (x ∷ xs) (suc b)
least_later x xs b h le = grind arith

-- some number of a list that isn't empty is
least_stands : (x : ℕ) (xs : List ℕ) → (b : ℕ) × IsLeast (x ∷ xs) b
least_stands x [] = (0, record { below = omega arith; least = λ (m : ℕ) (h : m < 1). let e : m ≡ 0 = omega arith in rw e (omega arith) })
least_stands x (y ∷ ys) =
    let rest = least_stands y ys in
    elim (cases_lt x (get_or (y ∷ ys) rest.0 0)) [
      | inl lt ↦ (0, least_first x (y ∷ ys) rest.0 rest.1 lt)
      | inr le ↦ (suc rest.0, least_later x (y ∷ ys) rest.0 rest.1 le)
    ]

least_place_below : (x : ℕ) (xs : List ℕ) → least_place (x ∷ xs) < length (x ∷ xs)
unfolding least_place
least_place_below x xs =
    let p : ℕ → Bool = λ n. list_all (leb n) (x ∷ xs) in
    let least = least_stands x xs in
    elim (cases_lt least.0 (position_or_len p (x ∷ xs))) [
      | inl lt ↦
          absurd (true_is_not_false (sym (all_least (get_or (x ∷ xs) least.0 0) (x ∷ xs) least.1.least) ∙ fails_before_first p (x ∷ xs) least.0 0 lt))
      | inr le ↦ omega (arith, least.1.below, le)
    ]
  where
    true_is_not_false : true ≡ false → ⊥
    true_is_not_false e = cc

-- the mask that is chosen is one of the eight
pub best_below : (level : Level) (v : ℕ) (words : List ℕ) → best_mask level v words < 8
unfolding best_mask
best_below level v words = least_place_below _ _
