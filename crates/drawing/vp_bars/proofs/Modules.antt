-- The modules of EAN-13 as bars and spaces.
use Rattle.std.proofs.lemmas.Bool.Decides.{nat_tests}
use Rattle.std.proofs.Common.{◌≡◌, ℕ, zero, suc, ◌+◌, ◌-◌, ◌*◌, Bool, true, false, not, cond, eqb, ltb, List, [], ◌∷◌, ◌++◌, length, map, reverse, replicate, refl, sym, ap, ◌∙◌, append_assoc, arith}
use Rattle.std.specs.List.{flat_map}
use Rattle.std.proofs.lemmas.Bool.{le-ltb}
use Rattle.std.proofs.lemmas.List.{length-append, length-replicate}
use Rattle.vp_bars.specs.Patterns.{set_a_table, set_a, set_b, set_c}
use Rattle.vp_bars.specs.Elements.{set_a_widths, set_a_elements, set_b_elements, left_elements_of, left_elements, ean13_elements}
use Rattle.vp_bars.specs.Widths.{left_modules, ean13_modules, in_bar, in_module, total}
use Rattle.vp_bars.proofs.Tables.{mapped_row, each_row}

-- the modules of bars and spaces in turn
abbrev expand : Bool → List ℕ → List ℕ
expand bar [] = []
expand bar (w ∷ ws) = replicate w (cond bar 1 0) ++ expand (not bar) ws

-- what comes behind them
abbrev behind : Bool → List ℕ → Bool
behind bar [] = bar
behind bar (w ∷ ws) = behind (not bar) ws

expand_append : (bar : Bool) (us vs : List ℕ) → expand bar (us ++ vs) ≡ expand bar us ++ expand (behind bar us) vs
expand_append bar [] vs = refl
expand_append bar (u ∷ us) vs = ap (λ ms. replicate u (cond bar 1 0) ++ ms) (expand_append (not bar) us vs) ∙ sym (append_assoc (replicate u (cond bar 1 0)) _ _)

behind_append : (bar : Bool) (us vs : List ℕ) → behind bar (us ++ vs) ≡ behind (behind bar us) vs
behind_append bar [] vs = refl
behind_append bar (u ∷ us) vs = behind_append (not bar) us vs

-- the digits in each set
set_a_is : (d : ℕ) → expand false (set_a_elements d) ≡ set_a d
set_a_is d = sym (mapped_row (expand false) set_a_widths d)

set_c_is : (d : ℕ) → expand true (set_a_elements d) ≡ set_c d
set_c_is d = sym (mapped_row (expand true) set_a_widths d) ∙ mapped_row (λ ms. map (λ m. 1 - m) ms) set_a_table d

set_b_is : (d : ℕ) → expand false (set_b_elements d) ≡ set_b d
set_b_is d = sym (mapped_row (λ ws. expand false (reverse ws)) set_a_widths d) ∙ mapped_row (λ ms. reverse (map (λ m. 1 - m) ms)) set_a_table d

true_of : (b : Bool) → not b ≡ true → b ≡ false
true_of b h1 = grind arith

set_a_even : (d : ℕ) → behind false (set_a_elements d) ≡ false
set_a_even d = true_of _ (each_row (λ ws. not (behind false ws)) set_a_widths d refl refl)

set_b_even : (d : ℕ) → behind false (set_b_elements d) ≡ false
set_b_even d = true_of _ (each_row (λ ws. not (behind false (reverse ws))) set_a_widths d refl refl)

set_c_even : (d : ℕ) → behind true (set_a_elements d) ≡ true
set_c_even d = each_row (λ ws. behind true ws) set_a_widths d refl refl

digit_is : (set d : ℕ) (b : Bool) → expand false (cond b (set_a_elements d) (set_b_elements d)) ≡ cond b (set_a d) (set_b d)
digit_is set d b = grind (arith, set_a_is, set_b_is)

digit_even : (set d : ℕ) (b : Bool) → behind false (cond b (set_a_elements d) (set_b_elements d)) ≡ false
digit_even set d b = grind (arith, set_a_even, set_b_even)

left_is : (sets ds : List ℕ) → expand false (left_elements sets ds) ≡ left_modules sets ds
left_is [] ds = refl
left_is (s ∷ sets) [] = refl
left_is (s ∷ sets) (d ∷ ds) = rw (expand_append, digit_even s d (eqb s 0), digit_is s d (eqb s 0), left_is sets ds) refl

left_even : (sets ds : List ℕ) → behind false (left_elements sets ds) ≡ false
left_even [] ds = refl
left_even (s ∷ sets) [] = refl
left_even (s ∷ sets) (d ∷ ds) = behind_append false (left_elements_of s d) (left_elements sets ds) ∙ ap (λ b. behind b (left_elements sets ds)) (digit_even s d (eqb s 0)) ∙ left_even sets ds

right_is : (ds : List ℕ) → expand true (flat_map set_a_elements ds) ≡ flat_map set_c ds
right_is [] = refl
right_is (d ∷ ds) = rw (expand_append, set_c_even d, set_c_is d, right_is ds) refl

right_even : (ds : List ℕ) → behind true (flat_map set_a_elements ds) ≡ true
right_even [] = refl
right_even (d ∷ ds) = behind_append true (set_a_elements d) (flat_map set_a_elements ds) ∙ ap (λ b. behind b (flat_map set_a_elements ds)) (set_c_even d) ∙ right_even ds

pub ean13_is : (vs : List ℕ) → expand true (ean13_elements vs) ≡ ean13_modules vs
ean13_is vs = grind (arith, expand_append, left_even, left_is, right_even, right_is)

module _ (n : ℕ) where
  -- the place lies in the first modules, or behind them
  stretch : (k m : ℕ) (ms : List ℕ) (x : ℕ) → in_module n (replicate k m ++ ms) x ≡ cond (ltb x (k * n)) (eqb m 1) (in_module n ms (x - k * n))
  stretch zero m ms x = let z : 0 * n ≡ 0 = omega arith in let y : x - 0 ≡ x = omega arith in rw (z, y, le-ltb x 0 (omega arith)) refl
  stretch (suc k) m ms x = grind (arith, nat_tests, stretch k m ms (x - n))

  is_one : (b : Bool) → eqb (cond b 1 0) 1 ≡ b
  is_one b = grind arith

  bars_are : (bar : Bool) (ws : List ℕ) (x : ℕ) → in_module n (expand bar ws) x ≡ in_bar bar (map (λ w. w * n) ws) x
  bars_are bar [] x = refl
  bars_are bar (w ∷ ws) x = stretch w (cond bar 1 0) (expand (not bar) ws) x ∙ ap (λ b. cond (ltb x (w * n)) b (in_module n (expand (not bar) ws) (x - w * n))) (is_one bar)
      ∙ ap (λ b. cond (ltb x (w * n)) bar b) (bars_are (not bar) ws (x - w * n))

  widths_are : (bar : Bool) (ws : List ℕ) → length (expand bar ws) * n ≡ total (map (λ w. w * n) ws)
  widths_are bar [] = omega arith
  widths_are bar (w ∷ ws) =
      let l : length (expand bar (w ∷ ws)) ≡ w + length (expand (not bar) ws) = length-append (replicate w (cond bar 1 0)) (expand (not bar) ws) ∙ ap (λ k. k + length (expand (not bar) ws)) (length-replicate w (cond bar 1 0)) in
      ap (λ k. k * n) l ∙ omega (arith, widths_are (not bar) ws)

  pub ean13_bars : (vs : List ℕ) (x : ℕ) → in_module n (ean13_modules vs) x ≡ in_bar true (map (λ w. w * n) (ean13_elements vs)) x
  ean13_bars vs x = ap (λ ms. in_module n ms x) (sym (ean13_is vs)) ∙ bars_are true (ean13_elements vs) x

  pub ean13_width : (vs : List ℕ) → length (ean13_modules vs) * n ≡ total (map (λ w. w * n) (ean13_elements vs))
  ean13_width vs = ap (λ ms. length ms * n) (sym (ean13_is vs)) ∙ widths_are true (ean13_elements vs)
