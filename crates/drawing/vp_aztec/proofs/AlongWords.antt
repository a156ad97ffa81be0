-- Columns and rows of the layers.
use Rattle.std.proofs.Common.{◌≡◌, ℕ, ◌+◌, ◌-◌, ◌*◌, ◌/◌, ◌%◌, ◌<◌, ◌≤◌, Bool, true, false, ◌||◌, max, eqb, cond, ltb, refl, sym, ap, subst, ◌∙◌, arith, ◌⊎◌, inl, inr}
use Rattle.std.proofs.lemmas.Bool.{lt-ltb, le-ltb, cases_lt}
use Rattle.std.proofs.Math.Nat.{mul_comm, mul_assoc}
use Rattle.vp_aztec.specs.declared.size.Size.{Size}
use Rattle.vp_aztec.specs.Places.{side, centre, far, along, layer_of, bit_place, place_of, IsInLayers, HaveBits}
use Rattle.vp_aztec.proofs.OwnBits.{before, place_within, place_own}

-- a column where those of the grid are left out
abbrev skipped : ℕ → ℕ → ℕ → ℕ
skipped c h x = cond (ltb x c) (h - (far x c - far x c / 16)) (h + (far x c - far x c / 16) - 1)

abbrev on_a_side : ℕ → ℕ → ℕ → ℕ → Type 0
on_a_side c h x a = ((x < c) × (a ≡ h - ((c - x) - (c - x) / 16))) ⊎ ((c ≤ x) × (a ≡ h + ((x - c) - (x - c) / 16) - 1))

skipped_side : (c h x : ℕ) → on_a_side c h x (skipped c h x)
skipped_side c h x = by_order (cases_lt x c)
  where
    by_order : (x < c) ⊎ (c ≤ x) → on_a_side c h x (skipped c h x)
    by_order (inl lt) =
        let e : far x c ≡ c - x = omega arith in
        inl (lt, rw (lt-ltb x c lt, e) refl)
    by_order (inr le) =
        let e : far x c ≡ x - c = omega arith in
        inr (le, rw (le-ltb x c le, e) refl)

sides_same : (c h g x v a : ℕ) → c ≡ h + g → 15 * g + 1 ≤ h → x ≤ 2 * c → v ≤ 2 * c → 0 < far x c % 16 → 0 < far v c % 16
    → on_a_side c h x a → on_a_side c h v a → x ≡ v
sides_same c h g x v a e f lx lv ox ov p q = grind arith

side_below : (c h g x a : ℕ) → c ≡ h + g → 15 * g + 1 ≤ h → x ≤ 2 * c → 0 < far x c % 16 → on_a_side c h x a → a < 2 * h
side_below c h g x a e f lx ox p = grind arith

-- what is outside in the symbol is so among the layers
abbrev is_outside : ℕ → ℕ → ℕ → Type 0
is_outside b n u = (u < 2 * n) ⊎ (b ≤ u + 2 * n)

side_outside : (c h g n x a : ℕ) → c ≡ h + g → 15 * g + 1 ≤ h → h ≡ 2 * n + 7 → x ≤ 2 * c → 7 < far x c → on_a_side c h x a → is_outside (4 * n + 14) n a
side_outside c h g n x a e f m lx o p = grind arith

layer_below : (b n u v : ℕ) → u < b → v < b → is_outside b n u ⊎ is_outside b n v → layer_of b u v < n
layer_below b n u v lu lv o = grind arith

max_sides : (n a b : ℕ) → n < max a b → (n < a) ⊎ (n < b)
max_sides n a b h = grind arith

compact_outside : (n x : ℕ) → x < 4 * n + 11 → 5 < far x (2 * n + 5) → is_outside (4 * n + 11) n x
compact_outside n x lx h = grind arith

both_off : (p q : ℕ) → (eqb p 0 || eqb q 0) ≡ false → (0 < p) × (0 < q)
both_off p q h = grind arith

-- how many bits the layers hold
capacity_is : (n t k : ℕ) → 4 * n + t - 2 * n ≡ k → before (4 * n + t) n ≡ n * (8 * k)
capacity_is n t k e = ap (λ (m : ℕ). 8 * n * m) e ∙ ap (λ (m : ℕ). m * k) (mul_comm 8 n) ∙ mul_assoc n 8 k

-- a compact symbol of n layers
compact_layer : (n x y : ℕ) → IsInLayers record { compact = true; layers = n } x y → layer_of (4 * n + 11) x y < n
compact_layer n x y h =
    let e : (4 * n + 11) / 2 ≡ 2 * n + 5 = omega arith in
    layer_below (4 * n + 11) n x y h.column h.row (by_sides (max_sides 5 (far x (2 * n + 5)) (far y (2 * n + 5)) (subst (λ (c : ℕ). 5 < max (far x c) (far y c)) e h.outside)))
  where
    by_sides : (5 < far x (2 * n + 5)) ⊎ (5 < far y (2 * n + 5)) → is_outside (4 * n + 11) n x ⊎ is_outside (4 * n + 11) n y
    by_sides (inl m) = inl (compact_outside n x h.column m)
    by_sides (inr m) = inr (compact_outside n y h.row m)

compact_bits : (n : ℕ) → HaveBits record { compact = true; layers = n }
unfolding along
compact_bits n = record {
  within = λ (x y : ℕ) h.
      let few = place_within (4 * n + 11) n x y (omega arith) h.column h.row (compact_layer n x y h) in
      let all : n * (8 * (2 * n + 11)) ≡ n * (88 + 16 * n) = ap (λ (k : ℕ). n * k) (let o : 8 * (2 * n + 11) ≡ 88 + 16 * n = omega arith in o) in
      subst (λ (k : ℕ). bit_place (4 * n + 11) x y < k) (capacity_is n 11 (2 * n + 11) (omega arith) ∙ all) few;
  own = λ (x y v w : ℕ) h k e.
      place_own (4 * n + 11) n x y v w (omega arith) h.column h.row k.column k.row (compact_layer n x y h) (compact_layer n v w k) e;
}

-- a full one, whose sides have g columns of the grid on each side of the middle one
abbrev grid_columns : ℕ → ℕ
grid_columns n = (2 * n + 6) / 15

abbrev middle : ℕ → ℕ
middle n = 2 * n + 7 + grid_columns n

centre_is : (n : ℕ) → centre record { compact = false; layers = n } ≡ middle n
centre_is n = omega arith

half_is : (n : ℕ) → (4 * n + 14) / 2 ≡ 2 * n + 7
half_is n = omega arith

side_is : (n : ℕ) → side record { compact = false; layers = n } ≡ 2 * middle n + 1
side_is n = omega arith

along_is : (n x : ℕ) → along record { compact = false; layers = n } x ≡ skipped (middle n) (2 * n + 7) x
unfolding along
along_is n x = ap (λ (c : ℕ). skipped c ((4 * n + 14) / 2) x) (centre_is n) ∙ ap (λ (h : ℕ). skipped (middle n) h x) (half_is n)

-- what is known of a module of its layers
pub record Full (n x y : ℕ) : Type 0 where
  pub column : x ≤ 2 * middle n
  pub row : y ≤ 2 * middle n
  pub off_columns : 0 < far x (middle n) % 16
  pub off_rows : 0 < far y (middle n) % 16
  pub outside : (7 < far x (middle n)) ⊎ (7 < far y (middle n))

full_is : (n x y : ℕ) → IsInLayers record { compact = false; layers = n } x y → Full n x y
full_is n x y h =
    let off = both_off (far x (middle n) % 16) (far y (middle n) % 16) (subst (λ (c : ℕ). (eqb (far x c % 16) 0 || eqb (far y c % 16) 0) ≡ false) (centre_is n) h.off_grid) in
    record {
      column = omega (arith, h.column, side_is n);
      row = omega (arith, h.row, side_is n);
      off_columns = off.0;
      off_rows = off.1;
      outside = max_sides 7 (far x (middle n)) (far y (middle n)) (subst (λ (c : ℕ). 7 < max (far x c) (far y c)) (centre_is n) h.outside);
    }

abbrev skip : ℕ → ℕ → ℕ
skip n x = skipped (middle n) (2 * n + 7) x

skip_below : (n x : ℕ) → x ≤ 2 * middle n → 0 < far x (middle n) % 16 → skip n x < 4 * n + 14
skip_below n x lx ox =
    let h = side_below (middle n) (2 * n + 7) (grid_columns n) x (skip n x) refl (omega arith) lx ox (skipped_side (middle n) (2 * n + 7) x) in
    omega (arith, h)

full_layer : (n x y : ℕ) → Full n x y → layer_of (4 * n + 14) (skip n x) (skip n y) < n
full_layer n x y h =
    layer_below (4 * n + 14) n (skip n x) (skip n y) (skip_below n x h.column h.off_columns) (skip_below n y h.row h.off_rows) (by_sides h.outside)
  where
    by_sides : (7 < far x (middle n)) ⊎ (7 < far y (middle n)) → is_outside (4 * n + 14) n (skip n x) ⊎ is_outside (4 * n + 14) n (skip n y)
    by_sides (inl m) = inl (side_outside (middle n) (2 * n + 7) (grid_columns n) n x (skip n x) refl (omega arith) refl h.column m (skipped_side (middle n) (2 * n + 7) x))
    by_sides (inr m) = inr (side_outside (middle n) (2 * n + 7) (grid_columns n) n y (skip n y) refl (omega arith) refl h.row m (skipped_side (middle n) (2 * n + 7) y))

full_place : (n x y : ℕ) → place_of record { compact = false; layers = n } x y ≡ bit_place (4 * n + 14) (skip n x) (skip n y)
full_place n x y = ap (λ (a : ℕ). bit_place (4 * n + 14) a (along record { compact = false; layers = n } y)) (along_is n x) ∙ ap (λ (b : ℕ). bit_place (4 * n + 14) (skip n x) b) (along_is n y)

skip_own : (n x v : ℕ) → x ≤ 2 * middle n → v ≤ 2 * middle n → 0 < far x (middle n) % 16 → 0 < far v (middle n) % 16 → skip n x ≡ skip n v → x ≡ v
skip_own n x v lx lv ox ov e =
    sides_same (middle n) (2 * n + 7) (grid_columns n) x v (skip n v) refl (omega arith) lx lv ox ov
    (subst (λ (a : ℕ). on_a_side (middle n) (2 * n + 7) x a) e (skipped_side (middle n) (2 * n + 7) x)) (skipped_side (middle n) (2 * n + 7) v)

full_bits : (n : ℕ) → HaveBits record { compact = false; layers = n }
full_bits n = record {
  within = λ (x y : ℕ) h.
      let f = full_is n x y h in
      let few = place_within (4 * n + 14) n (skip n x) (skip n y) (omega arith) (skip_below n x f.column f.off_columns) (skip_below n y f.row f.off_rows) (full_layer n x y f) in
      let all : n * (8 * (2 * n + 14)) ≡ n * (112 + 16 * n) = ap (λ (k : ℕ). n * k) (let o : 8 * (2 * n + 14) ≡ 112 + 16 * n = omega arith in o) in
      subst (λ (p : ℕ). p < n * (112 + 16 * n)) (sym (full_place n x y))
      (subst (λ (k : ℕ). bit_place (4 * n + 14) (skip n x) (skip n y) < k) (capacity_is n 14 (2 * n + 14) (omega arith) ∙ all) few);
  own = λ (x y v w : ℕ) h k e.
      let f = full_is n x y h in
      let g = full_is n v w k in
      let same = place_own (4 * n + 14) n (skip n x) (skip n y) (skip n v) (skip n w) (omega arith) (skip_below n x f.column f.off_columns) (skip_below n y f.row f.off_rows)
      (skip_below n v g.column g.off_columns) (skip_below n w g.row g.off_rows) (full_layer n x y f) (full_layer n v w g) (sym (full_place n x y) ∙ e ∙ full_place n v w) in
      (skip_own n x v f.column g.column f.off_columns g.off_columns same.0, skip_own n y w f.row g.row f.off_rows g.off_rows same.1);
}

pub have_bits : (s : Size) → HaveBits s
have_bits s = by_form s.compact s.layers
  where
    by_form : (compact : Bool) (n : ℕ) → HaveBits record { compact = compact; layers = n }
    by_form true n = compact_bits n
    by_form false n = full_bits n
