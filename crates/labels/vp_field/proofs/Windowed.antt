-- Ink that lies across a band.
use Rattle.std.proofs.Common.{inl, inr, leb, ◌&&◌, List, get_or, ◌≡◌, ℕ, ◌+◌, ◌-◌, ◌*◌, ◌<◌, ◌≤◌, Bool, true, false, sym, ap, ◌∙◌, arith, ℤ, pos, neg_ℤ, ◌-ℤ◌, ◌<ℤ◌, ◌≤ℤ◌}
use Rattle.std.proofs.lemmas.Int.{ints}
use Rattle.std.proofs.lemmas.Bool.{true≢false, false_from_ne_true, cases_lt, lt-leb, le-leb}
use Rattle.vp_dots.specs.Dots.{shifted}
use Rattle.vp_glyph.specs.Halves.{half_dot}
use Rattle.vp_field.proofs.Columns.{white_half}
use Rattle.vp_label_size.specs.declared.TheConstants.{BAND_ROWS}
use Rattle.vp_field.specs.Axes.{laid, dot_on, read_at}
use Rattle.vp_field.specs.declared.axis.Axis.{Axis}
use Rattle.vp_field.specs.declared.axis.Lines.TheVariants.{Across}
use Rattle.vp_field.specs.Places.{at_place}
use Rattle.vp_field.proofs.Places.{at_true, line_inside, shifted_at}

-- a number that is brought between 0 and the most
pub clamped_low : (z : ℤ) (n : ℕ) → ((v : ℕ) → z ≤ℤ pos v → n ≤ v) → 0 < n → pos (n - 1) <ℤ z
clamped_low z n above l = let least = above (n - 1) in grind (arith, ints, least)

pub clamped_high : (z : ℤ) (most n : ℕ) → ((v : ℕ) → v < most → pos v <ℤ z → v < n) → n < most → z ≤ℤ pos n
clamped_high z most n below l = let more = below n l in grind (arith, ints, more)

-- places that are read forwards
pub read_forwards : (n from : ℕ) (at off : ℤ) (f g : ℕ → Bool) → off ≡ at -ℤ pos from → ((d : ℕ) → d < 8 * n → g d ≡ shifted off f d) → (p : ℕ) → p < 8 * n → at_place f (pos (from + p) -ℤ at) ≡ g p
read_forwards n from at off f g e q p h = ap (at_place f) (let s : pos (from + p) -ℤ at ≡ pos p -ℤ off = omega (arith, ints) in s) ∙ sym (shifted_at off f p) ∙ sym (q p h)

-- and backwards
pub read_backwards : (n from : ℕ) (at off : ℤ) (f g : ℕ → Bool) → off ≡ pos from -ℤ pos 1 -ℤ at -ℤ neg_ℤ (pos (8 * n)) → ((d : ℕ) → d < 8 * n → g d ≡ shifted off f d) → (p : ℕ) → p < 8 * n
    → at_place f (at -ℤ pos (from + p)) ≡ g (8 * n - 1 - p)
read_backwards n from at off f g e q p h =
    ap (at_place f) (let s : at -ℤ pos (from + p) ≡ pos (8 * n - 1 - p) -ℤ off = omega (arith, ints) in s) ∙ sym (shifted_at off f (8 * n - 1 - p)) ∙ sym (q (8 * n - 1 - p) (omega arith))

-- a place that is read is one of as many
pub read_within : (axis : Axis) (n p : ℕ) → p < n → read_at axis n p < n
read_within axis n p h1 = grind arith

-- ink that lies across a band, whose lines fall on its columns from one to another
module _ (columns rows : Axis) (ink : ℕ → ℕ → Bool) (seen h from to top first : ℕ) (at : ℤ) (drawn : List ℕ) (inside : (u v : ℕ) → ink u v ≡ true → v < h)
    (falls : (line dots : ℕ → Bool) → ((d : ℕ) → d < 32 → dots d ≡ shifted at line d) → (k : ℕ) → k < BAND_ROWS → at_place line (dot_on rows (pos (first + k))) ≡ dots (read_at rows 32 k))
    (drawn_are : (i x : ℕ) → i < to - from → x < 32 → top + i < h → half_dot (get_or drawn i 0) x ≡ shifted at (λ u. ink u (top + i)) x)
    (on : (p : ℕ) → from ≤ p → p < to → (top + read_at columns (to - from) (p - from) < h) × (dot_on columns (pos p) ≡ pos (top + read_at columns (to - from) (p - from))))
    (only : (p v : ℕ) → p < seen → v < h → dot_on columns (pos p) ≡ pos v → (from ≤ p) × (p < to)) where
  -- the columns that have ink
  pub laid_only : (d k : ℕ) → d < seen → laid Across columns rows ink (pos d) (pos (first + k)) ≡ true → (from ≤ d) × (d < to)
  laid_only d k l e =
      let t = at_true (λ v. at_place (λ u. ink u v) (dot_on rows (pos (first + k)))) (dot_on columns (pos d)) e in
      only d t.0 l (line_inside ink h inside (dot_on rows (pos (first + k))) t.0 t.1) t.2

  -- what they show
  pub laid_drawn : (d k : ℕ) → from ≤ d → d < to → k < BAND_ROWS → laid Across columns rows ink (pos d) (pos (first + k)) ≡ half_dot (get_or drawn (read_at columns (to - from) (d - from)) 0) (read_at rows 32 k)
  laid_drawn d k l m i =
      let j = read_at columns (to - from) (d - from) in
      let v = on d l m in
      ap (at_place (λ v. at_place (λ u. ink u v) (dot_on rows (pos (first + k))))) v.1
      ∙ falls (λ u. ink u (top + j)) (half_dot (get_or drawn j 0)) (λ x h. drawn_are j x (read_within columns (to - from) (d - from) (omega (arith, l, m))) h v.0) k i

-- ink that is seen on columns from one to another alone, as their fronts were drawn
module _ (columns rows : Axis) (shown : ℕ → ℕ → Bool) (seen from to : ℕ) (drawn : List ℕ) (only : (d k : ℕ) → d < seen → shown d k ≡ true → (from ≤ d) × (d < to))
    (are : (d k : ℕ) → from ≤ d → d < to → k < BAND_ROWS → shown d k ≡ half_dot (get_or drawn (read_at columns (to - from) (d - from)) 0) (read_at rows 32 k)) where
  -- there is none where all fronts are white
  pub shown_white : ((i x : ℕ) → i < to - from → x < 32 → half_dot (get_or drawn i 0) x ≡ false) → (d k : ℕ) → d < seen → k < BAND_ROWS → shown d k ≡ false
  shown_white white d k l i = false_from_ne_true (shown d k) (λ e. let o = only d k l e in
      absurd (true≢false (sym e ∙ are d k o.0 o.1 i ∙ white (read_at columns (to - from) (d - from)) (read_at rows 32 k) (read_within columns (to - from) (d - from) (omega (arith, o.0, o.1))) (read_within rows 32 k i))))

  -- it is that of the fronts in the order of the columns, and of white ones behind them
  pub shown_ordered : (fronts : List ℕ) → ((i : ℕ) → i < to - from → get_or fronts i 0 ≡ get_or drawn (read_at columns (to - from) i) 0) → ((i : ℕ) → to - from ≤ i → get_or fronts i 0 ≡ 0)
      → (d k : ℕ) → d < seen → k < BAND_ROWS → (leb from d && half_dot (get_or fronts (d - from) 0) (read_at rows 32 k)) ≡ shown d k
  shown_ordered fronts order white d k l i = elim (cases_lt d from) [
    | inl o ↦ rw (lt-leb from d o) (sym (false_from_ne_true (shown d k) (λ e. let w = only d k l e in omega (arith, o, w.0))))
    | inr g ↦ elim (cases_lt d to) [
      | inl m ↦ rw (le-leb from d g, order (d - from) (omega (arith, g, m))) (sym (are d k g m i))
      | inr o ↦ rw (le-leb from d g, white (d - from) (omega (arith, g, o)), white_half (read_at rows 32 k)) (sym (false_from_ne_true (shown d k) (λ e. let w = only d k l e in omega (arith, o, w.1))))
    ]
  ]
