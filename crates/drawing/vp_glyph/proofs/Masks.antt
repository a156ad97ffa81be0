-- Dots drawn at another width, as words.
use Rattle.std.proofs.Common.{inl, inr, ◌≡◌, ℕ, ◌+◌, ◌-◌, ◌*◌, ◌/◌, ◌<◌, ◌≤◌, Bool, false, eqb, ltb, leb, ◌&&◌, get_or, set, length, eq-eqb, refl, sym, ◌∙◌, arith, List, ℤ, pos, ◌+ℤ◌, bit_or}
use Rattle.std.proofs.Math.Nat.{div-lt_iff_lt-mul, le-div_iff_mul-le}
use Rattle.std.proofs.lemmas.List.{get_or-set_same, get_or-set_other}
use Rattle.std.proofs.lemmas.Bool.{cases_lt, ne_eqb, lt-ltb, le-ltb, lt-leb, le-leb}
use Rattle.std.proofs.lemmas.Int.{ints}
use Rattle.vp_dots.specs.Dots.{shifted, span}
use Rattle.vp_dots.specs.Words.{word_dot}
use Rattle.vp_dots.specs.Painting.{Painted}
use Rattle.vp_dots.specs.declared.Op.{Op}
use Rattle.vp_dots.proofs.Paints.{painted_same}
use Rattle.vp_dots.proofs.Shifts.{met, shifted_meets, shifted_outside}
use Rattle.vp_glyph.proofs.Looks.{or_dot}
use Rattle.vp_glyph.proofs.Spread.{quotient, edge_at, from_edge, before_edge, edge_within, ink}

-- the dots on which dot s of n falls
pub edges_are : (n w s x : ℕ) → 0 < n → s < n → span (edge_at n w s) (edge_at n w (s + 1)) x ≡ (ltb x w && eqb (x * n / w) s)
edges_are n w s x p l = elim (cases_lt x (edge_at n w s)) [
  | inl b ↦
      let inside = edge_within n w s p (omega arith) in
      let low : x * n / w < s = (div-lt_iff_lt-mul {k = w} {x = x * n} {y = s} (omega arith)).1 (before_edge n w s x p b) in
      rw (lt-leb (edge_at n w s) x b, ne_eqb (x * n / w) s (λ e. absurd (omega arith))) (grind arith)
  | inr g ↦ elim (cases_lt x (edge_at n w (s + 1))) [
    | inl i ↦
        let inside = edge_within n w (s + 1) p (omega arith) in
        let q : x * n / w ≡ s = quotient (x * n) w s (omega arith) (from_edge n w s x p g) (before_edge n w (s + 1) x p i) in
        rw (le-leb (edge_at n w s) x g, lt-ltb x (edge_at n w (s + 1)) i, lt-ltb x w (omega arith), eq-eqb (x * n / w) s q) refl
    | inr o ↦ elim (cases_lt x w) [
      | inl k ↦
          let high : s + 1 ≤ x * n / w = (le-div_iff_mul-le {k = w} {x = s + 1} {y = x * n} (omega arith)).1 (from_edge n w (s + 1) x p o) in
          rw (le-ltb x (edge_at n w (s + 1)) o, ne_eqb (x * n / w) s (λ e. absurd (omega arith))) (grind arith)
      | inr k ↦ rw (le-ltb x (edge_at n w (s + 1)) o, le-ltb x w k) (grind arith)
    ]
  ]
]

-- one more mask
pub mask_more : (w s : ℕ) (masks : List ℕ) (mask from to : ℕ) → s < length masks → s < 12 → from ≡ edge_at 12 w s → to ≡ edge_at 12 w (s + 1) → ((x : ℕ) → word_dot mask x ≡ span from to x)
    → ((r x : ℕ) → r < s → word_dot (get_or masks r 0) x ≡ (ltb x w && eqb (x * 12 / w) r)) → (r x : ℕ) → r < s + 1 → word_dot (get_or (set masks s mask) r 0) x ≡ (ltb x w && eqb (x * 12 / w) r)
mask_more w s masks mask from to l k e f m h r x b = grind (arith, get_or-set_same, edges_are, get_or-set_other)

-- no dot yet
pub stretch_none : (f : ℕ → Bool) (width x : ℕ) → false ≡ (ltb x width && (ltb (x * 12 / width) 0 && f (x * 12 / width)))
stretch_none f width x = grind arith

-- the dots of a word that fall on the dots of one mask more
pub stretch_more : (f : ℕ → Bool) (width wide more new s x : ℕ) → word_dot wide x ≡ (ltb x width && (ltb (x * 12 / width) s && f (x * 12 / width)))
    → word_dot more x ≡ (f s && (ltb x width && eqb (x * 12 / width) s)) → new ≡ bit_or wide more → word_dot new x ≡ (ltb x width && (ltb (x * 12 / width) (s + 1) && f (x * 12 / width)))
stretch_more f width wide more new s x p q e = grind (arith, or_dot)

-- all twelve
pub stretch_all : (f : ℕ → Bool) (width wide s x : ℕ) → 12 ≤ s → word_dot wide x ≡ (ltb x width && (ltb (x * 12 / width) s && f (x * 12 / width))) → word_dot wide x ≡ (ltb x width && f (x * 12 / width))
stretch_all f width wide s x m p = p ∙ elim (cases_lt x width) [
  | inl l ↦
      let low : x * 12 / width < 12 = (div-lt_iff_lt-mul {k = width} {x = x * 12} {y = 12} (omega arith)).1 (omega arith) in
      rw (lt-ltb (x * 12 / width) s (omega arith)) (grind arith)
  | inr g ↦ rw (le-ltb x width g) refl
]

-- a move by an offset and then by so many dots
pub shift_more : (at : ℤ) (n : ℕ) (f : ℕ → Bool) (d : ℕ) → shifted (at +ℤ pos n) f d ≡ shifted at (λ x. leb n x && f (x - n)) d
shift_more at n f d = elim (met at d) [
  | inl p ↦ (let q = p.1 in elim (cases_lt p.0 n) [
    | inl l ↦ shifted_outside (at +ℤ pos n) f d (λ x e. omega (arith, ints)) ∙ sym (p.2 (λ x. leb n x && f (x - n)) ∙ rw (lt-leb n p.0 l) refl)
    | inr g ↦ shifted_meets (at +ℤ pos n) f d (p.0 - n) (omega (arith, ints)) ∙ sym (p.2 (λ x. leb n x && f (x - n)) ∙ rw (le-leb n p.0 g) refl)
  ])
  | inr m ↦ shifted_outside (at +ℤ pos n) f d (λ x e. m.0 (n + x) (omega (arith, ints))) ∙ sym (m.1 (λ x. leb n x && f (x - n)))
]

module _ (at at' : ℤ) (glyph : ℕ → Bool) (left width wide : ℕ) (e : at' ≡ at +ℤ pos left) (h : (x : ℕ) → word_dot wide x ≡ (ltb x width && glyph (x * 12 / width))) where
  -- a word from a place on
  pub word_placed : (d : ℕ) → shifted at' (word_dot wide) d ≡ shifted at (ink 12 glyph left width) d
  word_placed d = grind (arith, shift_more)

  -- and painted there
  pub word_painted : (op : Op) (a b : List ℕ) → Painted op (shifted at' (word_dot wide)) a b → Painted op (shifted at (ink 12 glyph left width)) a b
  word_painted op a b p = painted_same op (shifted at' (word_dot wide)) (shifted at (ink 12 glyph left width)) a b (λ d l. word_placed d) p
