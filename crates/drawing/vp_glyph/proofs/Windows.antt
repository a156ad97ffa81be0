-- Dots of cells on the first dots of a row.
use Rattle.std.proofs.Common.{inl, inr, ◌≡◌, ℕ, ◌+◌, ◌-◌, ◌*◌, ◌/◌, ◌<◌, ◌≤◌, Bool, true, false, eqb, ltb, leb, ◌&&◌, ◌||◌, refl, sym, ap, ◌∙◌, arith, ℤ, pos, negsuc, ◌+ℤ◌, ◌<ℤ◌, ◌≤ℤ◌}
use Rattle.std.proofs.Math.Nat.{div-lt_iff_lt-mul, le-div_iff_mul-le}
use Rattle.std.proofs.lemmas.Int.{ints}
use Rattle.std.proofs.lemmas.Bool.{cases_lt, lt-ltb, le-ltb, lt-leb, le-leb}
use Rattle.vp_dots.specs.Dots.{shifted, span}
use Rattle.vp_dots.proofs.Shifts.{met, shifted_same, shifted_or}
use Rattle.vp_glyph.proofs.Masks.{edges_are}
use Rattle.vp_glyph.proofs.Spread.{edge_at, from_edge, before_edge, ink}

-- a place of what was moved, found on the row
pub place_meets : (at : ℤ) (place r d : ℕ) → d < 32 → ((d : ℕ) → d < 32 → pos d <ℤ (at +ℤ pos place) → d < r) → ((d : ℕ) → d < 32 → (at +ℤ pos place) ≤ℤ pos d → r ≤ d)
    → leb r d ≡ shifted at (leb place) d
place_meets (pos a) place r d l below above = elim (cases_lt d a) [
  | inl n ↦ lt-leb r d (below d l (omega (arith, ints))) ∙ sym (rw (lt-leb a d n) refl)
  | inr g ↦ elim (cases_lt (d - a) place) [
    | inl n ↦ lt-leb r d (below d l (omega (arith, ints))) ∙ sym (rw (le-leb a d g, lt-leb place (d - a) n) refl)
    | inr m ↦ le-leb r d (above d l (omega (arith, ints))) ∙ sym (rw (le-leb a d g, le-leb place (d - a) m) refl)
  ]
]
place_meets (negsuc a) place r d l below above = elim (cases_lt (d + (a + 1)) place) [
  | inl n ↦ lt-leb r d (below d l (omega (arith, ints))) ∙ sym (lt-leb place (d + (a + 1)) n)
  | inr m ↦ le-leb r d (above d l (omega (arith, ints))) ∙ sym (le-leb place (d + (a + 1)) m)
]

-- and what lies between two of them
span_meets : (at : ℤ) (p q r s d : ℕ) → leb r d ≡ shifted at (leb p) d → leb s d ≡ shifted at (leb q) d → span r s d ≡ shifted at (span p q) d
span_meets at p q r s d e f = grind arith

module _ (at : ℤ) (left w : ℕ) (g : ℕ → Bool) where
  -- the dots before s of a cell
  abbrev pub before : ℕ → ℕ → Bool
  before s x = leb left x && ltb (x - left) w && (ltb ((x - left) * 12 / w) s && g ((x - left) * 12 / w))

  -- where one of them falls
  only_is : (s x : ℕ) → s < 12 → span (left + edge_at 12 w s) (left + edge_at 12 w (s + 1)) x ≡ (leb left x && ltb (x - left) w && eqb ((x - left) * 12 / w) s)
  only_is s x k = elim (cases_lt x left) [
    | inl l ↦ rw (lt-leb left x l, lt-leb (left + edge_at 12 w s) x (omega arith)) refl
    | inr o ↦ sym (moved (edge_at 12 w s) (edge_at 12 w (s + 1)) o) ∙ edges_are 12 w s (x - left) (omega arith) k ∙ sym (rw (le-leb left x o) refl)
  ]
    where
      moved : (a b : ℕ) → left ≤ x → span a b (x - left) ≡ span (left + a) (left + b) x
      moved a b o = grind arith

  one_more : (s x : ℕ) → before (s + 1) x ≡ (before s x || g s && (leb left x && ltb (x - left) w && eqb ((x - left) * 12 / w) s))
  one_more s x = grind arith

  shifted_if : (a : Bool) (f : ℕ → Bool) (d : ℕ) → shifted at (λ x. a && f x) d ≡ (a && shifted at f d)
  shifted_if a f d = grind arith

  or_assoc : (a b c : Bool) → (a || b || c) ≡ (a || (b || c))
  or_assoc a b c = grind arith

  or_false : (a : Bool) → a ≡ (a || false)
  or_false a = grind arith

  pub wide_none : (s : ℕ) (old : Bool) (d : ℕ) → s ≡ 0 → old ≡ (old || shifted at (before s) d)
  wide_none s old d e = grind arith

  -- nor where those before s lie before the row
  pub wide_hidden : (s from d : ℕ) (old : Bool) → s ≤ 12 → leb from d ≡ shifted at (leb (left + edge_at 12 w s)) d → from ≡ 0 → old ≡ (old || shifted at (before s) d)
  wide_hidden s from d old k e z = or_false old ∙ ap (λ t. old || t) (sym (elim (met at d) [
    | inl m ↦
        let late : leb (left + edge_at 12 w s) m.0 ≡ true = sym (m.2 (leb (left + edge_at 12 w s))) ∙ sym e ∙ le-leb from d (omega arith) in
        m.2 (before s) ∙ behind m.0 (elim (cases_lt m.0 (left + edge_at 12 w s)) [ inl o ↦ absurd (let t = lt-leb (left + edge_at 12 w s) m.0 o in cc) | inr o ↦ o ])
    | inr n ↦ n.1 (before s)
  ]))
    where
      nothing : (a : Bool) → (a && false) ≡ false
      nothing true = refl
      nothing false = refl

      behind : (x : ℕ) → left + edge_at 12 w s ≤ x → before s x ≡ false
      behind x o = elim (cases_lt (x - left) w) [
        | inl u ↦
            let b : s * w ≤ (x - left) * 12 = from_edge 12 w s (x - left) (omega arith) (omega arith) in
            let q : s ≤ (x - left) * 12 / w = (le-div_iff_mul-le {k = w} {x = s} {y = (x - left) * 12} (omega arith)).1 b in
            rw (le-ltb ((x - left) * 12 / w) s q) (nothing (leb left x && ltb (x - left) w))
        | inr u ↦ rw (le-ltb (x - left) w u) (none (leb left x) _)
      ]
        where
          none : (a b : Bool) → (a && false && b) ≡ false
          none true b = refl
          none false b = refl

  -- one dot more
  pub wide_more : (s from to d : ℕ) (old mid new : Bool) → s < 12 → leb from d ≡ shifted at (leb (left + edge_at 12 w s)) d → leb to d ≡ shifted at (leb (left + edge_at 12 w (s + 1))) d
      → mid ≡ (old || shifted at (before s) d) → new ≡ (mid || g s && span from to d) → new ≡ (old || shifted at (before (s + 1)) d)
  wide_more s from to d old mid new k e f p q =
      let mine = λ (x : ℕ). leb left x && ltb (x - left) w && eqb ((x - left) * 12 / w) s in
      q ∙ ap (λ t. t || g s && span from to d) p
      ∙ ap (λ t. old || shifted at (before s) d || g s && t) (span_meets at (left + edge_at 12 w s) (left + edge_at 12 w (s + 1)) from to d e f
      ∙ shifted_same at (span (left + edge_at 12 w s) (left + edge_at 12 w (s + 1))) mine d (λ x _. only_is s x k))
      ∙ ap (λ t. old || shifted at (before s) d || t) (sym (shifted_if (g s) mine d))
      ∙ or_assoc old (shifted at (before s) d) (shifted at (λ x. g s && mine x) d)
      ∙ ap (λ t. old || t) (sym (shifted_or at (before s) (λ x. g s && mine x) (before (s + 1)) d (one_more s)))

  -- all twelve
  pub wide_all : (s d : ℕ) → s ≡ 12 → shifted at (before s) d ≡ shifted at (ink 12 g left w) d
  wide_all s d e = shifted_same at (before s) (ink 12 g left w) d (λ x _. elim (cases_lt (x - left) w) [
    | inl l ↦
        let low : (x - left) * 12 / w < 12 = (div-lt_iff_lt-mul {k = w} {x = (x - left) * 12} {y = 12} (omega arith)).1 (omega arith) in
        rw (lt-ltb ((x - left) * 12 / w) s (omega arith)) refl
    | inr m ↦ rw (le-ltb (x - left) w m) (none (leb left x) _ _)
  ])
    where
      none : (a b c : Bool) → (a && false && b) ≡ (a && false && c)
      none true b c = refl
      none false b c = refl

  -- or those before one that begins behind the row's first 64
  pub wide_seen : (s from d : ℕ) → s ≤ 12 → leb from d ≡ shifted at (leb (left + edge_at 12 w s)) d → d < from → shifted at (before s) d ≡ shifted at (ink 12 g left w) d
  wide_seen s from d k e l = elim (met at d) [
    | inl m ↦
        let early : leb (left + edge_at 12 w s) m.0 ≡ false = sym (m.2 (leb (left + edge_at 12 w s))) ∙ sym e ∙ lt-leb from d l in
        m.2 (before s) ∙ seen m.0 (elim (cases_lt m.0 (left + edge_at 12 w s)) [ inl o ↦ o | inr o ↦ absurd (let t = le-leb (left + edge_at 12 w s) m.0 o in cc) ]) ∙ sym (m.2 (ink 12 g left w))
    | inr n ↦ n.1 (before s) ∙ sym (n.1 (ink 12 g left w))
  ]
    where
      seen : (x : ℕ) → x < left + edge_at 12 w s → before s x ≡ ink 12 g left w x
      seen x o = elim (cases_lt x left) [
        | inl j ↦ rw (lt-leb left x j) refl
        | inr j ↦ elim (cases_lt (x - left) w) [
          | inl u ↦
              let b : (x - left) * 12 < s * w = before_edge 12 w s (x - left) (omega arith) (omega arith) in
              let q : (x - left) * 12 / w < s = (div-lt_iff_lt-mul {k = w} {x = (x - left) * 12} {y = s} (omega arith)).1 b in
              rw (lt-ltb ((x - left) * 12 / w) s q) refl
          | inr u ↦ rw (le-ltb (x - left) w u) (nothing (leb left x) _ _)
        ]
      ]
        where
          nothing : (a b c : Bool) → (a && false && b) ≡ (a && false && c)
          nothing true b c = refl
          nothing false b c = refl
