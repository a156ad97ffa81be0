-- Squares that are turned.
use Rattle.std.proofs.Common.{inl, inr, ◌≡◌, ℕ, ◌+◌, ◌-◌, ◌*◌, ◌/◌, ◌%◌, ◌^◌, ◌<◌, Bool, true, false, not, cond, eqb, ltb, leb, ◌&&◌, refl, ap, ◌∙◌, arith, List, length, get_or, set, get_or-set_same, get_or-set_other, length-set, bit_and, bit_or}
use Rattle.std.proofs.lemmas.Bool.{eqb-true, and_parts, cases_eq, cases_lt, lt-ltb, le-ltb, lt-leb, le-leb}
use Rattle.vp_dots.specs.Dots.{bit}
use Rattle.vp_dots.specs.Words.{word_dot}
use Rattle.vp_dots.specs.Squares.{row_from, column_from}
use Rattle.vp_dots.proofs.Bits.{bit_of_or}
use Rattle.vp_dots.proofs.Spans.{bit_of_and}
use Rattle.vp_dots.proofs.Cuts.{bit_low64, bit_of_and_not64}
use Rattle.vp_dots.proofs.Words.{bit_shr, bit_shl, bit_above, and_false}
use Rattle.vp_dots.proofs.Swaps.{every, every_at}

right_cases : (l m u v : Bool) → l ≡ not m → cond (cond l false v) true (cond m false u) ≡ cond l u v
right_cases l m u v h = grind arith

last_cases : (l v : Bool) → cond (cond l false v) true false ≡ cond l false v
last_cases l v = grind arith

module _ (s left upper lower : ℕ) (fits : left < 2 ^ 64) (parts : (x : ℕ) → x < 64 → (leb s x && word_dot left (x - s)) ≡ not (word_dot left x)) where
  moved_right : (x : ℕ) → x < 64 → bit (bit_and lower left / 2 ^ s) (63 - x) ≡ (leb s x && (word_dot lower (x - s) && word_dot left (x - s)))
  moved_right x h = grind (arith, bit_shr, bit_of_and, cases_lt, lt-leb, bit_above, and_false, le-leb, lt-ltb)

  pub left_dot : (x : ℕ) → x < 64 → word_dot (bit_or (bit_and upper left) (bit_and lower left / 2 ^ s)) x ≡ cond (word_dot left x) (word_dot upper x) (word_dot lower (x - s))
  left_dot x h = grind (arith, lt-ltb, bit_of_or, moved_right, bit_of_and)

  moved_left : (x : ℕ) → x < 64 → bit (bit_and upper (2 ^ 64 - 1 - left) * 2 ^ s % 2 ^ 64) (63 - x) ≡ (leb s (63 - x) && cond (bit left (63 - x - s)) false (bit upper (63 - x - s)))
  moved_left x h = grind (arith, bit_low64, bit_shl, bit_of_and_not64)

  pub right_dot : (x : ℕ) → x < 64 → word_dot (bit_or (bit_and upper (2 ^ 64 - 1 - left) * 2 ^ s % 2 ^ 64) (bit_and lower (2 ^ 64 - 1 - left))) x ≡ cond (word_dot left x) (word_dot upper (x + s)) (word_dot lower x)
  right_dot x h =
      rw (lt-ltb x 64 h) (bit_of_or (bit_and upper (2 ^ 64 - 1 - left) * 2 ^ s % 2 ^ 64) (bit_and lower (2 ^ 64 - 1 - left)) (63 - x)
      ∙ ap (λ b. cond b true (bit (bit_and upper (2 ^ 64 - 1 - left) * 2 ^ s % 2 ^ 64) (63 - x))) (bit_of_and_not64 lower left (63 - x) fits (omega arith))
      ∙ ap (λ b. cond (cond (bit left (63 - x)) false (bit lower (63 - x))) true b) (moved_left x h)
      ∙ elim (cases_lt (x + s) 64) [
        | inl l ↦
            let e : 63 - x - s ≡ 63 - (x + s) = omega arith in
            let back : x + s - s ≡ x = omega arith in
            rw (le-leb s (63 - x) (omega arith), lt-ltb (x + s) 64 l, e) (right_cases (bit left (63 - x)) (bit left (63 - (x + s))) (bit upper (63 - (x + s))) (bit lower (63 - x))
            (rw (le-leb s (x + s) (omega arith), back, lt-ltb x 64 h, lt-ltb (x + s) 64 l) at (parts (x + s) l)))
        | inr g ↦ rw (lt-leb s (63 - x) (omega arith), le-ltb (x + s) 64 g) (last_cases (bit left (63 - x)) (bit lower (63 - x)))
      ])

-- what a step makes of rows: the rows above row n
pub record Stepped (wide left n : ℕ) (rows new : List ℕ) : Type 0 where
  pub dots_are : (x y : ℕ) → x < 64 → y < n → word_dot (get_or new y 0) x ≡ word_dot (get_or rows (row_from (word_dot left x) y) 0) (column_from (word_dot left x) wide x y)

module _ (wide i x y : ℕ) (rows : List ℕ) where
  from_even : (l : Bool) → y ≡ 2 * i → cond l (word_dot (get_or rows i 0) x) (word_dot (get_or rows (i + 32) 0) (x - wide)) ≡ word_dot (get_or rows (row_from l y) 0) (column_from l wide x y)
  from_even l e = grind arith

  from_odd : (l : Bool) → y ≡ 2 * i + 1 → cond l (word_dot (get_or rows i 0) (x + wide)) (word_dot (get_or rows (i + 32) 0) x) ≡ word_dot (get_or rows (row_from l y) 0) (column_from l wide x y)
  from_odd l e = grind arith

-- two more rows
pub step_more : (wide left i a b : ℕ) (rows new : List ℕ) → i < 32 → length new ≡ 64
    → ((x : ℕ) → x < 64 → word_dot a x ≡ cond (word_dot left x) (word_dot (get_or rows i 0) x) (word_dot (get_or rows (i + 32) 0) (x - wide)))
    → ((x : ℕ) → x < 64 → word_dot b x ≡ cond (word_dot left x) (word_dot (get_or rows i 0) (x + wide)) (word_dot (get_or rows (i + 32) 0) x))
    → Stepped wide left (2 * i) rows new → Stepped wide left (2 * (i + 1)) rows (set (set new (2 * i) a) (2 * i + 1) b)
step_more wide left i a b rows new small long p q before = record {
  dots_are = λ x y h k. elim (cases_eq y (2 * i + 1)) [
    | inl odd ↦ ap (λ n. word_dot (get_or (set (set new (2 * i) a) (2 * i + 1) b) n 0) x) odd
        ∙ ap (λ w. word_dot w x) (get_or-set_same (set new (2 * i) a) (2 * i + 1) b 0 (omega (arith, length-set new (2 * i) a)))
        ∙ q x h ∙ from_odd wide i x y rows (word_dot left x) odd
    | inr other ↦ ap (λ w. word_dot w x) (get_or-set_other (set new (2 * i) a) (2 * i + 1) y b 0 other) ∙ elim (cases_eq y (2 * i)) as (λ _. word_dot (get_or (set new (2 * i) a) y 0) x ≡ word_dot (get_or rows (row_from (word_dot left x) y) 0) (column_from (word_dot left x) wide x y)) [
      | inl even ↦ ap (λ n. word_dot (get_or (set new (2 * i) a) n 0) x) even ∙ ap (λ w. word_dot w x) (get_or-set_same new (2 * i) a 0 (omega arith))
          ∙ p x h ∙ from_even wide i x y rows (word_dot left x) even
      | inr above ↦ ap (λ w. word_dot w x) (get_or-set_other new (2 * i) y a 0 above) ∙ before.dots_are x y h (omega arith)
    ]
  ];
}

-- whether the place that a dot comes from in a step passes a test
at_source : (wide left : ℕ) → (ℕ → ℕ → Bool) → ℕ → ℕ → Bool
at_source wide left k x y = ltb (column_from (word_dot left x) wide x y) 64 && (ltb (row_from (word_dot left x) y) 64 && k (column_from (word_dot left x) wide x y) (row_from (word_dot left x) y))

record Came (k : ℕ → ℕ → Bool) (x y : ℕ) (rows new : List ℕ) : Type 0 where
  u : ℕ
  v : ℕ
  column : u < 64
  row : v < 64
  passes : k u v ≡ true
  same : word_dot (get_or new y 0) x ≡ word_dot (get_or rows v 0) u

came : (wide left : ℕ) (k : ℕ → ℕ → Bool) (x y : ℕ) (rows new : List ℕ) → Stepped wide left 64 rows new → x < 64 → y < 64 → at_source wide left k x y ≡ true → Came k x y rows new
unfolding at_source
came wide left k x y rows new p h l e = grind arith

passed : (wide left : ℕ) (k : ℕ → ℕ → Bool) (x y : ℕ) (rows new : List ℕ) (r : Bool) → Stepped wide left 64 rows new → x < 64 → y < 64 → at_source wide left k x y ≡ true
    → ((u v : ℕ) → u < 64 → v < 64 → k u v ≡ true → word_dot (get_or rows v 0) u ≡ r) → word_dot (get_or new y 0) x ≡ r
passed wide left k x y rows new r p h l e next = let c = came wide left k x y rows new p h l e in c.same ∙ next c.u c.v c.column c.row c.passes

-- six steps turn a square
turn_test : (x y : ℕ) → x < 64 → y < 64
    → at_source 1 0xaaaa_aaaa_aaaa_aaaa (at_source 2 0xcccc_cccc_cccc_cccc (at_source 4 0xf0f0_f0f0_f0f0_f0f0
    (at_source 8 0xff00_ff00_ff00_ff00 (at_source 16 0xffff_0000_ffff_0000 (at_source 32 0xffff_ffff_0000_0000 (λ u v. eqb u y && eqb v x)))))) x y ≡ true
unfolding at_source bit
turn_test x y h k = every_at 64 (λ v. at_source 1 0xaaaa_aaaa_aaaa_aaaa (at_source 2 0xcccc_cccc_cccc_cccc (at_source 4 0xf0f0_f0f0_f0f0_f0f0
    (at_source 8 0xff00_ff00_ff00_ff00 (at_source 16 0xffff_0000_ffff_0000 (at_source 32 0xffff_ffff_0000_0000 (λ a b. eqb a v && eqb b x)))))) x v) (rows_test x h) y k
  where
    rows_test : (x : ℕ) → x < 64 → every 64 (λ v. at_source 1 0xaaaa_aaaa_aaaa_aaaa (at_source 2 0xcccc_cccc_cccc_cccc (at_source 4 0xf0f0_f0f0_f0f0_f0f0
        (at_source 8 0xff00_ff00_ff00_ff00 (at_source 16 0xffff_0000_ffff_0000 (at_source 32 0xffff_ffff_0000_0000 (λ a b. eqb a v && eqb b x)))))) x v) ≡ true
    rows_test = every_at 64 (λ u. every 64 (λ v. at_source 1 0xaaaa_aaaa_aaaa_aaaa (at_source 2 0xcccc_cccc_cccc_cccc (at_source 4 0xf0f0_f0f0_f0f0_f0f0
        (at_source 8 0xff00_ff00_ff00_ff00 (at_source 16 0xffff_0000_ffff_0000 (at_source 32 0xffff_ffff_0000_0000 (λ a b. eqb a v && eqb b u)))))) u v)) refl

pub turned_dots : (r0 r1 r2 r3 r4 r5 r6 : List ℕ) → Stepped 32 0xffff_ffff_0000_0000 64 r0 r1 → Stepped 16 0xffff_0000_ffff_0000 64 r1 r2 → Stepped 8 0xff00_ff00_ff00_ff00 64 r2 r3
    → Stepped 4 0xf0f0_f0f0_f0f0_f0f0 64 r3 r4 → Stepped 2 0xcccc_cccc_cccc_cccc 64 r4 r5 → Stepped 1 0xaaaa_aaaa_aaaa_aaaa 64 r5 r6
    → (x y : ℕ) → x < 64 → y < 64 → word_dot (get_or r6 y 0) x ≡ word_dot (get_or r0 x 0) y
turned_dots r0 r1 r2 r3 r4 r5 r6 p1 p2 p3 p4 p5 p6 x y h k =
    passed _ _ _ x y r5 r6 _ p6 h k (turn_test x y h k)
    (λ u v h k e. passed _ _ _ u v r4 r5 _ p5 h k e
    (λ u v h k e. passed _ _ _ u v r3 r4 _ p4 h k e
    (λ u v h k e. passed _ _ _ u v r2 r3 _ p3 h k e
    (λ u v h k e. passed _ _ _ u v r1 r2 _ p2 h k e
    (λ u v h k e. passed _ _ _ u v r0 r1 _ p1 h k e
    (λ u v h k e. let t = and_parts _ _ e in ap (λ n. word_dot (get_or r0 n 0) u) (eqb-true _ _ t.1) ∙ ap (λ n. word_dot (get_or r0 x 0) n) (eqb-true _ _ t.0)))))))

-- the parts of a row
parts_all : (s left : ℕ) → every 64 (λ x. cond (leb s x && word_dot left (x - s)) (not (word_dot left x)) (word_dot left x)) ≡ true → (x : ℕ) → x < 64 → (leb s x && word_dot left (x - s)) ≡ not (word_dot left x)
parts_all s left e x h = other (leb s x && word_dot left (x - s)) (word_dot left x) (every_at 64 (λ u. cond (leb s u && word_dot left (u - s)) (not (word_dot left u)) (word_dot left u)) e x h)
  where
    other : (a b : Bool) → cond a (not b) b ≡ true → a ≡ not b
    other true true h = cc
    other true false h = refl
    other false true h = refl
    other false false h = cc

pub halves_parts : (x : ℕ) → x < 64 → (leb 32 x && word_dot 0xffff_ffff_0000_0000 (x - 32)) ≡ not (word_dot 0xffff_ffff_0000_0000 x)
unfolding bit
halves_parts = parts_all 32 0xffff_ffff_0000_0000 refl

pub quarters_parts : (x : ℕ) → x < 64 → (leb 16 x && word_dot 0xffff_0000_ffff_0000 (x - 16)) ≡ not (word_dot 0xffff_0000_ffff_0000 x)
unfolding bit
quarters_parts = parts_all 16 0xffff_0000_ffff_0000 refl

pub bytes_parts : (x : ℕ) → x < 64 → (leb 8 x && word_dot 0xff00_ff00_ff00_ff00 (x - 8)) ≡ not (word_dot 0xff00_ff00_ff00_ff00 x)
unfolding bit
bytes_parts = parts_all 8 0xff00_ff00_ff00_ff00 refl

pub fours_parts : (x : ℕ) → x < 64 → (leb 4 x && word_dot 0xf0f0_f0f0_f0f0_f0f0 (x - 4)) ≡ not (word_dot 0xf0f0_f0f0_f0f0_f0f0 x)
unfolding bit
fours_parts = parts_all 4 0xf0f0_f0f0_f0f0_f0f0 refl

pub pairs_parts : (x : ℕ) → x < 64 → (leb 2 x && word_dot 0xcccc_cccc_cccc_cccc (x - 2)) ≡ not (word_dot 0xcccc_cccc_cccc_cccc x)
unfolding bit
pairs_parts = parts_all 2 0xcccc_cccc_cccc_cccc refl

pub ones_parts : (x : ℕ) → x < 64 → (leb 1 x && word_dot 0xaaaa_aaaa_aaaa_aaaa (x - 1)) ≡ not (word_dot 0xaaaa_aaaa_aaaa_aaaa x)
unfolding bit
ones_parts = parts_all 1 0xaaaa_aaaa_aaaa_aaaa refl
