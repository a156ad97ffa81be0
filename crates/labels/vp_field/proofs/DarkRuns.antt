-- A row painted run by run of dark modules, and lines that show the same row.
use Rattle.std.proofs.Common.{inl, inr, ◌≡◌, ℕ, ◌+◌, ◌*◌, ◌/◌, ◌<◌, ◌≤◌, Bool, true, false, ltb, ◌&&◌, ◌||◌, refl, ap, ◌∙◌, arith, subst, List, ℤ}
use Rattle.std.proofs.Math.Nat.{zero-mul, mul-le-mul_right, le-div_iff_mul-le, div-lt_iff_lt-mul}
use Rattle.std.proofs.lemmas.Bool.{cases_eq, cases_lt, lt-ltb, le-ltb, lt-leb, le-leb}
use Rattle.std.proofs.lemmas.Bool.Decides.{nat_tests}
use Rattle.vp_dots.specs.Dots.{shifted, span}
use Rattle.vp_dots.specs.Painting.{Painted}
use Rattle.vp_dots.specs.declared.Op.{Op}
use Rattle.vp_dots.proofs.Moves.{moved_same, moved_then, row_init}
use Rattle.vp_format.specs.declared.field.MatrixSymbol.{MatrixSymbol}
use Rattle.vp_field.specs.Matrices.{is_dark, module_dot}

from_edge : (wide k x : ℕ) → 0 < wide → k * wide ≤ x → k ≤ x / wide
from_edge wide k x p l = (le-div_iff_mul-le {k = wide} {x = k} {y = x} p).1 l

before_edge : (wide k x : ℕ) → 0 < wide → x < k * wide → x / wide < k
before_edge wide k x p l = (div-lt_iff_lt-mul {k = wide} {x = x} {y = k} p).1 l

nothing : (b : Bool) → b ≡ (b || false)
nothing true = refl
nothing false = refl

module _ (op : Op) (at : ℤ) (wide : ℕ) (dark : ℕ → Bool) where
  -- the dots of the modules before one
  abbrev before : ℕ → ℕ → Bool
  before k x = ltb x (k * wide) && dark (x / wide)

  -- of the modules before `column` those before `from` are painted, and the others are all dark
  pub record Run (column from : ℕ) (a b : List ℕ) : Type 0 where
    pub order : from ≤ column
    pub solid : (k : ℕ) → from ≤ k → k < column → dark k ≡ true
    pub painted : Painted op (shifted at (before from)) a b

  module _ (some : 0 < wide) where
    joins : (from column x : ℕ) → from ≤ column → ((k : ℕ) → from ≤ k → k < column → dark k ≡ true)
        → before column x ≡ (before from x || span (from * wide) (column * wide) x)
    joins from column x order solid =
        let edges : from * wide ≤ column * wide = mul-le-mul_right wide order in
        elim (cases_lt x (from * wide)) [
          | inl l ↦
              let h : x < column * wide = omega (arith, l, edges) in
              rw (lt-ltb x (from * wide) l, lt-ltb x (column * wide) h, lt-leb (from * wide) x l) (nothing (dark (x / wide)))
          | inr l ↦ elim (cases_lt x (column * wide)) [
            | inl h ↦ rw (le-ltb x (from * wide) l, lt-ltb x (column * wide) h, le-leb (from * wide) x l)
                (solid (x / wide) (from_edge wide from x some l) (before_edge wide column x some h))
            | inr h ↦ rw (le-ltb x (from * wide) l, le-ltb x (column * wide) h, le-leb (from * wide) x l) refl
          ]
        ]

    apart : (from column x : ℕ) → (before from x && span (from * wide) (column * wide) x) ≡ false
    apart from column x = grind (arith, nat_tests)

    -- the run is painted
    run_painted : (column from : ℕ) (a b c : List ℕ) → Run column from a b → Painted op (shifted at (span (from * wide) (column * wide))) b c → Painted op (shifted at (before column)) a c
    run_painted column from a b c r q = moved_then op at (before from) (span (from * wide) (column * wide)) (before column) a b c r.painted q
        (λ x. joins from column x r.order r.solid) (λ x. apart from column x)

    pub run_none : (a : List ℕ) → Run 0 0 a a
    run_none a = record {
      order = omega arith;
      solid = λ k l h. absurd (omega (arith, h));
      painted = moved_same op at (λ x. ltb x 0 && dark (x / wide)) (before 0) a a (λ x. rw (zero-mul wide) refl) (row_init op at (λ x. dark (x / wide)) a);
    }

    pub run_at : (m n from : ℕ) (a b : List ℕ) → m ≡ n → Run m from a b → Run n from a b
    run_at m n from a b e r = subst (λ (k : ℕ). Run k from a b) e r

    -- a dark module more
    pub run_on : (column from : ℕ) (a b : List ℕ) → Run column from a b → dark column ≡ true → Run (column + 1) from a b
    run_on column from a b r t = record {
      order = omega (arith, r.order);
      solid = λ k l h. elim (cases_eq k column) [
        | inl e ↦ ap dark e ∙ t
        | inr n ↦ r.solid k l (omega (arith, n, h))
      ];
      painted = r.painted;
    }

    -- a light one, and the run before it is painted
    pub run_off : (column from : ℕ) (a b c : List ℕ) → Run column from a b → Painted op (shifted at (span (from * wide) (column * wide))) b c → dark column ≡ false
        → Run (column + 1) (column + 1) a c
    run_off column from a b c r q t = record {
      order = omega arith;
      solid = λ k l h. absurd (omega (arith, l, h));
      painted = moved_same op at (before column) (before (column + 1)) a c (λ x. light x) (run_painted column from a b c r q);
    } where
      light : (x : ℕ) → before column x ≡ before (column + 1) x
      light x = elim (cases_lt x (column * wide)) [
        | inl l ↦
            let h : x < (column + 1) * wide = omega (arith, l) in
            rw (lt-ltb x (column * wide) l, lt-ltb x ((column + 1) * wide) h) refl
        | inr l ↦ elim (cases_lt x ((column + 1) * wide)) [
          | inl h ↦
              let low = from_edge wide column x some l in
              let high = before_edge wide (column + 1) x some h in
              let e : x / wide ≡ column = omega (arith, low, high) in
              rw (le-ltb x (column * wide) l, lt-ltb x ((column + 1) * wide) h, e, t) refl
          | inr h ↦ rw (le-ltb x (column * wide) l, le-ltb x ((column + 1) * wide) h) refl
        ]
      ]

    -- all modules
    pub run_all : (column from n : ℕ) (a b c : List ℕ) → column ≡ n → Run column from a b → Painted op (shifted at (span (from * wide) (n * wide))) b c
        → ((k : ℕ) → n ≤ k → dark k ≡ false) → Painted op (shifted at (λ x. dark (x / wide))) a c
    run_all column from n a b c e r q t = moved_same op at (before n) (λ x. dark (x / wide)) a c (λ x. whole x)
        (run_painted n from a b c (run_at column n from a b e r) q) where
          whole : (x : ℕ) → before n x ≡ dark (x / wide)
          whole x = elim (cases_lt x (n * wide)) [
            | inl l ↦ rw (lt-ltb x (n * wide) l) refl
            | inr l ↦ rw (le-ltb x (n * wide) l, t (x / wide) (from_edge wide n x some l)) refl
          ]

-- no module is dark behind the last column
pub none_behind : (m : MatrixSymbol) (bytes : List ℕ) (row column : ℕ) → m.columns ≤ column → is_dark m bytes row column ≡ false
unfolding is_dark
none_behind m bytes row column h = rw (le-ltb column m.columns h) (nor (ltb row m.rows)) where
  nor : (b : Bool) → (b && false) ≡ false
  nor true = refl
  nor false = refl

-- lines of the row that line y shows
pub ink_alike : (m : MatrixSymbol) (bytes : List ℕ) (x y v : ℕ) → 0 < m.high → (y / m.high) * m.high ≤ v → v < (y / m.high + 1) * m.high → module_dot m bytes x v ≡ module_dot m bytes x y
ink_alike m bytes x y v p low above =
    let least = from_edge m.high (y / m.high) v p low in
    let most = before_edge m.high (y / m.high + 1) v p above in
    let q : v / m.high ≡ y / m.high = omega (arith, least, most) in
    rw q refl
