-- A row painted run by run of dark modules, and lines that show the same row.
use Rattle.std.proofs.Common.{inl, inr, ◌≡◌, ℕ, ◌+◌, ◌-◌, ◌*◌, ◌/◌, ◌%◌, ◌<◌, ◌≤◌, Bool, true, false, eqb, eq-eqb, ltb, ◌&&◌, ◌||◌, refl, ap, ◌∙◌, arith, subst, List, ℤ}
use Rattle.std.proofs.Math.Nat.{zero-mul, mul-le-mul_right, le-div_iff_mul-le, div-lt_iff_lt-mul}
use Rattle.std.proofs.lemmas.Bool.{cases_eq, cases_lt, ne_eqb, lt-ltb, le-ltb, lt-leb, le-leb}
use Rattle.std.proofs.lemmas.Bool.Decides.{nat_tests}
use Rattle.vp_dots.specs.Dots.{shifted, span}
use Rattle.vp_dots.specs.Painting.{Painted}
use Rattle.vp_dots.specs.declared.Op.{Op}
use Rattle.vp_dots.proofs.Moves.{moved_same, moved_then, row_init}
use Rattle.std.specs.Int.{bit_at}
use Rattle.vp_dots.proofs.Paints.{painted_none}
use Rattle.vp_dots.proofs.Shifts.{shifted_none}
use Rattle.vp_pdf417.specs.Encoding.{Pdf417Symbol}
use Rattle.vp_pdf417.specs.Modules.{parts, across, part, module_of}
use Rattle.vp_matrix.specs.declared.matrix.Matrix.{Matrix}
use Rattle.vp_matrix.specs.declared.matrix.Matrix.TheVariants.{Pdf417}
use Rattle.vp_matrix.specs.Symbols.{columns, rows, is_dark}
use Rattle.vp_matrix.specs.Inks.{ink_of}

from_edge : (wide k x : ℕ) → 0 < wide → k * wide ≤ x → k ≤ x / wide
from_edge wide k x p l = (le-div_iff_mul-le {k = wide} {x = k} {y = x} p).1 l

before_edge : (wide k x : ℕ) → 0 < wide → x < k * wide → x / wide < k
before_edge wide k x p l = (div-lt_iff_lt-mul {k = wide} {x = x} {y = k} p).1 l

nothing : (b : Bool) → b ≡ (b || false)
nothing true = refl
nothing false = refl

module _ (op : Op) (at : ℤ) (wide : ℕ) (dark : ℕ → Bool) where
  -- the dots of the modules before one
  abbrev before : ℕ → ℕ → Bool
  before k x = ltb x (k * wide) && dark (x / wide)

  -- of the modules before `column` those before `from` are painted, and the others are all dark
  pub record Run (column from : ℕ) (a b : List ℕ) : Type 0 where
    pub order : from ≤ column
    pub solid : (k : ℕ) → from ≤ k → k < column → dark k ≡ true
    pub painted : Painted op (shifted at (before from)) a b

  module _ (some : 0 < wide) where
    joins : (from column x : ℕ) → from ≤ column → ((k : ℕ) → from ≤ k → k < column → dark k ≡ true)
        → before column x ≡ (before from x || span (from * wide) (column * wide) x)
    joins from column x order solid =
        let edges : from * wide ≤ column * wide = mul-le-mul_right wide order in
        elim (cases_lt x (from * wide)) [
          | inl l ↦
              let h : x < column * wide = omega (arith, l, edges) in
              rw (lt-ltb x (from * wide) l, lt-ltb x (column * wide) h, lt-leb (from * wide) x l) (nothing (dark (x / wide)))
          | inr l ↦ elim (cases_lt x (column * wide)) [
            | inl h ↦ rw (le-ltb x (from * wide) l, lt-ltb x (column * wide) h, le-leb (from * wide) x l)
                (solid (x / wide) (from_edge wide from x some l) (before_edge wide column x some h))
            | inr h ↦ rw (le-ltb x (from * wide) l, le-ltb x (column * wide) h, le-leb (from * wide) x l) refl
          ]
        ]

    apart : (from column x : ℕ) → (before from x && span (from * wide) (column * wide) x) ≡ false
    apart from column x = grind (arith, nat_tests)

    -- the run is painted
    run_painted : (column from : ℕ) (a b c : List ℕ) → Run column from a b → Painted op (shifted at (span (from * wide) (column * wide))) b c → Painted op (shifted at (before column)) a c
    run_painted column from a b c r q = moved_then op at (before from) (span (from * wide) (column * wide)) (before column) a b c r.painted q
        (λ x. joins from column x r.order r.solid) (λ x. apart from column x)

    pub run_none : (a : List ℕ) → Run 0 0 a a
    run_none a = record {
      order = omega arith;
      solid = λ k l h. absurd (omega (arith, h));
      painted = moved_same op at (λ x. ltb x 0 && dark (x / wide)) (before 0) a a (λ x. rw (zero-mul wide) refl) (row_init op at (λ x. dark (x / wide)) a);
    }

    pub run_at : (m n from : ℕ) (a b : List ℕ) → m ≡ n → Run m from a b → Run n from a b
    run_at m n from a b e r = subst (λ (k : ℕ). Run k from a b) e r

    -- a dark module more
    pub run_on : (column from : ℕ) (a b : List ℕ) → Run column from a b → dark column ≡ true → Run (column + 1) from a b
    run_on column from a b r t = record {
      order = omega (arith, r.order);
      solid = λ k l h. elim (cases_eq k column) [
        | inl e ↦ ap dark e ∙ t
        | inr n ↦ r.solid k l (omega (arith, n, h))
      ];
      painted = r.painted;
    }

    -- a light one, and the run before it is painted
    pub run_off : (column from : ℕ) (a b c : List ℕ) → Run column from a b → Painted op (shifted at (span (from * wide) (column * wide))) b c → dark column ≡ false
        → Run (column + 1) (column + 1) a c
    run_off column from a b c r q t = record {
      order = omega arith;
      solid = λ k l h. absurd (omega (arith, l, h));
      painted = moved_same op at (before column) (before (column + 1)) a c (λ x. light x) (run_painted column from a b c r q);
    } where
      light : (x : ℕ) → before column x ≡ before (column + 1) x
      light x = elim (cases_lt x (column * wide)) [
        | inl l ↦
            let h : x < (column + 1) * wide = omega (arith, l) in
            rw (lt-ltb x (column * wide) l, lt-ltb x ((column + 1) * wide) h) refl
        | inr l ↦ elim (cases_lt x ((column + 1) * wide)) [
          | inl h ↦
              let low = from_edge wide column x some l in
              let high = before_edge wide (column + 1) x some h in
              let e : x / wide ≡ column = omega (arith, low, high) in
              rw (le-ltb x (column * wide) l, lt-ltb x ((column + 1) * wide) h, e, t) refl
          | inr h ↦ rw (le-ltb x (column * wide) l, le-ltb x ((column + 1) * wide) h) refl
        ]
      ]

    -- all modules
    pub run_all : (column from n : ℕ) (a b c : List ℕ) → column ≡ n → Run column from a b → Painted op (shifted at (span (from * wide) (n * wide))) b c
        → ((k : ℕ) → n ≤ k → dark k ≡ false) → Painted op (shifted at (λ x. dark (x / wide))) a c
    run_all column from n a b c e r q t = moved_same op at (before n) (λ x. dark (x / wide)) a c (λ x. whole x)
        (run_painted n from a b c (run_at column n from a b e r) q) where
          whole : (x : ℕ) → before n x ≡ dark (x / wide)
          whole x = elim (cases_lt x (n * wide)) [
            | inl l ↦ rw (lt-ltb x (n * wide) l) refl
            | inr l ↦ rw (le-ltb x (n * wide) l, t (x / wide) (from_edge wide n x some l)) refl
          ]

-- a row that a PDF417 symbol has not
pub no_row : (op : Op) (at : ℤ) (wide : ℕ) (s : Pdf417Symbol) (line : ℕ) (a : List ℕ) → s.size.rows ≤ line
    → Painted op (shifted at (λ x. is_dark (Pdf417 s) line (x / wide))) a a
unfolding is_dark rows columns
no_row op at wide s line a h = painted_none op _ a (λ d l. shifted_none at _ d (λ x. rw (le-ltb line s.size.rows h) refl))

-- module i of part k of a row
pub part_module : (s : Pdf417Symbol) (line k i : ℕ) → line < s.size.rows → k < parts s.size → i < 17
    → is_dark (Pdf417 s) line (17 * k + i) ≡ eqb (bit_at (part s.size s.words line k) (16 - i)) 1
unfolding is_dark rows columns module_of
part_module s line k i row h l =
    let q : (17 * k + i) / 17 ≡ k = omega arith in
    let r : (17 * k + i) % 17 ≡ i = omega arith in
    rw (lt-ltb line s.size.rows row, lt-ltb (17 * k + i) (across s.size) (omega (arith, h, l)), q, r, ne_eqb k (parts s.size) (omega (arith, h))) refl

-- and the module behind all parts
pub last_module : (s : Pdf417Symbol) (line : ℕ) → line < s.size.rows → is_dark (Pdf417 s) line (17 * parts s.size) ≡ true
unfolding is_dark rows columns module_of
last_module s line row =
    let q : (17 * parts s.size) / 17 ≡ parts s.size = omega arith in
    rw (lt-ltb line s.size.rows row, lt-ltb (17 * parts s.size) (across s.size) (omega arith), q, eq-eqb (parts s.size) (parts s.size) refl) refl

-- no module is dark behind the last column
pub none_behind : (m : Matrix) (row column : ℕ) → columns m ≤ column → is_dark m row column ≡ false
unfolding is_dark
none_behind m row column h = rw (le-ltb column (columns m) h) (nor (ltb row (rows m))) where
  nor : (b : Bool) → (b && false) ≡ false
  nor true = refl
  nor false = refl

pub none_behind_parts : (s : Pdf417Symbol) (row column : ℕ) → 17 * parts s.size + 1 ≤ column → is_dark (Pdf417 s) row column ≡ false
unfolding columns
none_behind_parts s row column h = none_behind (Pdf417 s) row column h

-- lines of the row that line y shows
pub ink_alike : (m : Matrix) (wide high x y v : ℕ) → 0 < high → (y / high) * high ≤ v → v < (y / high + 1) * high → ink_of m wide high x v ≡ ink_of m wide high x y
ink_alike m wide high x y v p low above =
    let least = from_edge high (y / high) v p low in
    let most = before_edge high (y / high + 1) v p above in
    let q : v / high ≡ y / high = omega (arith, least, most) in
    rw q refl
