-- Lines of an area on the rows of a half, as lines of the page.
use Rattle.std.proofs.Common.{◌≡◌, ℕ, ◌+◌, ◌-◌, ◌*◌, ◌/◌, ◌%◌, ◌≤◌, ◌∙◌, ap, Bool, true, false, ltb, leb, eqb, ◌&&◌, arith, List, length, take, drop, take_all}
use Rattle.std.proofs.lemmas.Bool.Decides.{nat_tests}
use Rattle.vp_dots.specs.Dots.{dot, dots, span}
use Rattle.vp_page.specs.declared.area.Area.{Area}
use Rattle.vp_page.specs.declared.area.Direction.{Direction}
use Rattle.vp_page.specs.Areas.{is_level, turned}
use Rattle.vp_page.specs.Halves.{along_row, down_rows, from_top, half_dot}
use Rattle.vp_page.specs.Layers.{Mark, mark_dot}
use Rattle.vp_page.specs.Lines.{row_in}
use Rattle.vp_page.proofs.Rows.{dot_past}

-- a row on whole words, from an area's left on, and from its right edge to the left
pub whole_right : (a : Area) (bytes : List ℕ) (x : ℕ) → a.x % 8 ≡ 0 → 8 * length bytes ≤ a.dx
    → (leb (8 * (a.x / 8)) x && dot bytes (x - 8 * (a.x / 8))) ≡ (span a.x (a.x + a.dx) x && dot bytes (x - a.x))
whole_right a bytes x b s = let at : 8 * (a.x / 8) ≡ a.x = omega (arith, b) in rw at (grind (arith, nat_tests, dot_past))

pub whole_left : (a : Area) (bytes : List ℕ) (x : ℕ) → (a.x + a.dx) % 8 ≡ 0 → 8 * length bytes ≤ a.dx
    → (leb (8 * ((a.x + a.dx) / 8 - length bytes)) x && (ltb (x - 8 * ((a.x + a.dx) / 8 - length bytes)) (dots bytes) && dot bytes (dots bytes - 1 - (x - 8 * ((a.x + a.dx) / 8 - length bytes)))))
    ≡ (span a.x (a.x + a.dx) x && dot bytes (a.x + a.dx - 1 - x))
whole_left a bytes x b s = let at : 8 * ((a.x + a.dx) / 8 - length bytes) ≡ a.x + a.dx - 8 * length bytes = omega (arith, b) in rw at (grind (arith, nat_tests, dot_past))

-- a dot of the row that stands there
same_row : (s r o p q : Bool) (f : ℕ → Bool) (i k : ℕ) → s ≡ (r && (p && q)) → (s ≡ true → i ≡ k) → (s && (o && f i)) ≡ (o && r && (p && (q && f k)))
same_row s r o p q f i k e h = grind arith

module _ (a : Area) (d : Direction) (v top x y : ℕ) where
  -- a line on rows of a half
  pub line_dot : (times : ℕ) (line : List ℕ) (r : Bool) → span top (top + times) y ≡ (span a.y (a.y + a.dy) y && (leb v (down_rows a d y) && ltb (down_rows a d y - v) times))
      → r ≡ (span a.x (a.x + a.dx) x && dot line (along_row a d x)) → (span top (top + times) y && r) ≡ half_dot a d v (λ u w. ltb w times && dot line u) x y
  line_dot times line r e f = rw (e, f) (grind arith)

  -- and rows one below the other
  pub rows_dot : (bytes : List ℕ) (wide rows : ℕ) → span top (top + rows) y ≡ (span a.y (a.y + a.dy) y && (leb v (down_rows a d y) && ltb (down_rows a d y - v) rows))
      → (span top (top + rows) y ≡ true → from_top d rows (y - top) ≡ down_rows a d y - v)
      → (span top (top + rows) y && (span a.x (a.x + a.dx) x && dot (row_in bytes wide (from_top d rows (y - top))) (along_row a d x)))
      ≡ half_dot a d v (λ u w. ltb w rows && dot (row_in bytes wide w) u) x y
  rows_dot bytes wide rows e f = same_row _ _ _ _ _ (λ k. dot (row_in bytes wide k) (along_row a d x)) _ _ e f

pub once_dot : (a : Area) (d : Direction) (v x y : ℕ) (f g : ℕ → Bool) → ((u : ℕ) → f u ≡ g u) → half_dot a d v (λ u w. ltb w 1 && f u) x y ≡ half_dot a d v (λ u w. eqb w 0 && g u) x y
once_dot a d v x y f g e = rw (e (along_row a d x)) (grind (arith, nat_tests))

-- one row of bytes
pub first_dot : (a : Area) (d : Direction) (v x y : ℕ) (row : List ℕ) → half_dot a d v (λ u w. ltb w 1 && dot (row_in row (length row) w) u) x y ≡ half_dot a d v (λ u w. eqb w 0 && dot row u) x y
first_dot a d v x y row =
    let first : 0 * length row ≡ 0 = omega arith in
    let all : row_in row (length row) 0 ≡ row = ap (λ n. take (length row) (drop n row)) first ∙ take_all (length row) row (omega arith) in
    first_row _ _ (λ k. dot (row_in row (length row) k) (along_row a d x)) _ (down_rows a d y - v) (ap (λ r. dot r (along_row a d x)) all)
  where
    first_row : (o p : Bool) (f : ℕ → Bool) (b : Bool) (w : ℕ) → f 0 ≡ b → (o && (p && (ltb w 1 && f w))) ≡ (o && (p && (eqb w 0 && b)))
    first_row o p f b w e = grind (arith, nat_tests)

-- a level area as it is, and one whose lines run up or down turned
pub level_dot : (m : Mark) (x y : ℕ) → is_level m.direction ≡ true → half_dot m.area m.direction m.top m.dot x y ≡ mark_dot m x y
level_dot m x y e = grind arith

pub turned_dot : (m : Mark) (x y : ℕ) → is_level m.direction ≡ false → half_dot (turned m.area) m.direction m.top m.dot y x ≡ mark_dot m x y
turned_dot m x y e = grind arith
