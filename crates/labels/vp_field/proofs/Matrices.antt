-- The ink of two-dimensional symbols on a label.
use Rattle.std.proofs.Common.{◌≡◌, ℕ, ◌<◌, Bool, true, false, ◌&&◌, refl, List, ℤ}
use Rattle.std.proofs.lemmas.Bool.{lt-ltb}
use Rattle.vp_zpl.specs.declared.item.Orientation.{Orientation}
use Rattle.vp_format.specs.declared.field.MatrixSymbol.{MatrixSymbol}
use Rattle.vp_field.specs.Standing.{standing}
use Rattle.vp_field.specs.Matrices.{matrix_width, matrix_height, matrix_dot, module_dot, module_inside}
use Rattle.vp_field.proofs.Shown.{standing_same}

guarded : (a b g : Bool) → (g ≡ true → (a ≡ true) × (b ≡ true)) → g ≡ (a && b && g)
guarded a b true h = let p = h refl in rw (p.0, p.1) refl
guarded true true false h = refl
guarded true false false h = refl
guarded false b false h = refl

-- a dot of a dark module lies in the box of the modules
matrix_same : (m : MatrixSymbol) (bytes : List ℕ) → 0 < m.wide → 0 < m.high → (x y : ℕ) → module_dot m bytes x y ≡ matrix_dot m bytes x y
matrix_same m bytes p q x y = guarded _ _ _ (λ t. let o = module_inside m bytes p q x y t in (lt-ltb _ _ o.0, lt-ltb _ _ o.1))

-- the modules as ink, standing somewhere
pub matrix_standing : (m : MatrixSymbol) (bytes : List ℕ) → 0 < m.wide → 0 < m.high → (left top : ℤ) (o : Orientation) (x y : ℤ)
    → standing left top o (matrix_width m) (matrix_height m) (module_dot m bytes) x y
    ≡ standing left top o (matrix_width m) (matrix_height m) (matrix_dot m bytes) x y
matrix_standing m bytes p q left top o x y =
    standing_same left top o (matrix_width m) (matrix_height m) (module_dot m bytes) (matrix_dot m bytes) (matrix_same m bytes p q) x y
