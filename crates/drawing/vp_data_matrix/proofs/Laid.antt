-- The matrix as bits are laid on it.
use Rattle.std.proofs.Common.{◌≡◌, ℕ, zero, suc, ◌+◌, ◌-◌, ◌*◌, ◌<◌, ◌&&◌, ◌||◌, not, Bool, true, false, cond, eqb, List, [], ◌∷◌, ◌++◌, length, take, get_or, set, replicate, refl, subst, ap, ◌∙◌, arith, add-one, get_or-set_same, get_or-set_other}
use Rattle.std.specs.List.{list_any}
use Rattle.std.proofs.lemmas.List.{take_more}
use Rattle.vp_data_matrix.specs.declared.grid.Place.{Place}
use Rattle.vp_data_matrix.specs.declared.grid.Matrix.{Matrix}
use Rattle.vp_data_matrix.specs.declared.grid.Grid.{Grid}
use Rattle.vp_data_matrix.specs.declared.grid.Cell.{Cell}
use Rattle.vp_data_matrix.specs.declared.grid.Cell.TheVariants.{Free, Light, Dark}
use Rattle.vp_data_matrix.specs.Placement.{is_at, laid_on, codeword_at, places, step, upwards, downwards, diagonals, corner}
use Rattle.vp_data_matrix.specs.Modules.{data_bit, bit_on, fixed_place, fixed, matrix_module}
use Rattle.vp_data_matrix.specs.Grids.{is_free, is_dark, bit_cell, cell_of, IsLaid}

-- a row that is set, of which one cell is another
pub row_set : (cells : List (List Cell)) (new : List Cell) (row column i j : ℕ) (v : Cell) → row < length cells
    → ((k : ℕ) → get_or new k Free ≡ cond (eqb column k) v (get_or (get_or cells row []) k Free))
    → get_or (get_or (set cells row new) i []) j Free ≡ cond (eqb row i && eqb column j) v (get_or (get_or cells i []) j Free)
row_set cells new row column i j v hr h = grind (arith, get_or-set_same, get_or-set_other)

-- one bit more
pub laid_more : (codewords : List ℕ) (laid : List Place) (p : Place) (old new : Grid) (v : Cell) → new.matrix ≡ old.matrix → new.laid ≡ old.laid + 1
    → v ≡ bit_cell codewords old.laid
    → ((i j : ℕ) → i < old.matrix.rows → j < old.matrix.columns → get_or (get_or new.cells i []) j Free ≡ cond (is_at i j p) v (get_or (get_or old.cells i []) j Free))
    → IsLaid codewords laid old → IsLaid codewords (p ∷ laid) new
laid_more codewords laid p old new v m n e cells h = record {
  count = n ∙ ap (λ k. k + 1) h.count ∙ omega arith;
  cells_are = λ (i j : ℕ) (hi : i < new.matrix.rows) (hj : j < new.matrix.columns).
      let row : i < old.matrix.rows = subst (λ (s : Matrix). i < s.rows) m hi in
      let column : j < old.matrix.columns = subst (λ (s : Matrix). j < s.columns) m hj in
      cells i j row column
      ∙ ap (λ (c : Cell). cond (is_at i j p) c (get_or (get_or old.cells i []) j Free)) (e ∙ ap (bit_cell codewords) h.count)
      ∙ ap (λ (c : Cell). cond (is_at i j p) (bit_cell codewords (length laid)) c) (h.cells_are i j row column);
}

-- a place outside the matrix is that of none of its modules
pub row_apart : (p : Place) (i j : ℕ) (v c : Cell) → i < p.row → c ≡ cond (is_at i j p) v c
row_apart p i j v c h = grind arith

pub column_apart : (p : Place) (i j : ℕ) (v c : Cell) → j < p.column → c ≡ cond (is_at i j p) v c
column_apart p i j v c h = grind arith

-- nothing is laid
pub none_laid : (n k i j : ℕ) → get_or (get_or (replicate n (replicate k Free)) i []) j Free ≡ Free
none_laid zero k i j = refl
none_laid (suc n) k zero j = none_in k j
  where
    none_in : (k j : ℕ) → get_or (replicate k Free) j Free ≡ Free
    none_in zero j = refl
    none_in (suc k) zero = refl
    none_in (suc k) (suc j) = none_in k j
none_laid (suc n) k (suc i) j = none_laid n k i j

-- eight bits
pub laid_front : (places : List Place) (i : ℕ) (d : Place) (laid : List Place) → i < length places → laid_on (take (i + 1) places) laid ≡ get_or places i d ∷ laid_on (take i places) laid
laid_front places i d laid h = ap (λ (l : List Place). laid_on l laid) (take_more places i d h) ∙ laid_behind (take i places) (get_or places i d) laid
  where
    laid_behind : (xs : List Place) (x : Place) (laid : List Place) → laid_on (xs ++ x ∷ []) laid ≡ x ∷ laid_on xs laid
    laid_behind [] x laid = refl
    laid_behind (y ∷ xs) x laid = laid_behind xs x (y ∷ laid)

-- a step by whether its place is free
pub step_taken : (m : Matrix) (row column : ℕ) (laid : List Place) → list_any (is_at row column) laid ≡ true → step m row column laid ≡ laid
unfolding step
step_taken m row column laid h = grind arith

pub step_free : (m : Matrix) (row column : ℕ) (laid : List Place) → row < m.rows → column < m.columns → list_any (is_at row column) laid ≡ false
    → step m row column laid ≡ laid_on (codeword_at m row column) laid
unfolding step
step_free m row column laid hr hc h = grind arith

-- steps and diagonals
pub upwards_more : (m : Matrix) (d n : ℕ) (laid : List Place) → upwards m d (n + 1) laid ≡ step m (d - 2 * n) (2 * n) (upwards m d n laid)
unfolding upwards
upwards_more m d n laid = rw add-one refl

pub downwards_more : (m : Matrix) (d n : ℕ) (laid : List Place) → downwards m d (n + 1) laid ≡ step m (2 * n + 1) (d - (2 * n + 1)) (downwards m d n laid)
unfolding downwards
downwards_more m d n laid = rw add-one refl

pub upwards_none : (m : Matrix) (d : ℕ) (laid : List Place) → upwards m d 0 laid ≡ laid
unfolding upwards
upwards_none m d laid = refl

pub downwards_none : (m : Matrix) (d : ℕ) (laid : List Place) → downwards m d 0 laid ≡ laid
unfolding downwards
downwards_none m d laid = refl

pub diagonals_none : (m : Matrix) → diagonals m 0 ≡ []
unfolding diagonals
diagonals_none m = refl

pub diagonals_more : (m : Matrix) (n : ℕ) → diagonals m (n + 1)
    ≡ downwards m (8 * n + 8) (4 * n + 4) (upwards m (8 * n + 4) (4 * n + 3) (laid_on (corner m (8 * n + 4)) (diagonals m n)))
unfolding diagonals
diagonals_more m n = rw add-one refl

-- whether a bit stands on a module, and whether it is set
pub free_is : (codewords : List ℕ) (laid : List Place) (i j : ℕ) → is_free (cell_of codewords laid i j) ≡ not (list_any (is_at i j) laid)
free_is codewords [] i j = refl
free_is codewords (p ∷ laid) i j = by_cases (is_at i j p) (data_bit codewords (length laid)) (cell_of codewords laid i j) (list_any (is_at i j) laid) (free_is codewords laid i j)
  where
    by_cases : (here set_bit : Bool) (c : Cell) (before : Bool) → is_free c ≡ not before → is_free (cond here (cond set_bit Dark Light) c) ≡ not (here || before)
    by_cases true true c before h = refl
    by_cases true false c before h = refl
    by_cases false set_bit c before h = h

pub dark_is : (codewords : List ℕ) (laid : List Place) (i j : ℕ) → is_dark (cell_of codewords laid i j) ≡ bit_on codewords laid i j
unfolding bit_on
dark_is codewords [] i j = refl
dark_is codewords (p ∷ laid) i j = by_cases (is_at i j p) (data_bit codewords (length laid)) (cell_of codewords laid i j) (bit_on codewords laid i j) (dark_is codewords laid i j)
  where
    by_cases : (here set_bit : Bool) (c : Cell) (before : Bool) → is_dark c ≡ before → is_dark (cond here (cond set_bit Dark Light) c) ≡ cond here set_bit before
    by_cases true true c before h = refl
    by_cases true false c before h = refl
    by_cases false set_bit c before h = h

pub fixed_not : (m : Matrix) (laid : List Place) (i j : ℕ) → list_any (is_at (m.rows - 1) (m.columns - 1)) laid ≡ true → false ≡ fixed m laid i j
fixed_not m laid i j h = rw h refl

pub fixed_here : (m : Matrix) (laid : List Place) (i j : ℕ) → list_any (is_at (m.rows - 1) (m.columns - 1)) laid ≡ false
    → fixed_place m i j ≡ fixed m laid i j
fixed_here m laid i j h = rw h refl

pub taken_from : (b : Bool) → false ≡ not b → b ≡ true
taken_from true h = refl
taken_from false h = cc

pub free_from : (b : Bool) → true ≡ not b → b ≡ false
free_from true h = cc
free_from false h = refl

pub module_is : (m : Matrix) (codewords : List ℕ) (i j : ℕ) (b : Bool) → false ≡ fixed m (places m) i j → b ≡ bit_on codewords (places m) i j → b ≡ matrix_module m codewords i j
unfolding matrix_module
module_is m codewords i j b e f = f ∙ ap (λ c. c || bit_on codewords (places m) i j) e

pub module_fixed : (m : Matrix) (codewords : List ℕ) (i j : ℕ) → true ≡ fixed m (places m) i j → true ≡ matrix_module m codewords i j
unfolding matrix_module
module_fixed m codewords i j e = ap (λ c. c || bit_on codewords (places m) i j) e
