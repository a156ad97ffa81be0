use Rattle.std.proofs.Common.{◌≡◌, ℕ, Bool, true, false, ltb, ◌&&◌, refl, ◌∙◌}
use Rattle.vp_aztec.specs.Encoding.{AztecSymbol}
use Rattle.vp_aztec.specs.Places.{side}
use Rattle.vp_aztec.specs.Modules.{module_of, dark}
use Rattle.vp_matrix.specs.declared.matrix.Matrix.TheVariants.{Aztec}
use Rattle.vp_matrix.specs.Symbols.{columns, rows, is_dark}
use Rattle.vp_matrix.proofs.matrix.Matrix.is_dark.Goals as goal

in_turn : (a b c : Bool) → (a && (b && c)) ≡ (b && (a && c))
in_turn true b c = refl
in_turn false true c = refl
in_turn false false c = refl

-- Aztec asks for the column first
turned : (s : AztecSymbol) (row column : ℕ) → dark s.size s.words s.mode column row ≡ is_dark (Aztec s) row column
unfolding columns rows is_dark
turned s row column = in_turn (ltb column (side s.size)) (ltb row (side s.size)) (module_of s.size s.words s.mode column row)

pub returns-in-DataMatrix : goal.returns-in-DataMatrix
unfolding columns rows is_dark
returns-in-DataMatrix c = rw c.in-DataMatrix.is c.data_matrix_dark.ensures

pub returns-in-Aztec : goal.returns-in-Aztec
returns-in-Aztec c = rw c.in-Aztec.is (c.is_dark.ensures ∙ turned c.in-Aztec.symbol c.args.row c.args.column)

pub returns-in-Pdf417 : goal.returns-in-Pdf417
unfolding columns rows is_dark
returns-in-Pdf417 c = rw c.in-Pdf417.is c.pdf417_dark.ensures
