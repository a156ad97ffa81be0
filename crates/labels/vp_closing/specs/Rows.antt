-- A symbol in hand as an image, of a dot for each module.
use Rattle.vp_dots.specs.Images.{Image}
use Rattle.vp_matrix.specs.declared.matrix.Matrix.{Matrix}
use Rattle.vp_matrix.specs.Symbols.{columns, rows, is_dark}

abbrev pub image : Matrix → Image
image m = record { width = columns m; height = rows m; is_black = λ x y. is_dark m y x }
