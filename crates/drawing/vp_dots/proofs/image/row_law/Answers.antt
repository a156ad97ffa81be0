use Rattle.vp_dots.proofs.ImageRows.{length-row_from, dot-row_of, fits-row_of, row_of_same}
use Rattle.vp_dots.proofs.image.row_law.Goals as goal

pub returns : goal.returns
returns c = record { count = λ n f. length-row_from n f 0; bytes = fits-row_of; dots = dot-row_of; same = row_of_same }
