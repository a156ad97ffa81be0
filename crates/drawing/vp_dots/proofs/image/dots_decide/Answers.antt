use Rattle.std.proofs.Common.{arith}
use Rattle.vp_dots.proofs.ImageRows.{row_is}
use Rattle.vp_dots.proofs.ImageLaws.{image_row_is}
use Rattle.vp_dots.proofs.image.dots_decide.Goals as goal

pub returns : goal.returns
returns c = record {
  row = λ n f long same. row_is c.args.row.now n f long (λ k. omega (arith, c.type_inv.row k)) same;
  image = λ i y long same white. image_row_is i c.args.row.now y long (λ k. omega (arith, c.type_inv.row k)) same white;
}
