use Rattle.std.proofs.Common.{◌∙◌, ap, arith, ◌&&◌}
use Rattle.std.proofs.lemmas.Bool.{lt-ltb, le-ltb}
use Rattle.vp_dots.proofs.ImageLaws.{length-image_rows, image_bit, pbm_same}
use Rattle.vp_dots.proofs.image.image_law.Goals as goal

pub returns : goal.returns
returns c = record {
  count = length-image_rows;
  black = λ i x y l m. image_bit i x y (omega arith) m ∙ ap (λ t. t && i.is_black x y) (lt-ltb x i.width l);
  padding = λ i x y l b m. image_bit i x y b m ∙ ap (λ t. t && i.is_black x y) (le-ltb x i.width l);
  same = pbm_same;
}
