-- Images of one width, one after the other, are strips.
use Rattle.std.proofs.Common.{◌≡◌, ℕ, ◌+◌, ◌*◌, ◌≤◌, List, [], ◌∷◌, flat_map, refl, sym, ap, ◌∙◌, arith}
use Rattle.std.proofs.lemmas.Bool.{ne_eqb}
use Rattle.std.proofs.lemmas.List.{append-nil}
use Rattle.vp_dots.specs.Dots.{dot}
use Rattle.vp_dots.specs.Images.{Image, row_bytes, image_rows, pbm}
use Rattle.vp_dots.proofs.ImageLaws.{length-image_rows}
use Rattle.vp_join.specs.Strips.{greatest, Strip, IsNumber, AreStrips, height_of, strips_rows, strips_text, IsJoined, AreImages, height_together}

-- the strip of an image
abbrev strip_of : Image → Strip
strip_of image = record { width = image.width; height = image.height; rows = image_rows image }

abbrev strips_of : List Image → List Strip
strips_of [] = []
strips_of (image ∷ images) = strip_of image ∷ strips_of images

heights : (images : List Image) → height_of (strips_of images) ≡ height_together images
heights [] = refl
heights (image ∷ images) = ap (λ h. image.height + h) (heights images)

module _ (width : ℕ) (fits : IsNumber width) where
  are_strips : (images : List Image) → AreImages width images → height_together images ≤ greatest → AreStrips width (strips_of images)
  are_strips [] are most = tt
  are_strips (image ∷ images) are most = grind (arith, length-image_rows, are_strips images are.1)

  texts : (images : List Image) → AreImages width images → flat_map pbm images ≡ strips_text (strips_of images)
  texts [] are = refl
  texts (image ∷ images) are = grind (arith, ne_eqb, texts images are.1)

  pub together : (images : List Image) → AreImages width images → height_together images ≤ greatest →
      (image : Image) × IsJoined (flat_map pbm images) image × (image.width ≡ width) × (image.height ≡ height_together images)
  together images are most =
      let strips = strips_of images in
      let high = heights images in (
        record { width = width; height = height_of strips; is_black = λ x y. dot (strips_rows strips) (8 * (y * row_bytes width) + x) },
        record {
          strips = strips;
          begins = record { are = are_strips images are most; height_fits = omega (arith, high, most); text_is = texts images are ∙ sym (append-nil (strips_text strips)) };
          height_is = refl;
          dots_are = λ x y l k. refl;
        },
        refl,
        high,
      )
