-- Pictures whose codes are read are as the format keeps them.
use Rattle.std.proofs.Common.{◌≡◌, ◌≤◌, ◌+◌, ℕ, false, List, length, arith}
use Rattle.vp_label_settings.specs.declared.graphic.PictureHead.{PictureHead}
use Rattle.vp_format.specs.declared.field.Span.{Span}
use Rattle.vp_format.specs.declared.format.TheConstants.{STORED}
use Rattle.vp_label_settings.specs.Laws.{IsPictureHead as IsHead}
use Rattle.vp_field.specs.Contents.{picture_of, IsPicture}
use Rattle.vp_closing.specs.Graphics.{picture_with, has_refused}
use Rattle.vp_closing.proofs.Reading.{row_taken}

pub picture_stored : (stored : List ℕ) (head : PictureHead) (codes : Span) → IsHead head
    → codes.start + codes.len ≤ length stored → length stored ≤ STORED
    → has_refused (picture_of stored (picture_with head codes)) ≡ false → IsPicture stored (picture_with head codes)
picture_stored stored head codes fits among few none = grind (arith, row_taken)
