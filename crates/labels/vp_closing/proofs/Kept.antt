-- Contents that are stored, or will be, and fields that show them.
use Rattle.std.proofs.Common.{◌≡◌, ◌++◌, List, ℕ, ℤ, Result, IfOk, length-append, arith}
use Rattle.vp_dots.specs.declared.Op.{Op}
use Rattle.vp_dots.specs.declared.fault.Fault.{Fault}
use Rattle.vp_glyph.specs.Sheets.{Sheets}
use Rattle.vp_zpl.specs.declared.item.Orientation.{Orientation}
use Rattle.vp_format.specs.declared.field.Content.{Content}
use Rattle.vp_format.specs.declared.field.Content.TheVariants.{Text, Block, Box, Picture, Bars, Qr, Matrix, Ring, Diagonal}
use Rattle.vp_field.proofs.Behind.{stored_behind}
use Rattle.vp_field.specs.Contents.{content_width, content_height, orientation_of, IsStored}
use Rattle.vp_field.specs.Fields.{box_rows, IsKept}
use Rattle.vp_field.specs.Standing.{IsNear}
use Rattle.vp_field.specs.Turning.{turned_height}
use Rattle.vp_field.specs.declared.sized.SizedContent.{SizedContent}
use Rattle.vp_closing.specs.Contents.{IsShown}
use Rattle.vp_closing.proofs.Shown.{field}

pub shown : (stored made : List ℕ) (c : Content) → IsStored stored c → IsShown stored made c
shown stored made (Text t) h = h
shown stored made (Block b) h = h
shown stored made (Box b) h = h
shown stored made (Picture p) h = h
shown stored made (Bars b) h = h
shown stored made (Qr q) h = h
shown stored made (Matrix m) h = record {
  modules = record { inside = (let l = h.modules.inside in omega (arith, length-append stored made)); few = h.modules.few };
  wide_some = h.wide_some;
  wide_most = h.wide_most;
  high_some = h.high_some;
  high_most = h.high_most;
}
shown stored made (Ring r) h = h
shown stored made (Diagonal d) h = h

pub shown_if : (stored made : List ℕ) (r : Result SizedContent Fault) → IfOk r (λ s. IsStored stored s.content) → IfOk r (λ s. IsShown stored made s.content)
shown_if stored made r h = grind (arith, shown)

-- a field is kept when what it makes is stored
pub kept_behind : (stored made : List ℕ) (left top : ℤ) (rows : ℕ) (o : Orientation) (op : Op) (c : Content) → IsNear left top → IsShown stored made c
    → ((sheets : Sheets) → rows ≡ turned_height (orientation_of o c) (content_width sheets stored c) (content_height sheets stored c))
    → IsKept (stored ++ made) (field left top rows o op c)
kept_behind stored made left top rows o op (Matrix m) near h r = record { near = near; content = h; rows = r }
kept_behind stored made left top rows o op (Text t) near h r = stored_behind.kept stored made (field left top rows o op (Text t)) (record { near = near; content = h; rows = r })
kept_behind stored made left top rows o op (Block b) near h r = stored_behind.kept stored made (field left top rows o op (Block b)) (record { near = near; content = h; rows = r })
kept_behind stored made left top rows o op (Box b) near h r = stored_behind.kept stored made (field left top rows o op (Box b)) (record { near = near; content = h; rows = r })
kept_behind stored made left top rows o op (Picture p) near h r = stored_behind.kept stored made (field left top rows o op (Picture p)) (record { near = near; content = h; rows = r })
kept_behind stored made left top rows o op (Bars b) near h r = stored_behind.kept stored made (field left top rows o op (Bars b)) (record { near = near; content = h; rows = r })
kept_behind stored made left top rows o op (Qr q) near h r = stored_behind.kept stored made (field left top rows o op (Qr q)) (record { near = near; content = h; rows = r })
kept_behind stored made left top rows o op (Ring g) near h r = stored_behind.kept stored made (field left top rows o op (Ring g)) (record { near = near; content = h; rows = r })
kept_behind stored made left top rows o op (Diagonal d) near h r = stored_behind.kept stored made (field left top rows o op (Diagonal d)) (record { near = near; content = h; rows = r })
