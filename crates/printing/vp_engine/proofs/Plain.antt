-- A label printer stands as what it holds without its allocator does.
use Rattle.std.proofs.Common.{List, arith}
use Rattle.vp_glyph.specs.Sheets.{Sheets}
use Rattle.vp_zpl.specs.Items.{Item}
use Rattle.vp_label.specs.Standing.{Printing, Stands}
use Rattle.vp_engine.specs.Machines.{plain}

module _ {A : Type 0} (sheets : Sheets) (p : Printing A) where
  pub to_plain : (before : List Item) → Stands sheets p before → Stands sheets (plain p) before
  to_plain before s = grind arith

  pub from_plain : (before : List Item) → Stands sheets (plain p) before → Stands sheets p before
  from_plain before s = grind arith
