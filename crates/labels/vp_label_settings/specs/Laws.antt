-- Words of the laws: settings and parts of a field in their ranges, in dots.
use Rattle.std.specs.Prelude.{◌≤◌, ℕ, Option, Some, None, IfSome}
use Rattle.vp_zpl.specs.declared.item.LineSpace.{LineSpace}
use Rattle.vp_zpl.specs.declared.item.LineSpace.TheVariants.{Added, Deleted}
use Rattle.vp_label_settings.specs.declared.size.CharacterSize.{CharacterSize}
use Rattle.vp_label_size.specs.declared.TheConstants.{WIDEST, LONGEST}
use Rattle.vp_label_settings.specs.declared.settings.Home.{Home}
use Rattle.vp_label_settings.specs.declared.settings.BarDefaults.{BarDefaults}
use Rattle.vp_label_settings.specs.declared.settings.Settings.{Settings}
use Rattle.vp_label_settings.specs.declared.choice.FieldBlock.{FieldBlock}
use Rattle.vp_format.specs.declared.field.GraphicBox.{GraphicBox}
use Rattle.vp_label_settings.specs.declared.graphic.PictureHead.{PictureHead}
use Rattle.vp_label_settings.specs.declared.choice.SymbolChoice.{SymbolChoice}
use Rattle.vp_label_settings.specs.declared.choice.SymbolChoice.TheVariants.{Bars, NotDrawn, Qr, Matrix}
use Rattle.vp_label_settings.specs.declared.choice.MatrixChoice.{MatrixChoice}
use Rattle.vp_label_settings.specs.declared.choice.MatrixAsked.{MatrixAsked}
use Rattle.vp_label_settings.specs.declared.choice.MatrixAsked.TheVariants.{DataMatrix, Pdf417, Aztec}
use Rattle.vp_shapes.specs.declared.ring.Ring.{Ring}
use Rattle.vp_shapes.specs.declared.diagonal.Diagonal.{Diagonal}
use Rattle.vp_label_settings.specs.declared.parts.Origin.{Origin}
use Rattle.vp_label_settings.specs.declared.parts.Origin.TheVariants.{UpperLeft, LowerLeft}
use Rattle.vp_label_settings.specs.declared.parts.OpenContent.{OpenContent}
use Rattle.vp_label_settings.specs.declared.parts.OpenContent.TheVariants.{Data, Frame, Ring as DrawRing, Diagonal as DrawDiagonal, Picture}
use Rattle.vp_label_settings.specs.declared.parts.FieldParts.{FieldParts}

pub record Within (low : ℕ) (high : ℕ) (n : ℕ) : Type 0 where
  pub least : low ≤ n
  pub most : n ≤ high

pub record IsSize (s : CharacterSize) : Type 0 where
  pub height : Within 1 1500 s.height
  pub width : Within 1 1500 s.width

pub record AreBars (d : BarDefaults) : Type 0 where
  pub module_dots : Within 1 10 d.module_dots
  pub ratio_tenths : Within 20 30 d.ratio_tenths
  pub height : Within 1 8000 d.height

pub record IsHome (h : Home) : Type 0 where
  pub x : h.x ≤ 32000
  pub y : h.y ≤ 32000

-- settings are in their ranges
pub record AreInRange (s : Settings) : Type 0 where
  pub home : IsHome s.home
  pub print_width : Within 1 WIDEST s.print_width
  pub label_length : Within 1 LONGEST s.label_length
  pub default_font : IsSize s.default_font
  pub bar_defaults : AreBars s.bar_defaults
  pub quantity : Within 1 99999999 s.quantity

abbrev pub IsSpace : LineSpace → Type 0
IsSpace (Added dots) = dots ≤ 9999
IsSpace (Deleted dots) = dots ≤ 9999

pub record IsFieldBlock (b : FieldBlock) : Type 0 where
  pub width : b.width ≤ 32000
  pub lines : Within 1 9999 b.lines
  pub space : IsSpace b.space

abbrev pub IsFieldBlockIf : Option FieldBlock → Type 0
IsFieldBlockIf None = Unit {0}
IsFieldBlockIf (Some b) = IsFieldBlock b

pub record IsFrame (b : GraphicBox) : Type 0 where
  pub thickness : Within 1 32000 b.thickness
  pub width : Within b.thickness 32000 b.width
  pub height : Within b.thickness 32000 b.height

pub record IsPictureHead (p : PictureHead) : Type 0 where
  pub row_bytes : Within 1 1024 p.row_bytes
  pub rows : 1 ≤ p.rows

-- ^FO and ^FT
abbrev pub IsOrigin : Origin → Type 0
IsOrigin (UpperLeft x y) = (x ≤ 32000) × (y ≤ 32000)
IsOrigin (LowerLeft x y) = (x ≤ 32000) × (y ≤ 32000)

-- ^BX, ^B7, ^BO: the dots of a module's side, or a row's height in modules
abbrev pub IsMatrixAsked : MatrixAsked → Type 0
IsMatrixAsked (DataMatrix side shape escape) = IfSome side (Within 1 64)
IsMatrixAsked (Pdf417 height asked) = IfSome height (Within 1 1000)
IsMatrixAsked (Aztec side asked) = Within 1 10 side

-- ^BQ; of bars the kind says all
abbrev pub IsSymbolIf : Option SymbolChoice → Type 0
IsSymbolIf None = Unit {0}
IsSymbolIf (Some (Bars b)) = Unit {0}
IsSymbolIf (Some NotDrawn) = Unit {0}
IsSymbolIf (Some (Qr model dots)) = Within 1 2 model × Within 1 10 dots
IsSymbolIf (Some (Matrix choice)) = IsMatrixAsked choice.asked

pub record IsRing (r : Ring) : Type 0 where
  pub width : Within 3 4095 r.width
  pub height : Within 3 4095 r.height
  pub thickness : Within 1 4095 r.thickness

pub record IsDiagonal (d : Diagonal) : Type 0 where
  pub width : Within 3 32000 d.width
  pub height : Within 3 32000 d.height
  pub thickness : Within 1 32000 d.thickness

-- a content begins behind no more bytes than are stored
abbrev pub IsContent : ℕ → OpenContent → Type 0
IsContent stored (Data start) = start ≤ stored
IsContent stored (Frame b colour) = IsFrame b
IsContent stored (DrawRing r colour) = IsRing r
IsContent stored (DrawDiagonal d colour) = IsDiagonal d
IsContent stored (Picture head start) = IsPictureHead head × (start ≤ stored)

-- the parts of a field are in their ranges, where `stored` bytes are stored
pub record AreParts (stored : ℕ) (p : FieldParts) : Type 0 where
  pub origin : IsOrigin p.origin
  pub symbol : IsSymbolIf p.symbol
  pub block : IsFieldBlockIf p.block
  pub content : IfSome p.content (IsContent stored)
