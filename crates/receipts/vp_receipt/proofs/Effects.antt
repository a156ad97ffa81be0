-- What an item does is what its effect does.
use Rattle.std.proofs.lemmas.Grind.{common_steps}
use Rattle.std.proofs.Common.{◌≡◌, ℕ, Bool, true, if◌then◌else◌, refl, List, [], ◌∷◌, ◌++◌, Option, Some, IfSome, arith}
use Rattle.vp_esc.specs.declared.item.EscItem.{EscItem}
use Rattle.vp_esc.specs.declared.item.EscItem.TheVariants.{RasterByte}
use Rattle.vp_glyph.specs.Sheets.{Sheets}
use Rattle.vp_page.specs.Layers.{Layer}
use Rattle.vp_page.specs.Pages.{Paged}
use Rattle.vp_receipt_settings.specs.declared.effect.Piece.{Piece}
use Rattle.vp_receipt_settings.specs.declared.effect.Effect.{Effect}
use Rattle.vp_receipt_settings.specs.declared.effect.Effect.TheVariants.{Nothing, Puts, Fills, Draws, BeginsPage}
use Rattle.vp_receipt_settings.specs.declared.settings.Settings.{Settings}
use Rattle.vp_receipt_settings.specs.declared.page_mode.PrinterMode.{PrinterMode}
use Rattle.vp_receipt_settings.specs.declared.page_mode.PrinterMode.TheVariants.{Standard, Page}
use Rattle.vp_receipt_settings.specs.Setup.{Setup}
use Rattle.vp_receipt_settings.specs.Texts.{text_in_force}
use Rattle.vp_receipt_settings.specs.Line.{Placed, line, mode}
use Rattle.vp_receipt_settings.specs.Settings.{settings_of}
use Rattle.vp_receipt_settings.specs.Effects.{effect_of, is_page, waits_of}
use Rattle.vp_strips.specs.LineDots.{HasOpen}
use Rattle.vp_strips.specs.SymbolInks.{is_symbol}
use Rattle.vp_receipt.specs.PageMarks.{layers, layers_with}
use Rattle.vp_receipt.specs.Strips.{line_strip_rows, own_strips, own_part, prints, prints_page, page_part}
use Rattle.vp_receipt.specs.Effects.{line_by, line_rows_by, own_by, strips_by, page_by, part_by, prints_by, layers_by, mode_by}
use Rattle.vp_receipt.specs.Standing.{Gathers, HasPageIf, IsActing}
use Rattle.vp_receipt.proofs.ItemKinds.{is_ignored}

-- the kind of item that an effect tells
abbrev pub IsKind : EscItem → Effect → Type 0
IsKind item Nothing = is_ignored item ≡ true
IsKind item (Fills byte) = item ≡ RasterByte byte
IsKind item Draws = is_symbol item ≡ true
IsKind item effect = IsActing item

pub kind_is : (s : Settings) (item : EscItem) → IsKind item (effect_of s item)
kind_is s item = grind arith

pub is_acting : (item : EscItem) (effect : Effect) → (effect ≡ Nothing → ⊥) → ((byte : ℕ) → effect ≡ Fills byte → ⊥) → (effect ≡ Draws → ⊥) → IsKind item effect → IsActing item
is_acting item effect n f d h = grind arith

-- how an item goes with its effect
pub record Does (setup : Setup) (before : List EscItem) (item : EscItem) (effect : Effect) : Type 0 where
  pub line : line setup (item ∷ before) ≡ line_by setup before effect
  pub text : (code : ℕ) → waits_of effect ≡ Some code → text_in_force (item ∷ before) ≡ text_in_force before
  pub rows : line_strip_rows setup before item ≡ line_rows_by setup before effect
  pub own : own_strips setup before item ≡ own_by setup effect
  pub layers : mode setup before ≡ Page → layers_with setup before item (layers setup before) ≡ layers_by setup before effect
  pub page : page_part setup before item ≡ page_by setup before effect
  pub is_page : is_page effect ≡ prints_page item

pub does : (setup : Setup) (before : List EscItem) (item : EscItem) → IsActing item → Does setup before item (effect_of (settings_of setup before) item)
does setup before item h1 = grind (arith, common_steps)

-- what is printed
parted : (b : Bool) (l o p : List ℕ) → (if b then p else l ++ o) ≡ (if b then [] else l) ++ (if b then p else o)
parted b l o p = grind arith

pub prints_done : (setup : Setup) (before : List EscItem) (item : EscItem) (effect : Effect) → Does setup before item effect → prints_by setup before effect ≡ prints setup before item
prints_done setup before item effect d = grind (arith, parted)

pub part_done : (setup : Setup) (before : List EscItem) (item : EscItem) (effect : Effect) → Does setup before item effect → part_by setup before effect ≡ own_part setup before item
part_done setup before item effect d = rw (← d.own, ← d.page) refl

-- a character waits in the style in which it came
pub gathers_after : (setup : Setup) (before : List EscItem) (item : EscItem) (sheets : Sheets) (bitmap : List (List ℕ)) (waiting : Option ℕ) (placed : List Placed)
    → ((code : ℕ) → waiting ≡ Some code → text_in_force (item ∷ before) ≡ text_in_force before)
    → Gathers sheets (settings_of setup before) bitmap waiting placed → Gathers sheets (settings_of setup (item ∷ before)) bitmap waiting placed
gathers_after setup before item sheets bitmap waiting placed h g = grind arith

-- the page
pub on_paper : (m : PrinterMode) (layers : List Layer) (page : Paged) → m ≡ Standard → HasPageIf m layers page
on_paper m layers' page e = grind arith

pub page_after : (setup : Setup) (before : List EscItem) (item : EscItem) (page : Paged) (m : PrinterMode) → mode setup before ≡ m
    → Does setup before item (effect_of (settings_of setup before) item)
    → HasPageIf (mode_by setup before (effect_of (settings_of setup before) item)) (layers_by setup before (effect_of (settings_of setup before) item)) page
    → HasPageIf (mode setup (item ∷ before)) (layers setup (item ∷ before)) page
page_after setup before item page m h1 h2 h3 = grind arith

pub paper_mode : (setup : Setup) (before : List EscItem) (effect : Effect) → (effect ≡ BeginsPage → ⊥) → mode setup before ≡ Standard → mode_by setup before effect ≡ Standard
paper_mode setup before effect n m = grind arith

pub line_stays : (setup : Setup) (before : List EscItem) (effect : Effect) (s : Settings) (sheets : Sheets) (bitmap : List (List ℕ)) → ((piece : Piece) → effect ≡ Puts piece → ⊥)
    → s ≡ settings_of setup before → sheets ≡ setup.sheets → HasOpen (line setup before) bitmap → Gathers sheets s bitmap (waits_of effect) (line_by setup before effect)
line_stays setup before effect s sheets bitmap n e k h = grind arith

-- by mode
pub prints_of_strips : (setup : Setup) (before : List EscItem) (effect : Effect) → mode setup before ≡ Standard → strips_by setup before effect ≡ prints_by setup before effect
prints_of_strips setup before effect e = rw e refl

pub part_of_strips : (setup : Setup) (before : List EscItem) (effect : Effect) → mode setup before ≡ Standard → own_by setup effect ≡ part_by setup before effect
part_of_strips setup before effect e = rw e refl

pub some_of : {A : Type 0} (o : Option A) (P Q : A → Type 0) → ((x : A) → P x → Q x) → IfSome o P → IfSome o Q
some_of o P Q f h = grind arith
