-- What an item leaves of the settings is what its effect leaves.
use Rattle.std.proofs.lemmas.Grind.{common_steps}
use Rattle.std.proofs.Common.{◌≡◌, ◌≤◌, ℕ, List, [], ◌∷◌, arith}
use Rattle.vp_esc.specs.declared.item.EscItem.{EscItem}
use Rattle.vp_esc.specs.declared.item.EscItem.TheVariants.{RasterByte, PageMode}
use Rattle.vp_receipt_settings.specs.declared.effect.Effect.{Effect}
use Rattle.vp_receipt_settings.specs.declared.effect.Effect.TheVariants.{Sets, Initializes}
use Rattle.vp_receipt_settings.specs.declared.page_mode.PrinterMode.{PrinterMode}
use Rattle.vp_receipt_settings.specs.declared.settings.Settings.{Settings}
use Rattle.vp_receipt_settings.specs.Setup.{Setup}
use Rattle.vp_receipt_settings.specs.Tabs.{tab_stops}
use Rattle.vp_receipt_settings.specs.Symbols.{symbol_image, image_rows}
use Rattle.vp_receipt_settings.specs.Line.{vertical, Frame}
use Rattle.vp_receipt_settings.specs.Settings.{settings_of, page_of}
use Rattle.vp_receipt_settings.specs.Effects.{effect_of}
use Rattle.vp_receipt_settings.specs.Followed.{with_set, line_after, page_after}

-- what is in force after an item: what it sets itself, or what its effect leaves
abbrev pub by_effect : Effect → Settings → Settings → Settings → Settings
by_effect Sets set start followed = set
by_effect Initializes set start followed = start
by_effect _ set start followed = followed

abbrev pub followed : Setup → List EscItem → EscItem → Effect → Settings
followed setup before item effect =
    let s = settings_of setup before in
    by_effect effect (with_set setup before item s) (settings_of setup [])
    (record (line_after s effect (tab_stops before)) { page = page_after s effect (image_rows (symbol_image setup before item)) })

abbrev pub Follows : Setup → List EscItem → EscItem → Effect → Type 0
Follows setup before item effect = followed setup before item effect ≡ settings_of setup (item ∷ before)

abbrev begun_by : Setup → List EscItem → Frame → Settings
begun_by setup before f =
    record (settings_of setup (PageMode ∷ before)) {
      left_margin = f.left_margin;
      area_width = f.area_width;
      page = record (page_of setup (PageMode ∷ before)) { mode = f.mode };
    }

abbrev begun_in : Setup → List EscItem → PrinterMode → Settings
begun_in setup before m = record (settings_of setup (PageMode ∷ before)) { page = record (page_of setup (PageMode ∷ before)) { mode = m } }

pub follows : (setup : Setup) (before : List EscItem) (item : EscItem) → ((byte : ℕ) → item ≡ RasterByte byte → ⊥) → vertical setup before ≤ 65535
    → Follows setup before item (effect_of (settings_of setup before) item)
follows setup before item h1 h2 = grind (arith, common_steps)

pub follows_from : (setup : Setup) (before : List EscItem) (item : EscItem) (s : Settings) (effect : Effect) → ((byte : ℕ) → item ≡ RasterByte byte → ⊥) → s.page.vertical ≤ 65535 → effect ≡ effect_of s item → s ≡ settings_of setup before
    → Follows setup before item effect
follows_from setup before item s effect n h is e = grind (arith, follows)

-- an effect that neither sets nor initializes
pub by_rest : (effect : Effect) (set start rest : Settings) → (effect ≡ Sets → ⊥) → (effect ≡ Initializes → ⊥) → rest ≡ by_effect effect set start rest
by_rest effect set start rest n m = grind arith

pub rest_is : (s : Settings) (effect : Effect) (setup : Setup) (before : List EscItem) (item : EscItem) (stops : List ℕ) (rows : ℕ) → s ≡ settings_of setup before → stops ≡ tab_stops before → rows ≡ image_rows (symbol_image setup before item)
    → record (line_after s effect stops) { page = page_after s effect rows }
    ≡ record (line_after (settings_of setup before) effect (tab_stops before)) { page = page_after (settings_of setup before) effect (image_rows (symbol_image setup before item)) }
rest_is s effect setup before item stops rows e t r = grind arith
