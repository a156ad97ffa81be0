-- Text that doesn't break the line: what it puts into it, and leaves alone, item by item.
use Rattle.std.proofs.lemmas.Grind.{common_steps}
use Rattle.std.proofs.Common.{◌≡◌, ℕ, ◌+◌, ◌-◌, ◌*◌, ◌/◌, ◌<◌, ◌≤◌, zero, suc, take, get_or, true, false, List, [], ◌∷◌, ◌++◌, length, sym, ap, subst, ◌∙◌, arith}
use Rattle.std.proofs.lemmas.Bool.Decides.{nat_tests}
use Rattle.std.specs.List.{AllByRecursion}
use Rattle.std.proofs.lemmas.Bool.{and_parts, lt-ltb, le-ltb}
use Rattle.std.proofs.Math.Nat.{div-mul-le_self, mul-le-mul_right, suc-mul}
use Rattle.std.proofs.lemmas.List.{append-nil, map-append, reverse-append, take_more}
use Rattle.std.proofs.lemmas.List.Elements.{All-from_recursion}
use Rattle.vp_esc.specs.declared.item.EscItem.{EscItem}
use Rattle.vp_esc.specs.declared.item.EscItem.TheVariants.{Character}
use Rattle.vp_esc.specs.Units.{single_item}
use Rattle.vp_esc.specs.Reader.{is_text}
use Rattle.vp_glyph.specs.Sheets.{Sheets}
use Rattle.vp_glyph.specs.Cells.{cell_width}
use Rattle.vp_receipt_settings.specs.Setup.{Setup}
use Rattle.vp_receipt_settings.specs.Texts.{style_of}
use Rattle.vp_receipt_settings.specs.declared.settings.Settings.{Settings}
use Rattle.vp_receipt_settings.specs.Line.{is_full, is_open, line, Placed}
use Rattle.vp_receipt_settings.specs.Settings.{settings_of, settings_length, image_of, IsFit}
use Rattle.vp_receipt_settings.specs.Gathering.{IsGathering}
use Rattle.vp_receipt_settings.specs.declared.raster.Raster.{Raster}
use Rattle.vp_receipt_settings.specs.Runs.{text_after}
use Rattle.vp_strips.specs.LineDots.{HasDots, HasOpen}
use Rattle.vp_receipt.specs.Standing.{LeavesAlone}
use Rattle.vp_receipt.proofs.Runs.{nothing_by}
use Rattle.vp_receipt.proofs.ItemKinds.{does_nothing}

-- text was put into the line, and there is room for so many characters more
pub record Put (old : Settings) (sheets : Sheets) (empty : List (List ℕ)) (text : List ℕ) (left : ℕ) (s : Settings) (bitmap : List (List ℕ)) : Type 0 where
  pub fit : IsFit s
  pub same : s ≡ record old { position = s.position; is_open = s.is_open; height = s.height; right_edge = s.right_edge }
  pub room : left * cell_width old.text.font (style_of old.text) ≤ settings_length old - s.position
  pub settings : (setup : Setup) (before : List EscItem) → old ≡ settings_of setup before → s ≡ settings_of setup (text_after text before)
  pub line : (setup : Setup) (before : List EscItem) → old ≡ settings_of setup before → sheets ≡ setup.sheets → HasOpen (line setup before) empty
      → HasOpen (line setup (text_after text before)) bitmap
  pub others : (setup : Setup) (before : List EscItem) → old ≡ settings_of setup before → LeavesAlone setup (text_after text before) before

pub none_put : (old : Settings) (sheets : Sheets) (bitmap : List (List ℕ)) (left : ℕ) → IsFit old → left ≤ (settings_length old - old.position) / cell_width old.text.font (style_of old.text)
    → Put old sheets bitmap [] left old bitmap
none_put old sheets bitmap left fit room = grind (arith, mul-le-mul_right, div-mul-le_self)

-- a control more
pub control_put : (old : Settings) (sheets : Sheets) (empty : List (List ℕ)) (text : List ℕ) (left : ℕ) (s : Settings) (bitmap : List (List ℕ)) (b : ℕ) → b < 0x20 → is_text b ≡ true
    → Put old sheets empty text (suc left) s bitmap → Put old sheets empty (text ++ b ∷ []) left s bitmap
control_put old sheets empty text left s bitmap b small text_is p = grind (arith, and_parts, lt-ltb, does_nothing, map-append, reverse-append, append-nil)

-- controls alone leave it as it is
pub controls_put : (old : Settings) (sheets : Sheets) (bitmap : List (List ℕ)) (text : List ℕ) (k : ℕ) → k ≤ length text → ((i : ℕ) → i < length text → get_or text i 0 < 0x20)
    → AllByRecursion (λ b. is_text b ≡ true) text → Put old sheets bitmap [] (length text) old bitmap → Put old sheets bitmap (take k text) (length text - k) old bitmap
controls_put old sheets bitmap text zero h small t none = subst (λ n. Put old sheets bitmap [] n old bitmap) (omega arith) none
controls_put old sheets bitmap text (suc k) h small t none =
    let there : k < length text = omega arith in
    let next : suc k ≡ k + 1 = omega arith in
    subst (λ xs. Put old sheets bitmap xs (length text - suc k) old bitmap) (sym (ap (λ n. take n text) next ∙ take_more text k 0 there))
    (control_put old sheets bitmap (take k text) (length text - suc k) old bitmap (get_or text k 0) (small k there) (All-from_recursion (λ b. is_text b ≡ true) text t k 0 there)
    (subst (λ n. Put old sheets bitmap (take k text) n old bitmap) (omega arith) (controls_put old sheets bitmap text k (omega arith) small t none)))

placed_last : (setup : Setup) (before : List EscItem) (c : ℕ) (s : Settings) (sheets : Sheets) (bitmap : List (List ℕ)) → s ≡ settings_of setup before → sheets ≡ setup.sheets → is_full setup before ≡ false
    → HasDots (record { at = s.position; image = image_of sheets s.text c } ∷ line setup before) bitmap → HasDots (line setup (Character c ∷ before)) bitmap
placed_last setup before c s sheets bitmap e k free h = grind arith

-- a character more
pub character_put : (old : Settings) (sheets : Sheets) (empty : List (List ℕ)) (text : List ℕ) (left : ℕ) (s t : Settings) (bitmap new : List (List ℕ)) (b : ℕ) → 0x20 ≤ b
    → Put old sheets empty text (suc left) s bitmap
    → ((setup : Setup) (before : List EscItem) (code : ℕ) → s ≡ settings_of setup before → t ≡ settings_of setup (Character code ∷ before))
    → t ≡ record s { position = s.position + cell_width s.text.font (style_of s.text); is_open = t.is_open; height = t.height; right_edge = t.right_edge } → IsFit t
    → ((placed : List Placed) → s.is_open ≡ is_open placed → HasOpen placed bitmap → HasDots (record { at = s.position; image = image_of sheets s.text b } ∷ placed) new)
    → Put old sheets empty (text ++ b ∷ []) left t new
character_put old sheets empty text left s t bitmap new b large p after moved fit put =
    let more : (before : List EscItem) → Character b ∷ text_after text before ≡ text_after (text ++ b ∷ []) before = grind (arith, nat_tests, map-append, reverse-append) in
    record {
      fit = fit;
      same = grind arith;
      room = grind (arith, suc-mul);
      settings = λ setup before e. after setup (text_after text before) b (p.settings setup before e) ∙ ap (settings_of setup) (more before);
      line = λ setup before e k h opens.
          let now = p.settings setup before e in
          subst (λ (items : List EscItem). HasDots (line setup items) new) (more before)
          (placed_last setup (text_after text before) b s sheets new now k (grind (arith, le-ltb))
          (put (line setup (text_after text before)) (ap (λ (q : Settings). q.is_open) now) (p.line setup before e k h)));
      others = λ setup before e.
          subst (λ (items : List EscItem). LeavesAlone setup items before) (more before)
          (grind (arith, nothing_by, append-nil));
    }

-- it ends the raster that came
pub text_ends : (r : Raster) (text : List ℕ) (before : List EscItem) → AllByRecursion (λ b. is_text b ≡ true) text → 0 < length text → IsGathering r [] → IsGathering r (text_after text before)
text_ends r (b ∷ d ∷ text) before t some g = grind (arith, common_steps, text_ends r (d ∷ text) (single_item b ∷ before) t.1 (omega arith) g)
text_ends r text before t some g = grind arith
