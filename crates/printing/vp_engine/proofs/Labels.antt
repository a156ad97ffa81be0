-- The items of a label's bytes: what a label printer and a listing do with them.
use Rattle.std.proofs.Common.{◌≡◌, ℕ, List, [], ◌∷◌, ◌++◌, flat_map, reverse, append_assoc, Option, Some, None, Result, Ok, Err, OnOk, OnErr, MatchResult, refl, sym, ap, subst, ◌∙◌, arith}
use Rattle.std.specs.Option.{option_or}
use Rattle.std.proofs.lemmas.List.{reverse-append, reverse-reverse, append-nil, map-append}
use Rattle.vp_dots.specs.declared.fault.Fault.{Fault}
use Rattle.vp_glyph.specs.Sheets.{Sheets}
use Rattle.vp_esc.specs.declared.item.EscItem.TheVariants.{RasterByte}
use Rattle.vp_esc.specs.Lines.{line_of as raster_line}
use Rattle.vp_zpl.specs.declared.reading.Reading.{Reading as ZplReading}
use Rattle.vp_zpl.specs.Commands.{cut}
use Rattle.vp_zpl.specs.declared.item.ZplItem.{ZplItem}
use Rattle.vp_zpl.specs.declared.item.ZplItem.TheVariants as lent
use Rattle.vp_zpl.specs.Items.{Item, items, given, all_ended, data_items}
use Rattle.vp_zpl.specs.Items.Item.{Data}
use Rattle.vp_zpl.specs.Lines.{line_of}
use Rattle.vp_zpl.specs.Shown.{data_bytes, shown_item}
use Rattle.vp_label_settings.specs.Formats.{followed_by}
use Rattle.vp_label.specs.Prints.{all_print, prints, printed as printed_label}
use Rattle.vp_label.specs.Refusals.{first_refusal, refusal}
use Rattle.vp_label.specs.Standing.{Printing, Stands as LabelStands}
use Rattle.vp_engine.specs.Lines.{listed_line}
use Rattle.vp_engine.specs.Machines.{plain}
use Rattle.vp_engine.specs.Paper.{Rules, printed, newest_refusal}
use Rattle.vp_engine.specs.Setups.{rules_of}
use Rattle.vp_engine.specs.Setups.{Labels}
use Rattle.vp_engine.specs.Takes.{AreAccepted, Comes}
use Rattle.vp_engine.proofs.Faults.{none_first, none_second}
use Rattle.vp_engine.proofs.Plain.{to_plain}

pub items_none : (by : ZplReading) → items by [] ≡ []
unfolding items cut given all_ended
items_none by = refl

-- the lines of bytes of data, all behind one place or without
pub data_lines : (place : Option ℕ) (bytes : List ℕ) → flat_map (λ b. listed_line place (raster_line (RasterByte b))) bytes ≡ flat_map (λ i. listed_line place (line_of i)) (data_items bytes)
data_lines place [] = refl
data_lines place (b ∷ bytes) = ap (λ x. listed_line place (raster_line (RasterByte b)) ++ x) (data_lines place bytes)

module _ (by : ZplReading) (sheets : Sheets) where
  abbrev rules : Rules Item
  rules = rules_of (Labels by sheets)

  -- where none is refused, each is accepted
  pub all_accepted : (items before : List Item) → first_refusal sheets before items ≡ None → AreAccepted rules before items
  all_accepted [] before e = tt
  all_accepted (i ∷ items) before e = grind (arith, none_first, none_second, all_accepted items (i ∷ before) (none_second (refusal sheets before i) (first_refusal sheets (i ∷ before) items) e))

  pub printed_same : (h : List Item) → printed rules h ≡ printed_label sheets h
  printed_same [] = refl
  printed_same (i ∷ h) = ap (λ x. x ++ prints sheets h i) (printed_same h)

  -- items print one after the other
  pub all_printed : (items before : List Item) → printed rules (reverse items ++ before) ≡ printed rules before ++ all_print sheets before items
  all_printed [] before = sym (append-nil (printed rules before))
  all_printed (i ∷ items) before =
      ap (printed rules) (ap (λ x. x ++ before) (reverse-append (i ∷ []) items) ∙ append_assoc (reverse items) (i ∷ []) before)
      ∙ all_printed items (i ∷ before) ∙ append_assoc (printed rules before) (prints sheets before i) (all_print sheets (i ∷ before) items)

  module _ (order : (before items : List Item) → followed_by before items ≡ reverse items ++ before)
      (full : (before : List Item) (bytes : List ℕ) (byte : ℕ) (f : Fault) → first_refusal sheets before (data_items (bytes ++ byte ∷ [])) ≡ Some f → refusal sheets (followed_by before (data_items bytes)) (Data byte) ≡ Some f) where
    -- where data are refused, the newest byte is
    data_refused : (back bytes : List ℕ) (before : List Item) (f : Fault) → bytes ≡ reverse back → first_refusal sheets before (data_items bytes) ≡ Some f →
        newest_refusal rules (reverse (data_items bytes) ++ before) ≡ Some f
    data_refused [] bytes before f is e = let no : None ≡ Some f = ap (λ xs. first_refusal sheets before (data_items xs)) (sym is) ∙ e in cc
    data_refused (b ∷ back) bytes before f is e =
        let split : bytes ≡ reverse back ++ b ∷ [] = is ∙ reverse-append (b ∷ []) back in
        let last : reverse (data_items bytes) ++ before ≡ Data b ∷ (reverse (data_items (reverse back)) ++ before) =
        ap (λ xs. reverse (data_items xs) ++ before) split ∙ ap (λ (xs : List Item). reverse xs ++ before) (map-append Data (reverse back) (b ∷ []))
        ∙ ap (λ xs. xs ++ before) (reverse-append (data_items (reverse back)) (Data b ∷ [])) in
        ap (newest_refusal rules) last ∙ ap (λ h. refusal sheets h (Data b)) (sym (order before (data_items (reverse back))))
        ∙ full before (reverse back) b f (ap (λ xs. first_refusal sheets before (data_items xs)) (sym split) ∙ e)

    first_is : (o : Option Fault) (f : Fault) → option_or o None ≡ Some f → o ≡ Some f
    first_is o f e = grind arith

    newest_refused : (item : ZplItem) (before : List Item) (f : Fault) → first_refusal sheets before (shown_item item) ≡ Some f →
        newest_refusal rules (reverse (shown_item item) ++ before) ≡ Some f
    newest_refused (lent.Command sent) before f e = first_is _ f e
    newest_refused (lent.Data bytes) before f e = data_refused (reverse (data_bytes bytes.now)) (data_bytes bytes.now) before f (sym (reverse-reverse (data_bytes bytes.now))) e

    -- what comes of the items of a byte
    pub items_come : {A : Type 0} (Reads : List ℕ → Type 0) (old new : Printing A) (bytes : List ℕ) (before : List Item) (item : ZplItem) (result : Result (Unit {0}) Fault) →
        Reads bytes → LabelStands sheets old before → old.pending ≡ [] →
        MatchResult result (λ _. first_refusal sheets before (shown_item item) ≡ None) (λ f. first_refusal sheets before (shown_item item) ≡ Some f) →
        OnOk result ((sheets : Sheets) (before : List Item) → LabelStands sheets old before → LabelStands sheets new (followed_by before (shown_item item))) →
        OnOk result ((sheets : Sheets) (before : List Item) → LabelStands sheets old before → new.pending ≡ all_print sheets before (shown_item item)) → OnErr result (new ≡ old) →
        Comes rules (λ bytes before. Reads bytes × LabelStands sheets (plain new) before) new.pending bytes before (Ok (shown_item item)) result
    items_come Reads old new bytes before item (Ok done) reads at idle refused stands prints err = grind (arith, all_accepted, all_printed)
    items_come Reads old new bytes before item (Err f) reads at idle refused stands prints err =
        (newest_refused item before f refused, (reads, to_plain sheets new before (subst (λ (p : Printing _). LabelStands sheets p before) (sym err) at)), ap (λ (p : Printing _). p.pending) err ∙ idle)
