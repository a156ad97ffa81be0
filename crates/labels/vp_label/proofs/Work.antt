-- What painting the label that was printed last takes.
use Rattle.std.proofs.Common.{◌≡◌, ◌<◌, ◌≤◌, ◌∙◌, ℕ, List, [], ◌∷◌, length, ap, sym, refl, arith, length-drop}
use Rattle.std.proofs.lemmas.Grind.{common_steps}
use Rattle.std.proofs.lemmas.Bool.{le-ltb}
use Rattle.vp_field.specs.declared.view.View.{View}
use Rattle.vp_format.specs.declared.field.Field.{Field}
use Rattle.vp_glyph.specs.Sheets.{Sheets}
use Rattle.vp_zpl.specs.Items.{Item, data_items}
use Rattle.vp_zpl.specs.Items.Item.{Data}
use Rattle.vp_label_settings.specs.Formats.{followed_by}
use Rattle.vp_label_settings.specs.Settings.{settings_of}
use Rattle.vp_bands.specs.Meeting.{bands_of, copy_work, shown_pairs}
use Rattle.vp_label.specs.Entries.{printed_bytes, printed_entries}
use Rattle.vp_label.specs.Prints.{prints, view_of}
use Rattle.vp_label.specs.Standing.{painting, shown, IsPrinting, Printing}
use Rattle.vp_label.specs.Work.{label_work, label_shown, most_work, least_work, of_last}

pub none_left : (pending : List ℕ) → length pending ≤ 0 → pending ≡ []
none_left pending none = grind (arith, common_steps)

-- an item that prints nothing leaves the label that was printed last, and one that prints is it
same_label : (number : Sheets → List Item → ℕ) (sheets : Sheets) (before : List Item) (item : Item) → prints sheets before item ≡ [] → of_last number sheets (item ∷ before) ≡ of_last number sheets before
same_label number sheets before item none = rw (le-ltb 0 (length (prints sheets before item)) (omega (arith, ap length none))) refl

pub data_work : (number : Sheets → List Item → ℕ) (sheets : Sheets) (before : List Item) (bytes : List ℕ) → of_last number sheets (followed_by before (data_items bytes)) ≡ of_last number sheets before
data_work number sheets before [] = refl
data_work number sheets before (b ∷ bytes) = data_work number sheets (Data b ∷ before) bytes

-- an item begins a label, whose painting took nothing yet, or it prints nothing
pub newest_most : (sheets : Sheets) (before : List Item) (item : Item) (pending : List ℕ) (old new : ℕ) → pending ≡ prints sheets before item → (0 < length pending → new ≡ 0) → (pending ≡ [] → new ≡ old) →
    old ≤ most_work sheets before → new ≤ most_work sheets (item ∷ before)
newest_most sheets before item pending old new is begun idle le = grind (arith, common_steps)

pub newest_least : (sheets : Sheets) (before : List Item) (item : Item) (pending : List ℕ) (old new : ℕ) → pending ≡ prints sheets before item → (pending ≡ [] → new ≡ old) →
    least_work sheets before ≤ old → pending ≡ [] → least_work sheets (item ∷ before) ≤ new
newest_least sheets before item pending old new is idle le none = omega (arith, idle none, le, same_label label_shown sheets before item (sym is ∙ none))

-- while bytes are pending, it is the format that is held
held_last : {A : Type 0} (number : Sheets → List ℕ → View → List Field → ℕ) (last : Sheets → List Item → ℕ)
    → ((sheets : Sheets) (before : List Item) → last sheets before ≡ number sheets (printed_bytes before) (view_of (settings_of before)) (printed_entries sheets before))
    → (sheets : Sheets) (p : Printing A) (before : List Item) → p.sheets ≡ sheets → IsPrinting sheets p.gathered p.pending before → 0 < length p.pending
    → number p.sheets p.gathered.format.stored (view_of p.gathered.in_force.settings) p.gathered.format.fields.items ≡ of_last last sheets before
held_last number last by_last sheets p before same printing some = grind (arith, length-drop)

pub printing_most : {A : Type 0} (sheets : Sheets) (p : Printing A) (before : List Item) → p.sheets ≡ sheets → IsPrinting sheets p.gathered p.pending before → 0 < length p.pending → painting p ≡ most_work sheets before
printing_most sheets p before = held_last (λ sheets bytes view fields. copy_work sheets bytes view fields (bands_of view)) label_work (λ s b. refl) sheets p before

pub printing_least : {A : Type 0} (sheets : Sheets) (p : Printing A) (before : List Item) → p.sheets ≡ sheets → IsPrinting sheets p.gathered p.pending before → 0 < length p.pending → shown p ≡ least_work sheets before
printing_least sheets p before = held_last (λ sheets bytes view fields. shown_pairs sheets bytes view fields (bands_of view)) label_shown (λ s b. refl) sheets p before
