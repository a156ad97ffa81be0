-- What a label printer stands after.
use Rattle.std.specs.Prelude.{◌≡◌, ◌<◌, ◌≤◌, ℕ, List, [], ◌∷◌, drop, length}
use Rattle.vp_glyph.specs.Sheets.{Sheets}
use Rattle.vp_zpl.specs.Items.{Item}
use Rattle.vp_label.specs.declared.gathered.Gathered.{Gathered}
use Rattle.vp_label.specs.declared.press.Press.{Press}
use Rattle.vp_bands.specs.Meeting.{bands_of, copy_work, pairs, shown_pairs}
use Rattle.vp_label.specs.Gathered.{Gathers, IsPrinted, to_print}
use Rattle.vp_label.specs.Prints.{prints, view_of}
use Rattle.vp_label.specs.Work.{most_work, least_work}

-- a label printer: its sheets, what is gathered of a format, what is put out of one that has ended, and what
-- is left of it
pub record Printing (A : Type 0) : Type 0 where
  pub sheets : Sheets
  pub gathered : Gathered A
  pub press : Press A
  pub pending : List ℕ

-- the bands of the label
abbrev pub bands : {A : Type 0} → Printing A → ℕ
bands p = bands_of (view_of p.gathered.in_force.settings)

-- how many pairs there are of a band of the label and a field of the format that it meets
abbrev pub met : {A : Type 0} → Printing A → ℕ
met p =
    let view = view_of p.gathered.in_force.settings in
    pairs p.sheets p.gathered.format.stored view p.gathered.format.fields.items (bands_of view)

-- what painting a copy of the format takes at most
abbrev pub painting : {A : Type 0} → Printing A → ℕ
painting p =
    let view = view_of p.gathered.in_force.settings in
    copy_work p.sheets p.gathered.format.stored view p.gathered.format.fields.items (bands_of view)

-- how many pairs there are of a band of the label and a field that has ink on a dot of the label there
abbrev pub shown : {A : Type 0} → Printing A → ℕ
shown p =
    let view = view_of p.gathered.in_force.settings in
    shown_pairs p.sheets p.gathered.format.stored view p.gathered.format.fields.items (bands_of view)

-- as many bytes as whole copies of the format that is held have: none of no copies
abbrev pub AreCopies : {A : Type 0} → Printing A → List ℕ → Type 0
AreCopies p bytes = (copies : ℕ) × (length bytes ≡ length (to_print p.sheets p.gathered copies))

-- bytes are the end of a text
abbrev pub IsEndOf : List ℕ → List ℕ → Type 0
IsEndOf bytes text = (n : ℕ) × (bytes ≡ drop n text)

-- these bytes of what an item printed are pending, and what it is printed of is still held
pub record IsPrintingOf {A : Type 0} (sheets : Sheets) (g : Gathered A) (pending : List ℕ)
    (item : Item) (before : List Item) : Type 0 where
  pub printed : IsPrinted sheets g before
  pub rest : IsEndOf pending (prints sheets before item)

-- it is the newest item
abbrev pub IsPrinting : {A : Type 0} → Sheets → Gathered A → List ℕ → List Item → Type 0
IsPrinting sheets g pending [] = ⊥
IsPrinting sheets g pending (item ∷ before) = IsPrintingOf sheets g pending item before

-- it stands after these items; once all is put out, all that is seen was painted
pub record Stands {A : Type 0} (sheets : Sheets) (p : Printing A) (before : List Item) : Type 0 where
  pub sheets_are : p.sheets ≡ sheets
  pub gathered : Gathers sheets p.gathered before
  pub printing : 0 < length p.pending → IsPrinting sheets p.gathered p.pending before
  pub at_most : p.press.painter.work ≤ most_work sheets before
  pub at_least : p.pending ≡ [] → least_work sheets before ≤ p.press.painter.work
