-- What is put out of a format that has ended.
use Rattle.std.specs.Prelude.{◌≡◌, ◌+◌, ◌-◌, ◌*◌, ◌<◌, ◌≤◌, ◌==◌, ℕ, List, map, min, if◌then◌else◌}
use Rattle.vp_dots.specs.Images.{Image}
use Rattle.vp_glyph.specs.Sheets.{Sheets}
use Rattle.vp_label_size.specs.declared.TheConstants.{WIDEST, LONGEST, BAND_ROWS}
use Rattle.vp_format.specs.Formats.{Closed, Held}
use Rattle.vp_field.specs.declared.view.View.{View}
use Rattle.vp_field.specs.Fields.{stroke_of}
use Rattle.vp_field.specs.Strokes.{image_dot}
use Rattle.vp_output.specs.declared.place.Line.TheVariants.{Head}
use Rattle.vp_copies.specs.Copies.{painted_for, painted_of, pending, Place}
use Rattle.vp_copies.specs.Progress.{image_of, HasPainted, IsPlaceOf, Progress, StandsPainted}
use Rattle.vp_label.specs.declared.press.Press.{Press}
use Rattle.vp_bands.specs.Meeting.{bands_of, most_looks, pairs}
use Rattle.vp_bands.specs.Standing.{IsBefore}

-- a place between two copies, or at the end
pub record IsBetween (p : Place) : Type 0 where
  pub line : p.line ≡ Head
  pub byte : p.byte ≡ 0

-- the image of which copies are put out: that of the fields of a format
abbrev pub press_image : {A : Type 0} → Sheets → Held → View → Press A → Image
press_image sheets held view p =
    image_of p.copies (image_dot view (map (stroke_of sheets held.stored) held.fields))

-- what is left of the copies
abbrev pub left : {A : Type 0} → Sheets → Held → View → Press A → List ℕ
left sheets held view p = pending (press_image sheets held view p) p.copies.place

-- copies are put out of a format whose label is seen like that: the painter stands behind the bands that were
-- painted, the last of which stands in the band
pub record IsPress {A : Type 0} (sheets : Sheets) (held : Held) (view : View) (p : Press A) : Type 0 where
  pub width : p.copies.width ≡ view.width
  pub height : p.copies.height ≡ view.height
  pub narrow : view.width ≤ WIDEST
  pub low : view.height ≤ LONGEST
  pub high : 0 < view.height
  pub place : IsPlaceOf p.copies.width p.copies.height p.copies.place
  pub painted : HasPainted p.copies
  pub before : IsBefore sheets held view p.copies.painted p.painter
  pub over : p.copies.place.copies ≡ 0 → p.copies.painted ≡ bands_of view
  pub ready : StandsPainted (press_image sheets held view p) p.copies.painted p.band

-- how many bands are painted of the copy in which the next byte is
abbrev pub painted_at : Progress → ℕ
painted_at p = painted_of p.painted p.place.line

-- and how many are before that byte is put out
abbrev pub painted_before : Progress → ℕ
painted_before p = painted_for p.painted p.place.line

-- how many of so many copies are painted: of a label of one band the first alone
abbrev pub copies_painted : ℕ → ℕ → ℕ
copies_painted bands copies = if bands == 1 then min 1 copies else copies

-- what is to come behind a place, where the first n bands of a copy take `number n`, and it has `bands`
abbrev pub to_come : (ℕ → ℕ) → ℕ → Progress → ℕ
to_come number bands p = copies_painted bands p.place.copies * number bands - number (painted_at p)

-- the looks that are to come at most, and the fields that are to be read
abbrev pub looks_to_come : {A : Type 0} → Sheets → Held → View → Press A → ℕ
looks_to_come sheets held view p =
    to_come (most_looks sheets held.stored view held.fields) (bands_of view) p.copies

abbrev pub fields_to_come : {A : Type 0} → Sheets → Held → View → Press A → ℕ
fields_to_come sheets held view p =
    to_come (pairs sheets held.stored view held.fields) (bands_of view) p.copies

-- on the way from one place of the copies to another, entries and links were read as often as the bands
-- between take at most, and fields, and what earlier bands left of them, just as often as they meet one
pub record IsReadTo {A : Type 0} (sheets : Sheets) (held : Held) (view : View) (old new : Press A)
    (fields_old fields_new : ℕ) : Type 0 where
  pub looks : new.painter.looks + looks_to_come sheets held view new
      ≤ old.painter.looks + looks_to_come sheets held view old
  pub fields : fields_new + fields_to_come sheets held view new
      ≡ fields_old + fields_to_come sheets held view old
  pub marks : new.painter.marked + fields_to_come sheets held view new
      ≡ old.painter.marked + fields_to_come sheets held view old

-- the band that the next byte wants was painted, where it wanted one
pub record IsReadied {A : Type 0} (sheets : Sheets) (held : Held) (view : View) (old new : Press A)
    (fields_old fields_new : ℕ) : Type 0 where
  pub looks : new.painter.looks
      + most_looks sheets held.stored view held.fields (painted_at old.copies)
      ≤ old.painter.looks + most_looks sheets held.stored view held.fields (painted_before old.copies)
  pub fields : fields_new + pairs sheets held.stored view held.fields (painted_at old.copies)
      ≡ fields_old + pairs sheets held.stored view held.fields (painted_before old.copies)
  pub marks : new.painter.marked + pairs sheets held.stored view held.fields (painted_at old.copies)
      ≡ old.painter.marked + pairs sheets held.stored view held.fields (painted_before old.copies)

-- where the only band of a label was painted once, it stands for all its copies: nothing is looked at, read or
-- painted any more
pub record Stood {A : Type 0} (old new : Press A) (fields_old fields_new : Closed) : Type 0 where
  pub painted : new.copies.painted ≡ 1
  pub painter : new.painter ≡ old.painter
  pub band : new.band ≡ old.band
  pub fields : fields_new ≡ fields_old

abbrev pub HasStood : {A : Type 0} → View → Press A → Press A → Closed → Closed → Type 0
HasStood view old new fields_old fields_new =
    old.copies.painted ≡ 1 → view.height ≤ BAND_ROWS → Stood old new fields_old fields_new
