-- Which band is next, some bytes further on.
use Rattle.std.proofs.Common.{◌≡◌, ◌+◌, ◌*◌, ◌/◌, ◌<◌, ◌≤◌, ℕ, List, refl, arith}
use Rattle.vp_dots.specs.Images.{Image}
use Rattle.vp_copies.specs.declared.place.Ahead.TheVariants.{Nothing, Copy, Band}
use Rattle.vp_output.specs.declared.place.Line.{Line}
use Rattle.vp_output.specs.declared.place.Line.TheVariants.{Head, Row}
use Rattle.vp_copies.specs.Copies.{advanced, ahead, painted_for, painted_of, Place}
use Rattle.vp_copies.specs.Progress.{HasPainted, IsPainted, Progress, StandsPainted}
use Rattle.vp_output.specs.Lines.{IsLineOf}
use Rattle.vp_glyph.specs.Sheets.{Sheets}
use Rattle.vp_format.specs.Formats.{Held}
use Rattle.vp_field.specs.declared.view.View.{View}
use Rattle.vp_bands.specs.Laws.{LooksBounded}
use Rattle.vp_bands.specs.Meeting.{bands_of, pairs}
use Rattle.vp_bands.specs.Standing.{looks_since, IsBefore, Threaded}
use Rattle.vp_label.specs.Press.{painted_at, painted_before, IsBetween}

-- at no band are there more looks than that
pub most : (sheets : Sheets) (held : Held) (view : View) (t : Threaded) → LooksBounded → (b : ℕ) × (b ≤ bands_of view) × IsBefore sheets held view b t →
    looks_since t ≤ bands_of view + 2 * pairs sheets held.stored view held.fields (bands_of view)
most sheets held view t law w = law.at_most sheets held view w.0 t w.2 w.1

-- the bands painted where nothing is wanted, a copy begins, and a band is wanted
none_by : (painted : ℕ) (l : Line) → ((y : ℕ) → l ≡ Row y → painted ≤ y / 32 + 1) → ahead painted l ≡ Nothing → (painted_of painted l ≡ painted) × (painted_for painted l ≡ painted)
none_by painted l own e = grind arith

pub none_wanted : (p : Progress) → HasPainted p → ahead p.painted p.place.line ≡ Nothing → (painted_at p ≡ p.painted) × (painted_before p ≡ p.painted)
none_wanted p h e = none_by p.painted p.place.line h.own e

copy_by : (painted : ℕ) (l : Line) → ahead painted l ≡ Copy → (painted_of painted l ≡ 0) × (painted_for painted l ≡ 0)
copy_by painted l e = grind arith

pub copy_wanted : (p : Progress) → ahead p.painted p.place.line ≡ Copy → (painted_at p ≡ 0) × (painted_before p ≡ 0)
copy_wanted p e = copy_by p.painted p.place.line e

band_by : (painted : ℕ) (l : Line) (b : ℕ) → ((y : ℕ) → l ≡ Row y → y / 32 ≤ painted) → ahead painted l ≡ Band b → (painted ≡ b) × (painted_of painted l ≡ b) × (painted_for painted l ≡ b + 1)
band_by painted l b before e = grind arith

pub band_wanted : (p : Progress) (b : ℕ) → HasPainted p → ahead p.painted p.place.line ≡ Band b → (p.painted ≡ b) × (painted_at p ≡ b) × (painted_before p ≡ b + 1)
band_wanted p b h e = band_by p.painted p.place.line b h.before e

-- the last band that is painted before a byte of a line is that of the line
pub line_painted : (i : Image) (painted : ℕ) (l : Line) (band : List (List ℕ)) → StandsPainted i (painted_for painted l) band → IsPainted i l band
line_painted i painted Head band stands = tt
line_painted i painted (Row y) band stands = stands (y / 32) refl

-- where the only band was painted, it is
pub line_stands : (height : ℕ) (l : Line) → height ≤ 32 → IsLineOf height l → painted_for 1 l ≡ 1
line_stands height l low line = grind arith

pub row_stands : (height : ℕ) (l : Line) (y : ℕ) → height ≤ 32 → IsLineOf height l → l ≡ Row y → y / 32 + 1 ≡ 1
row_stands height l y low line is = grind arith

-- where a copy is put out whole, and where all are, all bands are painted
pub record IsMet (bands painted : ℕ) (p : Place) : Type 0 where
  pub over : p.copies ≡ 0 → painted ≡ bands
  pub between : IsBetween p → painted ≡ bands

-- behind bytes of a line, whose bands are painted
pub met_behind : (width height bands painted : ℕ) (n : ℕ) (p : Place) → bands ≡ (height + 31) / 32 → 0 < height → IsLineOf height p.line → 0 < p.copies → 0 < n →
    IsMet bands (painted_for painted p.line) (advanced width height n p)
met_behind width height bands painted n p all high line some out = grind arith
