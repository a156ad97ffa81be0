use Rattle.std.proofs.lemmas.Bool.{both_ways}
use Rattle.std.proofs.Common.{◌≡◌, ℕ, ◌+◌, sym, subst, Bool, false, is_ok, pos, arith, List, Result}
use Rattle.vp_dots.specs.declared.fault.Fault.{Fault}
use Rattle.vp_bars.specs.Symbols.{Linear}
use Rattle.vp_bars.specs.Symbologies.{symbol_of}
use Rattle.vp_glyph.specs.Sheets.{Sheets}
use Rattle.vp_format.specs.declared.field.BarSymbol.{BarSymbol}
use Rattle.vp_field.specs.Contents.{bytes_of, bars_width, bars_height, bars_dot}
use Rattle.vp_field.specs.Fields.{IsEncoded}
use Rattle.vp_field.specs.Bands.{ShownPainted, IsCounted}
use Rattle.vp_field.specs.Standing.{standing}
use Rattle.vp_field.specs.Views.{seen_x, seen_y, columns_of}
use Rattle.vp_field.specs.declared.marks.Marks.{Marks}
use Rattle.vp_field.specs.declared.marks.Marks.TheVariants.{Bars}
use Rattle.vp_field.specs.declared.standing.Standing.{Standing}
use Rattle.vp_field.proofs.Shown.{standing_none}
use Rattle.vp_field.proofs.OnLabel.{shown_none}
use Rattle.vp_field.proofs.field.paint_bars.Goals as goal

abbrev ink : Sheets → BarSymbol → Standing → ℕ → Result Linear Fault → ℕ → ℕ → Bool
ink sheets b on first r x k =
    standing on.left on.top on.orientation (bars_width sheets b.narrow b.wide b.height b.place r) (bars_height sheets b.narrow b.wide b.height b.place r) (bars_dot sheets b.narrow b.wide b.height b.place r)
    (seen_x on.view (pos x)) (seen_y on.view (pos (first + k)))

-- what is left of data without a symbol is none
none_left : (stored : List ℕ) (b : BarSymbol) (m : Marks) → ((s : Linear) → m ≡ Bars s → ⊥) → IsEncoded stored b m → is_ok (symbol_of b.code (bytes_of stored b.bytes)) ≡ false
none_left stored b m h1 h2 = grind arith

-- and has no ink
no_ink : (sheets : Sheets) (b : BarSymbol) (on : Standing) (first : ℕ) (r : Result Linear Fault) → is_ok r ≡ false → (x k : ℕ) → ink sheets b on first r x k ≡ false
no_ink sheets b on first r h1 x k = grind (arith, both_ways, standing_none)

pub returns-in_default : goal.returns-in_default
returns-in_default g c = grind (arith, no_ink, none_left, shown_none, both_ways)

pub returns-clause-dots : goal.returns-clause-dots
returns-clause-dots g c =
    let a = c.args in
    let b = c.boxed-ink.ensures in
    let bars = rw c.in-Bars.is at c.encode.ensures.encoded in
    subst (λ r. ShownPainted (columns_of a.on.view) a.on.op (ink a.sheets.now a.bars a.on a.first r) a.band.now c.paint_standing.new.band) (sym bars) (rw (b.bars, b.narrow, b.wide, b.height, b.sheets, b.font, b.place) at c.paint_standing.ensures.dots)

pub returns-clause-counted : goal.returns-clause-counted
returns-clause-counted g c =
    let a = c.args in
    let b = c.boxed-ink.ensures in
    let bars = rw c.in-Bars.is at c.encode.ensures.encoded in
    subst (λ r. IsCounted (ink a.sheets.now a.bars a.on a.first r) c.paint_standing.result) (sym bars) (rw (b.bars, b.narrow, b.wide, b.height, b.sheets, b.font, b.place) at c.paint_standing.ensures.counted)
