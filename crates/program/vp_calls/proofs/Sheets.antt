-- Why the bytes of a sheet are refused.
use Rattle.std.proofs.Common.{◌≡◌, ◌⊎◌, inl, inr, Err, refl, sym, arith, alloc_error}
use Rattle.std.specs.Prelude.{Option, Result, Ok, IsOk}
use Rattle.vp_glyph.specs.Sheets.{Glyphs}
use Rattle.vp_glyph.specs.declared.sheet.SheetError.{SheetError}
use Rattle.vp_glyph.specs.declared.sheet.SheetError.TheVariants.{Memory}
use Rattle.vp_calls.specs.Making.{IsSheet, IsOffence}

abbrev Read : Type 0
Read = Result (Option Glyphs) SheetError

abbrev failed : SheetError → Read
failed error = Err error

sheet_ok : (read : Read) → IsOk read → IsSheet read
sheet_ok (Ok sheet) ok = (sheet, refl)
sheet_ok (Err error) ok = grind (arith, ok)

pub offends : (error : SheetError) (read : Read)
    → ((failed error ≡ read) ⊎ ((failed error ≡ failed (Memory alloc_error)) × IsOk read)) → IsOffence read error
offends error read (inl e) = inl (sym e)
offends error read (inr p) = inr ((let same : failed error ≡ failed (Memory alloc_error) = p.0 in cc), sheet_ok read p.1)

abbrev found : Option Glyphs → Read
found sheet = Ok sheet

pub right : (sheet : Option Glyphs) (read : Read)
    → ((found sheet ≡ read) ⊎ ((found sheet ≡ failed (Memory alloc_error)) × IsOk read)) → IsSheet read
right sheet read (inl e) = (sheet, sym e)
right sheet read (inr p) = sheet_ok read p.1
