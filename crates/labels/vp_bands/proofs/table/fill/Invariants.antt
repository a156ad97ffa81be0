use Rattle.std.proofs.Common.{◌≡◌, ℕ, ◌+◌, List, length}
use Rattle.std.specs.List.{All}
use Rattle.vp_glyph.specs.Sheets.{Sheets}
use Rattle.vp_format.specs.Formats.{held}
use Rattle.vp_field.specs.Fields.{IsKept}
use Rattle.vp_fields_by_band.specs.Threads.{IsPlaced}
use Rattle.vp_bands.proofs.Entries.{AreSet}
use Rattle.vp_bands.proofs.table.fill.Given as goal

-- the entries before this one are set
abbrev pub invariant-loop-n : goal.invariant-loop-n
invariant-loop-n g l = record {
  len : length l.threads.entries ≡ l.n;
  set : (sheets : Sheets) (stored : List ℕ) → All (IsKept stored) l.fn.fields.items → AreSet sheets (held l.fn.fields stored) l.view l.threads.entries l.n;
  placed : All (λ e. IsPlaced e 250) l.threads.entries;
  heads : l.threads.heads ≡ l.fn.threads.heads;
  links : l.threads.links ≡ l.fn.threads.links;
  looks : (l.threads.looks ≡ l.fn.threads.looks) × (l.threads.begun ≡ l.fn.threads.begun);
  read : l.fields ≡ record l.fn.fields { read = l.fn.fields.read + l.n };
}
