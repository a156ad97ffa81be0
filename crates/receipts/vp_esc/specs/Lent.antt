-- What the reader is once its item is given back.
use Rattle.std.specs.Prelude.{⊤}
use mathlib.Core.Option.{none}
use Rattle.std.specs.Borrow.{MutBor, Fml, follows_so}
use Rattle.vp_esc.specs.declared.reader.EscReader.{EscReader}
use Rattle.vp_esc.specs.contracts.reader.EscReader.{the_row}

-- once what r lent has ended, P holds of what stands behind it
abbrev pub Leaves : MutBor EscReader → (EscReader → Type 0) → Fml
Leaves r P = follows_so the_row the_row r.ghost_name none (λ _ _. ⊤) P
