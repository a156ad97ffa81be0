-- What is gathered stands after the same items once fields of it are read.
use Rattle.std.proofs.Common.{◌≡◌, ◌∙◌, ℕ, List, [], ◌∷◌}
use Rattle.vp_glyph.specs.Sheets.{Sheets}
use Rattle.vp_zpl.specs.Items.{Item}
use Rattle.vp_format.specs.Formats.{Closed}
use Rattle.vp_label.specs.declared.gathered.Gathered.{Gathered}
use Rattle.vp_label.specs.Gathered.{Gathers, IsPrinted}
use Rattle.vp_label.specs.Standing.{IsPrinting}

module _ {A : Type 0} (sheets : Sheets) (g : Gathered A) (fields : Closed) (same : fields.items ≡ g.format.fields.items) where
  abbrev pub read : Gathered A
  read = record g { format = record g.format { fields = fields } }

  pub read_gathers : (before : List Item) → Gathers sheets g before → Gathers sheets read before
  read_gathers before h = record { in_force = h.in_force; held = λ so. rw same (h.held so); made = h.made }

  pub read_printed : (before : List Item) → IsPrinted sheets g before → IsPrinted sheets read before
  read_printed before h = record { view = h.view; stored = h.stored; fields = same ∙ h.fields }

  pub read_printing : (pending : List ℕ) (before : List Item) → IsPrinting sheets g pending before → IsPrinting sheets read pending before
  read_printing pending [] h = h
  read_printing pending (item ∷ before) h = record { printed = read_printed before h.printed; rest = h.rest }
