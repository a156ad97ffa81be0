-- The line spacing, and how wide a column is.
use Rattle.std.specs.Prelude.{ℕ, List, [], ◌∷◌}
use Rattle.vp_esc.specs.declared.item.EscItem.{EscItem}
use Rattle.vp_esc.specs.declared.item.EscItem.TheVariants.{Columns, DefaultLineSpacing, LineSpacing, Initialize}
use Rattle.vp_esc.specs.declared.item.ColumnMode.{ColumnMode}
use Rattle.vp_esc.specs.declared.item.ColumnMode.TheVariants.{Single8, Double8, Single24, Double24}
use Rattle.vp_receipt_settings.specs.declared.settings.TheConstants.{DEFAULT_LINE_SPACING}

-- ESC 2, ESC 3: the line spacing
abbrev pub line_spacing : List EscItem → ℕ
line_spacing [] = DEFAULT_LINE_SPACING
line_spacing (DefaultLineSpacing ∷ before) = DEFAULT_LINE_SPACING
line_spacing (LineSpacing n ∷ before) = n
line_spacing (Initialize ∷ before) = DEFAULT_LINE_SPACING
line_spacing (_ ∷ before) = line_spacing before

-- ESC *: how wide a dot of a column is
abbrev pub column_width_of : ColumnMode → ℕ
column_width_of Single8 = 2
column_width_of Double8 = 1
column_width_of Single24 = 2
column_width_of Double24 = 1

abbrev pub column_width : List EscItem → ℕ
column_width [] = 1
column_width (Columns mode count ∷ before) = column_width_of mode
column_width (Initialize ∷ before) = 1
column_width (_ ∷ before) = column_width before
