-- An argument in its range: one that is missing or can't be read takes its
-- default, one out of range the nearest value.
use Rattle.std.specs.Prelude.{ℕ, ◌/◌, ◌==◌, Option, Some, None, min, max, if◌then◌else◌}
use Rattle.vp_label_settings.specs.declared.size.CharacterSize.{CharacterSize}

abbrev pub nearest : ℕ → ℕ → ℕ → ℕ
nearest low high n = max low (min n high)

abbrev pub ranged : ℕ → ℕ → ℕ → Option ℕ → ℕ
ranged low high default None = default
ranged low high default (Some n) = nearest low high n

-- a height or width of characters, in dots: 0 counts as missing
abbrev pub side_given : Option ℕ → Option ℕ
side_given None = None
side_given (Some n) = if n == 0 then None else Some (nearest 1 1500 n)

-- of a height alone the width is the half; a width alone goes with the default's height
abbrev pub size_of : Option ℕ → Option ℕ → CharacterSize → CharacterSize
size_of None None default = default
size_of None (Some w) default = record { height = default.height; width = w }
size_of (Some h) None default = record { height = h; width = max 1 (h / 2) }
size_of (Some h) (Some w) default = record { height = h; width = w }

-- the size that a height and a width say
abbrev pub size_given : Option ℕ → Option ℕ → CharacterSize → CharacterSize
size_given height width default = size_of (side_given height) (side_given width) default
