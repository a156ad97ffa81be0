-- Contents as they are drawn on a band.
use Rattle.std.specs.Prelude.{ℕ, ◌+◌, pos, Bool, ◌&&◌, nat_le, nat_lt, List}
use Rattle.vp_glyph.specs.Sheets.{Sheets}
use Rattle.vp_format.specs.declared.field.Content.{Content}
use Rattle.vp_field.specs.Contents.{content_width, content_height, content_dot}
use Rattle.vp_field.specs.Standing.{standing}
use Rattle.vp_field.specs.Views.{seen_x, seen_y}
use Rattle.vp_field.specs.declared.standing.Standing.{Standing}

-- the ink of a content at dot x of row k of a band, whose first row is row `first` of the label as it is put
-- out
abbrev pub drawn : Sheets → List ℕ → Content → Standing → ℕ → ℕ → ℕ → Bool
drawn sheets stored c on first x k =
    standing on.left on.top on.orientation (content_width sheets stored c) (content_height sheets stored c)
    (content_dot sheets stored c) (seen_x on.view (pos x)) (seen_y on.view (pos (first + k)))

-- the ink in the lines from <= v < to alone
abbrev pub part : ℕ → ℕ → (ℕ → ℕ → Bool) → ℕ → ℕ → Bool
part from to ink u v = nat_le from v && nat_lt v to && ink u v
