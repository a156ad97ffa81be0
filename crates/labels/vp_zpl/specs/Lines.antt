-- The listing: a line for each item.
use Rattle.std.specs.Prelude.{ℕ, ◌&&◌, nat_le, List, [], ◌∷◌, ◌++◌, map, flat_map, codes, if◌then◌else◌}
use Prim.Native.Char.{code}
use Rattle.vp_dots.specs.Listing.{listed}
use Rattle.vp_zpl.specs.declared.item.Command.{Command}
use Rattle.vp_zpl.specs.declared.item.Command.TheVariants as commands
use Rattle.vp_zpl.specs.Spelling.{Kept}
use Rattle.vp_zpl.specs.Items.{Item}
use Rattle.vp_zpl.specs.Items.Item.{Given, Data}

-- a byte outside 21 to 7E shows as a point
unfoldable pub legible : ℕ → ℕ
legible c = if nat_le (code "!") c && nat_le c (code "~") then c else code "."

abbrev pub legible_bytes : List ℕ → List ℕ
legible_bytes bytes = map legible bytes

-- joined by commas
abbrev pub more_joined : List Kept → List ℕ
more_joined ps = flat_map (λ p. code "," ∷ legible_bytes p.bytes) ps

abbrev pub joined : List Kept → List ℕ
joined [] = []
joined (p ∷ ps) = legible_bytes p.bytes ++ more_joined ps

-- behind the name: that the command is skipped, or its parameters
abbrev pub behind_name : Command → List Kept → List ℕ
behind_name commands.Skipped sent = codes " skipped"
behind_name _ sent = joined sent

-- an item's line
abbrev pub line_of : Item → List ℕ
line_of (Given command name sent) =
    name.sign ∷ legible name.first ∷ legible name.second ∷ (behind_name command sent ++ 0x0A ∷ [])
line_of (Data byte) = listed (codes "byte") (byte ∷ [])

-- the lines of a list of items
abbrev pub lines_of : List Item → List ℕ
lines_of items = flat_map line_of items
