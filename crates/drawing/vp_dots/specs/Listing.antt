-- A line of a listing.
use Rattle.std.specs.Prelude.{ℕ, List, [], ◌∷◌, ◌++◌, flat_map}
use Rattle.hex.specs.Hex.{encode_lower}

-- a blank and two hex digits for each byte
abbrev pub hex_bytes : List ℕ → List ℕ
hex_bytes bytes = flat_map (λ b. 0x20 ∷ encode_lower (b ∷ [])) bytes

-- a word, the bytes, and LF
unfoldable pub listed : List ℕ → List ℕ → List ℕ
listed word bytes = word ++ hex_bytes bytes ++ 0x0A ∷ []
