-- The pads behind a message (ISO/IEC 16022, 5.2.3).
use Rattle.std.specs.Prelude.{ℕ, zero, suc, ◌+◌, ◌-◌, ◌*◌, ◌%◌, nat_le, length, List, [], ◌∷◌, ◌++◌, if◌then◌else◌}

-- a pad at position p, but the first (annex B.1)
abbrev pub pad : ℕ → ℕ
pad p =
    let v = 130 + 149 * p % 253 in
    if nat_le v 254 then v else v - 254

-- n of them, of which the first is at position p
abbrev pub pads_from : ℕ → ℕ → List ℕ
pads_from p zero = []
pads_from p (suc n) = pad p ∷ pads_from (p + 1) n

-- n pads, the first one, 129, at position p
abbrev pub pads : ℕ → ℕ → List ℕ
pads p zero = []
pads p (suc n) = 129 ∷ pads_from (p + 1) n

-- the data codewords of a message, in a symbol that has this many
unfoldable pub padded : ℕ → List ℕ → List ℕ
padded capacity words = words ++ pads (length words + 1) (capacity - length words)
