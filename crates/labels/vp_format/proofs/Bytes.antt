-- Bytes as they are, as symbols.
use Rattle.std.proofs.Common.{◌≡◌, ℕ, ◌+◌, ◌-◌, ◌*◌, ◌/◌, ◌≤◌, min, false, List, [], ◌∷◌, ◌++◌, drop, take, replicate, length, arith, get_or-take}
use Rattle.std.proofs.Math.ListN.{get_or-append}
use Rattle.std.proofs.lemmas.List.{length-take, length-drop, get_or-drop, get_or-replicate, get_or-append_right, get_or_past}
use Rattle.std.proofs.lemmas.Bool.{false≢true}
use Rattle.vp_format.specs.declared.rows.Coding.TheVariants.{Binary}
use Rattle.vp_format.specs.declared.row.RowEnd.{RowEnd}
use Rattle.vp_format.specs.Codes.{binary_symbols}
use Rattle.vp_format.specs.Pictures.{Value, shown_at, bytes_before, nibble}
use Rattle.vp_format.specs.Cursors.{symbols_at, Decoded}
use Rattle.vp_format.proofs.Reached.{bytes_past, bytes_none}

-- what a place shows is its byte's
pub bytes_shown : (w p : ℕ) (codes : List ℕ) (j : ℕ) → shown_at w p (binary_symbols codes) (p + j) ≡ Value (nibble codes j)
unfolding nibble
bytes_shown w p [] j = grind arith
bytes_shown w p (b ∷ codes) j = grind (arith, bytes_shown w (p + 1 + 1) codes (j - 2))

-- the bytes of the symbols before a place
bytes_spelled : (w p : ℕ) (codes : List ℕ) (j : ℕ) → bytes_before w p (binary_symbols codes) (p + j) ≡ min (length codes) ((j + 1) / 2)
bytes_spelled w p [] j = omega arith
bytes_spelled w p (b ∷ codes) j = grind (arith, bytes_past, bytes_none, bytes_spelled w (p + 1 + 1) codes (j - 2))

-- the same from a place of the codes on
pub place_shown : (w : ℕ) (codes : List ℕ) (at j : ℕ) → shown_at w 0 (symbols_at Binary codes (record { left = 0; digit = 0; at = at })) j ≡ Value (nibble (drop at codes) j)
place_shown w codes at j = grind (arith, bytes_shown w 0 (drop at codes) j)

place_spelled : (w : ℕ) (codes : List ℕ) (at j : ℕ) → bytes_before w 0 (symbols_at Binary codes (record { left = 0; digit = 0; at = at })) j ≡ min (length codes - at) ((j + 1) / 2)
place_spelled w codes at j = grind (arith, bytes_none, bytes_spelled w 0 (drop at codes) j, length-drop)

-- a row of bytes
pub bytes_decoded : (codes old zeros part copied : List ℕ) (n at to : ℕ) (end : RowEnd) → length old ≡ n → at ≤ length codes → part ≡ take n (drop at codes) → copied ≡ part → zeros ≡ replicate n 0 → to ≡ min (at + n) (length codes)
    → end ≡ record { left = 0; digit = 0; repeats = false }
    → Decoded (2 * n) Binary codes (record { left = 0; digit = 0; at = at }) end (record { left = 0; digit = 0; at = to }) old (copied ++ drop (length part) zeros)
unfolding nibble
bytes_decoded codes old zeros part copied n at to end long inside is same white next ends =
    grind (arith, place_shown, false≢true, get_or-drop, get_or_past, place_spelled, length-take, length-drop, get_or-append, get_or-take, get_or-append_right, get_or-replicate)
