-- The check, sign by sign.
use Rattle.std.proofs.Common.{◌≡◌, ℕ, ◌+◌, ◌*◌, ◌<◌, ◌≤◌, List, length, get_or, drop, bit_xor, sym}
use Rattle.std.proofs.lemmas.List.{at_drop_more, at_drop_all}
use Rattle.vp_packed.specs.Check.{crc_bits, crc_behind}

pub behind_more : (c : ℕ) (signs : List ℕ) (i : ℕ) → i < length signs →
    crc_behind (crc_bits 8 (bit_xor c (get_or signs i 0 * 256))) (drop (i + 1) signs) ≡ crc_behind c (drop i signs)
unfolding crc_behind
behind_more c signs i h = sym (at_drop_more (crc_behind c) signs i 0 h)

pub behind_all : (c : ℕ) (signs : List ℕ) (i : ℕ) → length signs ≤ i → crc_behind c (drop i signs) ≡ c
unfolding crc_behind
behind_all c signs i h = at_drop_all (crc_behind c) signs i h
