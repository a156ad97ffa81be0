-- The symbol of bytes: its size and codewords, or why there is none.
use Rattle.std.specs.Prelude.{ℕ, ◌==◌, ◌&&◌, not, nat_le, true, Bool, List, [], length, Option, Some, None, is_none, unwrap_or, if◌then◌else◌}
use Rattle.vp_aztec.specs.declared.size.Size.{Size}
use Rattle.vp_aztec.specs.declared.size.Asked.{Asked}
use Rattle.vp_aztec.specs.declared.symbol.Refusal.{Refusal}
use Rattle.vp_aztec.specs.declared.symbol.Refusal.TheVariants.{Empty, Percent, Layers, TooLong}
use Rattle.vp_aztec.specs.Messages.{message}
use Rattle.vp_aztec.specs.Stuffing.{bits_of, stuffed}
use Rattle.vp_aztec.specs.Sizes.{percent, exist, word_bits, size_at, smallest}
use Rattle.vp_aztec.specs.Codewords.{codewords, mode_message, rune_message}

-- the bits of bytes
unfoldable pub bits : List ℕ → List Bool
bits src = bits_of (message src)

-- why bytes have no symbol: there are none; there is no such percentage, or number of layers; they have more
-- bits than any symbol, or than the sizes that are asked for
abbrev pub refusal : Asked → List ℕ → Option Refusal
refusal asked src =
    if length src == 0 then Some Empty
    else if not (nat_le 5 (percent asked) && nat_le (percent asked) 95) then Some Percent
    else if not (exist asked.layers) then Some Layers
    else if not (nat_le (length (bits src)) 19968) then Some TooLong
    else if is_none (smallest asked (bits src)) then Some TooLong
    else None

-- a symbol in hand
pub record AztecSymbol : Type 0 where
  pub size : Size
  pub words : List ℕ
  pub mode : List ℕ

-- that of bits in a size
unfoldable pub symbol_in : Size → List Bool → AztecSymbol
symbol_in s all =
    let data_words = stuffed (word_bits s.layers) all in
    record { size = s; words = codewords s data_words; mode = mode_message s (length data_words) }

-- that of bytes
abbrev pub symbol_of : Asked → List ℕ → AztecSymbol
symbol_of asked src = symbol_in (size_at (unwrap_or (smallest asked (bits src)) 0)) (bits src)

-- a rune: the core alone
abbrev pub rune_of : ℕ → AztecSymbol
rune_of n = record { size = record { compact = true; layers = 0 }; words = []; mode = rune_message n }
