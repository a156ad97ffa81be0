-- The symbol of bytes (ISO/IEC 18004, 7.1): its version, codewords, mask and modules, or why there is none.
use Rattle.std.specs.Prelude.{◌≡◌, ℕ, ◌<◌, ◌==◌, not, nat_le, Bool, length, map, List, [], ◌∷◌, Option, Some, None, is_none, unwrap_or, if◌then◌else◌}
use Rattle.std.specs.List.{list_all, position_or_len}
use Rattle.vp_dots.specs.declared.fault.Fault.{Fault}
use Rattle.vp_dots.specs.declared.fault.Fault.TheVariants.{Symbol, SymbolTooLong}
use Rattle.vp_dots.specs.declared.fault.Why.TheVariants.{Empty, Char}
use Rattle.vp_qr.specs.declared.level.Level.{Level}
use Rattle.vp_qr.specs.declared.segment.Mode.{Mode}
use Rattle.vp_qr.specs.Segments.{has, kind_of, message}
use Rattle.vp_qr.specs.Strings.{padded}
use Rattle.vp_qr.specs.Versions.{smallest}
use Rattle.vp_qr.specs.Blocks.{blocks_of, capacity, interleaved}
use Rattle.vp_qr.specs.Places.{size}
use Rattle.vp_qr.specs.Walk.{number_of, data_bit, dark}
use Rattle.vp_qr.specs.Codes.{format_code, version_code}
use Rattle.vp_qr.specs.Symbol.{module_at}
use Rattle.vp_qr.specs.Penalty.{penalty}

-- why bytes have no symbol: there are none; the mode lacks one of them; no version up to 10 holds them
abbrev pub refusal : Level → Mode → List ℕ → Option Fault
refusal level mode src =
    if length src == 0 then Some (Symbol Empty)
    else if not (list_all (has (kind_of mode src)) src) then Some (Symbol Char)
    else if is_none (smallest level (kind_of mode src) src) then Some SymbolTooLong
    else None

abbrev pub version_of : Level → Mode → List ℕ → ℕ
version_of level mode src = unwrap_or (smallest level (kind_of mode src) src) 0

-- the data codewords, and all codewords in their order
unfoldable pub data_words : Level → Mode → List ℕ → List ℕ
data_words level mode src =
    let v = version_of level mode src in
    padded (capacity level v) (message (kind_of mode src) v src)

unfoldable pub codewords_of : Level → Mode → List ℕ → List ℕ
codewords_of level mode src = interleaved (blocks_of level (version_of level mode src))
    (data_words level mode src)

-- the finished symbol of codewords with a mask, by row and column
unfoldable pub masked : Level → ℕ → List ℕ → ℕ → ℕ → ℕ → Bool
masked level version codewords mask i j =
    module_at version (format_code level mask) (version_code version) mask
    (λ i j. data_bit codewords (number_of version i j)) i j

-- the first place of a least number
unfoldable pub least_place : List ℕ → ℕ
least_place xs = position_or_len (λ x. list_all (nat_le x) xs) xs

abbrev pub masks : List ℕ
masks = 0 ∷ 1 ∷ 2 ∷ 3 ∷ 4 ∷ 5 ∷ 6 ∷ 7 ∷ []

-- the lowest mask of least penalty (7.8.3)
unfoldable pub best_mask : Level → ℕ → List ℕ → ℕ
best_mask level version codewords = least_place (map
    (λ mask. penalty (masked level version codewords mask) (size version)) masks)

abbrev pub mask_of : Level → Mode → List ℕ → ℕ
mask_of level mode src = best_mask level (version_of level mode src) (codewords_of level mode src)

-- the symbol's module in row i and column j is dark
unfoldable pub symbol_module : Level → Mode → List ℕ → ℕ → ℕ → Bool
symbol_module level mode src = masked level (version_of level mode src) (codewords_of level mode src)
    (mask_of level mode src)

-- a symbol in hand; bit j of a row is its module in column j
pub record QrSymbol : Type 0 where
  pub version : ℕ
  pub mask : ℕ
  pub codewords : List ℕ
  pub rows : List ℕ

-- it is that of bytes
pub record Encodes (level : Level) (mode : Mode) (src : List ℕ) (qr : QrSymbol) : Type 0 where
  pub version_is : qr.version ≡ version_of level mode src
  pub codewords_are : qr.codewords ≡ codewords_of level mode src
  pub mask_is : qr.mask ≡ mask_of level mode src
  pub modules_are : (i j : ℕ) → i < size qr.version → j < size qr.version
      → dark qr.rows i j ≡ symbol_module level mode src i j
