-- The bytes of rows.
use Rattle.std.proofs.Common.{◌≡◌, ℕ, zero, suc, ◌*◌, ◌<◌, ◌≤◌, true, List, arith, length, get_or}
use Rattle.std.proofs.lemmas.List.{length-append}
use Rattle.std.proofs.lemmas.List.Sums.{prefix_len_passes, prefix_len-le-length}
use Rattle.std.specs.List.{prefix_len}
use Rattle.vp_font.specs.Rows.{is_row, row_of, hex_digit}

-- the digits of a row are there
pub row_within : (bytes : ℕ) (line : List ℕ) → is_row bytes line ≡ true → 2 * bytes ≤ length line
unfolding is_row
row_within bytes line e = grind (arith, prefix_len-le-length hex_digit line)

pub row_digit : (bytes : ℕ) (line : List ℕ) (i : ℕ) → is_row bytes line ≡ true → i < 2 * bytes → hex_digit (get_or line i 0) ≡ true
unfolding is_row
row_digit bytes line i e l = prefix_len_passes hex_digit line i 0 (omega (arith, row_less bytes line e))
  where
    row_less : (bytes : ℕ) (line : List ℕ) → is_row bytes line ≡ true → 2 * bytes ≤ prefix_len hex_digit line
    row_less bytes line e = grind arith

pub length-row_of : (bytes : ℕ) (line : List ℕ) → length (row_of bytes line) ≡ bytes
length-row_of zero line = omega arith
length-row_of (suc n) line = grind (arith, length-append, length-row_of n line)
