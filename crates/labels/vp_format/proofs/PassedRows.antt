-- Rows that are passed by their codes.
use Rattle.std.proofs.lemmas.Grind.{common_steps}
use Rattle.std.proofs.Common.{◌≡◌, ◌⊎◌, ℕ, ◌+◌, ◌*◌, ◌<◌, ◌≤◌, true, false, List, [], ◌∷◌, length, length-drop, ap, sym, ◌∙◌, refl, arith}
use Rattle.std.proofs.lemmas.Bool.Decides.{nat_tests}
use Rattle.vp_format.specs.declared.row.RowEnd.{RowEnd}
use Rattle.vp_format.specs.declared.rows.Coding.{Coding}
use Rattle.vp_format.specs.declared.rows.Coding.TheVariants.{RunLength, Binary}
use Rattle.vp_format.specs.declared.rows.Spot.{Spot}
use Rattle.vp_format.specs.declared.rows.RunRows.TheInside.{Inside}
use Rattle.vp_format.specs.Codes.{code_of, symbols, symbols_behind}
use Rattle.vp_format.specs.Pictures.{bytes_before, start_of}
use Rattle.vp_format.specs.Cursors.{symbols_at, picture_of, is_white, white_rest, Advanced, Decoded, ArePassed, IsCursor}
use Rattle.vp_format.proofs.Even.{ends_white}
use Rattle.vp_format.proofs.Reached.{bytes_past, bytes_none}

-- there is one such row at most
pub rest_most : (codes : ℕ) (s : Spot) → white_rest codes s ≤ 1
rest_most codes s = grind (arith, nat_tests)

-- behind counts some bytes are read
some_behind : (codes : List ℕ) (w p : ℕ) → p < w → (n k : ℕ) → 0 < n → 0 < k → 0 < bytes_before w p (symbols_behind codes n k) w
unfolding code_of
some_behind [] w p l n k counts some = grind (arith, nat_tests, bytes_past)
some_behind (b ∷ codes) w p l n k counts some = grind (arith, some_behind codes w p l, nat_tests, bytes_past)

-- so some bytes are read where there is a code
some_read : (coding : Coding) (codes : List ℕ) (w p : ℕ) → 0 < length codes → p < w → 0 < bytes_before w p (symbols coding codes) w
unfolding code_of
some_read coding [] w p some l = absurd (omega arith)
some_read RunLength (b ∷ codes) w p some l = grind (arith, some_behind, bytes_past, nat_tests)
some_read Binary (b ∷ codes) w p some l = grind (arith, bytes_past)

module _ (w : ℕ) (coding : Coding) (codes : List ℕ) (s after : Spot) (end : RowEnd) (old new : List ℕ) (d : Decoded w coding codes s end after old new) where
  -- where the next row starts
  next_start : s.at + bytes_before w 0 (symbols_at coding codes s) w ≡ after.at
  next_start = grind (arith, bytes_none, d.bytes 0)

  -- behind the last code white is all that comes once the run has ended
  pub white_next : s.at ≡ length codes → ((s.left ≤ w) ⊎ (s.digit ≡ 0)) → is_white (length codes) after ≡ true
  white_next ends rest = let first = sym (d.next 0) ∙ ends_white w coding codes s (w + 0) ends (grind arith) in grind (arith, next_start, first, nat_tests)

-- the row at the cursor is read
module _ (c n : Inside) (end : RowEnd) (i : IsCursor c) (going : c.refused ≡ false) (a : Advanced c.codes n.codes)
    (d : Decoded (2 * c.row_bytes) c.coding c.codes.bytes.now c.mark.here end (record { left = end.left; digit = end.digit; at = n.codes.at }) c.row n.row)
    (coding : n.coding ≡ c.coding) (row_bytes : n.row_bytes ≡ c.row_bytes) (rows : n.rows ≡ c.rows) (first : n.first ≡ c.first)
    (next : n.mark.next ≡ c.mark.next + 1) (here : n.mark.here ≡ record { left = end.left; digit = end.digit; at = n.codes.at }) where
  start : start_of (picture_of n) n.first ≡ start_of (picture_of c) c.first
  start = grind arith

  there : n.mark.here.at ≡ n.codes.at
  there = ap (λ (s : Spot). s.at) here

  rest : white_rest (length n.codes.bytes.now) n.mark.here ≡ white_rest (length c.codes.bytes.now) (record { left = end.left; digit = end.digit; at = n.codes.at })
  rest = ap (λ (b : List ℕ). white_rest (length b) n.mark.here) a.bytes ∙ ap (white_rest (length c.codes.bytes.now)) here

  white : c.mark.here.at ≡ length c.codes.bytes.now → ((c.mark.here.left ≤ 2 * c.row_bytes) ⊎ (c.mark.here.digit ≡ 0)) → white_rest (length n.codes.bytes.now) n.mark.here ≡ 1
  white ends short = rest ∙ rw (white_next (2 * c.row_bytes) c.coding c.codes.bytes.now c.mark.here _ end c.row n.row d ends short) refl

  -- and not counted
  pub read_passed : n.passed ≡ c.passed → ArePassed n
  read_passed same = grind (arith, start, there, white, nat_tests)

  -- or counted, where a code spells it
  pub spelled_passed : n.passed ≡ c.passed + 1 → c.mark.here.left < 2 * c.row_bytes → is_white (length c.codes.bytes.now) c.mark.here ≡ false → ArePassed n
  spelled_passed more short w = grind (arith, common_steps, start, there, some_read, length-drop, white, bytes_past, bytes_none, d.bytes 0)
