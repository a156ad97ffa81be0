-- Words painted on rows of the page.
use Rattle.std.proofs.Common.{◌≡◌, ℕ, ◌+◌, ◌-◌, ◌*◌, ◌/◌, ◌%◌, ◌^◌, ◌<◌, ◌≤◌, Bool, true, cond, ltb, leb, ◌&&◌, sym, ap, ◌∙◌, arith, List, bit_or, length, get_or}
use lib.Lanes.{zip2, chunk, put_chunk}
use Rattle.std.specs.Int.{to_be_bytes, w64}
use Rattle.std.proofs.lemmas.Simd.{get_or-zip2, get_or-chunk, length-zip2, length-chunk}
use Rattle.std.proofs.lemmas.Bool.{lt-ltb, le-ltb, lt-leb, le-leb}
use Rattle.std.proofs.lemmas.Bool.Decides.{nat_tests}
use Rattle.vp_dots.specs.Dots.{bit, dot, span}
use Rattle.vp_dots.specs.Words.{word_dot}
use Rattle.vp_dots.specs.Painting.{Painted}
use Rattle.vp_dots.specs.declared.Op.TheVariants.{Black}
use Rattle.vp_dots.proofs.Bits.{bit_of_or}
use Rattle.vp_dots.proofs.Blocks.{painted_block}
use Rattle.vp_dots.proofs.Paints.{painted_same}
use Rattle.vp_dots.proofs.Words.{bit_shl, word_row}
use Rattle.vp_dots.proofs.Cuts.{bit_low64}
use Rattle.vp_dots.proofs.Rows.{dot_at}
use Rattle.vp_page.proofs.Rows.{dot_past}

-- some bytes of a row, each with a byte on it
module _ (f : ℕ → ℕ → ℕ) (row ys : List ℕ) (i n : ℕ) (room : i + n ≤ length row) (long : length ys ≡ n) where
  pub long_on : length (zip2 f (chunk i n row) ys) ≡ n
  long_on = grind (arith, length-zip2, length-chunk)

  pub byte_on : (j : ℕ) → j < n → get_or (zip2 f (chunk i n row) ys) j 0 ≡ f (get_or row (i + j) 0) (get_or ys j 0)
  byte_on j h = grind (arith, get_or-zip2, get_or-chunk, length-chunk)

-- some bytes of a row, blackened where others are black
pub bytes_on : (ink : ℕ → Bool) (row ys : List ℕ) (i n : ℕ) → i + n ≤ length row → length ys ≡ n → ((j k : ℕ) → j < n → k < 8 → bit (get_or ys j 0) k ≡ ink (8 * (i + j) + (7 - k)))
    → Painted Black (λ d. span i (i + n) (d / 8) && ink d) row (put_chunk i row (zip2 bit_or (chunk i n row) ys))
bytes_on ink row ys i n room long e = painted_block Black ink i n row _ (long_on bit_or row ys i n room long) room (λ j m k h. ap (λ x. bit x k) (byte_on bit_or row ys i n room long j m)
    ∙ bit_of_or (get_or row (i + j) 0) (get_or ys j 0) k ∙ ap (λ b. cond b true (bit (get_or row (i + j) 0) k)) (e j k m h))

-- eight bytes with eight bytes of a line on them
pub bytes_painted : (line : List ℕ) (j i : ℕ) (row : List ℕ) → j + 8 ≤ length line → i + 8 ≤ length row
    → Painted Black (λ d. leb (8 * i) d && (ltb (d - 8 * i) 64 && dot line (8 * j + (d - 8 * i)))) row (put_chunk i row (zip2 bit_or (chunk i 8 row) (chunk j 8 line)))
bytes_painted line j i row there room = painted_same Black _ _ _ _ (λ d l. grind (arith, nat_tests))
    (bytes_on (λ d. leb (8 * i) d && (ltb (d - 8 * i) 64 && dot line (8 * j + (d - 8 * i)))) row _ i 8 room (length-chunk j 8 line there) (λ n k p h. ap (λ x. bit x k) (get_or-chunk j 8 line n 0 p)
    ∙ grind (arith, nat_tests, dot_at line (j + n) k h)))

-- sixteen bytes with those of other bytes on them
pub sixteen_painted : (line : List ℕ) (i : ℕ) (row : List ℕ) → i + 16 ≤ length line → i + 16 ≤ length row
    → Painted Black (λ d. span i (i + 16) (d / 8) && dot line d) row (put_chunk i row (zip2 bit_or (chunk i 16 row) (chunk i 16 line)))
sixteen_painted line i row there room = bytes_on (dot line) row _ i 16 room (length-chunk i 16 line there) (λ n k p h. ap (λ x. bit x k) (get_or-chunk i 16 line n 0 p) ∙ sym (dot_at line (i + n) k h))

-- sixteen bytes with sixteen bytes of a line on them, turned end for end
pub turned_painted : (line lanes : List ℕ) (j i : ℕ) (row : List ℕ) → j + 16 ≤ length line → i + 16 ≤ length row → length lanes ≡ 16
    → ((n k : ℕ) → n < 16 → k < 8 → bit (get_or lanes n 0) k ≡ bit (get_or line (j + (15 - n)) 0) (7 - k))
    → Painted Black (λ d. leb (8 * i) d && (ltb (d - 8 * i) 128 && dot line (8 * j + (127 - (d - 8 * i))))) row (put_chunk i row (zip2 bit_or (chunk i 16 row) lanes))
turned_painted line lanes j i row there room sixteen turned = painted_same Black _ _ _ _ (λ d l. grind (arith, nat_tests))
    (bytes_on (λ d. leb (8 * i) d && (ltb (d - 8 * i) 128 && dot line (8 * j + (127 - (d - 8 * i))))) row lanes i 16 room sixteen (λ n k p h. grind (arith, nat_tests, turned n k, dot_at line (j + (15 - n)) (7 - k))))

-- a word that begins before a row
pub first_eight : (word far d : ℕ) → (leb 0 d && word_dot (word * 2 ^ far % 2 ^ 64) (d - 0)) ≡ word_dot word (d + far)
first_eight word far d = grind (arith, le-leb, lt-ltb, bit_low64, bit_shl, lt-leb, le-ltb)

-- the bytes of a word, eight of a row
pub word_bytes : (word x : ℕ) (bytes : List ℕ) → bytes ≡ to_be_bytes w64 word → (ltb x 64 && dot bytes (8 * 0 + x)) ≡ word_dot word x
word_bytes word x bytes e = grind (arith, word_row)

-- the words of a line, after the last ones
pub words_all : (line : List ℕ) (q k d : ℕ) → length line ≤ 8 * k → (ltb d (8 * q + 64 * k) && (leb (8 * q) d && dot line (d - 8 * q))) ≡ (leb (8 * q) d && dot line (d - 8 * q))
words_all line q k d all = grind (arith, nat_tests, dot_past)
