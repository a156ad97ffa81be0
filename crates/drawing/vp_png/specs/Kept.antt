-- What the code keeps.
use Rattle.std.specs.Prelude.{◌≡◌, ℕ, ◌/◌, ◌+◌, ◌-◌, ◌%◌, ◌<◌, ◌≤◌, ◌==◌, ◌||◌, not, nat_lt, if◌then◌else◌, Option, Some, None, List, [], ◌++◌, length, map, take, drop, flat_map, slice_index}
use Rattle.vp_png.specs.declared.bits.Bits.{Bits}
use Rattle.vp_png.specs.declared.sums.Sums.{Sums}
use Rattle.vp_png.specs.declared.lines.Copied.{Copied}
use Rattle.vp_png.specs.declared.packer.Packer.{Packer}
use Rattle.vp_png.specs.declared.png.Png.{Png}
use Rattle.vp_png.specs.declared.png.PngError.{PngError}
use Rattle.vp_png.specs.declared.png.PngError.TheVariants.{ZeroSize, TooWide, TooHigh, TooManyRows, RowLength, Waiting}
use Rattle.vp_png.specs.declared.token.Token.{Token}
use Rattle.vp_png.specs.declared.token.Token.TheVariants.{Literal, Match}
use Rattle.vp_png.specs.Bits.{low_bits, bits_of}
use Rattle.vp_png.specs.Tokens.{copied, unpacked, AreTokens, token_bits, block_start}
use Rattle.vp_png.specs.Zlib.{first_sum, second_sum, zlib_head}
use Rattle.vp_png.specs.File.{AreAcross, IsPng, head, chunk, idat, scanlines, joined}

-- the bits that were written
abbrev pub bits_in : Bits → List ℕ
bits_in s = bits_of s.bytes.items ++ low_bits s.count s.held

-- how many zeros there are to the next whole byte
abbrev pub padding : Bits → ℕ
padding s = (8 - s.count) % 8

-- a token whose numbers are coded here, and the bits that it has at most
abbrev pub IsCoded : Token → Type 0
IsCoded (Literal b) = b < 256
IsCoded (Match distance long) = (1 ≤ distance) × (distance ≤ 256) × (3 ≤ long) × (long ≤ 258)

abbrev pub token_room : Token → ℕ
token_room (Literal b) = 9
token_room (Match distance long) = 25

-- both sums are those of bytes
pub record AreSums (s : Sums) (bytes : List ℕ) : Type 0 where
  pub first : s.first ≡ first_sum bytes
  pub second : s.second ≡ second_sum bytes

-- lines as they are packed
abbrev pub shown : List ℕ → List ℕ
shown line = map (λ b. 255 - b) line

-- above is a line as long, or none
abbrev pub IsUnder : List ℕ → List ℕ → Type 0
IsUnder above line = 0 < length above → length above ≡ length line

-- bytes of the line from one on are those that stand so far back, in it or above
pub record IsCopy (above line : List ℕ) (at : ℕ) (copy : Copied) : Type 0 where
  pub within : at + copy.long ≤ length line
  pub back : 0 < copy.long → 1 ≤ copy.distance
  pub reach : 0 < copy.long → copy.distance ≤ length above + at
  pub same : (k : ℕ) → k < copy.long →
      slice_index line (at + k) ≡ slice_index (above ++ line) (length above + at + k - copy.distance)

-- bits of a stream pack data: tokens, and behind these a match that isn't written yet and may go on
pub record Packs (bits : List ℕ) (stride running : ℕ) (packed : List ℕ) : Type 0 where
  pub tokens : List Token
  pub valid : AreTokens [] tokens
  pub are : bits ≡ bits_of zlib_head ++ block_start ++ flat_map token_bits tokens
  pub unpacks : copied running stride (unpacked [] tokens) ≡ packed
  pub back : 0 < running →
      (3 ≤ running) × (1 ≤ stride) × (stride ≤ 32768) × (stride ≤ length (unpacked [] tokens))

-- a packer whose first bits were taken away has packed what stands before the line above, that line, and
-- the line in hand up to a byte
abbrev pub IsPackedTo : Packer → List ℕ → List ℕ → ℕ → Type 0
IsPackedTo s gone before at = Packs (gone ++ bits_in s.bits) (length s.lines.line.items) s.running
    (before ++ shown s.lines.above.items ++ shown (take at s.lines.line.items))

-- a packer, whose first bits were taken away, has packed data, of which the line in hand is the last
pub record HasPacked (s : Packer) (gone packed : List ℕ) : Type 0 where
  pub packs : Packs (gone ++ bits_in s.bits) (length s.lines.line.items) s.running packed
  pub front : List ℕ
  pub last : packed ≡ front ++ shown s.lines.line.items

-- between rows: what was handed out and what waits are the file so far
pub record Going (p : Png) (rows : List (List ℕ)) (out : List ℕ) : Type 0 where
  pub parts : List (List ℕ)
  pub file : out ++ drop p.taken p.waiting.items ≡ head p.width p.height ++ flat_map (chunk idat) parts
  pub packed : HasPacked p.packer (bits_of (joined parts)) (scanlines rows)
  pub sums : AreSums p.sums (scanlines rows)
  pub count : length rows + p.left ≡ p.height
  pub across : AreAcross p.width rows

-- rows were taken, and bytes handed out: the file goes on, or behind the last row it is whole
pub record Stands (p : Png) (rows : List (List ℕ)) (out : List ℕ) : Type 0 where
  pub going : 0 < p.left → Going p rows out
  pub ended : p.left ≡ 0 → IsPng p.width p.height rows (out ++ drop p.taken p.waiting.items)

-- what waits to be handed out
abbrev pub waiting_bytes : Png → List ℕ
waiting_bytes p = drop p.taken p.waiting.items

-- why an image is refused, and why a row is
abbrev pub size_refusal : ℕ → ℕ → Option PngError
size_refusal width height =
    if width == 0 || height == 0 then Some ZeroSize
    else if nat_lt 1664 width then Some TooWide
    else if nat_lt 2147483647 height then Some TooHigh
    else None

abbrev pub row_refusal : Png → List ℕ → Option PngError
row_refusal p row =
    if p.left == 0 then Some TooManyRows
    else if not (length row == (p.width + 7) / 8) then Some RowLength
    else if nat_lt 0 (length (waiting_bytes p)) then Some Waiting
    else None
