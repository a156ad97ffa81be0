-- The lines of a listing.
use Rattle.std.specs.Prelude.{ℕ, suc, ◌+◌, ◌==◌, Bool, true, false, List, [], ◌∷◌, ◌++◌, length, flat_map, decimal, Option, Some, None, if◌then◌else◌}
use Rattle.vp_esc.specs.declared.item.EscItem.TheVariants.{RasterByte}
use Rattle.vp_esc.specs.Lines.{line_of}
use Rattle.vp_streams.specs.Count.{counted, grown}
use Rattle.vp_engine.specs.declared.offset.TheConstants.{LONGEST_BYTE_LINE}
use Rattle.vp_engine.specs.Offsets.{offset_line}

-- what is still to be put out of the last lines, how many lines there were, and how many bytes were taken,
-- where lines stand behind their places
pub record Listed : Type 0 where
  pub pending : List ℕ
  pub count : ℕ
  pub taken : Option ℕ

-- these bytes were taken
abbrev pub taken_of : Bool → List ℕ → Option ℕ
taken_of false bytes = None
taken_of true bytes = Some (counted (length bytes))

-- n bytes more
abbrev pub more_taken : Option ℕ → ℕ → Option ℕ
more_taken None n = None
more_taken (Some taken) n = Some (grown taken n)

-- none yet, behind their places or without
abbrev pub no_lines : Bool → Listed
no_lines with_offsets = record { pending = []; count = 0; taken = taken_of with_offsets [] }

-- a line, behind its place where it has one
abbrev pub listed_line : Option ℕ → List ℕ → List ℕ
listed_line None line = line
listed_line (Some offset) line = offset_line offset line

-- the lines of bytes of data
abbrev pub byte_lines : List ℕ → List ℕ
byte_lines bytes = flat_map (λ b. line_of (RasterByte b)) bytes

-- the lines of bytes of data, each behind its place, where `taken` bytes are taken before them
abbrev pub byte_lines_after : ℕ → List ℕ → List ℕ
byte_lines_after taken [] = []
byte_lines_after taken (byte ∷ bytes) =
    offset_line (suc taken) (line_of (RasterByte byte)) ++ byte_lines_after (suc taken) bytes

-- the same, behind their places where `taken` tells these
abbrev pub listed_bytes : Option ℕ → List ℕ → List ℕ
listed_bytes None bytes = byte_lines bytes
listed_bytes (Some taken) bytes = byte_lines_after taken bytes

-- how long the line of a byte of data may be
abbrev pub longest_line : Option ℕ → ℕ
longest_line None = 8
longest_line (Some taken) = LONGEST_BYTE_LINE

-- the digits of a place but its last, which all places of these tens have in common
abbrev pub leading : ℕ → List ℕ
leading tens = if tens == 0 then [] else decimal tens

-- a line behind a place, by the place's digits but the last, and the last
abbrev pub line_behind : List ℕ → ℕ → ℕ → List ℕ
line_behind digits last byte = digits ++ (48 + last) ∷ 0x20 ∷ line_of (RasterByte byte)

-- lines behind places that have these digits but the last in common; the last rises from line to line
abbrev pub lines_behind : List ℕ → ℕ → List ℕ → List ℕ
lines_behind digits last [] = []
lines_behind digits last (byte ∷ bytes) =
    line_behind digits last byte ++ lines_behind digits (suc last) bytes
