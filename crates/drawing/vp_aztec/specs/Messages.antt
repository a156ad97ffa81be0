-- The bits of bytes (ISO/IEC 24778, character encodation). A message begins in upper. A character stands in
-- the mode in force if this has it; else, of punctuation, behind a shift, two at once where they are a pair,
-- or behind a latch where four stand together; else in the mode that has it, behind a shift to upper where
-- that is enough, or a latch. Bytes that no mode has are in runs.
use Rattle.std.specs.Prelude.{ℕ, zero, suc, ◌-◌, ◌&&◌, not, Bool, List, [], ◌∷◌, ◌++◌, Option, Some, None, unwrap_or, take, drop, length, slice_index, if◌then◌else◌}
use Rattle.vp_aztec.specs.declared.mode.Mode.{Mode}
use Rattle.vp_aztec.specs.declared.mode.Mode.TheVariants.{Upper, Lower, Mixed, Punct, Digit}
use Rattle.vp_aztec.specs.Characters.{capital, is_text, width, value_in, mark_value, is_mark, pair_value, home, latch, can_shift, shift}
use Rattle.vp_aztec.specs.Runs.{run, longest, count, byte_codes}

-- codes, each a number of so many bits, the mode behind them, and how many bytes they are of
pub record Step : Type 0 where
  pub codes : List (ℕ × ℕ)
  pub mode : Mode
  pub taken : ℕ

-- characters of the mode in force
abbrev pub here : Mode → ℕ → ℕ → Step
here mode value taken = record { codes = (width mode, value) ∷ []; mode = mode; taken = taken }

-- of punctuation, behind a shift, 0
abbrev pub mark : Mode → ℕ → ℕ → Step
mark mode value taken = record { codes = (width mode, 0) ∷ (5, value) ∷ []; mode = mode; taken = taken }

-- and behind a latch
abbrev pub latched_mark : Mode → ℕ → Step
latched_mark mode value = record { codes = latch mode Punct ∷ (5, value) ∷ []; mode = Punct; taken = 1 }

-- four of punctuation stand together
unfoldable pub begins_marks : List ℕ → Bool
begins_marks src = is_mark (slice_index src 0) && (is_mark (slice_index src 1)
    && (is_mark (slice_index src 2) && is_mark (slice_index src 3)))

-- a capital among small letters or digits stands behind a shift, where not two more follow
unfoldable pub is_shifted : Mode → List ℕ → Bool
is_shifted mode src = can_shift mode && (capital (slice_index src 0)
    && not (capital (slice_index src 1) && capital (slice_index src 2)))

-- a character of another mode
unfoldable pub elsewhere : Mode → List ℕ → Step
elsewhere mode src =
    let byte = slice_index src 0 in
    if is_shifted mode src
    then record { codes = shift mode ∷ (5, byte - 63) ∷ []; mode = mode; taken = 1 }
    else record {
      codes = latch mode (home byte) ∷ (width (home byte), unwrap_or (value_in (home byte) byte) 0) ∷ [];
      mode = home byte;
      taken = 1;
    }

-- two characters that are one in the mode in force
abbrev pub pair_in : Mode → ℕ → ℕ → Option ℕ
pair_in Upper a b = None
pair_in Lower a b = None
pair_in Mixed a b = None
pair_in Punct a b = pair_value a b
pair_in Digit a b = None

-- what a character is in punctuation, by its values in a pair and alone
abbrev pub mark_by : Option ℕ → Option ℕ → Mode → List ℕ → Step
mark_by (Some value) alone mode src = mark mode value 2
mark_by None (Some value) mode src = if begins_marks src then latched_mark mode value else mark mode value 1
mark_by None None mode src = elsewhere mode src

unfoldable pub mark_of : Mode → List ℕ → Step
mark_of mode src =
    mark_by (pair_value (slice_index src 0) (slice_index src 1)) (mark_value (slice_index src 0)) mode src

-- and anywhere, by its values in the mode in force
abbrev pub character_by : Option ℕ → Option ℕ → Mode → List ℕ → Step
character_by (Some value) own mode src = here mode value 2
character_by None (Some value) mode src = here mode value 1
character_by None None mode src = mark_of mode src

unfoldable pub character : Mode → List ℕ → Step
character mode src =
    character_by (pair_in mode (slice_index src 0) (slice_index src 1)) (value_in mode (slice_index src 0))
    mode src

-- bytes behind a shift, 31, and their number; punctuation and digit have no such shift: they are left for
-- upper
abbrev pub from_mode : Mode → Mode
from_mode Upper = Upper
from_mode Lower = Lower
from_mode Mixed = Mixed
from_mode Punct = Upper
from_mode Digit = Upper

unfoldable pub binary : Mode → List ℕ → Step
binary mode src =
    let n = run longest src in
    record {
      codes = latch mode (from_mode mode) ∷ (5, 31) ∷ count n ∷ byte_codes (take n src);
      mode = from_mode mode;
      taken = n;
    }

-- what bytes begin with
unfoldable pub step : Mode → List ℕ → Step
step mode src = if is_text (slice_index src 0) then character mode src else binary mode src

-- at most n steps
unfoldable pub steps : ℕ → Mode → List ℕ → List (ℕ × ℕ)
steps zero mode src = []
steps (suc n) mode [] = []
steps (suc n) mode (byte ∷ rest) =
    let s = step mode (byte ∷ rest) in
    s.codes ++ steps n s.mode (drop s.taken (byte ∷ rest))

-- all of them: each takes a byte at least
abbrev pub message : List ℕ → List (ℕ × ℕ)
message src = steps (length src) Upper src
