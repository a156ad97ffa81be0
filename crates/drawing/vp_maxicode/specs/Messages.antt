-- The message codewords of bytes (ISO/IEC 16023, character encodation). A message begins in set A. Nine
-- digits are one number behind 31. A character stands in the set in force if this has it; else in the first
-- set that has it. B takes one character from A behind a shift, and is latched to where two that A hasn't
-- stand together. A takes up to three from B behind a shift, and is latched to where four that B hasn't
-- stand together. C, D and E take one behind a shift, and are locked in where four of theirs stand
-- together; they are left by a latch.
use Rattle.std.specs.Prelude.{ℕ, zero, suc, ◌+◌, ◌-◌, ◌*◌, ◌/◌, ◌%◌, ◌&&◌, nat_le, Bool, List, [], ◌∷◌, ◌++◌, Option, Some, None, take, drop, length, slice_index, if◌then◌else◌}
use Rattle.std.specs.List.{list_all}
use Rattle.vp_maxicode.specs.declared.set.CodeSet.{CodeSet}
use Rattle.vp_maxicode.specs.declared.set.CodeSet.TheVariants.{A, B, C, D}
use Rattle.vp_maxicode.specs.Characters.{value_in, has, code, home, only_a, only_b, is_digit}

-- codewords, the set in force behind them, and how many bytes they are of
pub record Step : Type 0 where
  pub words : List ℕ
  pub set : CodeSet
  pub taken : ℕ

-- bytes begin with n that pass a test
unfoldable pub begins : (ℕ → Bool) → ℕ → List ℕ → Bool
begins test n src = nat_le n (length src) && list_all test (take n src)

-- the number of the first nine digits
abbrev pub digit : List ℕ → ℕ → ℕ
digit src k = slice_index src k - 48

unfoldable pub number : List ℕ → ℕ
number src = 100000000 * digit src 0 + 10000000 * digit src 1 + 1000000 * digit src 2 + 100000 * digit src 3
    + 10000 * digit src 4 + 1000 * digit src 5 + 100 * digit src 6 + 10 * digit src 7 + digit src 8

-- nine digits, in five codewords of a number, the highest first
abbrev pub nine : ℕ → List ℕ
nine n = 31 ∷ n / 16777216 % 64 ∷ n / 262144 % 64 ∷ n / 4096 % 64 ∷ n / 64 % 64 ∷ n % 64 ∷ []

-- a character behind a shift, and behind a latch or a lock
abbrev pub shifted : ℕ → CodeSet → CodeSet → ℕ → Step
shifted shift set to byte = record { words = shift ∷ code to byte ∷ []; set = set; taken = 1 }

abbrev pub latched : ℕ → CodeSet → ℕ → Step
latched latch to byte = record { words = latch ∷ code to byte ∷ []; set = to; taken = 1 }

abbrev pub locked : ℕ → CodeSet → ℕ → Step
locked shift to byte = record { words = shift ∷ shift ∷ code to byte ∷ []; set = to; taken = 1 }

-- from A to B
unfoldable pub to_b : List ℕ → Step
to_b src =
    if begins only_b 2 src then latched 63 B (slice_index src 0)
    else shifted 59 A B (slice_index src 0)

-- from B to A: behind a shift for three, for two and for one
unfoldable pub to_a : List ℕ → Step
to_a src =
    let a = slice_index src 0 in
    let b = slice_index src 1 in
    let c = slice_index src 2 in
    if begins only_a 4 src then latched 63 A a
    else if begins only_a 3 src
    then record { words = 57 ∷ code A a ∷ code A b ∷ code A c ∷ []; set = B; taken = 3 }
    else if begins only_a 2 src then record { words = 56 ∷ code A a ∷ code A b ∷ []; set = B; taken = 2 }
    else shifted 59 B A a

-- the shift to C, D or E
abbrev pub shift : CodeSet → ℕ
shift C = 60
shift D = 61
shift set = 62

unfoldable pub to_high : CodeSet → CodeSet → List ℕ → Step
to_high set to src =
    if begins (has to) 4 src then locked (shift to) to (slice_index src 0)
    else shifted (shift to) set to (slice_index src 0)

-- from a set to another that has the first byte
abbrev pub elsewhere : CodeSet → CodeSet → List ℕ → Step
elsewhere A B src = to_b src
elsewhere B A src = to_a src
elsewhere set A src = latched 58 A (slice_index src 0)
elsewhere set B src = latched 63 B (slice_index src 0)
elsewhere set to src = to_high set to src

-- by the first byte's value in the set in force
abbrev pub character_by : Option ℕ → CodeSet → List ℕ → Step
character_by (Some value) set src = record { words = value ∷ []; set = set; taken = 1 }
character_by None set src = elsewhere set (home (slice_index src 0)) src

-- what bytes begin with
unfoldable pub step : CodeSet → List ℕ → Step
step set src =
    if begins is_digit 9 src then record { words = nine (number src); set = set; taken = 9 }
    else character_by (value_in set (slice_index src 0)) set src

-- codewords, and the set in force behind them
pub record Message : Type 0 where
  pub words : List ℕ
  pub set : CodeSet

-- at most n steps
unfoldable pub steps : ℕ → CodeSet → List ℕ → Message
steps zero set src = record { words = []; set = set }
steps (suc n) set [] = record { words = []; set = set }
steps (suc n) set (byte ∷ rest) =
    let s = step set (byte ∷ rest) in
    let behind = steps n s.set (drop s.taken (byte ∷ rest)) in
    record { words = s.words ++ behind.words; set = behind.set }

-- all of them: each takes a byte at least
abbrev pub text : List ℕ → Message
text src = steps (length src) A src
