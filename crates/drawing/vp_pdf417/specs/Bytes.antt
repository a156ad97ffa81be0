-- Byte compaction (ISO/IEC 15438, Byte Compaction mode).
use Rattle.std.specs.Prelude.{ℕ, ◌+◌, ◌*◌, ◌%◌, ◌==◌, length, List, [], ◌∷◌, ◌++◌, if◌then◌else◌}
use Rattle.vp_pdf417.specs.Places.{base_900}

-- six bytes as one number
abbrev pub six : ℕ → ℕ → ℕ → ℕ → ℕ → ℕ → ℕ
six a b c d e f = 256 * (256 * (256 * (256 * (256 * a + b) + c) + d) + e) + f

-- six bytes are five codewords, and those that are left stand by themselves
unfoldable pub by_six : List ℕ → List ℕ
by_six [] = []
by_six (a ∷ []) = a ∷ []
by_six (a ∷ b ∷ []) = a ∷ b ∷ []
by_six (a ∷ b ∷ c ∷ []) = a ∷ b ∷ c ∷ []
by_six (a ∷ b ∷ c ∷ d ∷ []) = a ∷ b ∷ c ∷ d ∷ []
by_six (a ∷ b ∷ c ∷ d ∷ e ∷ []) = a ∷ b ∷ c ∷ d ∷ e ∷ []
by_six (a ∷ b ∷ c ∷ d ∷ e ∷ f ∷ rest) = base_900 5 (six a b c d e f) ++ by_six rest

-- the latch says whether there are some left
abbrev pub byte_latch : List ℕ → ℕ
byte_latch src = if length src % 6 == 0 then 924 else 901

unfoldable pub bytes : List ℕ → List ℕ
bytes src = byte_latch src ∷ by_six src
