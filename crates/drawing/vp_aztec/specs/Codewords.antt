-- The codewords of a symbol (ISO/IEC 24778, error correction and mode message).
use Rattle.std.specs.Prelude.{ℕ, ◌+◌, ◌-◌, ◌*◌, ◌/◌, ◌%◌, List, [], ◌∷◌, ◌++◌, length, map, bit_xor, if◌then◌else◌}
use Rattle.vp_reed_solomon.specs.declared.field.Field.{Field}
use Rattle.vp_reed_solomon.specs.declared.field.Field.TheVariants.{Gf16}
use Rattle.vp_reed_solomon.specs.Polynomials.{generator, check_of}
use Rattle.vp_aztec.specs.declared.size.Size.{Size}
use Rattle.vp_aztec.specs.Sizes.{field_of, total}

-- so many check codewords of data: the generator's roots are the powers of 2 from 1 on
unfoldable pub check_words : Field → ℕ → List ℕ → List ℕ
check_words field n data_words = check_of field (generator field 1 n) n data_words

-- data, and check codewords in all that is left
unfoldable pub codewords : Size → List ℕ → List ℕ
codewords s data_words =
    data_words ++ check_words (field_of s.layers) (total s - length data_words) data_words

-- two numbers of four bits, and four
abbrev pub two : ℕ → List ℕ
two n = n / 16 ∷ n % 16 ∷ []

abbrev pub four : ℕ → List ℕ
four n = n / 4096 ∷ n / 256 % 16 ∷ n / 16 % 16 ∷ n % 16 ∷ []

-- what the mode message says: the layers, and how many data codewords there are, each less one
abbrev pub said : Size → ℕ → List ℕ
said s count =
    if s.compact then two (64 * (s.layers - 1) + (count - 1)) else four (2048 * (s.layers - 1) + (count - 1))

-- it with its check
unfoldable pub mode_words : ℕ → List ℕ → List ℕ
mode_words n said_words = said_words ++ check_words Gf16 n said_words

unfoldable pub mode_message : Size → ℕ → List ℕ
mode_message s count = mode_words (if s.compact then 5 else 6) (said s count)

-- that of a rune (annex A): its number, with each second bit turned
unfoldable pub rune_message : ℕ → List ℕ
rune_message n = map (λ word. bit_xor word 10) (mode_words 5 (two n))
