-- All codewords of a symbol (ISO/IEC 15438, error detection and correction).
use Rattle.std.specs.Prelude.{ℕ, ◌-◌, length, List, ◌∷◌, ◌++◌, replicate}
use Rattle.vp_reed_solomon.specs.declared.field.Field.TheVariants.{Gf929}
use Rattle.vp_reed_solomon.specs.Polynomials.{generator, check_of}
use Rattle.vp_pdf417.specs.declared.size.Size.{Size}
use Rattle.vp_pdf417.specs.Sizes.{check_count, data_count}

-- the data codewords of a message: how many there are, the message, and pads of 900
unfoldable pub padded : Size → List ℕ → List ℕ
padded s message = data_count s ∷ message ++ replicate (data_count s - 1 - length message) 900

-- the check codewords of data: the generator's roots are the powers of 3 from 1 on
unfoldable pub check_words : ℕ → List ℕ → List ℕ
check_words level words = check_of Gf929 (generator Gf929 1 (check_count level)) (check_count level) words

-- data and check
unfoldable pub codewords : Size → List ℕ → List ℕ
codewords s message = padded s message ++ check_words s.level (padded s message)
