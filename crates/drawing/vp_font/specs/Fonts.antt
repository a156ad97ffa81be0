-- A font, and the file that it is read from (technical note 5005, 3).
use Rattle.std.specs.Prelude.{ℕ, ◌+◌, ◌*◌, List, [], ◌∷◌, ◌++◌, length, Bool, true, false, Result, Ok, Err, if◌then◌else◌}
use Rattle.vp_font.specs.declared.fault.Fault.{Fault}
use Rattle.vp_font.specs.declared.fault.Fault.TheVariants.{Ends}
use Rattle.vp_font.specs.declared.font.Counts.{Counts}
use Rattle.vp_font.specs.declared.letter.Entry.{Entry}
use Rattle.vp_font.specs.declared.font.FontError.{FontError}
use Rattle.vp_font.specs.declared.font.FontError.TheVariants.{At}
use Rattle.vp_font.specs.declared.font.TheConstants.{ENTRY_BYTES}
use Rattle.vp_font.specs.declared.letter.Metrics.{Metrics}
use Rattle.vp_font.specs.declared.state.Given.{Given}
use Rattle.vp_font.specs.declared.state.Given.TheVariants.{Letter, Row, End}
use Rattle.vp_font.specs.declared.state.State.{State}
use Rattle.vp_font.specs.Words.{lines}
use Rattle.vp_font.specs.Rows.{row_of}
use Rattle.vp_font.specs.Steps.{start, step}

-- a font: its heights and default letter, its letters, and the bytes of the rows of all, one after another
pub record Face : Type 0 where
  pub metrics : Metrics
  pub letters : List Entry
  pub raster : List ℕ

-- the letters and rows that a line gives, behind those before
abbrev pub letters_with : Given → List Entry → List ℕ → List Entry
letters_with (Letter letter) letters raster = letters ++ record { letter = letter; from = length raster } ∷ []
letters_with _ letters raster = letters

abbrev pub raster_with : Given → List ℕ → List ℕ → List ℕ
raster_with (Row bytes) line raster = raster ++ row_of bytes line
raster_with _ line raster = raster

-- ENDFONT ends a font
abbrev pub ends : Given → Bool
ends End = true
ends _ = false

-- what comes of line n, or which rule it breaks
abbrev pub told : {A B : Type 0} → ℕ → Result A Fault → (A → Result B FontError) → Result B FontError
told n (Err why) next = Err (At n why)
told n (Ok x) next = next x

-- the lines from line n on, where the file stands so, behind letters and rows that were read
unfoldable pub read_from : ℕ → State → List Entry → List ℕ → List (List ℕ) → Result Face FontError
read_from n s letters raster [] = Err (At n Ends)
read_from n s letters raster (line ∷ rest) = told n (step s line) (λ r.
    if ends r.1 then Ok (record { metrics = r.0.metrics; letters = letters; raster = raster })
    else read_from (n + 1) r.0 (letters_with r.1 letters raster) (raster_with r.1 line raster) rest)

-- the font of a file, or the first line that breaks a rule
abbrev pub font_of : List ℕ → Result Face FontError
font_of file = read_from 1 start [] [] (lines file)

-- how many letters, and bytes of rows, there are with what a line gives
abbrev pub more_letters : Given → ℕ → ℕ
more_letters (Letter letter) n = n + 1
more_letters _ n = n

abbrev pub more_bytes : Given → ℕ → ℕ
more_bytes (Row bytes) n = n + bytes
more_bytes _ n = n

-- how many there are in all
unfoldable pub count_from : ℕ → State → ℕ → ℕ → List (List ℕ) → Result Counts FontError
count_from n s letters bytes [] = Err (At n Ends)
count_from n s letters bytes (line ∷ rest) = told n (step s line) (λ r.
    if ends r.1 then Ok (record { letters = letters; bytes = bytes })
    else count_from (n + 1) r.0 (more_letters r.1 letters) (more_bytes r.1 bytes) rest)

-- the bytes of memory of a font
abbrev pub font_memory : Face → ℕ
font_memory face = ENTRY_BYTES * length face.letters + length face.raster
