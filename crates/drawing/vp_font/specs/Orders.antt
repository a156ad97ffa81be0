-- Codes rise from letter to letter.
use Rattle.std.specs.Prelude.{◌≡◌, ℕ, ◌<◌, Bool, true, false, nat_le, List, length, Option, Some, None}
use Rattle.vp_font.specs.declared.letter.Entry.{Entry}
use Rattle.vp_font.specs.declared.parts.Begun.{Begun}
use Rattle.vp_font.specs.declared.parts.Begun.TheVariants as begins
use Rattle.vp_font.specs.declared.parts.Code.{Code}
use Rattle.vp_font.specs.declared.parts.Code.TheVariants as code
use Rattle.vp_font.specs.declared.state.Given.{Given}
use Rattle.vp_font.specs.declared.state.Given.TheVariants.{Letter}
use Rattle.vp_font.specs.declared.state.Place.{Place}
use Rattle.vp_font.specs.declared.state.Place.TheVariants.{Letter as InLetter}
use Rattle.vp_font.specs.declared.state.State.{State}
use Rattle.vp_font.specs.Letters.{rises}
use Rattle.vp_font.specs.Glyphs.{code_of}

-- a code that was told rises above the last one
abbrev pub code_rises : Option Code → Option ℕ → Bool
code_rises (Some (code.Point c)) last = rises last c
code_rises _ last = true

abbrev pub begun_rises : Begun → Option ℕ → Bool
begun_rises (begins.Letter letter) last = rises last letter.code
begun_rises _ last = true

abbrev pub place_rises : Place → Option ℕ → Bool
place_rises (InLetter parts) last = code_rises parts.code last
place_rises _ last = true

abbrev pub ordered : State → Bool
ordered s = place_rises s.place s.last

-- a letter that is given rises above the last one, and is then that one
abbrev pub Follows : Option ℕ → Given → Option ℕ → Type 0
Follows last (Letter letter) next = (rises last letter.code ≡ true) × (next ≡ Some letter.code)
Follows last _ next = next ≡ last

-- a code is that of the last letter or of one before
abbrev pub reached : Option ℕ → ℕ → Bool
reached None c = false
reached (Some last) c = nat_le c last

-- so are those of all letters
abbrev pub Below : Option ℕ → List Entry → Type 0
Below last letters = (i : ℕ) (other : Entry) → i < length letters
    → reached last (code_of letters i other) ≡ true
