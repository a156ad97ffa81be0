-- Numbers of lines within ranges, and boxes (technical note 5005, 3).
use Rattle.std.specs.Prelude.{ℕ, zero, suc, ◌||◌, nat_lt, List, Result, Ok, Err, ℤ, pos, negsuc, if◌then◌else◌}
use Rattle.vp_font.specs.declared.fault.Fault.{Fault}
use Rattle.vp_font.specs.declared.fault.Fault.TheVariants as fault
use Rattle.vp_font.specs.declared.words.Number.{Number}
use Rattle.vp_font.specs.declared.letter.Shape.{Shape}
use Rattle.vp_font.specs.Words.{number_at}

-- what is made of what is read, or why nothing is
infixl 10 ◌>>=◌
abbrev pub ◌>>=◌ : {A B : Type 0} → Result A Fault → (A → Result B Fault) → Result B Fault
(Ok x) >>= f = f x
(Err e) >>= f = Err e

-- less than none
abbrev pub minus : ℕ → ℤ
minus zero = pos zero
minus (suc n) = negsuc n

-- a number with its sign
unfoldable pub signed : Number → ℤ
signed n = if n.below then minus n.size else pos n.size

-- word n of a line, from 0 to most
unfoldable pub whole_at : ℕ → ℕ → Fault → List ℕ → Result ℕ Fault
whole_at n most why line = number_at n line >>= λ number.
    if number.below || nat_lt most number.size then Err why else Ok number.size

-- word n of a line, from -most to most
unfoldable pub offset_at : ℕ → ℕ → Fault → List ℕ → Result ℤ Fault
offset_at n most why line = number_at n line >>= λ number.
    if nat_lt most number.size then Err why else Ok (signed number)

-- a box: width, height, and where its lower left corner stands (FONTBOUNDINGBOX and BBX)
unfoldable pub shape_at : List ℕ → Result Shape Fault
shape_at line = do
  width ← whole_at 1 1024 fault.Box line
  height ← whole_at 2 1024 fault.Box line
  left ← offset_at 3 1024 fault.Box line
  bottom ← offset_at 4 1024 fault.Box line
  Ok (record { width = width; height = height; left = left; bottom = bottom })
