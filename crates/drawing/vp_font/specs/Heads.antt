-- What stands before the letters (technical note 5005, 3.1).
use Rattle.std.specs.Prelude.{ℕ, List, Option, Some, None, Result, Ok, Err, ℤ, pos, ◌+ℤ◌, ◌-ℤ◌}
use Rattle.vp_font.specs.declared.fault.Fault.{Fault}
use Rattle.vp_font.specs.declared.fault.Fault.TheVariants as fault
use Rattle.vp_font.specs.declared.head.Bounds.{Bounds}
use Rattle.vp_font.specs.declared.head.Head.{Head}
use Rattle.vp_font.specs.declared.keyword.Keyword.{Keyword}
use Rattle.vp_font.specs.declared.keyword.Keyword.TheVariants as about
use Rattle.vp_font.specs.declared.letter.Metrics.{Metrics}
use Rattle.vp_font.specs.Ranges.{◌>>=◌, whole_at, offset_at, shape_at}

-- nothing is told yet
abbrev pub empty : Head
empty = record { bounds = None; ascent = None; descent = None; default_char = None }

-- how far the box of all letters reaches above the baseline, and below it
unfoldable pub bounds_at : List ℕ → Result Bounds Fault
bounds_at line = shape_at line >>= λ shape.
    Ok (record { ascent = pos shape.height +ℤ shape.bottom; descent = pos 0 -ℤ shape.bottom })

-- a line that is about this; of lines that say the same thing the last one holds
unfoldable pub with_line : Head → Keyword → List ℕ → Result Head Fault
with_line head about.BoundingBox line =
    bounds_at line >>= λ bounds. Ok (record head { bounds = Some bounds })
with_line head about.Ascent line =
    offset_at 1 2048 fault.Number line >>= λ ascent. Ok (record head { ascent = Some ascent })
with_line head about.Descent line =
    offset_at 1 2048 fault.Number line >>= λ descent. Ok (record head { descent = Some descent })
with_line head about.DefaultChar line =
    whole_at 1 1114111 fault.Number line >>= λ code. Ok (record head { default_char = Some code })
with_line head _ line = Ok head

-- a height that is told, or else that of the box
abbrev pub height : Option ℤ → Option ℤ → Result ℤ Fault
height (Some told) boxed = Ok told
height None (Some boxed) = Ok boxed
height None None = Err fault.Height

abbrev pub box_ascent : Option Bounds → Option ℤ
box_ascent None = None
box_ascent (Some bounds) = Some bounds.ascent

abbrev pub box_descent : Option Bounds → Option ℤ
box_descent None = None
box_descent (Some bounds) = Some bounds.descent

-- what the head tells
unfoldable pub metrics : Head → Result Metrics Fault
metrics head = do
  ascent ← height head.ascent (box_ascent head.bounds)
  descent ← height head.descent (box_descent head.bounds)
  Ok (record { ascent = ascent; descent = descent; default_char = head.default_char })
