-- The dots that the fields of a label make.
use Rattle.std.specs.Prelude.{ℕ, ◌%◌, ℤ, pos, Bool, true, false, not, ◌&&◌, List, [], ◌∷◌, Option, None, Some, nat_eq, nat_lt, map, count_by, if◌then◌else◌}
use Rattle.std.specs.List.{list_any}
use Rattle.vp_dots.specs.declared.Op.{Op}
use Rattle.vp_dots.specs.declared.Op.TheVariants.{Black, Flip}
use Rattle.vp_field.specs.Views.{seen_x, seen_y}
use Rattle.vp_field.specs.declared.view.View.{View}

-- what a field does to dots, and at which places, which may lie off the label
pub record Stroke : Type 0 where
  pub op : Op
  pub ink : ℤ → ℤ → Bool

abbrev pub is_reversing : Op → Bool
is_reversing Flip = true
is_reversing _ = false

abbrev pub is_black : Op → Bool
is_black Black = true
is_black _ = false

-- it paints the place black or white
abbrev pub covers : ℤ → ℤ → Stroke → Bool
covers x y s = not (is_reversing s.op) && s.ink x y

-- it reverses the place (^FR, ^LR)
abbrev pub reverses : ℤ → ℤ → Stroke → Bool
reverses x y s = is_reversing s.op && s.ink x y

-- the last item that passes a test
abbrev pub last_where : {X : Type 0} → (X → Bool) → List X → Option X
last_where p [] = None
last_where p (x ∷ xs) = if list_any p xs then last_where p xs else (if p x then Some x else None)

-- the items after it: all, where none passes
abbrev pub after_last_where : {X : Type 0} → (X → Bool) → List X → List X
after_last_where p [] = []
after_last_where p (x ∷ xs) = if list_any p xs then after_last_where p xs else (if p x then xs else x ∷ xs)

-- the colour that it gives, true being black: white where there is none
abbrev pub colour : Option Stroke → Bool
colour None = false
colour (Some s) = is_black s.op

-- a dot that is reversed n times
abbrev pub reversed : ℕ → Bool → Bool
reversed n dot = if nat_eq (n % 2) 1 then not dot else dot

-- the dot at a place: the colour of the last stroke that paints it black or white, reversed once by each
-- later one that reverses it
unfoldable pub label_dot : List Stroke → ℤ → ℤ → Bool
label_dot strokes x y =
    reversed (count_by (reverses x y) (after_last_where (covers x y) strokes))
    (colour (last_where (covers x y) strokes))

-- a stroke on the label as it is put out
abbrev pub viewed : View → Stroke → Stroke
viewed view s = record { op = s.op; ink = λ x y. s.ink (seen_x view x) (seen_y view y) }

-- the dot at a place of the label as it is put out; what falls off it is dropped
abbrev pub image_dot : View → List Stroke → ℕ → ℕ → Bool
image_dot view strokes x y =
    nat_lt x view.width && nat_lt y view.height && label_dot (map (viewed view) strokes) (pos x) (pos y)
