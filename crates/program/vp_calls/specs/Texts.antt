-- Texts in room of the caller's.
use Rattle.std.specs.Prelude.{◌≡◌, ◌-◌, ◌++◌, ℕ, List, [], ◌∷◌, length, take, drop, min}

-- the text's front with a 0 behind it, and then the room as it was
abbrev pub with_text : List ℕ → List ℕ → List ℕ
with_text text [] = []
with_text text (r ∷ room) = take (length room) text ++ 0 ∷ drop (length text) room

-- so much of this text was put into the room
pub record IsText (text before after : List ℕ) (count : ℕ) : Type 0 where
  pub room : after ≡ with_text text before
  pub front : count ≡ min (length text) (length before - 1)

-- some text was, or its front
pub record HasText (before after : List ℕ) (count : ℕ) : Type 0 where
  pub text : List ℕ
  pub is_text : IsText text before after count
