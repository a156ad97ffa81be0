-- Dots of a row drawn at another width.
use Rattle.std.specs.Prelude.{◌≡◌, ℕ, ◌*◌, ◌/◌, ◌<◌, nat_eq, nat_lt, ◌&&◌, List, slice_index}
use Rattle.vp_dots.specs.Words.{word_dot}

-- a word for each of twelve dots that are drawn `width` dots wide in all, with the dots on which it falls
abbrev pub StretchedBy : ℕ → List ℕ → Type 0
StretchedBy width masks =
    (s x : ℕ) → s < 12 → word_dot (slice_index masks s) x ≡ (nat_lt x width && nat_eq (x * 12 / width) s)
