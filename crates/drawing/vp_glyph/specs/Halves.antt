-- Halves of words as rows of 32 dots.
use Rattle.std.specs.Prelude.{◌≡◌, ℕ, ◌+◌, ◌-◌, ◌/◌, ◌<◌, Bool, false, nat_lt, ◌&&◌, ◌||◌, List, slice_index}
use Rattle.vp_dots.specs.Dots.{bit}

-- dot x of half a word, false outside: the leftmost dot is the highest of its 32 bits
abbrev pub half_dot : ℕ → ℕ → Bool
half_dot half x = nat_lt x 32 && bit half (31 - x)

-- dot x of front i: its own, or one that the n fronts of its group have
abbrev pub front_dot : ℕ → List ℕ → List ℕ → ℕ → ℕ → Bool
front_dot n groups fronts i x = half_dot (slice_index fronts i) x || half_dot (slice_index groups (i / n)) x

-- of n rows those whose bit is 0 are like the row below them
abbrev pub AreEdges : List ℕ → ℕ → ℕ → Type 0
AreEdges rows n edges = (s : ℕ) → s < n → bit edges s ≡ false → slice_index rows (s + 1) ≡ slice_index rows s

-- of n rows those whose bit is 0 are white
abbrev pub AreInked : List ℕ → ℕ → ℕ → Type 0
AreInked rows n inked = (s : ℕ) → s < n → bit inked s ≡ false → slice_index rows s ≡ 0
