-- What phases say of the lengths that come.
use Rattle.std.specs.Prelude.{ℕ, ◌+◌, Bool, true, false}
use Rattle.vp_inflate.specs.declared.phase.Phase.{Phase}
use Rattle.vp_inflate.specs.declared.phase.Phase.TheVariants.{Stored, Order, Lengths, Literal, Copy}

abbrev pub literals_of : Phase → ℕ
literals_of (Order literals distances n) = literals
literals_of (Lengths literals distances) = literals
literals_of phase = 0

abbrev pub distances_of : Phase → ℕ
distances_of (Order literals distances n) = distances
distances_of (Lengths literals distances) = distances
distances_of phase = 0

-- how many lengths of the code of code lengths may come
abbrev pub left_of : Phase → ℕ
left_of (Order literals distances n) = n + 1
left_of phase = 0

-- whether a byte comes next
abbrev pub puts : Phase → Bool
puts (Stored n) = true
puts (Literal byte) = true
puts (Copy n back) = true
puts phase = false
