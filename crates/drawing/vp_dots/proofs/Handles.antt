-- The room of a list and a small handle.
use Rattle.std.proofs.Common.{ℕ, ◌+◌, ◌<◌, ◌≤◌, ◌^◌, max, arith}
use prog.Memory.{up}

-- a list and a small handle
pub list_small : (a s : ℕ) → (s ≤ 2 ^ 20) × ((1 ≤ a) × (a ≤ 16))
    → up (max (max 8 (max 8 (max 8 (max a 1)))) 1) (up (max 8 (max 8 (max 8 (max a 1)))) 0 + up (max 8 (max 8 (max 8 (max a 1)))) (up a 24 + s)) < 2 ^ 63
list_small a s l = grind arith
