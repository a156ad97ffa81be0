use Rattle.std.proofs.Common.{◌≡◌, ℕ, ◌<◌, ◌*◌, length, vec_capacity, get_or, take, drop}
use Rattle.vp_glyph.specs.Inked.{IsInked}
use Rattle.vp_glyph.proofs.sheet.inked_cells.Given as goal

-- the cells before c are looked at
abbrev pub invariant-loop-c : goal.invariant-loop-c
invariant-loop-c g l = record {
  count : length l.cells.items ≡ 256;
  room : vec_capacity l.cells ≡ 256;
  each : (k : ℕ) → k < l.c → IsInked (take l.high (drop (l.high * k) l.rows)) (get_or l.cells.items k (record { first = 0; below = 0 }));
}
