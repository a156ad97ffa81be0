use Rattle.std.proofs.Common.{◌≡◌, ◌≤◌, ℕ, max, length, get_or, replicate, cond, []}
use Rattle.vp_dots.specs.Dots.{span}
use Rattle.vp_dots.proofs.band.Band.clear_rows.Given as goal

-- the rows before y are white
abbrev pub invariant-loop-y : goal.invariant-loop-y
invariant-loop-y g l = record {
  len : length l.self-inside.rows.items ≡ length l.initial.self-inside.rows.items;
  bound : l.y ≤ max l.from l.to;
  white : (k : ℕ) → get_or l.self-inside.rows.items k [] ≡ cond (span l.from l.y k) (replicate {A = ℕ} g.row.B 0) (get_or l.initial.self-inside.rows.items k []);
}
