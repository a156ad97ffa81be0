use Rattle.std.proofs.Common.{◌≡◌, ℕ, ◌<◌, None}
use Rattle.vp_fields_by_band.specs.Threads.{link_at}
use Rattle.vp_fields_by_band.proofs.table.clear_heads.Given as goal

abbrev pub invariant-loop-head : goal.invariant-loop-head
invariant-loop-head l = (b : ℕ) → b < l.head-index → link_at l.heads b ≡ None
