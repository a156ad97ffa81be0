use Rattle.std.proofs.Common.{length, None, inl, inr, arith}
use Rattle.std.proofs.lemmas.Bool.{cases_lt}
use Rattle.std.proofs.lemmas.List.{get_or_past}
use Rattle.vp_fields_by_band.proofs.table.clear_heads.Goals as goal

pub returns-clause-none : goal.returns-clause-none
returns-clause-none c = λ b. elim (cases_lt b (length c.loop-head.heads)) [
  | inl l ↦ c.loop-head.invariant b (omega arith)
  | inr l ↦ get_or_past c.loop-head.heads b None l
]
