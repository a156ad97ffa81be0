use Rattle.std.proofs.Common.{ℕ, ◌<◌, get_or}
use Rattle.vp_receipt.proofs.act.are_controls.Given as goal

-- those before this one are controls
abbrev pub invariant-loop-code : goal.invariant-loop-code
invariant-loop-code l = (i : ℕ) → i < l.code-index → get_or l.text i 0 < 0x20
