use Rattle.std.proofs.Common.{◌≡◌, ℕ, ◌<◌, ◌≤◌, false}
use Rattle.vp_qr.specs.Versions.{fits}
use Rattle.vp_qr.proofs.segment.smallest_version.Given as goal

abbrev pub invariant-loop-version : goal.invariant-loop-version
invariant-loop-version l = (k : ℕ) → 1 ≤ k → k < l.version → fits l.level l.kind l.src k ≡ false
