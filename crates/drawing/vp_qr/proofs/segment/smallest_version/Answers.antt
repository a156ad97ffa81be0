use Rattle.std.proofs.Common.{ℕ, ◌<◌, ◌≤◌, arith, sym}
use Rattle.vp_qr.specs.Versions.{fits, smallest}
use Rattle.vp_qr.proofs.VersionsInOrder.{no_version, has_room}
use Rattle.vp_qr.proofs.segment.smallest_version.Goals as goal

pub returns-then-fits-clause-version : goal.returns-then-fits-clause-version
unfolding smallest
returns-then-fits-clause-version c = grind arith

pub returns-clause-version : goal.returns-clause-version
unfolding smallest
returns-clause-version c = sym (no_version (fits c.args.level c.args.kind c.args.src.now) (λ (k : ℕ) (low : 1 ≤ k) (lt : k < 11). c.loop-version.invariant k low (omega arith)))

pub returns-then-fits-clause-holds : goal.returns-then-fits-clause-holds
returns-then-fits-clause-holds c = grind (arith, has_room)
