use Rattle.std.proofs.Common.{ℕ, ◌<◌}
use Rattle.vp_qr.specs.Walk.{dark}
use Rattle.vp_qr.proofs.Modules.{shifted_at}
use Rattle.vp_qr.proofs.mask.shifted.Goals as goal

pub returns : goal.returns
unfolding dark
returns c = λ (k j : ℕ) (h : k < 11). shifted_at c.args.line k j h
