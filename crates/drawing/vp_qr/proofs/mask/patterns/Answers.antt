use Rattle.std.proofs.Common.{ℕ, ◌<◌, ◌∙◌}
use Rattle.vp_qr.specs.Walk.{dark}
use Rattle.vp_qr.proofs.Modules.{both, either}
use Rattle.vp_qr.proofs.Patterns.{found_is}
use Rattle.vp_qr.proofs.mask.patterns.Goals as goal

pub returns : goal.returns
returns c =
    λ (j : ℕ) (h : j < 64).
    either j h _ _ _ _ (both j h _ _ _ _ (c.finders.ensures j h) (c.lights.ensures j h)) (both j h _ _ _ _ (c.lights-2.ensures j h) (c.finders-2.ensures j h))
    ∙ found_is (λ i. dark c.args.lines.now i j) c.args.at
