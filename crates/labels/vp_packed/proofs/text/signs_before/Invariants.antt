use Rattle.std.proofs.Common.{◌≡◌, ◌+◌, drop}
use Rattle.vp_packed.specs.Texts.{signs_before}
use Rattle.vp_packed.proofs.text.signs_before.Given as goal

abbrev pub invariant-loop-n : goal.invariant-loop-n
invariant-loop-n l = l.n + signs_before (drop l.n l.text) ≡ signs_before l.text
