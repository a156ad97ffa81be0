use Rattle.std.proofs.Common.{◌≡◌, false, drop}
use Rattle.vp_packed.specs.Base64.{are_signs}
use Rattle.vp_packed.proofs.text.are_signs.Given as goal

abbrev pub invariant-loop-sign : goal.invariant-loop-sign
invariant-loop-sign l = are_signs l.padded (drop l.sign-index l.signs) ≡ are_signs false l.signs
