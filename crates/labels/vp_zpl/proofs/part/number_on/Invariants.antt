use Rattle.std.specs.Prelude.{◌≡◌, ◌≤◌, drop}
use Rattle.vp_zpl.specs.Spelling.{number_on as number_from}
use Rattle.vp_zpl.proofs.part.number_on.Given as goal

abbrev pub invariant-loop-i : goal.invariant-loop-i
invariant-loop-i l = (number_from l.n (drop l.i l.digits) ≡ number_from 0 l.digits) × (l.n ≤ 99999999)
