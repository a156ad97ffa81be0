-- A reader between units alone has no rest.
use Rattle.std.proofs.Common.{◌≡◌, ◌≢◌, ℕ, List, [], arith}
use Rattle.vp_esc.specs.declared.reader.EscReader.{EscReader}
use Rattle.vp_esc.specs.declared.reader.Phase.TheVariants as phases
use Rattle.vp_esc.specs.Units.{fault_in}
use Rattle.vp_esc.specs.Reader.{StandsIn}

pub rests : (r : EscReader) (rest : List ℕ) → r.phase ≢ phases.Ground → StandsIn r rest → rest ≡ [] → ⊥
unfolding fault_in
rests r rest n h e = grind arith
