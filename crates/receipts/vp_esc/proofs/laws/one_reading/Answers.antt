use Rattle.vp_esc.proofs.Divisions.{splits, splits_only}
use Rattle.vp_esc.proofs.laws.one_reading.Goals as goal

pub returns-clause-stands : goal.returns-clause-stands
returns-clause-stands c reading bytes = splits reading bytes

pub returns-clause-only : goal.returns-clause-only
returns-clause-only c reading bytes units rest h = splits_only reading bytes units rest h
