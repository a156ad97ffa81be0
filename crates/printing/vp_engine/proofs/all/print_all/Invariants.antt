use Rattle.std.proofs.Common.{◌≤◌, ◌-◌, length, take}
use Rattle.vp_engine.specs.Paper.{paper}
use Rattle.vp_engine.specs.Setups.{setup_of, rules_of}
use Rattle.vp_engine.specs.Stands.{Stands}
use Rattle.vp_engine.proofs.all.print_all.Given as goal

abbrev pub invariant-steps : goal.invariant-steps
invariant-steps g l = record {
  at : l.at ≤ length l.src;
  stands : Stands (setup_of l.fn.language l.fn.sheets) l.printer (take l.at l.src) l.paper.items;
}

abbrev pub decreases-steps : goal.decreases-steps
decreases-steps g l = length (paper (rules_of (setup_of l.fn.language l.fn.sheets)) l.src) - length l.paper.items
