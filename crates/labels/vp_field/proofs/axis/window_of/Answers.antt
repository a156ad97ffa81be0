use Rattle.std.proofs.Common.{arith}
use Rattle.std.proofs.lemmas.Int.{ints, to_z-of_z}
use Rattle.vp_field.proofs.Windowed.{clamped_low, clamped_high}
use Rattle.vp_field.proofs.axis.window_of.Goals as goal

pub returns-clause-before : goal.returns-clause-before
returns-clause-before c = let is = clamped_low _ _ c.clamped.ensures.above in λ l. let z = is l in grind (arith, ints, to_z-of_z, z, c.from.ensures)

pub returns-clause-from : goal.returns-clause-from
returns-clause-from c = let is = clamped_high _ _ _ c.clamped.ensures.below in λ l. let z = is l in grind (arith, ints, to_z-of_z, z, c.from.ensures)

pub returns-clause-to : goal.returns-clause-to
returns-clause-to c = let is = clamped_low _ _ c.clamped-to.ensures.above in λ l. let z = is l in grind (arith, ints, to_z-of_z, z, c.from.ensures)

pub returns-clause-behind : goal.returns-clause-behind
returns-clause-behind c = let is = clamped_high _ _ _ c.clamped-to.ensures.below in λ l. let z = is l in grind (arith, ints, to_z-of_z, z, c.from.ensures)

pub returns-clause-above : goal.returns-clause-above
returns-clause-above c = let is = clamped_low _ _ c.clamped-2.ensures.above in λ l. let z = is l in grind (arith, ints, to_z-of_z, z, c.from.ensures)

pub returns-clause-first : goal.returns-clause-first
returns-clause-first c = let is = clamped_high _ _ _ c.clamped-2.ensures.below in λ l. let z = is l in grind (arith, ints, to_z-of_z, z, c.from.ensures)
