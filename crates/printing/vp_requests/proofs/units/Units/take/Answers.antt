use Rattle.std.proofs.Common.{arith}
use Rattle.vp_esc.specs.declared.reading.Reading.TheVariants.{Whole}
use Rattle.vp_requests.proofs.UnitEnds.{goes_on, ends}
use Rattle.vp_requests.proofs.units.Units.take.Goals as goal

pub returns-then-at_rest : goal.returns-then-at_rest
returns-then-at_rest c = λ before s t.
    let reads = c.take-item.follows.holds-at-none Whole before s.reads in
    ends c.args.self.now before c.args.byte s c.requires c.take-item.follows.lender-at-none reads c.keep.new.kept.items c.keep.ensures
    ((c.at_rest.ensures Whole _ reads).0 c.if-at_rest.true).0 c.args.taken t _ c.end.ensures

pub returns-else-at_rest : goal.returns-else-at_rest
returns-else-at_rest c = λ before s t.
    let reads = c.take-item.follows.holds-at-none Whole before s.reads in
    goes_on c.args.self.now before c.args.byte s c.requires c.take-item.follows.lender-at-none reads c.keep.new.kept.items c.keep.ensures
    (λ h. grind (arith, c.if-at_rest.false, (c.at_rest.ensures Whole _ reads).1 (h, c.the_profile_is_within.ensures.no_fault _)))
