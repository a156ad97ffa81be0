use Rattle.std.proofs.Common.{refl, sym, ap, ◌∙◌}
use Rattle.vp_requests.specs.RealTime.{part_of}
use Rattle.vp_requests.proofs.RealTimes.{goes_on, is_whole, begins}
use Rattle.vp_requests.proofs.arrivals.Arrivals.take.Goals as goal

pub returns-in-Begun : goal.returns-in-Begun
returns-in-Begun c = λ before s t. goes_on c.args.self.now before c.args.byte s c.requires c.keep.new.kept.items c.keep.ensures
    (ap part_of (sym c.as_slice.ensures.value) ∙ sym c.part_of.ensures ∙ c.in-Begun.is) _ refl

pub returns-in-Whole : goal.returns-in-Whole
returns-in-Whole c = λ before s t. is_whole c.args.self.now before c.args.byte s c.requires c.keep.new.kept.items c.keep.ensures
    (ap part_of (sym c.as_slice.ensures.value) ∙ sym c.part_of.ensures ∙ c.in-Whole.is) _ refl

pub returns-in-Neither : goal.returns-in-Neither
returns-in-Neither c = λ before s t. begins c.args.self.now before c.args.byte s c.requires c.keep.new.kept.items c.keep.ensures
    (ap part_of (sym c.as_slice.ensures.value) ∙ sym c.part_of.ensures ∙ c.in-Neither.is) c.args.taken t c.begin.new.self c.begin.ensures
