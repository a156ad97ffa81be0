use Rattle.std.proofs.Common.{ℕ, ◌+◌, ◌-◌, ◌/◌, arith, refl, ap, ◌≡◌, ◌∙◌}
use Rattle.vp_dots.specs.Dots.{span}
use Rattle.vp_glyph.proofs.Gathered.{Blackened, groups_black}
use Rattle.vp_glyph.proofs.fronts.blacken_run.Goals as goal

pub returns : goal.returns
returns g c =
    let first : ℕ = c.args.from / 16 + 1 in
    let last : ℕ = c.args.to / 16 in
    let p : Blackened c.args.ink c.args.from (c.args.from + 16) c.args.fronts.now c.blacken_next.new.halves = record { inside = c.blacken_next.ensures.inside; outside = c.blacken_next.ensures.outside } in
    let q : Blackened c.args.ink first last c.args.groups.now c.blacken_fours.new.halves = record { inside = c.blacken_fours.ensures.inside; outside = c.blacken_fours.ensures.outside } in
    let end : c.args.to - 16 + 16 ≡ c.args.to = omega arith in
    let r : Blackened c.args.ink (c.args.to - 16) c.args.to c.blacken_next.new.halves c.blacken_next-2.new.halves = record { inside = λ i x l m. c.blacken_next-2.ensures.inside i x l (omega arith); outside = λ i e. c.blacken_next-2.ensures.outside i (ap (λ n. span (c.args.to - 16) n i) end ∙ e) } in
    λ i x l m. groups_black c.args.ink c.args.from c.args.to first last i x c.args.groups.now c.blacken_fours.new.halves c.args.fronts.now c.blacken_next.new.halves c.blacken_next-2.new.halves (omega arith) refl refl p q r
