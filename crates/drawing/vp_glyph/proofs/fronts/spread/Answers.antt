use Rattle.std.proofs.Common.{◌+◌, ◌-◌, ◌*◌, ◌≤◌, min, ap, ◌∙◌, arith}
use Rattle.std.proofs.Math.Nat.{mul-le-mul_right}
use Rattle.vp_glyph.proofs.Gathered.{added_none, added_past, added_more, added_all}
use Rattle.vp_glyph.proofs.fronts.spread.Goals as goal

pub loop-s-init : goal.loop-s-init
loop-s-init g c =
    let next = c.next_inked-s.ensures in
    record {
      within = next.within;
      added = added_past _ _ _ _ _ 0 _ _ _ next.within next.from next.white (added_none _ _ _ _ _ _);
    }

pub loop-s-preserved : goal.loop-s-preserved
loop-s-preserved g c =
    let s = c.loop-s.s in
    let end = c.end_of-behind.ensures in
    let next = c.next_inked-s-in-loop-s.ensures in
    let from = c.rows_above-from.ensures ∙ ap (λ e. min (c.args.above + e - c.args.top) c.args.seen) c.first.ensures.row in
    let to = c.rows_above-to.ensures ∙ ap (λ e. min (c.args.above + e - c.args.top) c.args.seen) c.first-in-loop-s.ensures.row in
    record {
      within = next.within;
      added = added_past c.args.shown.now.rows _ _ _ _ _ _ _ _ next.within next.from next.white
          (added_more c.args.shown.now.rows _ _ _ _ s _ _ _ end.within end.some end.alike c.loop-s.invariant.added _ _ _ from to (λ i x l m. c.blacken_run.ensures i x (omega (arith, l, c.requires.seen)) m));
    }

pub returns : goal.returns
returns g c = added_all _ _ _ _ _ c.loop-s.s _ _ (omega arith) c.loop-s.invariant.added

pub blacken_run-requires : goal.blacken_run-requires
blacken_run-requires g c =
    let m : c.loop-s.s * c.args.starts.now.high ≤ c.end_of-behind.result * c.args.starts.now.high = mul-le-mul_right c.args.starts.now.high (omega (arith, c.end_of-behind.ensures.some)) in
    omega (arith, m, c.rows_above-from.ensures, c.rows_above-to.ensures, c.first.ensures.row, c.first-in-loop-s.ensures.row)
