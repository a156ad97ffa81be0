use Rattle.std.proofs.Common.{rules, ◌≡◌, ℕ, suc, ◌+◌, get_or, ◌∙◌, subst, arith}
use Rattle.vp_format.specs.Cursors.{Filled, Put}
use Rattle.vp_format.proofs.Put.{added_most, added_none, added_more, put_none, put_step}
use Rattle.vp_format.proofs.counted.fill_sixteen.Goals as goal

pub fill_short-requires : goal.fill_short-requires
fill_short-requires c = omega (arith, c.loop-k.invariant.place, c.loop-k.invariant.len, c.requires.room, added_most c.args.bytes.now c.args.at c.loop-k.k 16 (omega arith))

pub overflow_add-x : goal.overflow_add-x
overflow_add-x c = grind (arith, added_more, added_most)

pub loop-k-init : goal.loop-k-init
loop-k-init c = grind (arith, added_none, put_none)

pub loop-k-preserved : goal.loop-k-preserved
loop-k-preserved c =
    let l = c.loop-k in let codes = c.args.bytes.now in let at = c.args.at in
    let run = c.requires.runs l.k (omega arith) in
    let step = c.from-x.ensures ∙ c.steps-steps.ensures l.k (omega arith) run in
    let next : suc l.k ≡ l.k + 1 = omega arith in
    let filled = subst (λ (q : ℕ). Filled q (q + 32) (get_or c.values-values.result l.k 0) l.places c.fill_short.new.places) l.invariant.place c.fill_short.ensures.filled in
    record {
      len = search rules;
      inside = omega arith;
      place = omega (arith, l.invariant.place, added_more codes at l.k, step);
      put = λ width all start r.
          subst (λ (q : ℕ). Put width all start c.fill_short.new.places c.args.from codes at q) next
          (put_step width all start l.places c.fill_short.new.places c.args.from codes at l.k (get_or c.values-values.result l.k 0) (omega (arith, c.requires.bytes)) (λ i. (c.type_inv.bytes i).fits) (λ i m. c.requires.runs i (omega (arith, m)))
          (λ d. c.values-values.ensures.digits l.k (omega arith) d) (λ big. c.values-values.ensures.counts l.k (omega arith) run big) filled (l.invariant.put width all start r));
    }
