use Rattle.std.proofs.Common.{refl, ◌∙◌, arith}
use Rattle.vp_format.proofs.Quick.{one_most}
use Rattle.vp_format.proofs.Put.{put_all}
use Rattle.vp_format.proofs.counted.put_counted.Goals as goal

pub returns : goal.returns
returns c =
    let runs = c.if-not-are_runs.ensures refl in
    record {
      len = c.fill_short.ensures.len ∙ c.fill_sixteen-x.ensures.len;
      after = omega (arith, c.fill_sixteen-x.ensures.place);
      place = omega (arith, c.places_added.ensures.added runs, c.fill_sixteen-x.ensures.place);
      behind = omega arith;
      inside = omega (arith, one_most _ _ c.from-more.ensures);
      reached = λ all start r.
          put_all c.args.width all start c.fill_sixteen-x.new.places c.fill_short.new.places c.args.from c.args.bytes.now c.args.at c.fill_sixteen-x.result c.from-more.result _ (omega arith) (λ i. (c.type_inv.bytes i).fits) runs c.digit_value.ensures c.fill_sixteen-x.ensures.place c.from-more.ensures
          c.fill_short.ensures.filled (c.fill_sixteen-x.ensures.put c.args.width all start r);
    }
