use Rattle.std.proofs.Common.{◌≡◌, ◌+◌, ◌-◌, replicate, ◌∙◌, arith}
use Rattle.std.proofs.lemmas.Simd.{get_or-put_chunk_below, get_or-put_chunk_at, get_or-replicate}
use Rattle.vp_format.proofs.packing.fill_short.Goals as goal

pub returns-clause-filled : goal.returns-clause-filled
returns-clause-filled c = record {
  kept = λ j l. get_or-put_chunk_below c.args.from c.args.places.now (replicate 32 c.args.v) j 0 l;
  filled = λ j l m. let e : j ≡ c.args.from + (j - c.args.from) = omega arith in
      rw e (get_or-put_chunk_at c.args.from c.args.places.now (replicate 32 c.args.v) (j - c.args.from) 0 (omega arith) c.requires ∙ get_or-replicate 32 (j - c.args.from) c.args.v 0 (omega arith));
}
