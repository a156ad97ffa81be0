use Rattle.std.proofs.Common.{◌≡◌, ◌+◌, sym, arith, ◌∙◌}
use Rattle.std.proofs.lemmas.List.{length-set}
use Rattle.vp_glyph.proofs.Gathered.{blackened_more}
use Rattle.vp_glyph.proofs.fronts.blacken_next.Goals as goal

pub loop-i-preserved : goal.loop-i-preserved
loop-i-preserved g c =
    let next : c.args.from + c.loop-i.i + 1 ≡ c.args.from + (c.loop-i.i + 1) = omega arith in
    record {
      count = length-set c.loop-i.halves (c.args.from + c.loop-i.i) _ ∙ c.loop-i.invariant.count;
      blackened = rw (sym next) (blackened_more c.args.ink c.args.from (c.args.from + c.loop-i.i) c.args.halves.now c.loop-i.halves (omega arith) (omega (arith, c.loop-i.invariant.count)) c.loop-i.invariant.blackened);
    }

pub returns-clause-outside : goal.returns-clause-outside
returns-clause-outside g c = grind arith
