use Rattle.std.proofs.Common.{arith, refl, ◌+◌, ◌*◌}
use Rattle.vp_maxicode.proofs.Elements.{below_push, second_written, second_none, second_done}
use Rattle.vp_maxicode.proofs.codewords.every_second.Goals as goal

pub loop-k-preserved : goal.loop-k-preserved
loop-k-preserved c = record {
  made = second_written c.args.n c.loop-k.k c.args.from _ c.args.words.now c.loop-k.half.items c.push.new.self.items _ (omega arith) refl c.push.ensures.items c.loop-k.invariant.made;
  count = omega (arith, c.push.ensures.len, c.loop-k.invariant.count);
  elements = below_push 64 c.loop-k.half.items c.push.new.self.items _ c.push.ensures.items c.loop-k.invariant.elements (c.requires.elements (c.args.from + 2 * c.loop-k.k));
}

pub returns-clause-words : goal.returns-clause-words
returns-clause-words c =
    second_done c.loop-k.half.items _ _ (second_none c.args.n c.loop-k.k (c.args.from + 2 * c.loop-k.k) c.args.words.now (omega arith)) c.loop-k.invariant.made
