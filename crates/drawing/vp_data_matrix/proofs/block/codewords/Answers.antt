use Rattle.std.proofs.Common.{arith}
use Rattle.vp_data_matrix.proofs.BlockWords.{check_value, check_small, check_words_more, codewords_all}
use Rattle.vp_data_matrix.proofs.block.codewords.Goals as goal

pub overflow_cast-row : goal.overflow_cast-row
overflow_cast-row c = omega (arith, check_small c.args.size c.checks.new.rows c.loop-k.k c.requires.sound c.loop-k-test.true c.checks.ensures.elements)

pub loop-k-preserved : goal.loop-k-preserved
loop-k-preserved c = record {
  made = check_words_more c.args.size c.args.words.now c.loop-k.all.items c.push.new.self.items c.loop-k.k _ c.loop-k.invariant.made c.push.ensures.items
      (check_value c.args.size c.args.words.now c.checks.new.rows c.loop-k.k c.requires.sound c.requires.words c.loop-k-test.true c.checks.ensures.checks);
  count = omega (arith, c.push.ensures.len);
}

pub returns-clause-codewords : goal.returns-clause-codewords
returns-clause-codewords c = codewords_all c.args.size c.args.words.now c.loop-k.all.items c.loop-k.k (omega arith) c.loop-k.invariant.made
