use Rattle.std.proofs.Common.{◌++◌, ap, ◌∙◌, arith, length, length-append}
use Rattle.vp_qr.proofs.Parts.{part_written}
use Rattle.vp_qr.proofs.Writing.{written_all}
use Rattle.vp_qr.proofs.Interleaving.{checks_more, checks_end}
use Rattle.vp_qr.proofs.interleave.check_words.Goals as goal

pub push_all-requires : goal.push_all-requires
push_all-requires c = grind arith

pub loop-block-preserved : goal.loop-block-preserved
loop-block-preserved c = (
  part_written c.loop-block.checks.items c.push_all.new.out.items _ _ _ _
      (c.push_all.ensures ∙ ap (λ l. c.loop-block.checks.items ++ l) (c.as_slice.ensures.value ∙ c.check_block-check.ensures.check))
      (checks_more c.args.blocks c.args.words.now c.loop-block.block c.loop-block-test.true) c.loop-block.invariant.0,
  omega (arith, c.loop-block.invariant.1, ap length c.push_all.ensures, length-append c.loop-block.checks.items c.as_slice.result.now, ap length c.as_slice.ensures.value, c.check_block-check.ensures.count),
)

pub returns-clause-checks : goal.returns-clause-checks
returns-clause-checks c = written_all c.loop-block.checks.items _ _ (checks_end c.args.blocks c.args.words.now c.loop-block.block c.loop-block-test.false) c.loop-block.invariant.0

pub returns-clause-count : goal.returns-clause-count
returns-clause-count c = grind arith
