use Rattle.std.proofs.Common.{arith, ◌-◌, ◌^◌, length}
use Rattle.vp_aztec.proofs.StuffWords.{word_written, word_room, small_push, words_past, words_end, words_done}
use Rattle.vp_aztec.proofs.stuffing.stuffed.Goals as goal

pub returns-then-i-bits-clause-words : goal.returns-then-i-bits-clause-words
returns-then-i-bits-clause-words c =
    words_done c.loop.words.items _ _ (words_past (length c.args.bits.now - c.loop.counter) c.args.w c.args.bits.now c.loop.i (omega arith)) c.loop.invariant.made

pub push-requires : goal.push-requires
push-requires c =
    (omega arith, word_room (length c.args.bits.now) c.loop.counter c.args.w c.args.bits.now c.loop.i c.loop.words.items _ (omega arith) (omega arith) c.requires.room c.loop.invariant.made)

pub loop-preserved : goal.loop-preserved
loop-preserved c = record {
  made = word_written (length c.args.bits.now) c.loop.counter c.args.w c.args.bits.now c.loop.i c.word-next.result.1 c.word-next.result.0 c.loop.words.items c.push.new.self.items _
      (omega arith) (omega arith) c.word-next.ensures.word c.word-next.ensures.taken c.push.ensures.items c.loop.invariant.made;
  small = small_push (2 ^ c.args.w) c.loop.words.items c.push.new.self.items c.word-next.result.0 c.push.ensures.items c.loop.invariant.small c.word-next.ensures.small;
  place = omega (arith, c.word-next.ensures.few);
}

pub returns-clause-words : goal.returns-clause-words
returns-clause-words c =
    words_done c.loop.words.items _ _ (words_end (length c.args.bits.now) c.loop.counter c.args.w c.args.bits.now c.loop.i (omega arith)) c.loop.invariant.made
