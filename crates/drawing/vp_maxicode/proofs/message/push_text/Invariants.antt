use Rattle.std.proofs.Common.{◌≡◌, ◌-◌, length}
use Rattle.vp_maxicode.specs.Messages.{steps, text}
use Rattle.vp_maxicode.specs.Written.{written}
use Rattle.vp_maxicode.proofs.message.push_text.Given as goal

abbrev pub invariant-loop : goal.invariant-loop
invariant-loop l = record {
  written : written l.words (steps (length l.src - l.counter) l.set l.left).words ≡ written l.fn.words (text l.src).words;
  set : (steps (length l.src - l.counter) l.set l.left).set ≡ (text l.src).set;
}
