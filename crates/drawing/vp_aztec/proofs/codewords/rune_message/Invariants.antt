use Rattle.std.proofs.Common.{◌≡◌, map, take, length, bit_xor}
use Rattle.vp_aztec.proofs.codewords.rune_message.Given as goal

abbrev pub invariant-loop-word : goal.invariant-loop-word
invariant-loop-word l = record {
  made : l.said.items ≡ map (λ word. bit_xor word 10) (take l.word-index l.word-items);
  long : length l.said.items ≡ l.word-index;
}
