use Rattle.std.proofs.Common.{◌≡◌, ◌-◌, ◌++◌, length, replicate}
use Rattle.vp_reed_solomon.specs.declared.field.Field.TheVariants.{Gf64}
use Rattle.vp_reed_solomon.specs.Fields.{AreElements}
use Rattle.vp_maxicode.specs.Codewords.{padded}
use Rattle.vp_maxicode.proofs.codewords.padded.Given as goal

abbrev pub invariant-loop : goal.invariant-loop
invariant-loop l = record {
  padded : l.words.items ++ replicate (l.room - l.counter) 33 ≡ padded l.room l.fn.set l.message;
  count : length l.words.items ≡ l.counter;
  elements : AreElements Gf64 l.words.items;
}
