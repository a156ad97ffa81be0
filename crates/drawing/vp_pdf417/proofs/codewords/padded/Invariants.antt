use Rattle.std.proofs.Common.{◌≡◌, ◌-◌, ◌∷◌, ◌++◌, length, replicate}
use Rattle.vp_reed_solomon.specs.declared.field.Field.TheVariants.{Gf929}
use Rattle.vp_reed_solomon.specs.Fields.{AreElements}
use Rattle.vp_pdf417.proofs.codewords.padded.Given as goal

abbrev pub invariant-loop : goal.invariant-loop
invariant-loop l = record {
  padded : l.words.items ++ replicate (l.count - l.counter) 900 ≡ l.count ∷ l.message ++ replicate (l.count - 1 - length l.message) 900;
  count : length l.words.items ≡ l.counter;
  elements : AreElements Gf929 l.words.items;
}
