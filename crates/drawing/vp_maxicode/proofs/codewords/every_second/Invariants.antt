use Rattle.std.proofs.Common.{◌≡◌, ◌+◌, ◌-◌, ◌*◌, ◌++◌, length}
use Rattle.vp_reed_solomon.specs.declared.field.Field.TheVariants.{Gf64}
use Rattle.vp_reed_solomon.specs.Fields.{AreElements}
use Rattle.vp_maxicode.specs.Codewords.{every_second}
use Rattle.vp_maxicode.proofs.codewords.every_second.Given as goal

abbrev pub invariant-loop-k : goal.invariant-loop-k
invariant-loop-k l = record {
  made : l.half.items ++ every_second (l.n - l.k) (l.from + 2 * l.k) l.words ≡ every_second l.n l.from l.words;
  count : length l.half.items ≡ l.k;
  elements : AreElements Gf64 l.half.items;
}
