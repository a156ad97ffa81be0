use Rattle.std.proofs.Common.{◌≡◌, ◌*◌, ◌≤◌, take, length}
use Rattle.vp_data_matrix.specs.Triples.{values, are_whole, largest}
use Rattle.vp_data_matrix.proofs.triple.Charset.front.Given as goal

abbrev pub invariant-loop-at : goal.invariant-loop-at
invariant-loop-at l = record {
  bytes : l.front.bytes ≡ largest (are_whole l.self l.src) l.at;
  within : l.front.bytes ≤ l.at;
  values_are : l.front.values ≡ length (values l.self (take l.front.bytes l.src));
  most : l.front.values ≤ 4 * l.at;
  counted : l.count ≡ length (values l.self (take l.at l.src));
  count_most : l.count ≤ 4 * l.at;
}
