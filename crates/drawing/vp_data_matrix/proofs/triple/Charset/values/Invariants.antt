use Rattle.std.proofs.Common.{◌≡◌, ℕ, ◌<◌, ◌++◌, drop, get_or}
use Rattle.vp_data_matrix.specs.Triples.{values}
use Rattle.vp_data_matrix.proofs.triple.Charset.values.Given as goal

abbrev pub invariant-loop-byte : goal.invariant-loop-byte
invariant-loop-byte l = record {
  written : l.values.items ++ values l.self (drop l.byte-index l.src) ≡ values l.self l.src;
  small : (k : ℕ) → get_or l.values.items k 0 < 40;
}
