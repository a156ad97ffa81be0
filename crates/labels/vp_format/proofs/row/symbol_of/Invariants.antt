use Rattle.std.proofs.Common.{◌≡◌, ◌+◌, ◌-◌, ◌*◌, ◌≤◌, length, drop}
use Rattle.vp_format.specs.Codes.{code_of, joined, symbols_behind}
use Rattle.vp_format.specs.Cursors.{Advanced, SmallCode}
use Rattle.vp_format.proofs.row.symbol_of.Given as goal

-- the counts so far stand before the code in hand
abbrev pub invariant-loop-code : goal.invariant-loop-code
invariant-loop-code l = record {
  advanced : Advanced l.fn.codes l.codes;
  code : SmallCode l.code;
  small : l.count + 400 * l.fn.codes.at ≤ 400 * l.codes.at;
  joined : joined (code_of l.first) 0 0 (symbols_behind (drop l.fn.codes.at l.fn.codes.bytes.now)) ≡ joined l.code l.count (l.codes.at - l.fn.codes.at) (symbols_behind (drop l.codes.at l.codes.bytes.now));
}

abbrev pub decreases-loop-code : goal.decreases-loop-code
decreases-loop-code l = length l.codes.bytes.now - l.codes.at
