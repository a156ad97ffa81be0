use Rattle.std.proofs.Common.{◌≡◌, ◌-◌, ◌*◌, length}
use Rattle.vp_format.specs.declared.rows.Coding.TheVariants.{RunLength}
use Rattle.vp_format.specs.Codes.{symbols}
use Rattle.vp_format.specs.Cursors.{IsReading, Passed, symbols_from}
use Rattle.vp_format.proofs.checking.check_codes.Given as goal

abbrev pub invariant-loop-codes : goal.invariant-loop-codes
invariant-loop-codes l = record {
  bytes : l.codes.bytes.now ≡ l.fn.codes;
  reading : IsReading l.codes;
  passed : Passed (2 * l.row_bytes) (symbols RunLength l.fn.codes) l.x (symbols_from l.fn.codes l.codes.at);
}

abbrev pub decreases-loop-codes : goal.decreases-loop-codes
decreases-loop-codes l = length l.codes.bytes.now - l.codes.at
