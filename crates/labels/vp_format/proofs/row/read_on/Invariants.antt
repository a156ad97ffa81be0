use Rattle.std.proofs.Common.{◌≡◌, ℕ, ◌-◌, ◌*◌, ◌<◌, List, length}
use Rattle.vp_format.specs.Codes.{Spelled}
use Rattle.vp_format.specs.Cursors.{Advanced, Reached, symbols_from}
use Rattle.vp_format.proofs.row.read_on.Given as goal

-- the places are right before place x, where the codes that are left start
abbrev pub invariant-loop-symbol : goal.invariant-loop-symbol
invariant-loop-symbol l = record {
  advanced : Advanced l.fn.codes l.codes;
  len : length l.places ≡ length l.fn.places;
  row : l.row ≡ l.fn.row;
  inside : l.x < 2 * length l.fn.row;
  reached : (all : List Spelled) (start : ℕ) → Reached (2 * length l.fn.row) all start l.fn.places l.from (symbols_from l.fn.codes.bytes.now l.fn.codes.at) l.fn.codes.at
      → Reached (2 * length l.fn.row) all start l.places l.x (symbols_from l.codes.bytes.now l.codes.at) l.codes.at;
}

abbrev pub decreases-loop-symbol : goal.decreases-loop-symbol
decreases-loop-symbol l = length l.codes.bytes.now - l.codes.at
