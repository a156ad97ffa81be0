use Rattle.std.proofs.Common.{◌≡◌, ◌≤◌, ◌+◌, ◌-◌, ◌*◌, ◌++◌, ℕ, List, length, take, drop}
use Rattle.vp_inflate.specs.Reaching.{Stands}
use Rattle.vp_packed.specs.Base64.{bytes_of, values}
use Rattle.vp_packed.specs.Kept.{spelled}
use Rattle.vp_packed.proofs.picture.unzip.Given as goal

abbrev pub invariant-loop-filled : goal.invariant-loop-filled
invariant-loop-filled l = record {
  stands : (t : List ℕ) × Stands l.inflate t (take l.filled l.out) × (t ++ take l.n l.piece ++ spelled l.group (drop l.at l.signs) ≡ bytes_of (values l.signs));
  filled : l.filled ≤ length l.out;
  piece : l.n ≤ 192;
  place : l.at ≤ length l.signs;
  len : length l.out ≡ length l.fn.out;
}

abbrev pub decreases-loop-filled : goal.decreases-loop-filled
decreases-loop-filled l = 2 * (length l.signs - l.at) + l.n
