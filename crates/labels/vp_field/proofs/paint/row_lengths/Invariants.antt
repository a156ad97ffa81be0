use Rattle.std.proofs.Common.{◌≡◌, ℕ, ◌<◌, [], length, get_or}
use Rattle.vp_label_size.specs.declared.TheConstants.{BAND_BYTES}
use Rattle.vp_field.proofs.paint.row_lengths.Given as goal

abbrev pub invariant-loop-k : goal.invariant-loop-k
invariant-loop-k g l = (k : ℕ) → k < l.k → length (get_or l.band k []) ≡ BAND_BYTES
