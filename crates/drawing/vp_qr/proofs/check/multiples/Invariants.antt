use Rattle.std.proofs.Common.{◌≡◌, [], ℕ, ◌*◌, ◌<◌, length, get_or}
use Rattle.vp_qr.specs.Polynomial.{scaled}
use Rattle.vp_qr.proofs.check.multiples.Given as goal

abbrev pub invariant-loop-half : goal.invariant-loop-half
invariant-loop-half l = record {
  long : length l.rows ≡ 256;
  none : get_or l.rows 0 [] ≡ scaled 0 l.low;
  made : (g : ℕ) → g < 2 * l.half → get_or l.rows g [] ≡ scaled g l.low;
}
