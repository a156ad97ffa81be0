-- Each byte has a code set.
use Rattle.std.proofs.Common.{◌≡◌, ℕ, ◌<◌, true, refl}
use Rattle.vp_maxicode.specs.Characters.{value_a, value_b, value_c, value_d, value_e, has, home}
use Rattle.vp_maxicode.proofs.Passes.{passes_below, passes_at}

every_byte : passes_below 256 (λ byte. has (home byte) byte) ≡ true
unfolding home value_a value_b value_c value_d value_e
every_byte = refl

pub has_home : (byte : ℕ) → byte < 256 → has (home byte) byte ≡ true
has_home = passes_at 256 (λ byte. has (home byte) byte) every_byte
