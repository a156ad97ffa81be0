use Rattle.std.proofs.Common.{◌≡◌, ◌*◌, ◌≤◌, take}
use Rattle.std.specs.Prelude.{sum}
use Rattle.vp_bars.proofs.code_39.check_character.Given as goal

-- the sum so far
abbrev pub invariant-loop-v : goal.invariant-loop-v
invariant-loop-v l = record { so_far : l.sum ≡ sum (take l.v-index l.values); small : l.sum ≤ 255 * l.v-index }
