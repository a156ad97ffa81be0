use Rattle.std.proofs.Common.{◌≡◌, map, take}
use Rattle.vp_bars.specs.Codabar.{capital}
use Rattle.vp_bars.proofs.codabar.capitals.Given as goal

abbrev pub invariant-loop-c : goal.invariant-loop-c
invariant-loop-c l = l.signs.items ≡ map capital (take l.c-index l.src)
