use Rattle.std.proofs.Common.{◌≡◌, ◌++◌, ◌-◌, length, replicate, take}
use Rattle.vp_bars.specs.Ean13.{digits_of}
use Rattle.vp_bars.proofs.ean_13.twelve_digits.Given as goal

abbrev pub invariant-loop : goal.invariant-loop
invariant-loop l = l.digits.items ≡ replicate l.counter 0

abbrev pub invariant-loop-c : goal.invariant-loop-c
invariant-loop-c l = l.digits.items ≡ replicate (12 - length l.front) 0 ++ digits_of (take l.c-index l.front)
