use Rattle.std.proofs.Common.{◌≡◌, ℕ, ◌<◌, false, eqb, get_or}
use Rattle.vp_glyph.proofs.lines.begin_alike.Given as goal

-- the bytes before i are the same, and none is a backslash
abbrev pub invariant-loop-i : goal.invariant-loop-i
invariant-loop-i l = record {
  alike : (j : ℕ) → j < l.i → get_or l.one j 0 ≡ get_or l.other j 0;
  plain : (j : ℕ) → j < l.i → eqb (get_or l.one j 0) 92 ≡ false;
}
