use Rattle.std.proofs.Common.{◌≡◌, ℕ, ◌+◌, ◌&&◌, ltb, eqb, not, get_or}
use Rattle.vp_glyph.specs.Halves.{half_dot}
use Rattle.vp_field.proofs.plain.half_of_plain.Given as goal

-- the dots before i are there
abbrev pub invariant-loop-i : goal.invariant-loop-i
invariant-loop-i l = (d : ℕ) → half_dot l.half d ≡ (ltb d l.i && not (eqb (get_or l.halves (l.from + d) 0) 0))
