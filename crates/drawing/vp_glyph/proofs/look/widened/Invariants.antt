use Rattle.std.proofs.Common.{◌≡◌, ℕ, ◌+◌, ◌*◌, ◌/◌, ◌&&◌, ltb}
use Rattle.vp_dots.specs.Dots.{span}
use Rattle.vp_dots.specs.Words.{word_dot}
use Rattle.vp_glyph.proofs.look.widened.Given as goal

-- the dots before s are drawn, and the mask has the places of dot s
abbrev pub invariant-loop-s : goal.invariant-loop-s
invariant-loop-s g l = record {
  drawn : (x : ℕ) → word_dot l.wide x ≡ (ltb x (l.s * l.wm) && word_dot l.word (x / l.wm));
  dots_are : (x : ℕ) → word_dot l.dots x ≡ (ltb x 64 && span (l.s * l.wm) (l.s * l.wm + l.wm) x);
}
