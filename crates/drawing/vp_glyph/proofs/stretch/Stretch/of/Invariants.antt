use Rattle.std.proofs.Common.{◌≡◌, ℕ, ◌*◌, ◌/◌, ◌&&◌, ltb}
use Rattle.vp_dots.specs.Words.{word_dot}
use Rattle.vp_glyph.proofs.stretch.Stretch.of.Given as goal

-- the dots before s are drawn
abbrev pub invariant-loop-s : goal.invariant-loop-s
invariant-loop-s l = (x : ℕ) → word_dot l.wide x ≡ (ltb x l.self.width && (ltb (x * 12 / l.self.width) l.s && word_dot l.word (x * 12 / l.self.width)))
