use Rattle.std.proofs.Common.{◌≡◌, ℕ, ◌*◌, ◌/◌, ◌&&◌, ltb}
use Rattle.vp_dots.specs.Words.{word_dot}
use Rattle.vp_glyph.proofs.look.nine_of.Given as goal

abbrev pub invariant-loop-x : goal.invariant-loop-x
invariant-loop-x l = (d : ℕ) → word_dot l.nine d ≡ (ltb d l.x && word_dot l.word (d * 12 / 9))
