use Rattle.std.proofs.Common.{◌≡◌, ℕ, ◌*◌, ◌/◌, ◌<◌, ◌&&◌, ltb, eqb, length, get_or}
use Rattle.vp_dots.specs.Words.{word_dot}
use Rattle.vp_glyph.proofs.stretch.masks.Given as goal

-- the masks before s are made
abbrev pub invariant-loop-s : goal.invariant-loop-s
invariant-loop-s l = record {
  count : length l.masks ≡ 12;
  masks_are : (r x : ℕ) → r < l.s → word_dot (get_or l.masks r 0) x ≡ (ltb x l.width && eqb (x * 12 / l.width) r);
}
