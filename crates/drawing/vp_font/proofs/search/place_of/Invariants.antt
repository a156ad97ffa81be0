use Rattle.std.proofs.Common.{ℕ, ◌<◌, ◌≤◌, ◌-◌, length}
use Rattle.vp_font.specs.declared.letter.Entry.{Entry}
use Rattle.vp_font.specs.Glyphs.{code_of}
use Rattle.vp_font.proofs.search.place_of.Given as goal

-- the letters before are too low, and those behind too high
abbrev pub invariant-loop-from : goal.invariant-loop-from
invariant-loop-from l = record {
  order : l.from ≤ l.to;
  inside : l.to ≤ length l.letters;
  low : (i : ℕ) (other : Entry) → i < l.from → code_of l.letters i other < l.code;
  high : (i : ℕ) (other : Entry) → l.to ≤ i → i < length l.letters → l.code < code_of l.letters i other;
}

abbrev pub decreases-loop-from : goal.decreases-loop-from
decreases-loop-from l = l.to - l.from
