use Rattle.std.proofs.Common.{◌≡◌}
use Rattle.vp_font.specs.Words.{behind}
use Rattle.vp_font.proofs.words.word.Given as goal

-- behind so many words
abbrev pub invariant-loop-i : goal.invariant-loop-i
invariant-loop-i l = l.rest ≡ behind l._i l.line
