use Rattle.std.proofs.Common.{◌≡◌, ℕ}
use Rattle.vp_dots.specs.Words.{word_dot}
use Rattle.vp_qr.specs.Inks.{line_ink}
use Rattle.vp_qr.proofs.ink.modules_word.Given as goal

abbrev pub invariant-loop-column : goal.invariant-loop-column
invariant-loop-column l = (x : ℕ) → word_dot l.word x ≡ line_ink l.line l.column l.scale x
