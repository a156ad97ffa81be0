use Rattle.std.proofs.Common.{◌≡◌, ◌<◌, IfSome, length}
use Rattle.vp_pdf417.specs.Text.{text_values, text}
use Rattle.vp_pdf417.specs.Written.{written, coming}
use Rattle.vp_pdf417.proofs.text.push_text.Given as goal

abbrev pub invariant-loop-left : goal.invariant-loop-left
invariant-loop-left l = record {
  written : coming l.words l.half (text_values l.mode l.left) ≡ written l.fn.words (text l.src);
  half : IfSome l.half (λ first. first < 30);
}

abbrev pub decreases-loop-left : goal.decreases-loop-left
decreases-loop-left l = length l.left
