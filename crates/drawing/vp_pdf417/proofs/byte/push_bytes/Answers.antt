use Rattle.std.proofs.Common.{ℕ, ◌∙◌, ◌-◌, length, take, drop, get_or, arith, ap, sym}
use Rattle.vp_pdf417.specs.Places.{base_900}
use Rattle.vp_pdf417.specs.Bytes.{six, by_six}
use Rattle.vp_pdf417.specs.Written.{written}
use Rattle.vp_pdf417.proofs.NumberWords.{six_more, six_few}
use Rattle.vp_pdf417.proofs.Held.{front_written}
use Rattle.vp_pdf417.proofs.byte.push_bytes.Goals as goal

pub loop-left-preserved : goal.loop-left-preserved
loop-left-preserved c =
    let left = c.loop-left.left.now in
    let words = c.loop-left.words in
    front_written words c.push_five.new.words _ (base_900 5 (six (get_or left 0 0) (get_or left 1 0) (get_or left 2 0) (get_or left 3 0) (get_or left 4 0) (get_or left 5 0))) (by_six (take (length left - 6) (drop 6 left))) (by_six left)
    (c.push_five.ensures ∙ ap (λ (n : ℕ). written words (base_900 5 n)) c.six.ensures) (six_more left (omega arith)) c.loop-left.invariant

pub loop-byte-init : goal.loop-byte-init
loop-byte-init c = ap (written c.loop-left.words) (sym (six_few c.loop-left.left.now (omega arith))) ∙ c.loop-left.invariant
