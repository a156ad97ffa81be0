use Rattle.std.proofs.Common.{◌≡◌, ℕ, List, ◌<◌, ◌∙◌, ◌++◌, length, take, drop, arith, ap, sym, length-drop}
use Rattle.vp_pdf417.specs.declared.mode.Mode.{Mode}
use Rattle.vp_pdf417.specs.Messages.{mode_at, front, segment, all_segments}
use Rattle.vp_pdf417.specs.Written.{written}
use Rattle.vp_pdf417.proofs.Held.{front_written}
use Rattle.vp_pdf417.proofs.ModeWords.{front_some, segments_more, segments_none}
use Rattle.vp_pdf417.proofs.message.push_segments.Goals as goal

pub loop-left-smaller : goal.loop-left-smaller
loop-left-smaller c =
    let left = c.loop-left.left.now in
    let some : 0 < length left = grind arith in
    let k : c.front.result ≡ front (mode_at left) left = c.front.ensures.front ∙ ap (λ (m : Mode). front m left) c.at-mode.ensures in
    omega (arith, k, some, front_some left some, ap length c.split_at.ensures.back, length-drop c.front.result left)

pub loop-left-preserved : goal.loop-left-preserved
loop-left-preserved c =
    let left = c.loop-left.left.now in
    let some : 0 < length left = grind arith in
    let k : c.front.result ≡ front (mode_at left) left = c.front.ensures.front ∙ ap (λ (m : Mode). front m left) c.at-mode.ensures in
    let words = c.loop-left.words in
    let rest = c.split_at.result.1.now in
    let mode = mode_at left in
    front_written words c.push_segment.new.words _ (segment mode (take (front mode left) left)) (all_segments rest) (all_segments left)
    (c.push_segment.ensures ∙ ap (λ (l : List ℕ). written words (segment c.at-mode.result l)) (c.split_at.ensures.front ∙ ap (λ (n : ℕ). take n left) k)
    ∙ ap (λ (m : Mode). written words (segment m (take (front mode left) left))) c.at-mode.ensures)
    (segments_more left some ∙ ap (λ (l : List ℕ). segment mode (take (front mode left) left) ++ all_segments l) (sym (c.split_at.ensures.back ∙ ap (λ (n : ℕ). drop n left) k)))
    c.loop-left.invariant

pub returns : goal.returns
returns c = ap (written c.loop-left.words) (sym (segments_none c.loop-left.left.now (grind arith))) ∙ c.loop-left.invariant
