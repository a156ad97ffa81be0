use Rattle.std.proofs.Common.{arith, sym, ◌∙◌, ◌*◌, ◌/◌, ℕ, refl}
use Rattle.std.proofs.lemmas.Bool.{le-ltb}
use Rattle.vp_dots.specs.Words.{word_dot}
use Rattle.vp_glyph.proofs.Looks.{dot_more, dot_less, white_dot}
use Rattle.vp_glyph.proofs.look.nine_of.Goals as goal
use Rattle.vp_glyph.proofs.look.nine_of.Goals.{then-dot_in_word, else-dot_in_word}

pub loop-x-init : goal.loop-x-init
loop-x-init c = λ d. white_dot d ∙ rw (le-ltb d 0 (omega arith)) refl

pub loop-x-preserved : goal.loop-x-preserved
loop-x-preserved c =
    let f = λ (x : ℕ). word_dot c.args.word (x * 12 / 9) in
    elim c.if-dot_in_word.branch [
      | then-dot_in_word w ↦ λ d. dot_more f c.loop-x.nine _ c.loop-x.x d (omega arith) (c.loop-x.invariant d) w.nine-is (sym c.dot_in_word.ensures ∙ w.if-dot_in_word.true)
      | else-dot_in_word w ↦ rw w.nine-is (λ d. dot_less f c.loop-x.nine c.loop-x.x d (c.loop-x.invariant d) (sym c.dot_in_word.ensures ∙ w.if-dot_in_word.false))
    ]
