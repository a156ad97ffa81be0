use Rattle.std.proofs.Common.{ℕ, Bool, Option, [], ◌∙◌, ◌+◌, ◌*◌, ◌-◌, ◌++◌, length, take, drop, get_or, arith, ap, sym}
use Rattle.vp_pdf417.specs.declared.submode.Submode.{Submode}
use Rattle.vp_pdf417.specs.Text.{values_of, mode_behind, text_values}
use Rattle.vp_pdf417.specs.Written.{pushed, coming}
use Rattle.vp_pdf417.proofs.TextWords.{text_more, text_none}
use Rattle.vp_pdf417.proofs.text.push_text.Goals as goal

pub loop-left-preserved : goal.loop-left-preserved
loop-left-preserved c =
    let words = c.loop-left.words in
    let half = c.loop-left.half in
    let mode = c.loop-left.mode in
    let left = c.loop-left.left.now in
    let byte = get_or left 0 0 in
    let rest = take (length left - 1) (drop 1 left) in
    record {
      written = ap (λ (m : Submode). coming c.push_character-mode.new.words c.push_character-mode.new.half (text_values m rest)) c.push_character-mode.ensures.mode
          ∙ c.push_character-mode.ensures.written (text_values (mode_behind mode byte c.begins_capital.result) rest)
          ∙ ap (λ (more : Bool). coming words half (values_of mode byte more ++ text_values (mode_behind mode byte more) rest)) c.begins_capital.ensures
          ∙ ap (coming words half) (sym (text_more mode left (omega arith))) ∙ c.loop-left.invariant.written;
      half = c.push_character-mode.ensures.half;
    }

pub returns-in-Some : goal.returns-in-Some
returns-in-Some c =
    let words = c.loop-left.words in
    c.push.ensures ∙ ap (λ (first : ℕ). pushed words (30 * first + 29)) c.from.ensures
    ∙ ap (λ (half : Option ℕ). coming words half []) (sym c.in-Some.is)
    ∙ ap (coming words c.loop-left.half) (sym (text_none c.loop-left.mode c.loop-left.left.now (omega arith))) ∙ c.loop-left.invariant.written

pub returns-in_default-half : goal.returns-in_default-half
returns-in_default-half c =
    let words = c.loop-left.words in
    ap (λ (half : Option ℕ). coming words half []) (sym c.in_default-half.is)
    ∙ ap (coming words c.loop-left.half) (sym (text_none c.loop-left.mode c.loop-left.left.now (omega arith))) ∙ c.loop-left.invariant.written
