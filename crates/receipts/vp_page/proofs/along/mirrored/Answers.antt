use Rattle.std.proofs.Common.{◌-◌, ap, sym, ◌∙◌}
use Rattle.vp_dots.specs.Words.{word_dot}
use Rattle.vp_page.proofs.Squares.{white_word}
use Rattle.vp_page.proofs.PageRows.{turned_bytes}
use Rattle.vp_page.proofs.along.mirrored.Goals as goal

pub returns-then-word-eq0 : goal.returns-then-word-eq0
returns-then-word-eq0 c = λ x h. white_word x ∙ sym (ap (λ w. word_dot w (63 - x)) c.if-word-eq0.true ∙ white_word (63 - x))

pub returns : goal.returns
returns c = λ x h. turned_bytes c.args.word c.reversed_at.result x _ h c.to_be_bytes.ensures (c.reversed_at.ensures x h)
