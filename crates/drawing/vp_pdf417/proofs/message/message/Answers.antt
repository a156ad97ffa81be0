use Rattle.std.proofs.Common.{◌∙◌, sym}
use Rattle.vp_pdf417.proofs.ModeWords.{text_written}
use Rattle.vp_pdf417.proofs.message.message.Goals as goal

pub returns-in-Text : goal.returns-in-Text
returns-in-Text c =
    text_written c.new-words.result c.push_text.new.words c.push_segments.new.words c.args.src.now c.split_at.result.0.now c.split_at.result.1.now c.front.result
    c.new-words.ensures c.push_text.ensures c.push_segments.ensures c.split_at.ensures.front c.split_at.ensures.back c.front.ensures.front (sym c.at.ensures ∙ c.in-Text.is)
