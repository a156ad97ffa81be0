use Rattle.std.proofs.Common.{arith}
use Rattle.vp_qr.proofs.InkLines.{no_words, word_more, line_whole}
use Rattle.vp_qr.proofs.ink.line_dots.Goals as goal

pub loop-column-init : goal.loop-column-init
loop-column-init c = (no_words c.args.line c.args.size c.args.scale c.requires.some _, omega arith)

pub loop-column-preserved : goal.loop-column-preserved
loop-column-preserved c = (
  word_more c.args.line c.args.size c.args.scale c.requires.some c.loop-column.column c.min-modules.result c.modules_word-word.result _ _ _ (omega arith) c.modules_word-word.ensures
      c.loop-column.invariant.0 c.paint_narrow.ensures,
  omega arith,
)

pub returns : goal.returns
returns c = line_whole c.args.line c.args.size c.args.scale c.requires.some c.loop-column.column c.loop-column.dots c.loop-column-test.false c.requires.size c.requires.most c.loop-column.invariant.0
