use Rattle.std.proofs.Common.{arith}
use Rattle.vp_qr.proofs.InkLines.{no_modules, module_more}
use Rattle.vp_qr.proofs.ink.modules_word.Goals as goal

pub loop-column-init : goal.loop-column-init
loop-column-init c = no_modules c.args.line c.args.scale

pub loop-column-preserved : goal.loop-column-preserved
loop-column-preserved c = grind (arith, module_more c.args.line c.loop-column.column c.args.scale c.loop-column.word c.first_dots-module.result c.only-word.result c.is_dark-has.result c.requires.some)
