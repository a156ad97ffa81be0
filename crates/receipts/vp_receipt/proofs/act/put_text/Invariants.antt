use Rattle.std.proofs.Common.{◌-◌, length, take}
use Rattle.vp_receipt.proofs.Texts.{Put}
use Rattle.vp_receipt.proofs.act.put_text.Given as goal

abbrev pub invariant-loop-code : goal.invariant-loop-code
invariant-loop-code g l = Put l.fn.s l.fn.sheets l.fn.bitmap (take l.code-index l.fn.text) (length l.fn.text - l.code-index) l.now l.bitmap
