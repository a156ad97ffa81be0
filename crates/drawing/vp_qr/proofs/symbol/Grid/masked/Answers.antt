use Rattle.std.proofs.Common.{◌∙◌, arith, length-set}
use Rattle.vp_qr.specs.Places.{size}
use Rattle.vp_qr.specs.Codes.{version_code}
use Rattle.vp_qr.specs.Symbol.{module_at}
use Rattle.vp_qr.specs.Walk.{dark}
use Rattle.vp_qr.proofs.Choosing.{same_modules}
use Rattle.vp_qr.proofs.FreeModules.{row_made}
use Rattle.vp_qr.proofs.symbol.Grid.masked.Goals as goal

pub loop-row-preserved : goal.loop-row-preserved
loop-row-preserved c = (
  length-set c.loop-row.rows c.loop-row.row c.line.result ∙ c.loop-row.invariant.0,
  row_made (module_at c.args.self.now.version c.format_code-format.result (version_code c.args.self.now.version) c.args.mask (dark c.args.self.now.unmasked))
      c.loop-row.rows c.loop-row.row c.line.result (size c.args.self.now.version) (omega arith) c.line.ensures c.loop-row.invariant.1,
)

pub returns : goal.returns
returns c = grind (arith, same_modules)
