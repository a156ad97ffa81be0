use Rattle.std.proofs.Common.{◌+◌, ◌-◌, ◌≤◌, arith}
use Rattle.vp_receipt_settings.specs.Setup.{across}
use Rattle.vp_receipt_settings.specs.declared.text.TheConstants.{LINE_ROWS}
use Rattle.vp_strips.proofs.ManyRows.{line_rows}
use Rattle.vp_strips.proofs.many_rows.copy_inked.Goals as goal

pub returns-in-Line-default-eq0-default : goal.returns-in-Line-default-eq0-default
returns-in-Line-default-eq0-default g c =
    let line = c.in-Line-default-eq0-default in
    let wide : across c.args.strip.paper ≤ line.length = omega (arith, c.across.ensures, c.if-across-length.true) in
    grind (arith, wide, line_rows c.args.strip.paper c.args.canvas.now.bitmap line.height line.length (LINE_ROWS - c.from.result + c.args.y) c.args.y c.args.rows wide (omega (arith, c.from.ensures)))
