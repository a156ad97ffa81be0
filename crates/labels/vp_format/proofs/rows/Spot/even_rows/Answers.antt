use Rattle.std.proofs.Common.{◌*◌, ◌≤◌, ◌/◌, arith}
use Rattle.std.proofs.Math.Nat.{mul-le-mul_left, mul-div-le}
use Rattle.vp_format.proofs.Even.{run_even}
use Rattle.vp_format.proofs.rows.Spot.even_rows.Goals as goal

pub returns-then-self-places-clause-even : goal.returns-then-self-places-clause-even
returns-then-self-places-clause-even c coding bytes k len spot whole few =
    let w = 2 * c.args.row_bytes in let within : k ≤ c.args.self.left / w = omega arith in
    run_even w coding bytes c.args.self k (omega arith) spot whole (omega (arith, mul-le-mul_left w within, mul-div-le c.args.self.left w))
