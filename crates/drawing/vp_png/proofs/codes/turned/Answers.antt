use Rattle.std.proofs.Common.{arith}
use Rattle.vp_png.proofs.CodeTables.{nine_small, nine_bits, turned_bits, turned_few}
use Rattle.vp_png.proofs.codes.turned.Goals as goal

pub overflow_add-result : goal.overflow_add-result
overflow_add-result c =
    let h = nine_bits c.args.count c.args.code c.requires.few c.requires.code in
    omega (arith, nine_small c.args.code h)

pub overflow_add-result-2 : goal.overflow_add-result-2
overflow_add-result-2 c =
    let h = nine_bits c.args.count c.args.code c.requires.few c.requires.code in
    omega (arith, nine_small c.args.code h)

pub returns-clause-bits : goal.returns-clause-bits
returns-clause-bits c =
    turned_bits c.args.count c.args.code (omega arith) (nine_bits c.args.count c.args.code c.requires.few c.requires.code)

pub returns-clause-few : goal.returns-clause-few
returns-clause-few c =
    turned_few c.args.count c.args.code (omega arith) (nine_bits c.args.count c.args.code c.requires.few c.requires.code)
