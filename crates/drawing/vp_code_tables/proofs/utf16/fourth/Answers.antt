use Rattle.std.proofs.Common.{◌≡◌, Some, true, false}
use Rattle.vp_code_tables.specs.declared.begun.Begun.TheVariants.{Three}
use Rattle.vp_code_tables.specs.declared.encoding.Encoding.TheVariants.{Utf16}
use Rattle.vp_code_tables.specs.Utf16.{code_unit, is_low, pair_value}
use Rattle.vp_code_tables.proofs.Steps.{wrong, written, ended_as, cut_as}
use Rattle.vp_code_tables.proofs.Utf16Steps as steps
use Rattle.vp_code_tables.proofs.utf16.fourth.Goals as goal

pub returns-then-not-is_low : goal.returns-then-not-is_low
returns-then-not-is_low c =
    let unit = c.code_unit-low.result in
    let low : is_low unit ≡ false = cc in
    cut_as (Utf16 c.args.order) (Three c.args.a c.args.b c.args.c) c.second.result.begun c.args.byte c.behind.result
    (record { cut = Some (wrong 2); unit = c.second.result.given.unit }) c.behind.ensures
    (steps.fourth_cut c.args.order c.args.a c.args.b c.args.c c.args.byte unit c.second.result.begun
    c.second.result.given c.requires c.code_unit-low.ensures low c.second.ensures.steps c.second.ensures.alone)

pub returns : goal.returns
returns c =
    let unit = c.code_unit-low.result in
    let code = c.pair_value-code.result in
    let low : is_low unit ≡ true = cc in
    let value : code ≡ pair_value (code_unit c.args.order c.args.a c.args.b) unit = cc in
    ended_as (Utf16 c.args.order) (Three c.args.a c.args.b c.args.c) c.args.byte c.ended.result c.character.result
    (written code 4) c.ended.ensures c.character.ensures
    (steps.fourth_ends c.args.order c.args.a c.args.b c.args.c c.args.byte unit code c.requires
    c.code_unit-low.ensures low value)
