use Rattle.std.proofs.Common.{◌≡◌, ℕ, true, false, ap, ◌∙◌}
use Rattle.vp_code_tables.specs.declared.begun.Begun.TheVariants.{One}
use Rattle.vp_code_tables.specs.declared.encoding.Encoding.TheVariants.{Utf16}
use Rattle.vp_code_tables.specs.Utf16.{is_high, is_low}
use Rattle.vp_code_tables.proofs.Steps.{wrong, written, ended_as}
use Rattle.vp_code_tables.proofs.Utf16Steps as steps
use Rattle.vp_code_tables.proofs.utf16.second.Goals as goal

pub returns-then-is_low-clause-steps : goal.returns-then-is_low-clause-steps
returns-then-is_low-clause-steps c =
    let high : is_high c.code_unit-unit.result ≡ false = cc in
    let low : is_low c.code_unit-unit.result ≡ true = cc in
    ended_as (Utf16 c.args.order) (One c.args.a) c.args.byte c.ended.result c.wrong.result (wrong 2) c.ended.ensures
    c.wrong.ensures
    (steps.second_low c.args.order c.args.a c.args.byte c.code_unit-unit.result c.code_unit-unit.ensures high low)

pub returns-else-is_low-clause-steps : goal.returns-else-is_low-clause-steps
returns-else-is_low-clause-steps c =
    let unit = c.code_unit-unit.result in
    let high : is_high unit ≡ false = cc in
    let low : is_low unit ≡ false = cc in
    ended_as (Utf16 c.args.order) (One c.args.a) c.args.byte c.ended-else-is_low.result c.character.result
    (written unit 2) c.ended-else-is_low.ensures
    (c.character.ensures ∙ ap (λ (code : ℕ). written code 2) c.from.ensures)
    (steps.second_alone c.args.order c.args.a c.args.byte unit c.code_unit-unit.ensures high low)
