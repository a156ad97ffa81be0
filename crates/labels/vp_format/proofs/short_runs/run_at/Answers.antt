use Rattle.std.proofs.Common.{◌+◌, ◌∙◌, ap, arith, refl}
use Rattle.vp_format.proofs.Quick.{run_symbol, second_symbol, behind_count, one_most}
use Rattle.vp_format.proofs.short_runs.run_at.Goals as goal

pub returns-then-digit-lt16-clause-symbol : goal.returns-then-digit-lt16-clause-symbol
returns-then-digit-lt16-clause-symbol c few =
    let n = c.from-count.result in let is = c.from-count.ensures ∙ c.count_value.ensures.value in
    let next = behind_count _ n c.from.result c.args.at (c.type_inv.bytes c.args.at).fits is (omega arith) c.from.ensures in
    run_symbol c.args.bytes.now c.args.at n (c.args.at + c.from.result) _ _ _ (omega (arith, one_most _ _ c.from.ensures)) (omega arith) (c.type_inv.bytes c.args.at).fits is (omega arith) next.0 next.1 c.digit_value-digit.ensures c.if-digit-lt16.true c.max.ensures refl

pub returns-clause-symbol : goal.returns-clause-symbol
returns-clause-symbol c few =
    let n = c.from-count.result in let is = c.from-count.ensures ∙ c.count_value.ensures.value in
    let next = behind_count _ n c.from.result c.args.at (c.type_inv.bytes c.args.at).fits is (omega arith) c.from.ensures in
    second_symbol c.args.bytes.now c.args.at n (c.args.at + c.from.result) (n + c.from-2.result) _ _ _ (omega (arith, one_most _ _ c.from.ensures)) (omega arith) (λ i. (c.type_inv.bytes i).fits) is next.0 next.1 (omega arith) (ap (λ k. n + k) (c.from-2.ensures ∙ c.count_value-2.ensures.value)) (omega arith) c.digit_value-last.ensures (omega arith) c.max-2.ensures refl
