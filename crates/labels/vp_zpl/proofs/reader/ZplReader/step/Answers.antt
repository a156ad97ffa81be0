use Rattle.std.proofs.Common.{◌∙◌, sym, nat_lt, arith}
use Rattle.std.proofs.lemmas.Bool.Decides.{nat_tests}
use Rattle.vp_zpl.proofs.Steps.{by_binary, by_line_end, by_sign, by_more}
use Rattle.vp_zpl.proofs.Named.{wants_in}
use Rattle.vp_zpl.proofs.reader.ZplReader.step.Goals as goal

pub returns-then-left-gt0 : goal.returns-then-left-gt0
returns-then-left-gt0 c reading s stands = grind (arith, nat_lt, nat_tests, by_binary, wants_in)

pub returns-then-is_line_end : goal.returns-then-is_line_end
returns-then-is_line_end c reading s stands = grind (arith, nat_lt, nat_tests, by_line_end, wants_in)

pub returns-then-is_sign : goal.returns-then-is_sign
returns-then-is_sign c reading s stands =
    by_sign _ _ s _ (wants_in reading _ _ _ stands.phase ∙ (grind (arith, nat_tests))) (sym c.is_line_end.ensures ∙ c.if-is_line_end.false) (sym c.is_sign.ensures ∙ c.if-is_sign.true)
    (c.end-event.ensures reading s.before s.open_one c.args.byte stands tt)

pub returns : goal.returns
returns c reading s stands = grind (arith, nat_lt, nat_tests, wants_in, by_more)
