use Rattle.std.proofs.Common.{ℕ, sym, ap, ◌∙◌}
use Rattle.vp_code_tables.specs.declared.begun.Begun.TheVariants.{Nothing}
use Rattle.vp_code_tables.specs.declared.encoding.Encoding.TheVariants.{Utf8}
use Rattle.vp_code_tables.proofs.Steps.{wrong, written, ended_as}
use Rattle.vp_code_tables.proofs.Utf8Steps as steps
use Rattle.vp_code_tables.proofs.utf8.first.Goals as goal

pub returns-in-0-clause-steps : goal.returns-in-0-clause-steps
returns-in-0-clause-steps c =
    ended_as Utf8 Nothing c.args.byte c.ended.result c.wrong.result (wrong 1) c.ended.ensures c.wrong.ensures
    (steps.first_wrong c.args.byte (sym c.sequence_len.ensures ∙ c.in-0.is))

pub returns-in-1-clause-steps : goal.returns-in-1-clause-steps
returns-in-1-clause-steps c =
    ended_as Utf8 Nothing c.args.byte c.ended-in-1.result c.character.result (written c.args.byte 1) c.ended-in-1.ensures
    (c.character.ensures ∙ ap (λ (code : ℕ). written code 1) c.from.ensures)
    (steps.first_written c.args.byte (sym c.sequence_len.ensures ∙ c.in-1.is))
