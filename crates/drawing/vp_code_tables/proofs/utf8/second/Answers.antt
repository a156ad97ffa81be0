use Rattle.std.proofs.Common.{◌≡◌, [], ◌∷◌, ◌+◌, ◌*◌, Some, true, false}
use Rattle.vp_code_tables.specs.declared.begun.Begun.TheVariants.{One}
use Rattle.vp_code_tables.specs.declared.encoding.Encoding.TheVariants.{Utf8}
use Rattle.vp_code_tables.specs.Utf8.{sequence_len, second_fits, value_of}
use Rattle.vp_code_tables.proofs.Steps.{wrong, written, ended_as, cut_as}
use Rattle.vp_code_tables.proofs.Utf8Steps as steps
use Rattle.vp_code_tables.proofs.utf8.second.Goals as goal

pub returns-then-not-second_fits : goal.returns-then-not-second_fits
returns-then-not-second_fits c =
    let unfit : second_fits c.args.a c.args.byte ≡ false = cc in
    cut_as Utf8 (One c.args.a) c.first.result.begun c.args.byte c.behind.result
    (record { cut = Some (wrong 1); unit = c.first.result.given.unit }) c.behind.ensures
    (steps.second_cut c.args.a c.args.byte c.first.result.begun c.first.result.given c.requires unfit
    c.first.ensures.steps c.first.ensures.alone)

pub returns : goal.returns
returns c =
    let code = c.from.result * 64 + c.bits.result in
    let fit : second_fits c.args.a c.args.byte ≡ true = cc in
    let long : sequence_len c.args.a ≡ 2 = cc in
    let value : code ≡ value_of (c.args.a ∷ c.args.byte ∷ []) = cc in
    ended_as Utf8 (One c.args.a) c.args.byte c.ended.result c.character.result (written code 2) c.ended.ensures
    c.character.ensures (steps.second_ends c.args.a c.args.byte code c.requires fit long value)
