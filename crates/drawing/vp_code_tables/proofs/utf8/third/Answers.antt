use Rattle.std.proofs.Common.{◌≡◌, [], ◌∷◌, ◌+◌, ◌*◌, Some, true, false}
use Rattle.vp_code_tables.specs.declared.begun.Begun.TheVariants.{Two}
use Rattle.vp_code_tables.specs.declared.encoding.Encoding.TheVariants.{Utf8}
use Rattle.vp_code_tables.specs.Utf8.{sequence_len, later_fits, value_of}
use Rattle.vp_code_tables.proofs.Steps.{wrong, written, ended_as, cut_as}
use Rattle.vp_code_tables.proofs.Utf8Steps as steps
use Rattle.vp_code_tables.proofs.utf8.third.Goals as goal

pub returns-then-not-later_fits : goal.returns-then-not-later_fits
returns-then-not-later_fits c =
    let unfit : later_fits c.args.byte ≡ false = cc in
    cut_as Utf8 (Two c.args.a c.args.b) c.first.result.begun c.args.byte c.behind.result
    (record { cut = Some (wrong 2); unit = c.first.result.given.unit }) c.behind.ensures
    (steps.third_cut c.args.a c.args.b c.args.byte c.first.result.begun c.first.result.given c.requires unfit
    c.first.ensures.steps c.first.ensures.alone)

pub returns : goal.returns
returns c =
    let code = (c.from.result * 64 + c.bits.result) * 64 + c.bits-2.result in
    let fit : later_fits c.args.byte ≡ true = cc in
    let long : sequence_len c.args.a ≡ 3 = cc in
    let value : code ≡ value_of (c.args.a ∷ c.args.b ∷ c.args.byte ∷ []) = cc in
    ended_as Utf8 (Two c.args.a c.args.b) c.args.byte c.ended.result c.character.result (written code 3) c.ended.ensures
    c.character.ensures (steps.third_ends c.args.a c.args.b c.args.byte code c.requires fit long value)
