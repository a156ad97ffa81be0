use Rattle.std.proofs.Common.{[], ◌∷◌, ap, ◌∙◌}
use Rattle.vp_code_tables.specs.declared.begun.Begun.TheVariants.{Nothing, One, Two, Three}
use Rattle.vp_code_tables.specs.declared.unit.Decoded.{Decoded}
use Rattle.vp_code_tables.proofs.Decoding.{left_as, left_nothing, left_one, left_two, left_three, left_three_utf16}
use Rattle.vp_code_tables.proofs.Steps.{wrong}
use Rattle.vp_code_tables.proofs.decoder.left.Goals as goal

pub returns-in-Nothing : goal.returns-in-Nothing
returns-in-Nothing c =
    left_as c.args.encoding c.args.begun Nothing [] c.in-Nothing.is c.requires (λ h. left_nothing c.args.encoding)

pub returns-in-One : goal.returns-in-One
returns-in-One c =
    left_as c.args.encoding c.args.begun (One c.in-One.field-0) (c.wrong.result ∷ []) c.in-One.is c.requires
    (λ h. ap (λ (u : Decoded). u ∷ []) c.wrong.ensures ∙ left_one c.args.encoding c.in-One.field-0 h)

pub returns-in-Two : goal.returns-in-Two
returns-in-Two c =
    left_as c.args.encoding c.args.begun (Two c.in-Two.field-0 c.in-Two.field-1) (c.wrong-in-Two.result ∷ [])
    c.in-Two.is c.requires
    (λ h. ap (λ (u : Decoded). u ∷ []) c.wrong-in-Two.ensures
    ∙ left_two c.args.encoding c.in-Two.field-0 c.in-Two.field-1 h)

pub returns-in-Utf16 : goal.returns-in-Utf16
returns-in-Utf16 c =
    let known = Three c.in-Three.field-0 c.in-Three.field-1 c.in-Three.field-2 in
    left_as c.args.encoding c.args.begun known (c.wrong-in-Utf16.result ∷ c.wrong-in-Utf16-2.result ∷ [])
    c.in-Three.is c.requires
    (λ h. ap (λ (u : Decoded). u ∷ c.wrong-in-Utf16-2.result ∷ []) c.wrong-in-Utf16.ensures
    ∙ ap (λ (u : Decoded). wrong 2 ∷ u ∷ []) c.wrong-in-Utf16-2.ensures
    ∙ left_three_utf16 c.args.encoding c.in-Utf16.field-0 c.in-Three.field-0 c.in-Three.field-1
    c.in-Three.field-2 c.in-Utf16.is h)

pub returns-in_default : goal.returns-in_default
returns-in_default c =
    let known = Three c.in-Three.field-0 c.in-Three.field-1 c.in-Three.field-2 in
    left_as c.args.encoding c.args.begun known (c.wrong-in_default.result ∷ []) c.in-Three.is c.requires
    (λ h. ap (λ (u : Decoded). u ∷ []) c.wrong-in_default.ensures
    ∙ left_three c.args.encoding c.in-Three.field-0 c.in-Three.field-1 c.in-Three.field-2
    c.in_default.not-Utf16 h)
