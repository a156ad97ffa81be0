use Rattle.std.proofs.Common.{◌∷◌, ap, ◌∙◌, sym}
use Rattle.vp_bars.specs.CodeSets.{onto, tokens}
use Rattle.vp_bars.specs.Invocations.{greater, invoked}
use Rattle.vp_bars.proofs.Tokens.{onto_none}
use Rattle.vp_bars.proofs.Pairs.{before_end, before_code, before_lead, before_digit, before_other}
use Rattle.vp_bars.proofs.invocations.read_pair.Goals as goal

pub returns-then-is_ascii_digit-clause-value : goal.returns-then-is_ascii_digit-clause-value
returns-then-is_ascii_digit-clause-value c =
    let m = c.in-Some-Byte-default in
    let behind = m.ensures.token ∙ ap (λ t. t ∷ tokens greater m.rest.now) m.field-0-0-is in
    ap (onto c.args.values.now.items) (before_digit c.args.set c.args.d (tokens greater c.args.bytes.now) c.requires.pairs (sym c.if-not-is_ascii_digit.ensures.value) _ _ behind (sym c.if-is_ascii_digit.ensures.value))
    ∙ c.push_pair.ensures.value (invoked c.args.set (tokens greater m.rest.now))

pub returns-else-is_ascii_digit-clause-value : goal.returns-else-is_ascii_digit-clause-value
returns-else-is_ascii_digit-clause-value c =
    let m = c.in-Some-Byte-default in
    let behind = m.ensures.token ∙ ap (λ t. t ∷ tokens greater m.rest.now) m.field-0-0-is in
    ap (onto c.args.values.now.items) (
    before_other c.args.set c.args.d (tokens greater c.args.bytes.now) c.requires.pairs (sym c.if-not-is_ascii_digit.ensures.value) _ _ behind (sym c.if-is_ascii_digit.ensures.value)
    ∙ onto_none (invoked c.args.set (tokens greater m.rest.now)))

pub returns-in-Some-Code-default-clause-value : goal.returns-in-Some-Code-default-clause-value
returns-in-Some-Code-default-clause-value c =
    let m = c.in-Some-Code-default in
    ap (onto c.args.values.now.items) (before_code c.args.set c.args.d (tokens greater c.args.bytes.now) c.requires.pairs _ _ (m.ensures.token ∙ ap (λ t. t ∷ tokens greater m.field-0-1.now) m.field-0-0-is))

pub returns-in-Some-Lead-default-clause-value : goal.returns-in-Some-Lead-default-clause-value
returns-in-Some-Lead-default-clause-value c =
    let m = c.in-Some-Lead-default in
    ap (onto c.args.values.now.items) (before_lead c.args.set c.args.d (tokens greater c.args.bytes.now) c.requires.pairs _ (m.ensures.token ∙ ap (λ t. t ∷ tokens greater m.field-0-1.now) m.field-0-0-is))

pub returns-in-None-clause-value : goal.returns-in-None-clause-value
returns-in-None-clause-value c = ap (onto c.args.values.now.items) (before_end c.args.set c.args.d (tokens greater c.args.bytes.now) c.requires.pairs (ap (tokens greater) c.in-None.ensures.token))
