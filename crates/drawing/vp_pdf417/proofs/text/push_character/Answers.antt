use Rattle.std.proofs.Common.{ℕ, List, ◌∙◌, ◌++◌, ap, sym}
use Rattle.vp_pdf417.specs.Written.{coming}
use Rattle.vp_pdf417.proofs.TextWords.{values_here, mode_here, values_mark, mode_mark, values_else, mode_else}
use Rattle.vp_pdf417.proofs.text.push_character.Goals as goal

pub returns-in-Some-clause-written : goal.returns-in-Some-clause-written
returns-in-Some-clause-written c = λ (rest : List ℕ).
    c.push_value.ensures.written rest
    ∙ ap (λ (l : List ℕ). coming c.args.words.now c.args.half.now (l ++ rest)) (sym (values_here c.args.mode c.args.byte c.args.more c.in-Some.value (sym c.value.ensures.value ∙ c.in-Some.is)))

pub returns-in-Some-clause-mode : goal.returns-in-Some-clause-mode
returns-in-Some-clause-mode c = sym (mode_here c.args.mode c.args.byte c.args.more c.in-Some.value (sym c.value.ensures.value ∙ c.in-Some.is))

pub returns-in-Some-punctuation-clause-written : goal.returns-in-Some-punctuation-clause-written
returns-in-Some-punctuation-clause-written c = λ (rest : List ℕ).
    c.push_value-in-Some-punctuation-2.ensures.written rest ∙ c.push_value-in-Some-punctuation.ensures.written _
    ∙ ap (λ (l : List ℕ). coming c.args.words.now c.args.half.now (l ++ rest))
    (sym (values_mark c.args.mode c.args.byte c.args.more c.in-Some-punctuation.value (sym c.value.ensures.value ∙ c.in_default.is) (sym c.punctuation.ensures.value ∙ c.in-Some-punctuation.is)))

pub returns-in-Some-punctuation-clause-mode : goal.returns-in-Some-punctuation-clause-mode
returns-in-Some-punctuation-clause-mode c =
    sym (mode_mark c.args.mode c.args.byte c.args.more c.in-Some-punctuation.value (sym c.value.ensures.value ∙ c.in_default.is) (sym c.punctuation.ensures.value ∙ c.in-Some-punctuation.is))

pub returns-clause-written : goal.returns-clause-written
returns-clause-written c = λ (rest : List ℕ).
    c.push_elsewhere.ensures.written rest
    ∙ ap (λ (l : List ℕ). coming c.args.words.now c.args.half.now (l ++ rest))
    (sym (values_else c.args.mode c.args.byte c.args.more (sym c.value.ensures.value ∙ c.in_default.is) (sym c.punctuation.ensures.value ∙ c.in_default-punctuation.is)))

pub returns-clause-mode : goal.returns-clause-mode
returns-clause-mode c =
    c.push_elsewhere.ensures.mode ∙ sym (mode_else c.args.mode c.args.byte c.args.more (sym c.value.ensures.value ∙ c.in_default.is) (sym c.punctuation.ensures.value ∙ c.in_default-punctuation.is))
