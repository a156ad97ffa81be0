use Rattle.std.proofs.Common.{ℕ, List, [], ◌∷◌, ◌++◌, take, sym, subst, ◌∙◌}
use Rattle.std.proofs.lemmas.List.{append-nil}
use Rattle.vp_zpl.specs.declared.reading.Reading.TheVariants.{Profile}
use Rattle.vp_zpl.specs.Commands.{cut}
use Rattle.vp_zpl.specs.Reader.{Stands as ZplStands}
use Rattle.vp_requests.proofs.LabelCuts.{data_is, as_data, no_data, divides, data_goes_on, other_goes_on}
use Rattle.vp_requests.proofs.labels.Labels.take.Goals as goal

pub returns-then-take_data-gt0 : goal.returns-then-take_data-gt0
returns-then-take_data-gt0 c = λ before s.
    let byte = c.args.byte in
    let w = as_data _ _ c.if-take_data-gt0.true (c.take_data.ensures.count Profile before s.reads ∙ data_is (cut Profile before) byte (sym c.ends_data.ensures ∙ c.if-ends_data.true)) in
    let reader = c.take_data.new.self in
    let reads = subst (λ (n : ℕ). ZplStands Profile reader (before ++ take n (byte ∷ []))) w.1 (c.take_data.ensures.stands Profile before s.reads) in
    data_goes_on c.args.self.now before byte s w.0 reader reads _ _ c.go_on.ensures

pub returns-then-ends_data : goal.returns-then-ends_data
returns-then-ends_data c = λ before s.
    let byte = c.args.byte in
    let w = no_data _ _ c.if-take_data-gt0.false (c.take_data.ensures.count Profile before s.reads ∙ data_is (cut Profile before) byte (sym c.ends_data.ensures ∙ c.if-ends_data.true)) in
    let same = subst (λ (n : ℕ). ZplStands Profile c.take_data.new.self (before ++ take n (byte ∷ []))) w.1 (c.take_data.ensures.stands Profile before s.reads) in
    let first = subst (λ (xs : List ℕ). ZplStands Profile c.take_data.new.self xs) (append-nil before) same in
    divides c.args.self.now before byte s (sym c.ends_data.ensures ∙ c.if-ends_data.true) w.0 c.take-item.follows.lender-at-none (c.take-item.follows.holds-at-none Profile before first) _ _ c.between.ensures

pub returns : goal.returns
returns c = λ before s.
    other_goes_on c.args.self.now before c.args.byte s (sym c.ends_data.ensures ∙ c.if-ends_data.false) c.take-item-2.follows.lender-at-none
    (c.take-item-2.follows.holds-at-none Profile before s.reads) _ _ c.go_on-2.ensures
