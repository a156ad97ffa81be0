use Rattle.std.proofs.Common.{ℕ, List, [], ◌∷◌, ◌++◌, take, get_or, sym, ap, subst, ◌∙◌, arith}
use Rattle.std.specs.Prelude.{option_to_list}
use Rattle.std.proofs.lemmas.List.{append-nil}
use Rattle.vp_requests.specs.declared.request.Request.{Request}
use Rattle.vp_requests.specs.Requests.{label_requests}
use Rattle.vp_requests.specs.Standing.{LabelsTold}
use Rattle.vp_requests.proofs.Going.{begins, at_next, goes, none_list, label_takes, ends_told, ends_same}
use Rattle.vp_requests.proofs.labels.Labels.next.Goals as goal

pub loop-i-init : goal.loop-i-init
loop-i-init c = λ bytes told t. begins (LabelsTold c.args.self.now) label_requests bytes told c.args.input.now t t.all

pub loop-i-preserved : goal.loop-i-preserved
loop-i-preserved c = λ bytes told t.
    let w = c.loop-i.invariant bytes told t in
    let step = label_takes c.loop-i.self c.take-request.new.self _ told _ _ w.now c.take-request.ensures in
    let none = none_list c.take-request.result (sym c.is_some.ensures ∙ c.if-is_some.false) in
    let xs = (bytes ++ take c.loop-i.i c.args.input.now) ++ get_or c.args.input.now c.loop-i.i 0 ∷ [] in
    let now = subst (λ (asked : List Request). LabelsTold c.take-request.new.self xs asked) (ap (λ (xs : List Request). told ++ xs) none ∙ append-nil told) step in
    goes (LabelsTold c.loop-i.self) (LabelsTold c.take-request.new.self) label_requests bytes told c.args.input.now c.loop-i.i c.loop-i-test.true w now now.all

pub returns-then-is_some-clause-told : goal.returns-then-is_some-clause-told
returns-then-is_some-clause-told c = λ bytes told t.
    let w = c.loop-i.invariant bytes told t in
    let step = label_takes c.loop-i.self c.take-request.new.self _ told _ _ w.now c.take-request.ensures in
    subst (λ (xs : List ℕ). LabelsTold c.take-request.new.self xs (told ++ option_to_list c.take-request.result)) (sym (at_next bytes c.args.input.now c.loop-i.i c.loop-i-test.true)) step

pub returns-then-is_some-clause-at_its_byte : goal.returns-then-is_some-clause-at_its_byte
returns-then-is_some-clause-at_its_byte c = λ bytes told n t lt. (c.loop-i.invariant bytes told t).same n (omega (arith, lt))

pub returns-clause-told : goal.returns-clause-told
returns-clause-told c = λ bytes told t.
    ends_told (LabelsTold c.loop-i.self) label_requests bytes told c.args.input.now c.loop-i.i (c.loop-i.invariant bytes told t) (omega arith)

pub returns-clause-at_its_byte : goal.returns-clause-at_its_byte
returns-clause-at_its_byte c = λ bytes told n t lt.
    ends_same (LabelsTold c.loop-i.self) label_requests bytes told c.args.input.now c.loop-i.i n (c.loop-i.invariant bytes told t) (omega arith) lt
