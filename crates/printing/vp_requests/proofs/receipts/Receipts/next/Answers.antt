use Rattle.std.proofs.Common.{ℕ, List, [], ◌∷◌, ◌++◌, take, get_or, sym, ap, subst, ◌∙◌, arith}
use Rattle.std.specs.Prelude.{option_to_list}
use Rattle.std.proofs.lemmas.List.{append-nil}
use Rattle.vp_requests.specs.declared.request.Request.{Request}
use Rattle.vp_requests.specs.Requests.{receipt_requests}
use Rattle.vp_requests.specs.Standing.{ReceiptsTold}
use Rattle.vp_requests.proofs.Going.{begins, at_next, goes, none_list, none_is, ends_told, ends_same}
use Rattle.vp_requests.proofs.BothKinds.{all_told}
use Rattle.vp_requests.proofs.receipts.Receipts.next.Goals as goal

pub loop-i-init : goal.loop-i-init
loop-i-init c =
    let none = sym c.is_some.ensures ∙ c.if-is_some.false in
    let idle = c.tell-request.ensures.all (none_is c.tell-request.result none) in
    record {
      idle = idle;
      went = λ bytes told t.
          let now = subst (λ (asked : List Request). ReceiptsTold c.tell-request.new.self bytes asked)
          (ap (λ (xs : List Request). told ++ xs) (none_list c.tell-request.result none) ∙ append-nil told) (c.tell-request.ensures.told bytes told t) in
          begins (ReceiptsTold c.tell-request.new.self) receipt_requests bytes told c.args.input.now now (all_told c.tell-request.new.self bytes told now idle);
    }

pub loop-i-preserved : goal.loop-i-preserved
loop-i-preserved c =
    let none = sym c.is_some-in-loop-i.ensures ∙ c.if-is_some-2.false in
    let new = c.tell-request-in-loop-i.new.self in
    let idle = c.tell-request-in-loop-i.ensures.all (none_is c.tell-request-in-loop-i.result none) in
    record {
      idle = idle;
      went = λ bytes told t.
          let w = c.loop-i.invariant.went bytes told t in
          let front = bytes ++ take c.loop-i.i c.args.input.now in
          let xs = front ++ get_or c.args.input.now c.loop-i.i 0 ∷ [] in
          let now = subst (λ (asked : List Request). ReceiptsTold new xs asked)
          (ap (λ (asked : List Request). told ++ asked) (none_list c.tell-request-in-loop-i.result none) ∙ append-nil told)
          (c.tell-request-in-loop-i.ensures.told xs told (c.take.ensures front told w.now)) in
          goes (ReceiptsTold c.loop-i.self) (ReceiptsTold new) receipt_requests bytes told c.args.input.now c.loop-i.i c.loop-i-test.true w now (all_told new xs told now idle);
    }

pub returns-then-is_some-clause-told : goal.returns-then-is_some-clause-told
returns-then-is_some-clause-told c = λ bytes told t.
    subst (λ (xs : List ℕ). ReceiptsTold c.tell-request.new.self xs (told ++ option_to_list c.tell-request.result)) (sym (append-nil bytes))
    (c.tell-request.ensures.told bytes told t)

pub returns-then-is_some-2-clause-told : goal.returns-then-is_some-2-clause-told
returns-then-is_some-2-clause-told c = λ bytes told t.
    let w = c.loop-i.invariant.went bytes told t in
    let front = bytes ++ take c.loop-i.i c.args.input.now in
    let xs = front ++ get_or c.args.input.now c.loop-i.i 0 ∷ [] in
    subst (λ (xs : List ℕ). ReceiptsTold c.tell-request-in-loop-i.new.self xs (told ++ option_to_list c.tell-request-in-loop-i.result))
    (sym (at_next bytes c.args.input.now c.loop-i.i c.loop-i-test.true)) (c.tell-request-in-loop-i.ensures.told xs told (c.take.ensures front told w.now))

pub returns-then-is_some-2-clause-at_its_byte : goal.returns-then-is_some-2-clause-at_its_byte
returns-then-is_some-2-clause-at_its_byte c = λ bytes told n t lt. (c.loop-i.invariant.went bytes told t).same n (omega (arith, lt))

pub returns-clause-told : goal.returns-clause-told
returns-clause-told c = λ bytes told t.
    ends_told (ReceiptsTold c.loop-i.self) receipt_requests bytes told c.args.input.now c.loop-i.i (c.loop-i.invariant.went bytes told t) (omega arith)

pub returns-clause-at_its_byte : goal.returns-clause-at_its_byte
returns-clause-at_its_byte c = λ bytes told n t lt.
    ends_same (ReceiptsTold c.loop-i.self) receipt_requests bytes told c.args.input.now c.loop-i.i n (c.loop-i.invariant.went bytes told t) (omega arith) lt
