use Rattle.std.proofs.Common.{refl, sym, ◌∙◌}
use Rattle.vp_requests.proofs.Going.{none_list}
use Rattle.vp_requests.proofs.BothKinds.{tells_arrival, tells_unit}
use Rattle.vp_requests.proofs.receipts.Receipts.tell.Goals as goal

pub returns-then-is_some-clause-told : goal.returns-then-is_some-clause-told
returns-then-is_some-clause-told c = λ bytes told t.
    tells_arrival c.args.self.now _ bytes told _ t c.tell-request.ensures.told c.tell-request.ensures.all
    (c.tell-request.ensures.stands bytes t.stands.arrivals t.stands.taken) refl refl

pub returns-clause-told : goal.returns-clause-told
returns-clause-told c = λ bytes told t.
    let none = none_list c.tell-request.result (sym c.is_some.ensures ∙ c.if-is_some.false) in
    tells_unit c.args.self.now _ bytes told _ t (sym none ∙ c.tell-request.ensures.told) c.tell.ensures.told
    (record { arrivals = c.tell-request.ensures.all; units = c.tell.ensures.all })
    (c.tell-request.ensures.stands bytes t.stands.arrivals t.stands.taken) (c.tell.ensures.stands bytes t.stands.units t.stands.taken) refl
