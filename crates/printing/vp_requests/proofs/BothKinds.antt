-- Both kinds of requests of a receipt.
use Rattle.std.proofs.Common.{◌≡◌, ℕ, suc, false, None, List, [], ◌∷◌, ◌++◌, length, refl, sym, ap, subst, ◌∙◌, append_assoc, length-append, arith}
use Rattle.std.proofs.lemmas.List.{append-nil}
use Rattle.vp_streams.specs.Count.{counted, grown}
use Rattle.vp_requests.specs.declared.arrivals.Arrivals.{Arrivals}
use Rattle.vp_requests.specs.declared.units.Units.{Units}
use Rattle.vp_requests.specs.declared.receipts.Receipts.{Receipts}
use Rattle.vp_requests.specs.declared.request.Request.{Request}
use Rattle.vp_requests.specs.RealTime.{real_time_request}
use Rattle.vp_requests.specs.Units.{unit_request}
use Rattle.vp_requests.specs.Requests.{receipt_request, receipt_requests}
use Rattle.vp_requests.specs.Standing.{ArrivalsStand, UnitsStand, ReceiptsTold, IsIdle, waiting, waiting_arrival, waiting_unit}
use Rattle.vp_requests.proofs.Going.{receipt-push, no_receipts}

no_arrival : (a : Arrivals) (end : ℕ) → a.is_whole ≡ false → waiting_arrival a end ≡ []
no_arrival a end e = rw e refl

no_unit : (u : Units) (end : ℕ) → u.ask ≡ None → waiting_unit u end ≡ []
no_unit u end e = rw e refl

none_waiting : (r : Receipts) → IsIdle r → waiting r ≡ []
none_waiting r i = rw (no_arrival r.arrivals r.taken i.arrivals, no_unit r.units r.taken i.units) refl

-- where nothing is to be told all is told
pub all_told : (r : Receipts) (bytes : List ℕ) (told : List Request) → ReceiptsTold r bytes told → IsIdle r → receipt_requests bytes ≡ told
all_told r bytes told t i = t.all ∙ ap (λ (xs : List Request). told ++ xs) (none_waiting r i) ∙ append-nil told

pub told_first : (r : Receipts) → ArrivalsStand r.arrivals [] → UnitsStand r.units [] → r.taken ≡ 0 → IsIdle r → ReceiptsTold r [] []
told_first r a u t i = record {
  stands = record { arrivals = a; units = u; taken = t };
  all = no_receipts ∙ sym (none_waiting r i);
}

-- a byte, where nothing is to be told
pub takes : (r new : Receipts) (bytes : List ℕ) (told : List Request) (c : ℕ) → ReceiptsTold r bytes told → IsIdle r
    → ArrivalsStand new.arrivals (bytes ++ c ∷ []) × (waiting_arrival new.arrivals (counted (suc (length bytes))) ≡ real_time_request bytes c)
    → UnitsStand new.units (bytes ++ c ∷ []) × (waiting_unit new.units (counted (suc (length bytes))) ≡ unit_request bytes c)
    → new.taken ≡ grown r.taken 1 → ReceiptsTold new (bytes ++ c ∷ []) told
takes r new bytes told c t i a u n =
    let end : new.taken ≡ counted (suc (length bytes)) = omega (arith, n, t.stands.taken) in
    let long : length (bytes ++ c ∷ []) ≡ suc (length bytes) = omega (arith, length-append bytes (c ∷ [])) in
    let now : receipt_request bytes c ≡ waiting new = rw (end, sym a.1, sym u.1) refl in
    record {
      stands = record { arrivals = a.0; units = u.0; taken = end ∙ sym (ap counted long) };
      all = receipt-push bytes c ∙ ap (λ (xs : List Request). xs ++ receipt_request bytes c) (all_told r bytes told t i) ∙ ap (λ (xs : List Request). told ++ xs) now;
    }

-- the real-time request is told
pub tells_arrival : (r new : Receipts) (bytes : List ℕ) (told asked : List Request) → ReceiptsTold r bytes told
    → asked ≡ waiting_arrival r.arrivals r.taken → new.arrivals.is_whole ≡ false → ArrivalsStand new.arrivals bytes
    → new.units ≡ r.units → new.taken ≡ r.taken → ReceiptsTold new bytes (told ++ asked)
tells_arrival r new bytes told asked t e w a u n =
    let rest : waiting new ≡ waiting_unit r.units r.taken = rw (no_arrival new.arrivals new.taken w, u, n) refl in
    record {
      stands = record { arrivals = a; units = subst (λ (x : Units). UnitsStand x bytes) (sym u) t.stands.units; taken = n ∙ t.stands.taken };
      all = t.all ∙ ap (λ (xs : List Request). told ++ (xs ++ waiting_unit r.units r.taken)) (sym e) ∙ sym (append_assoc told asked (waiting_unit r.units r.taken))
          ∙ ap (λ (xs : List Request). (told ++ asked) ++ xs) (sym rest);
    }

-- or what the unit asks, where there is none
pub tells_unit : (r new : Receipts) (bytes : List ℕ) (told asked : List Request) → ReceiptsTold r bytes told
    → [] ≡ waiting_arrival r.arrivals r.taken → asked ≡ waiting_unit r.units r.taken → IsIdle new → ArrivalsStand new.arrivals bytes
    → UnitsStand new.units bytes → new.taken ≡ r.taken → ReceiptsTold new bytes (told ++ asked)
tells_unit r new bytes told asked t none e i a u n = record {
  stands = record { arrivals = a; units = u; taken = n ∙ t.stands.taken };
  all = t.all ∙ ap (λ (xs : List Request). told ++ (xs ++ waiting_unit r.units r.taken)) (sym none) ∙ ap (λ (xs : List Request). told ++ xs) (sym e)
      ∙ sym (append-nil (told ++ asked)) ∙ ap (λ (xs : List Request). (told ++ asked) ++ xs) (sym (none_waiting new i));
}
