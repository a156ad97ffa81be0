-- Bytes in pieces, and what they fill.
use Rattle.std.proofs.Common.{◌≡◌, ℕ, ◌-◌, ◌≤◌, ◌++◌, [], List, length, take, drop, replicate, refl, sym, ap, ◌∙◌, arith, append_assoc}
use Rattle.std.proofs.lemmas.List.{append-nil, take_all, length-take-le, take-append-drop}
use Rattle.vp_packed.specs.Pictures.{filled_up}

pub rejoined : (t p rest : List ℕ) (k : ℕ) → t ++ take k p ++ (drop k p ++ rest) ≡ t ++ p ++ rest
rejoined t p rest k =
    append_assoc t (take k p) (drop k p ++ rest)
    ∙ ap (λ (l : List ℕ). t ++ l) (sym (append_assoc (take k p) (drop k p) rest) ∙ ap (λ (l : List ℕ). l ++ rest) (take-append-drop k p))
    ∙ sym (append_assoc t p rest)

pub white_behind : (room n : ℕ) (out : List ℕ) → length out ≡ room → n ≤ room → filled_up room (take n out) ≡ take n out ++ replicate (length out - n) 0
white_behind room n out e le =
    let few : length (take n out) ≡ n = length-take-le n out (omega arith) in
    ap (λ (l : List ℕ). l ++ replicate (room - length (take n out)) 0) (take_all room (take n out) (omega (arith, few)))
    ∙ ap (λ (k : ℕ). take n out ++ replicate k 0) (omega (arith, few))

pub filled_whole : (room : ℕ) (out : List ℕ) → length out ≡ room → filled_up room out ≡ out
filled_whole room out e =
    let none : room - length out ≡ 0 = omega arith in
    ap (λ (l : List ℕ). l ++ replicate (room - length out) 0) (take_all room out (omega arith))
    ∙ ap (λ (k : ℕ). out ++ replicate k 0) none ∙ append-nil out
