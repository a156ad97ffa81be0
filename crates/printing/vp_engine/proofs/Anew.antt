-- A listing that begins anew has its places where it had them before.
use Rattle.std.proofs.Common.{◌≡◌, ℕ, Bool, true, false, is_some, List, [], refl, ap, ◌∙◌, arith}
use Rattle.vp_engine.specs.Lines.{Listed, taken_of, no_lines}
use Rattle.vp_engine.specs.Machines.{AreLines}

has_places : (w : Bool) (t : List ℕ) → is_some (taken_of w t) ≡ w
has_places false t = refl
has_places true t = refl

pub lines_anew : {Item : Type 0} (w : Bool) (old new : Listed) (t : List ℕ) (before : List Item) → new ≡ no_lines (is_some old.taken) → AreLines w old t before → AreLines w {Item = Item} new [] []
lines_anew w old new t before is at =
    let same : new ≡ no_lines w = is ∙ ap (λ o. no_lines (is_some o)) at.taken ∙ ap no_lines (has_places w t) in
    record { count = omega (arith, ap (λ (l : Listed). l.count) same); taken = ap (λ (l : Listed). l.taken) same }
