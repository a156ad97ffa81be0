use Rattle.std.proofs.Common.{◌≡◌, ℕ, ◌-◌, ◌<◌, ◌++◌, [], List, Result, Ok, Err, length, take, drop, sym, ap, ◌∙◌, arith, append_assoc}
use Rattle.std.proofs.lemmas.List.{append-nil, take_all}
use Rattle.vp_inflate.specs.declared.fault.Stop.{Stop}
use Rattle.vp_inflate.specs.declared.inflate.Inflate.{Inflate}
use Rattle.vp_inflate.specs.Fronts.{front}
use Rattle.vp_packed.specs.Kept.{spelled}
use Rattle.vp_packed.specs.Pictures.{from_front}
use Rattle.vp_packed.proofs.Joins.{rejoined, white_behind, filled_whole}
use Rattle.vp_packed.proofs.picture.unzip.Goals as goal

pub returns-then-filled-out : goal.returns-then-filled-out
returns-then-filled-out c =
    let l = c.loop-filled in
    let h = l.invariant.stands in
    let room = length c.args.out.now in
    let piece = take l.n l.piece in
    let left = spelled l.group (drop l.at c.args.signs.now) in
    let taken = c.step-step.result.taken in
    let more = drop taken piece ++ left in
    let said = c.step-step.ensures.first (omega (arith, c.if-filled-out.true)) h.0 more h.1 in
    ap (λ (b : List ℕ). from_front room (front room b)) (sym (rejoined h.0 piece left taken ∙ h.2))
    ∙ ap (λ (k : ℕ). from_front room (front k (h.0 ++ take taken piece ++ more))) (omega (arith, l.invariant.len, c.if-filled-out.true))
    ∙ ap (λ (r : Result (List ℕ) Stop). from_front room r) said
    ∙ ap (λ (b : List ℕ). Ok b) (filled_whole room c.step-step.new.output (omega (arith, l.invariant.len)))

pub returns-then-n-eq0 : goal.returns-then-n-eq0
returns-then-n-eq0 c =
    let l = c.loop-filled in
    let h = l.invariant.stands in
    let room = length c.args.out.now in
    let piece = take l.n l.piece in
    let left = spelled l.group (drop l.at c.args.signs.now) in
    let taken = c.step-step.result.taken in
    let nothing : left ≡ [] = c.spell.ensures.bytes ∙ ap (λ (k : ℕ). take k c.spell.new.out ++ spelled c.spell.result.1 (drop c.spell.result.2 c.args.signs.now)) c.if-n-eq0.true
    ∙ c.spell.ensures.all (omega (arith, c.if-n-eq0.true)) in
    let all : take taken piece ≡ piece = take_all taken piece (omega (arith, c.step-step.ensures.all c.in-More.is)) in
    let less : c.step-step.result.filled < room = grind (arith, l.invariant.len, c.step-step.ensures.filled, c.if-filled-out.false) in
    ap (λ (b : List ℕ). from_front room (front room b))
    (sym (ap (λ (b : List ℕ). h.0 ++ b) all ∙ sym (append-nil (h.0 ++ piece)) ∙ ap (λ (b : List ℕ). h.0 ++ piece ++ b) (sym nothing) ∙ h.2))
    ∙ ap (λ (r : Result (List ℕ) Stop). from_front room r) (c.step-step.ensures.first_short c.in-More.is h.0 room h.1 less)

pub loop-filled-preserved : goal.loop-filled-preserved
loop-filled-preserved c =
    let l = c.loop-filled in
    let h = l.invariant.stands in
    let piece = take l.n l.piece in
    let left = spelled l.group (drop l.at c.args.signs.now) in
    let taken = c.step-step.result.taken in
    let next = take c.spell.result.0 c.spell.new.out in
    let then = spelled c.spell.result.1 (drop c.spell.result.2 c.args.signs.now) in
    let all : take taken piece ≡ piece = take_all taken piece (omega (arith, c.step-step.ensures.all c.in-More.is)) in
    let t : List ℕ = h.0 ++ take taken piece in
    record {
      stands = (
        t,
        c.step-step.ensures.stands h.0 h.1,
        append_assoc t next then ∙ ap (λ (b : List ℕ). t ++ b) (sym c.spell.ensures.bytes) ∙ ap (λ (b : List ℕ). h.0 ++ b ++ left) all ∙ h.2,
      );
      filled = omega (arith, c.step-step.ensures.filled);
      piece = omega (arith, c.spell.ensures.within);
      place = c.spell.ensures.place;
      len = omega (arith, l.invariant.len);
    }

pub returns-in-Ended : goal.returns-in-Ended
returns-in-Ended c =
    let l = c.loop-filled in
    let h = l.invariant.stands in
    let room = length c.args.out.now in
    let piece = take l.n l.piece in
    let left = spelled l.group (drop l.at c.args.signs.now) in
    let taken = c.step-step.result.taken in
    let more = drop taken piece ++ left in
    let filled = c.step-step.result.filled in
    let less : filled < room = grind (arith, l.invariant.len, c.step-step.ensures.filled, c.if-filled-out.false) in
    ap (λ (b : List ℕ). from_front room (front room b)) (sym (rejoined h.0 piece left taken ∙ h.2))
    ∙ ap (λ (r : Result (List ℕ) Stop). from_front room r) (c.step-step.ensures.first_ended c.in-Ended.is h.0 more room h.1 less)
    ∙ ap (λ (b : List ℕ). Ok b) (white_behind room filled c.step-step.new.output (omega (arith, l.invariant.len)) (omega (arith, less)) ∙ sym c.whiten.ensures)

pub returns-in-Broken : goal.returns-in-Broken
returns-in-Broken c =
    let l = c.loop-filled in
    let h = l.invariant.stands in
    let room = length c.args.out.now in
    let piece = take l.n l.piece in
    let left = spelled l.group (drop l.at c.args.signs.now) in
    let taken = c.step-step.result.taken in
    let more = drop taken piece ++ left in
    let less : c.step-step.result.filled < room = grind (arith, l.invariant.len, c.step-step.ensures.filled, c.if-filled-out.false) in
    ap (λ (b : List ℕ). from_front room (front room b)) (sym (rejoined h.0 piece left taken ∙ h.2))
    ∙ ap (λ (r : Result (List ℕ) Stop). from_front room r) (c.step-step.ensures.first_broken c.in-Broken.fault c.in-Broken.is h.0 more room h.1 less)
