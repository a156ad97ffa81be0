use Rattle.std.proofs.Common.{◌≡◌, ℕ, ◌+◌, ◌<◌, ◌≤◌, ◌++◌, ◌∷◌, [], List, length, take, drop, reverse, get_or, Option, Some, None, is_some, true, false, length-set, length-append, length-take, Ok, Err, sym, ap, subst, ◌∙◌, arith, append_assoc}
use Rattle.std.proofs.lemmas.List.{append-nil, take_more, take_more_set, take-set-le, drop-set-lt, drop-drop}
use Rattle.vp_inflate.specs.declared.fault.Stop.{Stop}
use Rattle.vp_inflate.specs.declared.fault.Fault.{Fault}
use Rattle.vp_inflate.specs.declared.fault.Stop.TheVariants.{Short, Broken}
use Rattle.vp_inflate.specs.declared.inflate.Inflate.{Inflate}
use Rattle.vp_inflate.specs.Bits.{bits}
use Rattle.vp_inflate.specs.Phases.{puts}
use Rattle.vp_inflate.specs.Standing.{stand}
use Rattle.vp_inflate.specs.Reaching.{Stands, AdvancesOr, one}
use Rattle.vp_inflate.proofs.BitWords.{length_bits}
use Rattle.vp_inflate.proofs.Leading.{stands_on, stands_taken, unpacks, unpacks_broken, ends, front_filled, front_short, front_ended, front_broken}
use Rattle.vp_inflate.proofs.inflate.Inflate.step.Goals as goal
use Rattle.vp_inflate.proofs.inflate.Inflate.step.Goals.{else-put-output-via-then-put-output+else-puts, else-put-output-via-else-put-output}

few : (n : ℕ) (output : List ℕ) (room : ℕ) → n ≤ length output → n < room → length (take n output) < room
few n output room h lt = omega (arith, length-take n output)

not_false : true ≡ false → ⊥
not_false e = cc

pub loop-put-preserved-in-Ok-None : goal.loop-put-preserved-in-Ok-None
loop-put-preserved-in-Ok-None c = record {
  stands = λ t h.
      let old = c.loop-put.self in
      let new = c.advance.new.self in
      let ts = t ++ take c.loop-put.taken c.args.input.now in
      let put = take c.loop-put.put c.loop-put.output in
      subst (λ (l : List ℕ). Stands new ts l) (append-nil put)
      (stands_on old new ts put None (c.loop-put.invariant.stands t h)
      (subst (λ (b : Option ℕ). AdvancesOr old (Ok b) new (reverse put)) c.in-Ok-None.field-0-is c.in-Ok-None.ensures.gives)
      (subst (λ (b : Option ℕ). length new.reader.held < length old.reader.held + one b) c.in-Ok-None.field-0-is c.in-Ok-None.ensures.less));
  taken = c.loop-put.invariant.taken;
  put = c.loop-put.invariant.put;
  further = c.loop-put.invariant.further;
  kept = c.loop-put.invariant.kept;
  rest = c.loop-put.invariant.rest;
}

pub loop-put-preserved-in-Ok-Some : goal.loop-put-preserved-in-Ok-Some
loop-put-preserved-in-Ok-Some c =
    let put = c.loop-put.put in
    let output = c.loop-put.output in
    let byte = c.in-Ok-Some.byte in
    let some : true ≡ puts c.loop-put.self.reader.phase = ap is_some (sym c.in-Ok-Some.field-0-is) ∙ c.in-Ok-Some.ensures.puts in
    let lt : put < length output = elim c.else-put-output.branch [
      | else-put-output-via-then-put-output+else-puts w ↦ absurd (not_false (some ∙ sym w.puts.ensures ∙ w.if-puts.false))
      | else-put-output-via-else-put-output w ↦ omega (arith, c.loop-put.invariant.put)
    ] in
    record {
      stands = λ t h.
          let old = c.loop-put.self in
          let new = c.advance.new.self in
          let ts = t ++ take c.loop-put.taken c.args.input.now in
          let before = take put output in
          subst (λ (l : List ℕ). Stands new ts l) (sym (take_more_set output put byte lt))
          (stands_on old new ts before (Some byte) (c.loop-put.invariant.stands t h)
          (subst (λ (b : Option ℕ). AdvancesOr old (Ok b) new (reverse before)) c.in-Ok-Some.field-0-is c.in-Ok-Some.ensures.gives)
          (subst (λ (b : Option ℕ). length new.reader.held < length old.reader.held + one b) c.in-Ok-Some.field-0-is c.in-Ok-Some.ensures.less));
      taken = c.loop-put.invariant.taken;
      put = omega (arith, lt, length-set output put byte);
      further = omega (arith, c.loop-put.invariant.further);
      kept = take-set-le c.args.filled output put byte c.loop-put.invariant.further ∙ c.loop-put.invariant.kept;
      rest = drop-set-lt (put + 1) output put byte (omega arith) ∙ sym (drop-drop 1 put output) ∙ ap (drop 1) c.loop-put.invariant.rest ∙ drop-drop 1 put c.args.output.now;
    }

pub returns-then-taken-input-clause-stands : goal.returns-then-taken-input-clause-stands
returns-then-taken-input-clause-stands c = λ t h.
    subst (λ (m : Inflate). Stands m (t ++ take c.loop-put.taken c.args.input.now) (take c.loop-put.put c.loop-put.output)) (sym c.in-Err-Short.ensures.same)
    (c.loop-put.invariant.stands t h)

pub returns-in-Err-Ended-clause-stands : goal.returns-in-Err-Ended-clause-stands
returns-in-Err-Ended-clause-stands c = λ t h.
    subst (λ (m : Inflate). Stands m (t ++ take c.loop-put.taken c.args.input.now) (take c.loop-put.put c.loop-put.output)) (sym c.in-Err-Ended.ensures.same)
    (c.loop-put.invariant.stands t h)

pub returns-in-Err-Broken-clause-stands : goal.returns-in-Err-Broken-clause-stands
returns-in-Err-Broken-clause-stands c = λ t h.
    subst (λ (m : Inflate). Stands m (t ++ take c.loop-put.taken c.args.input.now) (take c.loop-put.put c.loop-put.output)) (sym c.in-Err-Broken.ensures.same)
    (c.loop-put.invariant.stands t h)

pub returns-then-taken-input-clause-more : goal.returns-then-taken-input-clause-more
returns-then-taken-input-clause-more c = λ e t h.
    unpacks c.loop-put.self (t ++ take c.loop-put.taken c.args.input.now) (take c.loop-put.put c.loop-put.output) Short (c.loop-put.invariant.stands t h)
    (c.in-Err-Short.ensures.gives ∙ ap (λ (x : Stop). Err x) c.in-Err-Short.field-0-is)

pub loop-put-smaller : goal.loop-put-smaller
loop-put-smaller c =
    let held = c.take.ensures.held ∙ ap (λ (m : Inflate). m.reader.held ++ bits 8 (get_or c.args.input.now c.loop-put.taken 0)) c.in-Err-Short.ensures.same in
    let old = c.loop-put.self.reader.held in
    let byte = bits 8 (get_or c.args.input.now c.loop-put.taken 0) in
    omega (arith, ap {A = List ℕ} length held, length-append old byte, length_bits 8 (get_or c.args.input.now c.loop-put.taken 0), c.loop-put.invariant.taken)

pub loop-put-preserved : goal.loop-put-preserved
loop-put-preserved c =
    let old = c.loop-put.self in
    let new : Inflate = record { reader = c.take.new.self } in
    let input = c.args.input.now in
    let taken = c.loop-put.taken in
    let byte = get_or input taken 0 in
    let put = take c.loop-put.put c.loop-put.output in
    let same = c.in-Err-Short.ensures.same in
    let lt : taken < length input = omega (arith, c.loop-put.invariant.taken) in
    record {
      stands = λ t h.
          let ts = t ++ take taken input in
          subst (λ (l : List ℕ). Stands new l put) (append_assoc t (take taken input) (byte ∷ []) ∙ ap (λ (l : List ℕ). t ++ l) (sym (take_more input taken 0 lt)))
          (stands_taken old new ts put byte (c.loop-put.invariant.stands t h)
          (c.take.ensures.stand (reverse put) ∙ ap (λ (m : Inflate). stand m.reader (reverse put)) same)
          (c.take.ensures.held ∙ ap (λ (m : Inflate). m.reader.held ++ bits 8 byte) same)
          (c.in-Err-Short.ensures.gives ∙ ap (λ (x : Stop). Err x) c.in-Err-Short.field-0-is));
      taken = omega arith;
      put = c.loop-put.invariant.put;
      further = c.loop-put.invariant.further;
      kept = c.loop-put.invariant.kept;
      rest = c.loop-put.invariant.rest;
    }

pub returns-in-Err-Ended-clause-ended : goal.returns-in-Err-Ended-clause-ended
returns-in-Err-Ended-clause-ended c = λ e t h.
    ends c.loop-put.self (t ++ take c.loop-put.taken c.args.input.now) (take c.loop-put.put c.loop-put.output) (c.loop-put.invariant.stands t h)
    (c.in-Err-Ended.ensures.gives ∙ ap (λ (x : Stop). Err x) c.in-Err-Ended.field-0-is)

pub returns-in-Err-Broken-clause-broken : goal.returns-in-Err-Broken-clause-broken
returns-in-Err-Broken-clause-broken c = λ f e t more h.
    let same : c.in-Err-Broken.fault ≡ f = cc in
    unpacks_broken c.loop-put.self (t ++ take c.loop-put.taken c.args.input.now) (take c.loop-put.put c.loop-put.output) more f (c.loop-put.invariant.stands t h)
    (c.in-Err-Broken.ensures.gives ∙ ap (λ (x : Stop). Err x) c.in-Err-Broken.field-0-is ∙ ap (λ (x : Fault). Err (Broken x)) same)

pub returns-then-puts-clause-first : goal.returns-then-puts-clause-first
returns-then-puts-clause-first c = λ e t more h.
    front_filled c.loop-put.self (t ++ take c.loop-put.taken c.args.input.now) c.loop-put.output more c.loop-put.put (c.loop-put.invariant.stands t h) (omega (arith, e))

pub returns-then-taken-input-clause-first : goal.returns-then-taken-input-clause-first
returns-then-taken-input-clause-first c = λ e t more h.
    front_filled c.loop-put.self (t ++ take c.loop-put.taken c.args.input.now) c.loop-put.output more c.loop-put.put (c.loop-put.invariant.stands t h) (omega (arith, e))

pub returns-in-Err-Ended-clause-first : goal.returns-in-Err-Ended-clause-first
returns-in-Err-Ended-clause-first c = λ e t more h.
    front_filled c.loop-put.self (t ++ take c.loop-put.taken c.args.input.now) c.loop-put.output more c.loop-put.put (c.loop-put.invariant.stands t h) (omega (arith, e))

pub returns-in-Err-Broken-clause-first : goal.returns-in-Err-Broken-clause-first
returns-in-Err-Broken-clause-first c = λ e t more h.
    front_filled c.loop-put.self (t ++ take c.loop-put.taken c.args.input.now) c.loop-put.output more c.loop-put.put (c.loop-put.invariant.stands t h) (omega (arith, e))

pub returns-then-taken-input-clause-first_short : goal.returns-then-taken-input-clause-first_short
returns-then-taken-input-clause-first_short c = λ e t room h lt.
    front_short c.loop-put.self (t ++ take c.loop-put.taken c.args.input.now) (take c.loop-put.put c.loop-put.output) room (c.loop-put.invariant.stands t h)
    (few c.loop-put.put c.loop-put.output room c.loop-put.invariant.put lt)
    (c.in-Err-Short.ensures.gives ∙ ap (λ (x : Stop). Err x) c.in-Err-Short.field-0-is)

pub returns-in-Err-Ended-clause-first_ended : goal.returns-in-Err-Ended-clause-first_ended
returns-in-Err-Ended-clause-first_ended c = λ e t more room h lt.
    front_ended c.loop-put.self (t ++ take c.loop-put.taken c.args.input.now) (take c.loop-put.put c.loop-put.output) more room (c.loop-put.invariant.stands t h)
    (few c.loop-put.put c.loop-put.output room c.loop-put.invariant.put lt)
    (c.in-Err-Ended.ensures.gives ∙ ap (λ (x : Stop). Err x) c.in-Err-Ended.field-0-is)

pub returns-in-Err-Broken-clause-first_broken : goal.returns-in-Err-Broken-clause-first_broken
returns-in-Err-Broken-clause-first_broken c = λ f e t more room h lt.
    let same : c.in-Err-Broken.fault ≡ f = cc in
    front_broken c.loop-put.self (t ++ take c.loop-put.taken c.args.input.now) (take c.loop-put.put c.loop-put.output) more room f (c.loop-put.invariant.stands t h)
    (few c.loop-put.put c.loop-put.output room c.loop-put.invariant.put lt)
    (c.in-Err-Broken.ensures.gives ∙ ap (λ (x : Stop). Err x) c.in-Err-Broken.field-0-is ∙ ap (λ (x : Fault). Err (Broken x)) same)
