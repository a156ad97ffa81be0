use Rattle.std.proofs.Common.{rules, arith, ◌≡◌, ◌≤◌, ◌+◌, ◌-◌, ◌++◌, [], is_some, true, false, Some, None, length, take, drop, length-drop, length-append, refl, sym, ap, subst₂, append_assoc, ◌∙◌}
use Rattle.std.proofs.lemmas.List.{append-nil}
use Rattle.vp_engine.proofs.Cuts.{front_more, cut_length, cut_take, cut_drop, part_is, rest_same, empty_unless, none_is_not_some}
use borrow.Rule.Slice.PartMut.{put_mid}
use Rattle.vp_engine.specs.Stands.{Stands}
use Rattle.vp_engine.proofs.printer.Printer.step.Goals as goal
use Rattle.vp_engine.proofs.printer.Printer.step.Goals.{then-loop-taken-test+then-is_none+else-not-pending, then-loop-taken-test+else-is_none, else-loop-taken-test}

pub loop-taken-init : goal.loop-taken-init
loop-taken-init g c = record {
  taken = search rules;
  put = omega (arith, c.put-put.ensures.count);
  rest = c.put-put.ensures.rest;
  stands = λ setup t o s. rw (append-nil t) (c.put-put.ensures.stands setup t o s);
  full = λ h. c.put-put.ensures.full h ∙ sym c.put-put.auto.output;
  still = λ h. (c.put-put.ensures.stopped, refl, c.put-put.ensures.none h);
  memory = c.put-put.ensures.memory;
  zero = λ h. (c.put-put.ensures.text, c.put-put.ensures.stopped);
}

pub loop-taken-preserved : goal.loop-taken-preserved
loop-taken-preserved g c =
    let e = c.take_some-moved.ensures in let a = c.loop-taken.put in let n = c.take_some-moved.result.put in
    let xs = c.loop-taken.output in let ys = c.take_some-moved.new.output in
    let within : a ≤ length xs = c.loop-taken.invariant.put in
    let long : length (put_mid a (length xs - a) xs ys) ≡ length xs = cut_length a xs ys within c.take_some-moved.auto.output in
    let part : length (take (length xs - a) (drop a xs)) ≡ length xs - a = ap length (part_is a xs) ∙ length-drop a xs in
    record {
      taken = omega arith;
      put = omega (arith, long, part, e.put);
      rest = cut_drop a n xs ys within e.rest ∙ rest_same a n xs c.args.output.now c.loop-taken.invariant.rest;
      stands = λ setup t o s.
          let k = c.loop-taken.taken in let i = c.args.input.now in let m = c.take_some-moved.result.taken in
          let one = e.stands setup (t ++ take k i) (o ++ take a xs) (c.loop-taken.invariant.stands setup t o s) in
          let t_is : (t ++ take k i) ++ take m (take (length i - k) (drop k i)) ≡ t ++ take (k + m) i = append_assoc t (take k i) _ ∙ ap (λ x. t ++ x) (front_more k m i) in
          let o_is : (o ++ take a xs) ++ take n ys ≡ o ++ take (a + n) (put_mid a (length xs - a) xs ys) = append_assoc o (take a xs) _ ∙ ap (λ x. o ++ x) (sym (cut_take a n xs ys within)) in
          subst₂ (Stands setup c.take_some-moved.new.self) t_is o_is one;
      full = λ h. omega (arith, long, part, e.full h);
      still = λ h.
          let no : false ≡ true = sym c.if-is_none.ensures ∙ ap is_some (c.stopped.ensures.value ∙ (c.loop-taken.invariant.still h).0) ∙ h in
          cc;
      memory = e.memory ∙ c.loop-taken.invariant.memory;
      zero = λ h. absurd (omega arith);
    }

pub returns-in-Some-clause-more : goal.returns-in-Some-clause-more
returns-in-Some-clause-more g c e setup t o s = cc

pub returns-in-Some-clause-room : goal.returns-in-Some-clause-room
returns-in-Some-clause-room g c e setup t o s = cc

pub returns-in-Some-clause-stopped : goal.returns-in-Some-clause-stopped
returns-in-Some-clause-stopped g c f setup t o s =
    let now = c.loop-taken.invariant.stands setup t o s in (
      λ e. let same : c.in-Some.fault ≡ f = cc in sym now.stopped ∙ sym c.in-Some.ensures.value ∙ ap Some same,
      λ e. let same : Some c.in-Some.fault ≡ Some f = c.in-Some.ensures.value ∙ now.stopped ∙ e in cc,
    )

pub returns-in-Some-clause-stopped_at : goal.returns-in-Some-clause-stopped_at
returns-in-Some-clause-stopped_at g c f setup t o s e =
    let now = c.loop-taken.invariant.stands setup t o s in let same : c.in-Some.fault ≡ f = cc in
    record {
      printed = sym (append-nil _) ∙ ap (λ x. (o ++ take c.loop-taken.put c.loop-taken.output) ++ x) (sym (c.in-Some.ensures.idle refl)) ∙ now.pending;
      last = now.last;
      fault_of = sym now.stopped ∙ sym c.in-Some.ensures.value ∙ ap Some same;
    }

pub returns-in-None-clause-more : goal.returns-in-None-clause-more
returns-in-None-clause-more g c e setup t o s = cc

pub returns-in-None-clause-stopped_at : goal.returns-in-None-clause-stopped_at
returns-in-None-clause-stopped_at g c f setup t o s e = cc

pub returns-in-None-clause-stopped : goal.returns-in-None-clause-stopped
returns-in-None-clause-stopped g c f setup t o s =
    let now = c.loop-taken.invariant.stands setup t o s in
    (λ e. cc, λ e. let no : None ≡ Some f = c.in-None.ensures.value ∙ now.stopped ∙ e in cc)

pub returns-in-None-2-clause-more : goal.returns-in-None-2-clause-more
returns-in-None-2-clause-more g c e setup t o s =
    let now = c.loop-taken.invariant.stands setup t o s in
    let none : c.loop-taken.self.pending ≡ [] = empty_unless _ c.if-pending.ensures.1 in
    record {
      all = elim c.loop-taken-test.branch [
        | then-loop-taken-test+then-is_none+else-not-pending w ↦ omega (arith, w.if-not-pending.ensures.0 refl, ap length none)
        | then-loop-taken-test+else-is_none w ↦
            absurd (none_is_not_some w.stopped.result (c.in-None.ensures.value ∙ sym w.stopped.ensures.value) w.if-is_none.ensures)
        | else-loop-taken-test w ↦ omega arith
      ];
      printed = sym (append-nil _) ∙ ap (λ x. (o ++ take c.loop-taken.put c.loop-taken.output) ++ x) (sym none) ∙ now.pending;
    }

pub returns-in-None-2-clause-room : goal.returns-in-None-2-clause-room
returns-in-None-2-clause-room g c e setup t o s = cc

pub returns-in-None-2-clause-stopped_at : goal.returns-in-None-2-clause-stopped_at
returns-in-None-2-clause-stopped_at g c f setup t o s e = cc

pub returns-in-None-2-clause-stopped : goal.returns-in-None-2-clause-stopped
returns-in-None-2-clause-stopped g c f setup t o s =
    let now = c.loop-taken.invariant.stands setup t o s in
    (λ e. cc, λ e. let no : None ≡ Some f = c.in-None.ensures.value ∙ now.stopped ∙ e in cc)

pub returns-in-None-clause-room : goal.returns-in-None-clause-room
returns-in-None-clause-room g c e setup t o s =
    let now = c.loop-taken.invariant.stands setup t o s in let some = c.if-pending.ensures.0 refl in
    record {
      full = c.loop-taken.invariant.full some;
      more = omega (arith, some, ap length now.pending, length-append (o ++ take c.loop-taken.put c.loop-taken.output) c.loop-taken.self.pending);
    }

pub returns-in-None-2-clause-idle : goal.returns-in-None-2-clause-idle
returns-in-None-2-clause-idle g c e = empty_unless _ c.if-pending.ensures.1

pub returns-in-None-clause-waits : goal.returns-in-None-clause-waits
returns-in-None-clause-waits g c e = c.if-pending.ensures.0 refl

pub returns-in-Some-clause-idle : goal.returns-in-Some-clause-idle
returns-in-Some-clause-idle g c e = cc

pub returns-in-Some-clause-waits : goal.returns-in-Some-clause-waits
returns-in-Some-clause-waits g c e = cc

pub returns-in-Some-clause-byte : goal.returns-in-Some-clause-byte
returns-in-Some-clause-byte g c f e = grind arith

pub returns-in-None-clause-idle : goal.returns-in-None-clause-idle
returns-in-None-clause-idle g c e = cc

pub returns-in-None-clause-byte : goal.returns-in-None-clause-byte
returns-in-None-clause-byte g c f e = cc

pub returns-in-None-2-clause-waits : goal.returns-in-None-2-clause-waits
returns-in-None-2-clause-waits g c e = cc

pub returns-in-None-2-clause-byte : goal.returns-in-None-2-clause-byte
returns-in-None-2-clause-byte g c f e = cc
