-- Where a printer stands after a run of bytes and all that they print.
use Rattle.std.proofs.Common.{◌≡◌, ℕ, ◌<◌, ◌≤◌, ◌+◌, ◌-◌, List, [], ◌∷◌, ◌++◌, length, take, drop, get_or, zero, suc, reverse, append_assoc, Option, None, refl, sym, ap, subst, ◌∙◌, arith}
use Rattle.std.specs.Option.{option_or}
use Rattle.std.proofs.lemmas.List.{reverse-append, append-nil, append_cancel_left, take_more, take-append-drop}
use Rattle.std.proofs.Math.Seq.{take-length}
use Rattle.vp_dots.specs.declared.fault.Fault.{Fault}
use Rattle.vp_engine.specs.Setups.{Setup}
use Rattle.vp_engine.specs.Bytes.{IsPrefix, without_last}
use Rattle.vp_engine.specs.Machines.{MachineStands}
use Rattle.vp_engine.specs.Takes.{AreAccepted, TakesRun}
use Rattle.vp_engine.specs.Paper.{Rules, Reads, history, printed, newest_refusal, fault_at, fault, paper}
use Rattle.vp_engine.specs.Setups.{Item, rules_of}
use Rattle.vp_engine.specs.Stands.{Engine, Stands}
use Rattle.vp_engine.proofs.Faults.{sticks, fault_more, fault_stays, before_whole, newest_accepted, all_known, paper_is, bytes_grow}

module _ {Item : Type 0} (rules : Rules Item) where
  -- the newest of accepted items is not refused, wherever they are cut
  pub newest_of : (a more before : List Item) → AreAccepted rules before (a ++ more) → newest_refusal rules before ≡ None → newest_refusal rules (reverse a ++ before) ≡ None
  newest_of [] more before q e = e
  newest_of (i ∷ a) more before q e =
      ap (newest_refusal rules) (ap (λ x. x ++ before) (reverse-append (i ∷ []) a) ∙ append_assoc (reverse a) (i ∷ []) before) ∙ newest_of a more (i ∷ before) q.1 q.0

  module _ (reads : Reads rules.reading) (t run text : List ℕ) (none : fault rules t ≡ None) (added : List Item)
      (gives : rules.reading.items (t ++ run) ≡ rules.reading.items t ++ added) (known : rules.reading.fault_of (t ++ run) ≡ None) (accepted : AreAccepted rules (history rules t) added)
      (prints : printed rules (reverse added ++ history rules t) ≡ printed rules (history rules t) ++ text) where
    -- nowhere in the run is a fault
    front_sound : (front rest : List ℕ) → front ++ rest ≡ run → fault_at rules (t ++ front) ≡ None
    front_sound front rest e =
        let all : (t ++ front) ++ rest ≡ t ++ run = append_assoc t front rest ∙ ap (λ x. t ++ x) e in
        let a = reads.grows t front in let m = reads.grows (t ++ front) rest in
        let cut : a.0 ++ m.0 ≡ added =
        append_cancel_left (rules.reading.items t) (a.0 ++ m.0) added
        (sym (append_assoc (rules.reading.items t) a.0 m.0) ∙ ap (λ (x : List Item). x ++ m.0) a.1 ∙ m.1 ∙ ap rules.reading.items all ∙ gives) in
        let hi : history rules (t ++ front) ≡ reverse a.0 ++ history rules t = ap reverse (sym a.1) ∙ reverse-append (rules.reading.items t) a.0 in
        ap (λ f. option_or f (newest_refusal rules (history rules (t ++ front)))) (sticks rules.reading reads (t ++ front) rest (ap rules.reading.fault_of all ∙ known))
        ∙ ap (newest_refusal rules) hi ∙ newest_of a.0 m.0 (history rules t) (subst (AreAccepted rules (history rules t)) (sym cut) accepted) (newest_accepted rules reads t none)

    sound_to : (n : ℕ) → n ≤ length run → fault rules (t ++ take n run) ≡ None
    sound_to zero h = ap (fault rules) (append-nil t) ∙ none
    sound_to (suc n) h =
        let less : n < length run = omega arith in
        let next : t ++ take (suc n) run ≡ (t ++ take n run) ++ get_or run n 0 ∷ [] =
        ap (λ k. t ++ take k run) (let e : suc n ≡ n + 1 = omega arith in e) ∙ ap (λ x. t ++ x) (take_more run n 0 less) ∙ sym (append_assoc t (take n run) (get_or run n 0 ∷ [])) in
        ap (fault rules) next ∙ fault_more rules (t ++ take n run) (get_or run n 0)
        ∙ ap (λ f. option_or f (fault_at rules ((t ++ take n run) ++ get_or run n 0 ∷ []))) (sound_to n (omega arith))
        ∙ ap (fault_at rules) (sym next) ∙ front_sound (take (suc n) run) (drop (suc n) run) (take-append-drop (suc n) run)

    pub run_sound : fault rules (t ++ run) ≡ None
    run_sound = ap (λ x. fault rules (t ++ x)) (sym (take-length run)) ∙ sound_to (length run) (omega arith)

    pub run_history : history rules (t ++ run) ≡ reverse added ++ history rules t
    run_history = ap reverse gives ∙ reverse-append (rules.reading.items t) added

    pub run_prints : paper rules t ++ text ≡ paper rules (t ++ run)
    run_prints = grind (arith, paper_is, before_whole, run_history, run_sound)

  none_before : (front rest : List ℕ) (f : Option Fault) → fault rules front ≡ f → fault rules (front ++ rest) ≡ None → fault rules front ≡ None
  none_before front rest f e h = grind (arith, fault_stays)

  -- without the last byte there is no fault either
  pub last_sound : (t : List ℕ) → fault rules t ≡ None → fault rules (without_last t) ≡ None
  last_sound t e = none_before (without_last t) (drop (length t - 1) t) _ refl (ap (fault rules) (take-append-drop (length t - 1) t) ∙ e)

  pub last_grows : (t : List ℕ) → Reads rules.reading → IsPrefix (paper rules (without_last t)) (paper rules t)
  last_grows t reads = subst (λ x. IsPrefix (paper rules (without_last t)) (paper rules x)) (take-append-drop (length t - 1) t) (bytes_grow rules reads (without_last t) (drop (length t - 1) t))

-- a run of bytes, and all that they print
pub stands_run : (setup : Setup) (p q : Engine) (t o run text : List ℕ) → Reads (rules_of setup).reading → Stands setup p t o → p.pending ≡ [] → p.stopped ≡ None →
    ((before : List (Item setup)) → MachineStands p.machine setup t before → (rules_of setup).reading.fault_of t ≡ None → TakesRun (rules_of setup) (MachineStands q.machine setup) t before run text) →
    q.pending ≡ [] → q.stopped ≡ None → Stands setup q (t ++ run) (o ++ text)
stands_run setup p q t o run text reads s idle running takes pe st =
    let none : fault (rules_of setup) t ≡ None = sym s.stopped ∙ running in
    let at : MachineStands p.machine setup t (history (rules_of setup) t) = subst (λ x. MachineStands p.machine setup t (history (rules_of setup) x)) (before_whole (rules_of setup) t none) s.machine in
    let r = takes (history (rules_of setup) t) at (all_known (rules_of setup) reads t none) in
    let sound = run_sound (rules_of setup) reads t run text none r.added r.gives r.known r.accepted r.prints in
    let more = run_prints (rules_of setup) reads t run text none r.added r.gives r.known r.accepted r.prints in
    let hi = ap (history (rules_of setup)) (before_whole (rules_of setup) (t ++ run) sound) ∙ run_history (rules_of setup) reads t run text none r.added r.gives r.known r.accepted r.prints in
    let put : o ++ text ≡ paper (rules_of setup) (t ++ run) =
    ap (λ x. x ++ text) (sym (append-nil o) ∙ ap (λ x. o ++ x) (sym idle) ∙ s.pending) ∙ more in
    let grows = last_grows (rules_of setup) (t ++ run) reads in
    record {
      machine = subst (MachineStands q.machine setup (t ++ run)) (sym hi) r.stands;
      stopped = st ∙ sym sound;
      pending = ap (λ x. (o ++ text) ++ x) pe ∙ append-nil (o ++ text) ∙ put;
      before = (grows.0, grows.1 ∙ sym put);
      last = last_sound (rules_of setup) (t ++ run) sound;
    }
