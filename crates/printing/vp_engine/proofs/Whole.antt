-- Fronts of a whole input, of which a step took the next bytes and put out more.
use Rattle.std.proofs.Common.{◌≡◌, ℕ, ◌≤◌, ◌+◌, ◌-◌, List, ◌++◌, length, take, drop, Some, sym, ap, subst₂, ◌∙◌, arith}
use Rattle.std.proofs.lemmas.List.{take-append-drop}
use Rattle.vp_dots.specs.declared.fault.Fault.{Fault}
use Rattle.vp_engine.specs.Answers.{IsMore, IsStopped}
use Rattle.vp_engine.specs.Paper.{paper, fault, fault_at_end}
use Rattle.vp_engine.specs.Setups.{Setup, rules_of}
use Rattle.vp_engine.specs.Stands.{Engine, Stands}
use Rattle.vp_engine.proofs.Cuts.{front_more, length_part, take_all}
use Rattle.vp_engine.proofs.Faults.{fault_in_front}

-- what is left of the input
abbrev pub part : List ℕ → ℕ → List ℕ
part src at = take (length src - at) (drop at src)

module _ (setup : Setup) (src : List ℕ) (at n : ℕ) (o x new : List ℕ) (appended : new ≡ o ++ x) where
  -- in fronts
  fronts : (P : List ℕ → List ℕ → Type 0) → P (take at src ++ take n (part src at)) (o ++ x) → P (take (at + n) src) new
  fronts P p = subst₂ P (front_more at n src) (sym appended) p

  pub next_stands : (p q : Engine) → Stands setup p (take at src) o → ((t o : List ℕ) → Stands setup p t o → Stands setup q (t ++ take n (part src at)) (o ++ x)) → Stands setup q (take (at + n) src) new
  next_stands p q s step = fronts (Stands setup q) (step (take at src) o s)

  -- all is taken and printed
  pub all_taken : at ≤ length src → IsMore setup (part src at) n (take at src ++ take n (part src at)) (o ++ x) → take (at + n) src ≡ src
  all_taken h m = take_all (at + n) src (omega (arith, m.all, length_part at src))

  pub all_printed : at ≤ length src → IsMore setup (part src at) n (take at src ++ take n (part src at)) (o ++ x) → new ≡ paper (rules_of setup) src
  all_printed h m = (fronts (IsMore setup (part src at) n) m).printed ∙ ap (paper (rules_of setup)) (all_taken h m)

  -- the paper of a front that has a fault is that of all
  pub stopped_paper : (f : Fault) → ((bytes more : List ℕ) (f : Fault) → fault (rules_of setup) bytes ≡ Some f → paper (rules_of setup) (bytes ++ more) ≡ paper (rules_of setup) bytes) →
      IsStopped setup f (take at src ++ take n (part src at)) (o ++ x) → new ≡ paper (rules_of setup) src
  stopped_paper f stays stop =
      let s = fronts (IsStopped setup f) stop in
      s.printed ∙ sym (stays (take (at + n) src) (drop (at + n) src) f s.fault_of) ∙ ap (paper (rules_of setup)) (take-append-drop (at + n) src)

  pub stopped_fault : (f : Fault) → ((bytes more : List ℕ) (f : Fault) → fault (rules_of setup) bytes ≡ Some f → fault (rules_of setup) (bytes ++ more) ≡ Some f) →
      IsStopped setup f (take at src ++ take n (part src at)) (o ++ x) → fault_at_end (rules_of setup) src ≡ Some f
  stopped_fault f stays stop = fault_in_front (rules_of setup) src (at + n) f (λ bytes more e. stays bytes more f e) (fronts (IsStopped setup f) stop).fault_of
