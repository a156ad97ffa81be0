-- How far a stream is read, taken and printed.
use Rattle.std.proofs.Common.{◌≡◌, ℕ, ◌≤◌, ◌+◌, ◌-◌, List, [], ◌++◌, length, take, drop, Option, None, Some, MatchResult, Result, Ok, Err, sym, ap, subst, ◌∙◌, arith, append_assoc}
use Rattle.std.proofs.lemmas.List.{append-nil, append_cancel_left, take-append-drop, length-take, drop-take, drop-drop}
use Rattle.std.proofs.Math.Seq.{take-length}
use Rattle.std.proofs.KnownBytes.{Consumes-trans}
use Rattle.std.specs.Io.KnownBytes.{Consumes, IsAtEnd}
use Rattle.std.specs.Option.{option_or}
use Rattle.std.specs.Result.{result_err}
use Rattle.vp_dots.specs.declared.fault.Fault.{Fault}
use Rattle.vp_engine.specs.Answers.{IsMore, IsStopped}
use Rattle.vp_engine.specs.Paper.{paper, fault, ending, fault_at_end}
use Rattle.vp_engine.specs.Setups.{Setup, rules_of}
use Rattle.vp_engine.specs.Stands.{Engine, Stands}
use Rattle.vp_print_stream.specs.Printed.{IsPrinted}

-- the input from one place to another
abbrev pub part : List ℕ → ℕ → ℕ → List ℕ
part input from to = take (to - from) (drop from input)

pub from_start : (input : List ℕ) (to : ℕ) → take to input ≡ part input 0 to
from_start input to = let e : to ≡ to - 0 = omega arith in ap (λ k. take k input) e

pub part_less : (input : List ℕ) (from to n : ℕ) → n ≤ to - from → drop n (part input from to) ≡ part input (from + n) to
part_less input from to n h =
    let m = to - (from + n) in
    let e : to - from ≡ n + m = omega arith in
    ap (λ k. drop n (take k (drop from input))) e ∙ drop-take n m (drop from input) ∙ ap (take m) (drop-drop n from input)

pub length_part : (input : List ℕ) (from to : ℕ) → length (part input from to) ≤ to - from
length_part input from to = omega (arith, length-take (to - from) (drop from input))

-- the fault that `finish` answers
pub answer_of : (result : Result (Unit {0}) Fault) (first : Option Fault) → MatchResult result (λ _. first ≡ None) (λ f. first ≡ Some f) → result_err result ≡ first
answer_of (Ok done) first e = sym e
answer_of (Err f) first e = sym e

-- a reader gave what is taken and this rest
pub record IsReading (before after : Option (List ℕ)) (setup : Setup) (p : Engine) (rest printed : List ℕ) : Type 0 where
  pub taken : List ℕ
  pub consumed : Consumes before after (taken ++ rest)
  pub stands : Stands setup p taken printed

-- after a step that took n bytes of the rest and put some out
module _ (before now : Option (List ℕ)) (setup : Setup) (p q : Engine) (rest printed out new : List ℕ) (n : ℕ)
    (r : IsReading before now setup p rest printed) (appended : new ≡ printed ++ out)
    (step : (setup : Setup) (t o : List ℕ) → Stands setup p t o → Stands setup q (t ++ take n rest) (o ++ out)) where
  pub stands : Stands setup q (r.taken ++ take n rest) new
  stands = subst (Stands setup q (r.taken ++ take n rest)) (sym appended) (step setup r.taken printed r.stands)

  all_read : (r.taken ++ take n rest) ++ drop n rest ≡ r.taken ++ rest
  all_read = append_assoc r.taken (take n rest) (drop n rest) ∙ ap (λ x. r.taken ++ x) (take-append-drop n rest)

  pub goes_on : (left : List ℕ) → drop n rest ≡ left → IsReading before now setup q left new
  goes_on left e = subst (λ left. IsReading before now setup q left new) e (record { taken = r.taken ++ take n rest; consumed = subst (Consumes before now) (sym all_read) r.consumed; stands = stands })

  -- all is taken and printed
  module _ (m : IsMore setup rest n (r.taken ++ take n rest) (printed ++ out)) where
    pub none_pending : q.pending ≡ []
    none_pending = append_cancel_left new q.pending [] (stands.pending ∙ sym m.printed ∙ sym appended ∙ sym (append-nil new))

    consumed : Consumes before now (r.taken ++ take n rest)
    consumed = subst (Consumes before now) (sym (ap (λ k. r.taken ++ take k rest) m.all ∙ ap (λ x. r.taken ++ x) (take-length rest))) r.consumed

    pub reads_on : (after : Option (List ℕ)) (more left : List ℕ) → more ≡ left → Consumes now after more → IsReading before after setup q left new
    reads_on after more left is e = subst (λ left. IsReading before after setup q left new) is (record { taken = r.taken ++ take n rest; consumed = Consumes-trans before now after _ more consumed e; stands = stands })

    pub ends : (after : Option (List ℕ)) (first : Option Fault) → Consumes now after [] → IsAtEnd after → first ≡ fault_at_end (rules_of setup) (r.taken ++ take n rest) → IsPrinted before after setup new first
    ends after first e end f = record {
      read = r.taken ++ take n rest;
      consumed = subst (Consumes before after) (append-nil (r.taken ++ take n rest)) (Consumes-trans before now after _ [] consumed e);
      paper_of = appended ∙ m.printed;
      fault_of = f;
      at_end = λ none. end;
    }

  -- a fault has come
  pub stops : (f : Fault) → IsStopped setup f (r.taken ++ take n rest) (printed ++ out) →
      ((bytes more : List ℕ) (f : Fault) → fault (rules_of setup) bytes ≡ Some f → fault (rules_of setup) (bytes ++ more) ≡ Some f) →
      ((bytes more : List ℕ) (f : Fault) → fault (rules_of setup) bytes ≡ Some f → paper (rules_of setup) (bytes ++ more) ≡ paper (rules_of setup) bytes) →
      IsPrinted before now setup new (Some f)
  stops f s stays nothing =
      let still : fault (rules_of setup) (r.taken ++ rest) ≡ Some f = ap (fault (rules_of setup)) (sym all_read) ∙ stays (r.taken ++ take n rest) (drop n rest) f s.fault_of in
      record {
        read = r.taken ++ rest;
        consumed = r.consumed;
        paper_of = appended ∙ s.printed ∙ sym (nothing (r.taken ++ take n rest) (drop n rest) f s.fault_of) ∙ ap (paper (rules_of setup)) all_read;
        fault_of = sym (ap (λ first. option_or first (ending (rules_of setup) (r.taken ++ rest))) still);
        at_end = λ none. let no : None ≡ Some f = sym none ∙ still in cc;
      }
