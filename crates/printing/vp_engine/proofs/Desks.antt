-- Where a session stands after it did something.
use Rattle.std.proofs.Common.{subst, ◌≡◌, ℕ, ◌<◌, ◌≤◌, ◌+◌, ◌-◌, ◌^◌, min, List, [], ◌++◌, length, take, drop, length-drop, Option, Some, None, refl, sym, ap, ◌∙◌, arith, length-append, append_assoc}
use Rattle.std.proofs.lemmas.Grind.{common_steps}
use Rattle.std.proofs.lemmas.List.{append-nil, take-append-drop, length-take-le}
use Rattle.std.specs.Io.KnownBytes.{Keeps}
use Rattle.vp_engine.specs.Setups.{Setup, rules_of}
use Rattle.vp_streams.specs.Count.{counted, grown}
use Rattle.vp_engine.specs.Stands.{Stands}
use Rattle.vp_engine.specs.Bytes.{IsPrefix}
use Rattle.vp_engine.specs.Session.{Desk, IsAt, Accepts, Reads, Reaches, IsDrained, HasEnded, IsReported, StopsAt, buffer_size}
use Rattle.vp_dots.specs.declared.fault.Fault.{Fault}
use Rattle.vp_engine.specs.Paper.{paper, fault_at_end}
use Rattle.vp_engine.specs.declared.session.Report.{Report}

take_nil : (n : ℕ) → n ≤ 0 → take {A = ℕ} n [] ≡ []
take_nil n h = grind arith

-- one read more in a call
pub reads_more : (start now next n : ℕ) → (n ≡ 0 → now ≡ start) → (0 < n → now ≡ grown start n) → next ≡ grown now 1 → next ≡ grown start (n + 1)
reads_more start now next n first later e = grind arith

pub none_of : (f : Option Fault) → ((x : Fault) → f ≡ Some x → ⊥) → f ≡ None
none_of f h = grind arith

module _ (setup : Setup) where
  -- nothing is accepted
  pub at_still : (s q : Desk) (r w : List ℕ) → IsAt setup s r w → q ≡ s → IsAt setup q r (w ++ [])
  at_still s q r w a e = rw (append-nil w, e) a

  -- bytes that are accepted, and then more
  pub accepts_more : (a b c : Option (List ℕ)) (s q : Desk) (r w : List ℕ) → Accepts a b setup s r w → ((v : List ℕ) → IsAt setup s r v → Accepts b c setup q r v) → Accepts a c setup q r w
  accepts_more a b c s q r w h f =
      let k = f (w ++ h.accepted) h.at in
      record {
        accepted = h.accepted ++ k.accepted;
        appended = grind (arith, append_assoc);
        at = rw (← append_assoc w h.accepted k.accepted) k.at;
      }

  -- nothing is accepted
  pub accepts_none : (a b : Option (List ℕ)) (s q : Desk) (r w : List ℕ) → Keeps a b → q ≡ s → IsAt setup s r w → Accepts a b setup q r w
  accepts_none a b s q r w k e h =
      record { accepted = []; appended = grind (arith, append-nil); at = at_still s q r w h e }

  pub accepts_start : (a : Option (List ℕ)) (s : Desk) (r w : List ℕ) → IsAt setup s r w → Accepts a a setup s r w
  accepts_start a s r w h =
      record { accepted = []; appended = grind (arith, append-nil); at = at_still s s r w h refl }

  -- n bytes of the output are accepted
  pub at_wrote : (s q : Desk) (r w slice : List ℕ) (n : ℕ) → IsAt setup s r w → slice ≡ s.unwritten → n ≤ length slice → q.printer ≡ s.printer → q.unread ≡ s.unread → q.taken ≡ s.taken →
      q.unwritten ≡ drop n s.unwritten → q.written ≡ min (s.written + n) (2 ^ 64 - 1) → IsAt setup q r (w ++ take n slice)
  at_wrote s q r w slice n a e h pr un ta wr co = grind (arith, common_steps)

  -- the printer takes n bytes of the input, and what it puts out is held
  pub at_steps : (s q : Desk) (r w slice : List ℕ) (n : ℕ) → IsAt setup s r w → slice ≡ s.unread → n ≤ length slice → s.unwritten ≡ [] →
      ((t o : List ℕ) → Stands setup s.printer t o → Stands setup q.printer (t ++ take n slice) (o ++ q.unwritten)) →
      q.unread ≡ drop n s.unread → q.taken ≡ min (s.taken + n) (2 ^ 64 - 1) → q.written ≡ s.written → length q.unwritten ≤ buffer_size → IsAt setup q r w
  at_steps s q r w slice n a e h none st un ta wr fit = record {
    t = a.t ++ take n slice;
    o = a.o ++ q.unwritten;
    stands = st a.t a.o a.stands;
    read = append_assoc a.t (take n slice) q.unread ∙ ap (λ x. a.t ++ x) (ap (λ x. take n x ++ q.unread) e ∙ ap (λ x. take n s.unread ++ x) un ∙ take-append-drop n s.unread) ∙ a.read;
    wrote = ap (λ x. x ++ q.unwritten) (sym (append-nil w) ∙ ap (λ x. w ++ x) (sym none) ∙ a.wrote);
    taken = (omega arith)
        ∙ ap counted (sym (length-append a.t (take n slice)
        ∙ ap (λ k. length a.t + k) (length-take-le n slice h)));
    written = wr ∙ a.written;
    unread_fit = omega (arith, a.unread_fit, ap length un, length-drop n s.unread);
    unwritten_fit = fit;
  }

  -- the printer puts out more, with no input
  pub at_refills : (s q : Desk) (r w : List ℕ) (n : ℕ) → IsAt setup s r w → n ≤ 0 → s.unwritten ≡ [] →
      ((t o : List ℕ) → Stands setup s.printer t o → Stands setup q.printer (t ++ take n []) (o ++ q.unwritten)) →
      q.unread ≡ s.unread → q.taken ≡ s.taken → q.written ≡ s.written → length q.unwritten ≤ buffer_size → IsAt setup q r w
  at_refills s q r w n a h none st un ta wr fit = record {
    t = a.t;
    o = a.o ++ q.unwritten;
    stands = subst (λ x. Stands setup q.printer x (a.o ++ q.unwritten)) (ap (λ x. a.t ++ x) (take_nil n h) ∙ append-nil a.t) (st a.t a.o a.stands);
    read = ap (λ x. a.t ++ x) un ∙ a.read;
    wrote = ap (λ x. x ++ q.unwritten) (sym (append-nil w) ∙ ap (λ x. w ++ x) (sym none) ∙ a.wrote);
    taken = ta ∙ a.taken;
    written = wr ∙ a.written;
    unread_fit = omega (arith, a.unread_fit, ap length un);
    unwritten_fit = fit;
  }

  -- bytes are accepted, and then the session goes on with none
  pub accepts_then : (a b : Option (List ℕ)) (s q : Desk) (r w : List ℕ) → Accepts a b setup s r w → ((v : List ℕ) → IsAt setup s r v → IsAt setup q r v) → Accepts a b setup q r w
  accepts_then a b s q r w h f = record { accepted = h.accepted; appended = h.appended; at = f (w ++ h.accepted) h.at }

  -- bytes are read
  pub at_fills : (s q : Desk) (r w : List ℕ) → IsAt setup s r w → s.unread ≡ [] → q.printer ≡ s.printer → q.unwritten ≡ s.unwritten → q.taken ≡ s.taken → q.written ≡ s.written → length q.unread ≤ buffer_size → IsAt setup q (r ++ q.unread) w
  at_fills s q r w a none pr un ta wr fit = grind (arith, append-nil)

  -- what was read and written so far, and then what is accepted more
  pub reaches_accepts : (a b c d e : Option (List ℕ)) (s q : Desk) (r w : List ℕ) → Reaches a b c d setup s r w → ((u v : List ℕ) → IsAt setup s u v → Accepts d e setup q u v) → Reaches a b c e setup q r w
  reaches_accepts a b c d e s q r w h f =
      let k = f (r ++ h.read) (w ++ h.accepted) h.at in
      record {
        read = h.read;
        accepted = h.accepted ++ k.accepted;
        consumed = h.consumed;
        appended = grind (arith, append_assoc);
        at = rw (← append_assoc w h.accepted k.accepted) k.at;
      }

  pub reaches_takes : (a b c d e : Option (List ℕ)) (s q : Desk) (r w : List ℕ) → Reaches a b d e setup s r w → ((u v : List ℕ) → IsAt setup s u v → Reads b c setup q u v) → Reaches a c d e setup q r w
  reaches_takes a b c d e s q r w h f =
      let k = f (r ++ h.read) (w ++ h.accepted) h.at in
      record {
        read = h.read ++ k.read;
        accepted = h.accepted;
        consumed = grind (arith, append_assoc);
        appended = h.appended;
        at = rw (← append_assoc r h.read k.read) k.at;
      }

  pub reaches_start : (a b : Option (List ℕ)) (s : Desk) (r w : List ℕ) → IsAt setup s r w → Reaches a a b b setup s r w
  reaches_start a b s r w h = record {
    read = [];
    accepted = [];
    consumed = grind arith;
    appended = grind (arith, append-nil);
    at = rw (append-nil r, append-nil w) h;
  }

  pub all_taken : (s : Desk) (r w : List ℕ) → (a : IsAt setup s r w) → s.unread ≡ [] → a.t ≡ r
  all_taken s r w a un = sym (append-nil a.t) ∙ ap (λ x. a.t ++ x) (sym un) ∙ a.read

  pub stop_answer : (s : Desk) (r w : List ℕ) (f : Fault) (after : ℕ) (end : Type 0) → IsAt setup s r w → IsDrained s → s.printer.stopped ≡ Some f → after ≡ s.taken →
      StopsAt (rules_of setup) f after r w (HasEnded s f after) end
  stop_answer s r w f after end a d st ta = grind (arith, common_steps)

  pub whole_answer : (s : Desk) (r w : List ℕ) (report : Report) (end : Type 0) → IsAt setup s r w → IsDrained s → s.unread ≡ [] →
      ((t o : List ℕ) → Stands setup s.printer t o → fault_at_end (rules_of setup) t ≡ None) → report.taken ≡ s.taken → report.written ≡ s.written → end → IsReported setup s report r w end
  whole_answer s r w report end a d un fi ta wr e = grind (arith, common_steps)

  pub end_answer : (s : Desk) (r w : List ℕ) (f : Fault) (after : ℕ) (end : Type 0) → IsAt setup s r w → IsDrained s → s.unread ≡ [] → s.printer.stopped ≡ None →
      ((t o : List ℕ) → Stands setup s.printer t o → fault_at_end (rules_of setup) t ≡ Some f) → after ≡ s.taken → end → StopsAt (rules_of setup) f after r w (HasEnded s f after) end
  end_answer s r w f after end a d un run fi ta e = grind (arith, common_steps)

  -- a new session
  -- what is written is a front of the paper of what is read
  pub written_front : (s : Desk) (r w : List ℕ) → IsAt setup s r w → ((bytes more : List ℕ) → IsPrefix (paper (rules_of setup) bytes) (paper (rules_of setup) (bytes ++ more))) → IsPrefix w (paper (rules_of setup) r)
  written_front s r w a grows =
      let more = grows a.t s.unread in (
        s.unwritten ++ (s.printer.pending ++ more.0),
        sym (append_assoc w s.unwritten (s.printer.pending ++ more.0)) ∙ ap (λ x. x ++ (s.printer.pending ++ more.0)) a.wrote
            ∙ sym (append_assoc a.o s.printer.pending more.0) ∙ ap (λ x. x ++ more.0) a.stands.pending ∙ more.1 ∙ ap (paper (rules_of setup)) a.read,
      )
