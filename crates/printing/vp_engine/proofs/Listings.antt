-- Listings: how many lines there are, and what a session's answer says of them.
use Rattle.std.proofs.Common.{◌≡◌, ℕ, List, [], ◌++◌, length, reverse, Option, Ok, Err, ◌⊎◌, arith, length-append}
use Rattle.std.proofs.lemmas.Grind.{common_steps}
use Rattle.std.proofs.lemmas.List.{length-reverse}
use Rattle.vp_dots.specs.declared.fault.Fault.{Fault}
use Rattle.vp_engine.specs.declared.session.Report.{Report}
use Rattle.vp_engine.specs.declared.session.RunFault.{RunFault}
use Rattle.vp_engine.specs.Bytes.{IsPrefix}
use Rattle.vp_streams.specs.Count.{counted, grown}
use Rattle.vp_engine.specs.Listing.{lines, ListsBy}
use Rattle.vp_engine.specs.Paper.{history, before_fault, fault, paper}
use Rattle.vp_engine.specs.Session.{Desk, IsFirstFault, IsEnding, HasEnded, Pumps}
use Rattle.vp_engine.specs.Setups.{Setup, Item, rules_of}
use Rattle.vp_engine.proofs.Desks.{written_front}
use Rattle.vp_engine.proofs.Faults.{before_whole, none_first}

pub lines_more : {Item : Type 0} (old new n : ℕ) (before added : List Item) → old ≡ counted (length before) → new ≡ grown old n → length added ≡ n → new ≡ counted (length (reverse added ++ before))
lines_more old new n before added e f l = omega (arith, e, f, l, length-append (reverse added) before, length-reverse added)

-- a setup whose paper is a listing
module _ (setup : Setup) (line : Item setup → List ℕ) (before after held holds : Option (List ℕ)) (s : Desk)
    (grows : (bytes more : List ℕ) → IsPrefix (paper (rules_of setup) bytes) (paper (rules_of setup) (bytes ++ more))) where
  -- all items are listed
  pub lists_all : (report : Report) (n : ℕ) → (p : Pumps before after held holds setup s [] [] (Ok report)) →
      ((bytes : List ℕ) → paper (rules_of setup) bytes ≡ lines (rules_of setup) line (before_fault (rules_of setup) bytes)) →
      n ≡ counted (length (history (rules_of setup) (before_fault (rules_of setup) p.reaches.read))) → ListsBy (rules_of setup) line before after held holds (Ok n)
  lists_all report n p law count = grind (arith, common_steps, before_whole, none_first)

  stops : (f : Fault) (after : ℕ) (t rest : List ℕ) (end : Type 0) → IsFirstFault (rules_of setup) f t (HasEnded s f after) ⊎ IsEnding (rules_of setup) f t rest end →
      IsFirstFault (rules_of setup) f t (Unit {0}) ⊎ IsEnding (rules_of setup) f t rest end
  stops f after t rest end h = grind arith

  -- it ends early
  pub lists_some : (fault : RunFault) → Pumps before after held holds setup s [] [] (Err fault) → ListsBy (rules_of setup) line before after held holds (Err fault)
  lists_some fault p = record {
    read = p.reaches.read;
    accepted = p.reaches.accepted;
    consumed = p.reaches.consumed;
    appended = p.reaches.appended;
    front = written_front setup s p.reaches.read p.reaches.accepted p.reaches.at grows;
    answer = grind arith;
  }
