-- What calls of `pump` come to, one after the other.
use Rattle.std.proofs.Common.{ℕ, List, [], ◌++◌, Option, Result, Ok, Err, OnOk, sym, ap, ◌∙◌, append_assoc}
use Rattle.std.proofs.KnownBytes.{Consumes-trans, Appends-trans}
use Rattle.std.specs.Io.KnownBytes.{Consumes, Appends, IsAtEnd}
use Rattle.vp_engine.specs.Bytes.{IsPrefix}
use Rattle.vp_engine.specs.Paper.{paper}
use Rattle.vp_engine.specs.Session.{Desk, IsAt, IsAnswer, IsWhole, Pumps}
use Rattle.vp_engine.specs.Setups.{Setup, rules_of}
use Rattle.vp_engine.specs.declared.session.Report.{Report}
use Rattle.vp_engine.specs.declared.session.RunFault.{RunFault}
use Rattle.vp_print_session.specs.Written.{IsWritten}

-- the calls so far read and wrote some bytes, and the last one's answer is about all of them
pub record IsPumped (before after held holds : Option (List ℕ)) (setup : Setup) (s : Desk) (answer : Result Report RunFault) : Type 0 where
  pub read : List ℕ
  pub written : List ℕ
  pub consumed : Consumes before after read
  pub appended : Appends held holds written
  pub at : IsAt setup s read written
  pub is : IsAnswer setup s answer read written (IsAtEnd after)

pub first : (before after held holds : Option (List ℕ)) (setup : Setup) (s : Desk) (answer : Result Report RunFault) →
    Pumps before after held holds setup s [] [] answer → IsPumped before after held holds setup s answer
first before after held holds setup s answer p = record {
  read = p.reaches.read;
  written = p.reaches.accepted;
  consumed = p.reaches.consumed;
  appended = p.reaches.appended;
  at = p.reaches.at;
  is = p.answer;
}

pub next : (before now after held has holds : Option (List ℕ)) (setup : Setup) (s q : Desk) (old new : Result Report RunFault)
    (i : IsPumped before now held has setup s old) → Pumps now after has holds setup q i.read i.written new → IsPumped before after held holds setup q new
next before now after held has holds setup s q old new i p = record {
  read = i.read ++ p.reaches.read;
  written = i.written ++ p.reaches.accepted;
  consumed = Consumes-trans before now after i.read p.reaches.read i.consumed p.reaches.consumed;
  appended = Appends-trans held has holds i.written p.reaches.accepted i.appended p.reaches.appended;
  at = p.reaches.at;
  is = p.answer;
}

whole_of : (setup : Setup) (s : Desk) (answer : Result Report RunFault) (r w : List ℕ) (end : Type 0) →
    IsAnswer setup s answer r w end → OnOk answer (IsWhole (rules_of setup) r w end)
whole_of setup s (Ok report) r w end a = a.whole
whole_of setup s (Err fault) r w end a = tt

pub ends : (before after held holds : Option (List ℕ)) (setup : Setup) (s : Desk) (answer : Result Report RunFault) →
    ((bytes more : List ℕ) → IsPrefix (paper (rules_of setup) bytes) (paper (rules_of setup) (bytes ++ more))) →
    IsPumped before after held holds setup s answer → IsWritten before after held holds setup answer
ends before after held holds setup s answer grows i =
    let a = i.at in
    let more = grows a.t s.unread in
    record {
      read = i.read;
      written = i.written;
      consumed = i.consumed;
      appended = i.appended;
      begins = (
        s.unwritten ++ (s.printer.pending ++ more.0),
        sym (append_assoc i.written s.unwritten (s.printer.pending ++ more.0)) ∙ ap (λ x. x ++ (s.printer.pending ++ more.0)) a.wrote
            ∙ sym (append_assoc a.o s.printer.pending more.0) ∙ ap (λ x. x ++ more.0) a.stands.pending ∙ more.1 ∙ ap (paper (rules_of setup)) a.read,
      );
      whole = whole_of setup s answer i.read i.written (IsAtEnd after) i.is;
    }
