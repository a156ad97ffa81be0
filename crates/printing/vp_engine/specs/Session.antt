-- Where a session stands.
use Rattle.std.specs.Prelude.{◌≡◌, ◌≤◌, ℕ, Bool, true, false, List, [], ◌++◌, length, Option, None, Some, Result, Ok, Err, ◌⊎◌}
use Rattle.std.specs.Io.KnownBytes.{Consumes, Appends, IsAtEnd}
use Rattle.vp_dots.specs.declared.fault.Fault.{Fault}
use Rattle.vp_engine.specs.declared.session.Report.{Report}
use Rattle.vp_engine.specs.declared.session.RunFault.{RunFault}
use Rattle.vp_engine.specs.declared.session.RunFault.TheVariants.{Print, Read, Write, TooManyTurns}
use Rattle.vp_engine.specs.Bytes.{without_last}
use Rattle.vp_streams.specs.Count.{counted}
use Rattle.vp_engine.specs.Paper.{Rules, paper, fault, fault_at_end}
use Rattle.vp_engine.specs.Setups.{Setup, rules_of}
use Rattle.vp_engine.specs.Stands.{Engine, Stands}

-- a session: its printer, the bytes that were read and not taken, those that were put out and not written,
-- and the counts of the bytes that were taken and written
pub record Desk : Type 0 where
  pub printer : Engine
  pub unread : List ℕ
  pub unwritten : List ℕ
  pub taken : ℕ
  pub written : ℕ

-- how many bytes each of its two buffers holds
abbrev pub buffer_size : ℕ
buffer_size = 32768

-- the session has read r and written w
pub record IsAt (setup : Setup) (s : Desk) (r w : List ℕ) : Type 0 where
  pub t : List ℕ
  pub o : List ℕ
  pub stands : Stands setup s.printer t o
  pub read : t ++ s.unread ≡ r
  pub wrote : w ++ s.unwritten ≡ o
  pub taken : s.taken ≡ counted (length t)
  pub written : s.written ≡ counted (length w)
  pub unread_fit : length s.unread ≤ buffer_size
  pub unwritten_fit : length s.unwritten ≤ buffer_size

abbrev pub IsSomewhere : Desk → Type 0
IsSomewhere s = (setup : Setup) × (r : List ℕ) × (w : List ℕ) × IsAt setup s r w

-- a writer accepted some bytes more, and the session stands after them
pub record Accepts (before after : Option (List ℕ)) (setup : Setup) (s : Desk) (r w : List ℕ) : Type 0 where
  pub accepted : List ℕ
  pub appended : Appends before after accepted
  pub at : IsAt setup s r (w ++ accepted)

-- but for what is to be written nothing changed
pub record SameDesk (old new : Desk) : Type 0 where
  pub printer : new.printer ≡ old.printer
  pub unread : new.unread ≡ old.unread
  pub taken : new.taken ≡ old.taken

-- all that is printed is written
pub record IsDrained (s : Desk) : Type 0 where
  pub unwritten : s.unwritten ≡ []
  pub pending : s.printer.pending ≡ []

-- nothing is left to do before more is read
pub record IsSettled (s : Desk) : Type 0 where
  pub unwritten : s.unwritten ≡ []
  pub pending : s.printer.pending ≡ []
  pub unread : s.printer.stopped ≡ None → s.unread ≡ []

-- the printer stopped by a fault after `after` bytes, and all its paper is written
pub record HasEnded (s : Desk) (f : Fault) (after : ℕ) : Type 0 where
  pub stopped : s.printer.stopped ≡ Some f
  pub drained : IsDrained s
  pub after_is : s.taken ≡ after

-- a reader gave some bytes, and the session stands after them
pub record Reads (before after : Option (List ℕ)) (setup : Setup) (s : Desk) (r w : List ℕ) : Type 0 where
  pub read : List ℕ
  pub consumed : Consumes before after read
  pub at : IsAt setup s (r ++ read) w

-- but for what was read nothing changed
pub record SamePrinter (old new : Desk) : Type 0 where
  pub printer : new.printer ≡ old.printer
  pub unwritten : new.unwritten ≡ old.unwritten
  pub taken : new.taken ≡ old.taken
  pub written : new.written ≡ old.written

module _ {Item : Type 0} (rules : Rules Item) where
  -- all of r is printed without a fault, all of its paper is written, and the reader has no more
  pub record IsWhole (r w : List ℕ) (end : Type 0) : Type 0 where
    pub paper_of : w ≡ paper rules r
    pub fault_of : fault_at_end rules r ≡ None
    pub at_end : end

  -- it ended by its first fault, which the last byte of t made
  pub record IsFirstFault (f : Fault) (t : List ℕ) (stays : Type 0) : Type 0 where
    pub fault_of : fault rules t ≡ Some f
    pub last : fault rules (without_last t) ≡ None
    pub ended : stays

  -- all was taken without one, and the reader has no more
  pub record IsEnding (f : Fault) (t rest : List ℕ) (end : Type 0) : Type 0 where
    pub all : rest ≡ []
    pub no_fault : fault rules t ≡ None
    pub fault_of : fault_at_end rules t ≡ Some f
    pub at_end : end

  -- a front t of r was taken, w is its paper, and the fault is its first, or that of ending where it is all
  -- of r
  pub record StopsAt (f : Fault) (after : ℕ) (r w : List ℕ) (stays end : Type 0) : Type 0 where
    pub t : List ℕ
    pub rest : List ℕ
    pub split : t ++ rest ≡ r
    pub after_is : after ≡ counted (length t)
    pub paper_of : w ≡ paper rules t
    pub fault_is : IsFirstFault f t stays ⊎ IsEnding f t rest end

-- all is printed, and its bytes are counted
pub record IsReported (setup : Setup) (s : Desk) (report : Report) (r w : List ℕ) (end : Type 0)
    : Type 0 where
  pub whole : IsWhole (rules_of setup) r w end
  pub none_left : s.unread ≡ []
  pub taken : report.taken ≡ counted (length r)
  pub written : report.written ≡ counted (length w)

abbrev pub IsAnswer : Setup → Desk → Result Report RunFault → List ℕ → List ℕ → Type 0 → Type 0
IsAnswer setup s (Ok report) r w end = IsReported setup s report r w end
IsAnswer setup s (Err (Print f after)) r w end = StopsAt (rules_of setup) f after r w (HasEnded s f after) end
IsAnswer setup s (Err Read) r w end = Unit {0}
IsAnswer setup s (Err Write) r w end = Unit {0}
IsAnswer setup s (Err TooManyTurns) r w end = Unit {0}

-- a call read and wrote some bytes, and the session stands after them
pub record Reaches (before after held holds : Option (List ℕ)) (setup : Setup) (s : Desk) (r w : List ℕ)
    : Type 0 where
  pub read : List ℕ
  pub accepted : List ℕ
  pub consumed : Consumes before after read
  pub appended : Appends held holds accepted
  pub at : IsAt setup s (r ++ read) (w ++ accepted)

-- and its answer is about all of them
pub record Pumps (before after held holds : Option (List ℕ)) (setup : Setup) (s : Desk) (r w : List ℕ)
    (result : Result Report RunFault) : Type 0 where
  pub reaches : Reaches before after held holds setup s r w
  pub answer : IsAnswer setup s result (r ++ reaches.read) (w ++ reaches.accepted) (IsAtEnd after)

-- a call that did nothing but answer the fault again
pub record IsAgain (f : Fault) (after : ℕ) (result : Result Report RunFault) (old new : Desk) : Type 0 where
  pub answer : result ≡ Err (Print f after)
  pub same : new ≡ old

abbrev pub is_read_fault : {T : Type 0} → Result T RunFault → Bool
is_read_fault (Err Read) = true
is_read_fault _ = false

abbrev pub is_write_fault : {T : Type 0} → Result T RunFault → Bool
is_write_fault (Err Write) = true
is_write_fault _ = false
