-- What is printed of what is read.
use Rattle.std.specs.Prelude.{◌≡◌, ℕ, List, Option, None}
use Rattle.std.specs.Io.KnownBytes.{Consumes, IsAtEnd}
use Rattle.vp_dots.specs.declared.fault.Fault.{Fault}
use Rattle.vp_engine.specs.Paper.{paper, fault, fault_at_end}
use Rattle.vp_engine.specs.Setups.{Setup, rules_of}

-- A reader gave some bytes: these are their paper and their first fault, or that of ending there. Where the
-- bytes have no fault, the reader has no more.
pub record IsPrinted (before after : Option (List ℕ)) (setup : Setup) (printed : List ℕ)
    (first : Option Fault) : Type 0 where
  pub read : List ℕ
  pub consumed : Consumes before after read
  pub paper_of : printed ≡ paper (rules_of setup) read
  pub fault_of : first ≡ fault_at_end (rules_of setup) read
  pub at_end : fault (rules_of setup) read ≡ None → IsAtEnd after
