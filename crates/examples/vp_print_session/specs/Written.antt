-- What is written of what is read.
use Rattle.std.specs.Prelude.{ℕ, List, Option, Result, OnOk}
use Rattle.std.specs.Io.KnownBytes.{Consumes, Appends, IsAtEnd}
use Rattle.vp_engine.specs.Bytes.{IsPrefix}
use Rattle.vp_engine.specs.Paper.{paper}
use Rattle.vp_engine.specs.Session.{IsWhole}
use Rattle.vp_engine.specs.Setups.{Setup, rules_of}
use Rattle.vp_engine.specs.declared.session.Report.{Report}
use Rattle.vp_engine.specs.declared.session.RunFault.{RunFault}

-- A reader gave some bytes, and a writer took the beginning of their paper, whatever failed. Where the answer
-- is Ok these are all bytes that the reader had, they have no fault, and all of their paper is written.
pub record IsWritten (before after held holds : Option (List ℕ)) (setup : Setup)
    (answer : Result Report RunFault) : Type 0 where
  pub read : List ℕ
  pub written : List ℕ
  pub consumed : Consumes before after read
  pub appended : Appends held holds written
  pub begins : IsPrefix written (paper (rules_of setup) read)
  pub whole : OnOk answer (IsWhole (rules_of setup) read written (IsAtEnd after))
