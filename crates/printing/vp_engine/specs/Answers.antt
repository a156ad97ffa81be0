-- What the answers of a step mean, where the printer then stands after t and o.
use Rattle.std.specs.Prelude.{◌≡◌, ◌<◌, ◌≤◌, ℕ, List, length, Some, None}
use Rattle.vp_dots.specs.declared.fault.Fault.{Fault}
use Rattle.vp_page.specs.declared.page.TheConstants.{PAGE_ROWS}
use Rattle.vp_receipt_settings.specs.declared.text.TheConstants.{LINE_ROWS}
use Rattle.vp_label_size.specs.declared.TheConstants.{BAND_ROWS}
use Rattle.vp_format.specs.declared.format.TheConstants.{STORED, FIELDS}
use Rattle.vp_engine.specs.declared.held.Held.{Held}
use Rattle.vp_engine.specs.declared.printer.State.TheVariants.{Stopped}
use Rattle.vp_engine.specs.declared.printer.Step.{Step}
use Rattle.vp_engine.specs.Bytes.{without_last}
use Rattle.vp_engine.specs.Paper.{paper, fault}
use Rattle.vp_engine.specs.Setups.{Setup, rules_of}

-- all input is taken, and all paper is put out
pub record IsMore (setup : Setup) (input : List ℕ) (taken : ℕ) (t o : List ℕ) : Type 0 where
  pub all : taken ≡ length input
  pub printed : o ≡ paper (rules_of setup) t

-- the output is full, and there is more paper
pub record IsRoom (setup : Setup) (output : List ℕ) (put : ℕ) (t o : List ℕ) : Type 0 where
  pub full : put ≡ length output
  pub more : length o < length (paper (rules_of setup) t)

-- all paper is put out, and the last byte made the fault
pub record IsStopped (setup : Setup) (f : Fault) (t o : List ℕ) : Type 0 where
  pub printed : o ≡ paper (rules_of setup) t
  pub last : fault (rules_of setup) (without_last t) ≡ None
  pub fault_of : fault (rules_of setup) t ≡ Some f

-- the fault is answered again, and nothing is done
pub record IsStill (f : Fault) (step : Step) : Type 0 where
  pub taken : step.taken ≡ 0
  pub put : step.put ≡ 0
  pub state : step.state ≡ Stopped f

-- no more is held than one line, one page, one band and one format
pub record IsBounded (held : Held) : Type 0 where
  pub line_rows : held.line_rows ≤ LINE_ROWS
  pub page_rows : held.page_rows ≤ PAGE_ROWS
  pub band_rows : held.band_rows ≤ BAND_ROWS
  pub stored : held.stored ≤ STORED
  pub fields : held.fields ≤ FIELDS
