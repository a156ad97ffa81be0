-- What a run of the program does by its words.
use Rattle.std.specs.Prelude.{◌≡◌, ◌⊎◌, ℕ, List, Option, Result, Ok, Err}
use Rattle.std.specs.declared.io.ErrorKind.{ErrorKind as IoKind}
use Rattle.std.specs.declared.io.ErrorKind.TheVariants.{InvalidData}
use Rattle.clap.specs.Words.{Text, kind_of}
use Rattle.clap.specs.declared.error.Error.{Error}
use Rattle.clap.specs.declared.error.kind.ErrorKind.{ErrorKind}
use Rattle.clap.specs.declared.error.kind.ErrorKind.TheVariants.{DisplayHelp, DisplayVersion, OutOfMemory}
use Rattle.vp_command_line.specs.Asked.{IsAnswer}
use Rattle.vp_command_line.specs.Words.{Choices}
use Rattle.vp_command_line.specs.declared.order.Order.{Order}
use Rattle.vp_exit_status.specs.Statuses.{status_of}
use Rattle.vp_exit_status.specs.declared.stop.Stop.{Stop}
use Rattle.vp_cli.specs.Orders.{IsObeyed}

-- 0 where all was done
abbrev pub exit_status : Result (Unit {0}) Stop → ℕ
exit_status (Ok done) = 0
exit_status (Err stop) = status_of stop

-- 0 where help or the version was asked for, 4 where memory is wanting, and else 2: the words are wrong
abbrev pub usage_status : ErrorKind → ℕ
usage_status DisplayHelp = 0
usage_status DisplayVersion = 0
usage_status OutOfMemory = 4
usage_status kind = 2

-- where the words can't be had: 2 where one of them is no text, else 4
abbrev pub status_without_words : IoKind → ℕ
status_without_words InvalidData = 2
status_without_words kind = 4

module _ {File Input : Type 0} (names : List ℕ → File → Type 0) (remaining : File → Option (List ℕ))
    (before after : Input) (left : Input → Option (List ℕ)) (held holds : Option (List ℕ)) where
  -- an order is obeyed; else nothing is read, and nothing written but help and the version
  abbrev pub IsRunBy : Result Order Error → ℕ → Type 0
  IsRunBy (Ok order) status = (ended : Result (Unit {0}) Stop)
      × IsObeyed names remaining before after left held holds order ended × (status ≡ exit_status ended)
  IsRunBy (Err error) status =
      (after ≡ before) × (status ≡ usage_status (kind_of error)) × ((status ≡ 0) ⊎ (holds ≡ held))

  -- the words are answered by the table of the program's words, and so it is run
  pub record IsRunOf (words : List Text) (status : ℕ) : Type 0 where
    pub choices : Choices
    pub answer : Result Order Error
    pub answered : IsAnswer choices words answer
    pub run_by : IsRunBy answer status
