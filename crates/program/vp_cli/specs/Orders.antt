-- What is done by an order.
use Rattle.std.specs.Prelude.{◌≡◌, ◌⊎◌, ℕ, List, Option, None, Some, Result, Ok, Err}
use Rattle.std.specs.Borrow.{Bor}
use Rattle.std.specs.Io.KnownBytes.{Appends}
use Rattle.vp_glyph.specs.Sheets.{Sheets}
use Rattle.vp_language.specs.declared.language.Language.{Language}
use Rattle.vp_engine.specs.Setups.{Setup, setup_of, Listing, ListingWithOffsets}
use Rattle.vp_join.specs.Passes.{IsExactly, Joins, never}
use Rattle.vp_join.specs.declared.fault.JoinFault.{JoinFault}
use Rattle.vp_picture.specs.Pictures.{HoldsFront, IsPictured, too_wide}
use Rattle.vp_command_line.specs.declared.order.Form.{Form}
use Rattle.vp_command_line.specs.declared.order.Form.TheVariants.{Pbm, Png}
use Rattle.vp_command_line.specs.declared.order.Order.{Order}
use Rattle.vp_command_line.specs.declared.order.Order.TheVariants as order
use Rattle.vp_command_line.specs.declared.order.Stream.{Stream}
use Rattle.vp_command_line.specs.declared.order.Task.{Task}
use Rattle.vp_command_line.specs.declared.order.Task.TheVariants as task
use Rattle.vp_exit_status.specs.Ends.{end_of_join}
use Rattle.vp_exit_status.specs.declared.stop.Stop.{Stop}
use Rattle.vp_exit_status.specs.declared.stop.Stop.TheVariants.{CannotOpen, Memory}
use Rattle.vp_cli.specs.Files.{AreSheets}
use Rattle.vp_cli.specs.declared.run.Work.{Work}
use Rattle.vp_cli.specs.declared.run.Work.TheVariants as work
use Rattle.vp_cli.specs.Sessions.{IsRun}

abbrev pub ended_joining : Result ℕ JoinFault → Result (Unit {0}) Stop
ended_joining (Ok height) = Ok tt
ended_joining (Err fault) = Err (end_of_join fault)

-- two readers were joined to an image of this form, as join's own contract says
abbrev pub AreJoined : Form → (a c b d held holds : Option (List ℕ)) → Result ℕ JoinFault → Type 0
AreJoined Pbm a c b d held holds answer = Joins a c b d (λ bytes. Appends held holds bytes) never answer
    × ((text : List ℕ) → a ≡ Some text → b ≡ Some text →
    IsExactly text (λ bytes. Appends held holds bytes) never answer)
AreJoined Png a c b d held holds answer =
    Joins a c b d (λ text. HoldsFront held holds text) too_wide answer
    × ((text : List ℕ) → a ≡ Some text → b ≡ Some text → IsPictured text held holds answer)

-- what is done with the sheets, in a language
abbrev pub setup_in : Language → Work → Setup
setup_in language (work.Print sheets) = setup_of language sheets
setup_in language work.List = Listing language
setup_in language work.ListWithOffsets = ListingWithOffsets language

abbrev pub set_up : Language → Result Work Stop → Result Setup Stop
set_up language (Ok work) = Ok (setup_in language work)
set_up language (Err stop) = Err stop

-- a session read and wrote from its beginning, or there was no memory for one
abbrev pub Does : (held holds : Option (List ℕ)) → Setup → (first last : Option (List ℕ))
    → Result (Unit {0}) Stop → Type 0
Does held holds setup first last ended =
    IsRun setup first last held holds ended ⊎ ((ended ≡ Err Memory) × (last ≡ first) × (holds ≡ held))

module _ {File : Type 0} (names : List ℕ → File → Type 0) (remaining : File → Option (List ℕ)) where
  -- what a printer is set up with, or why it isn't
  abbrev pub IsSetup : Language → Task → Result Setup Stop → Type 0
  IsSetup language (task.Print fonts) (Ok setup) =
      (sheets : Sheets) × AreSheets names remaining fonts (Ok sheets) × (setup ≡ setup_of language sheets)
  IsSetup language (task.Print fonts) (Err stop) = AreSheets names remaining fonts (Err stop)
  IsSetup language task.List setup = setup ≡ Ok (Listing language)
  IsSetup language task.ListWithOffsets setup = setup ≡ Ok (ListingWithOffsets language)

  -- an input before and after, the bytes that it has left, and what an output holds before and after
  module _ {Input : Type 0} (before after : Input) (left : Input → Option (List ℕ)) (held holds : Option (List ℕ))
    where
      -- what is read is the input, or where a file is named that file alone
      abbrev pub DoesWith : Setup → Option (Bor (List ℕ)) → Result (Unit {0}) Stop → Type 0
      DoesWith setup None ended = Does held holds setup (left before) (left after) ended
      DoesWith setup (Some name) ended = (after ≡ before)
          × (((ended ≡ Err (CannotOpen name)) × (holds ≡ held))
          ⊎ ((file : File) × names name.now file
          × (last : Option (List ℕ)) × Does held holds setup (remaining file) last ended))

      abbrev pub IsFollowed : Result Setup Stop → Option (Bor (List ℕ)) → Result (Unit {0}) Stop → Type 0
      IsFollowed (Ok setup) file ended = DoesWith setup file ended
      IsFollowed (Err stop) file ended = (ended ≡ Err stop) × (after ≡ before) × (holds ≡ held)

      -- a stream is printed or listed
      pub record IsCarriedOut (stream : Stream) (ended : Result (Unit {0}) Stop) : Type 0 where
        pub setup : Result Setup Stop
        pub is_setup : IsSetup stream.language stream.task setup
        pub followed : IsFollowed setup stream.file ended

  -- the images of a file, which is opened twice, are joined
  pub record IsJoining (name : Bor (List ℕ)) (form : Form) (held holds : Option (List ℕ))
      (ended : Result (Unit {0}) Stop) : Type 0 where
    pub first : File
    pub second : File
    pub first_named : names name.now first
    pub second_named : names name.now second
    pub first_last : Option (List ℕ)
    pub second_last : Option (List ℕ)
    pub answer : Result ℕ JoinFault
    pub joined : AreJoined form (remaining first) first_last (remaining second) second_last held holds answer
    pub ended_is : ended ≡ ended_joining answer

  abbrev pub AreOpenedAndJoined : Bor (List ℕ) → Form → (held holds : Option (List ℕ)) → Result (Unit {0}) Stop
      → Type 0
  AreOpenedAndJoined name form held holds ended =
      IsJoining name form held holds ended ⊎ ((ended ≡ Err (CannotOpen name)) × (holds ≡ held))

  abbrev pub IsObeyed : {Input : Type 0} → (before after : Input) → (Input → Option (List ℕ))
      → (held holds : Option (List ℕ)) → Order → Result (Unit {0}) Stop → Type 0
  IsObeyed before after left held holds (order.Read stream) ended =
      IsCarriedOut before after left held holds stream ended
  IsObeyed before after left held holds (order.Join name form) ended =
      (after ≡ before) × AreOpenedAndJoined name form held holds ended
