-- What describes a word, a command and the program to the parser.
use Rattle.std.specs.Prelude.{◌≡◌, false, List, []}
use Rattle.std.specs.Borrow.{Bor}
use Rattle.clap.specs.Words.{Rule, Shape, Text, app_of, rule_of}
use Rattle.clap.specs.declared.builder.arg.Arg.{Arg}
use Rattle.clap.specs.declared.builder.command.Command.{Command}
use Rattle.vp_command_line.specs.Words.{Choices, program, texts}

-- the argument has this rule, in its command alone
abbrev pub IsArg : Rule → Arg → Type 0
IsArg rule arg = (rule_of arg ≡ rule) × (arg.global ≡ false)

-- the same, of which the value is one of these
pub record IsChoice (rule : Bor (List (Bor Text)) → Rule) (values : List Text) (arg : Arg) : Type 0 where
  pub of : Bor (List (Bor Text))
  pub values_are : texts of ≡ values
  pub is : IsArg (rule of) arg

abbrev pub IsCommand : Shape → Command → Type 0
IsCommand shape command = app_of command ≡ record { top = shape; subs = [] }

pub record IsChoosing (shape : Bor (List (Bor Text)) → Shape) (values : List Text) (command : Command)
    : Type 0 where
  pub of : Bor (List (Bor Text))
  pub values_are : texts of ≡ values
  pub is : IsCommand (shape of) command

abbrev pub IsProgram : Choices → Command → Type 0
IsProgram choices command = app_of command ≡ program choices
