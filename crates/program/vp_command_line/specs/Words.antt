-- The words that are read: the subcommands of the program, with their arguments.
use Rattle.std.specs.Prelude.{◌≡◌, true, false, List, [], ◌∷◌, map, Some, codes}
use Rattle.std.specs.Borrow.{Bor}
use Rattle.clap.specs.Words.{App, Rule, Shape, Text, new_rule}
use Rattle.clap.specs.Simple.{new_shape}
use Rattle.clap.specs.declared.builder.action.ArgAction.TheVariants.{SetTrue}
use Rattle.clap.specs.declared.builder.value_parser.ValueParser.TheVariants.{Names}

-- `--name`, which is given or not
abbrev pub flag : Text → Rule
flag name = record (new_rule name) { long = Some name; action = Some SetTrue }

-- `--name VALUE`
abbrev pub option : Text → Rule
option name = record (new_rule name) { long = Some name; value_names = 1 }

-- the same of which the value is one of these
abbrev pub choice : Text → Bor (List (Bor Text)) → Rule
choice name values = record (option name) { parser = Some (Names values) }

-- a word without a name
abbrev pub file : Rule
file = new_rule (codes "FILE")

abbrev pub wanted : Rule → Rule
wanted rule = record rule { required = true }

abbrev pub by_default : Text → Rule → Rule
by_default value rule = record rule { defaults = value ∷ [] }

abbrev pub command : Text → List Rule → Shape
command name rules = record (new_shape name) { rules = rules }

abbrev pub texts : Bor (List (Bor Text)) → List Text
texts values = map (λ s. s.now) values.now

-- the values that are chosen from, wherever they stand
pub record Choices : Type 0 where
  pub widths : Bor (List (Bor Text))
  pub languages : Bor (List (Bor Text))
  pub widths_are : texts widths ≡ codes "576" ∷ codes "384" ∷ []
  pub languages_are : texts languages ≡ codes "receipt" ∷ codes "label" ∷ []

abbrev pub receipt : Bor (List (Bor Text)) → Shape
receipt widths = command (codes "receipt") (
    by_default (codes "576") (choice (codes "width") widths)
    ∷ flag (codes "whole")
    ∷ option (codes "font-a")
    ∷ option (codes "font-b")
    ∷ file
    ∷ [])

abbrev pub label : Shape
label = command (codes "label") (flag (codes "whole") ∷ option (codes "font-a") ∷ file ∷ [])

abbrev pub list : Bor (List (Bor Text)) → Shape
list languages = command (codes "list") (
    wanted (choice (codes "lang") languages)
    ∷ flag (codes "whole")
    ∷ flag (codes "offsets")
    ∷ file
    ∷ [])

abbrev pub join : Shape
join = command (codes "join") (flag (codes "png") ∷ wanted file ∷ [])

-- the program itself, of which the version may be asked for, and a subcommand has to be named
abbrev pub top : Shape
top = record (new_shape (codes "vp")) { has_version = true; subcommand_required = true }

abbrev pub program : Choices → App
program choices = record {
  top = record top { is_leaf = false };
  subs = receipt choices.widths ∷ label ∷ list choices.languages ∷ join ∷ [];
}
