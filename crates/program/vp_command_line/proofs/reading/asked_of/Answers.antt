use Rattle.std.proofs.Common.{ap, sym, ◌∙◌, List, map}
use Rattle.clap.specs.Faults.{fault_of, is_simple_and_free}
use Rattle.clap.specs.Words.{App, Text, is_simple, subcommand_of}
use Rattle.vp_command_line.specs.Asked.{asked_in}
use Rattle.vp_command_line.proofs.Program.{free, simple}
use Rattle.vp_command_line.proofs.reading.asked_of.Goals as goal

pub returns : goal.returns
returns c = λ c' choices is.
    let words : List Text = map c.S.AsStr.text c'.args.words.now in
    let parse = c'.in_ok-matches.ensures in
    let matches = parse.ok.2 (ap is_simple is ∙ simple choices) in
    let none = parse.kinds (ap is_simple_and_free is ∙ free choices) in (
      ap (λ (a : App). fault_of a words) (sym is) ∙ none,
      ap asked_in (ap (λ (a : App). subcommand_of a words) (sym is) ∙ sym matches.1) ∙ sym c'.asked.ensures,
    )
