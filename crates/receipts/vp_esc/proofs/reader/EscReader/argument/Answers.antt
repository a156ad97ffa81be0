use Rattle.std.proofs.Common.{◌≡◌, ◌≤◌, true, false, length, arith}
use Rattle.std.proofs.lemmas.Bool.Decides.{nat_tests}
use Rattle.vp_esc.specs.Command.{lists}
use Rattle.vp_esc.proofs.Phases.{argument_lands, argument_unknown, argument_none}
use Rattle.vp_esc.proofs.reader.EscReader.argument.Goals as goal
use Rattle.vp_esc.proofs.reader.EscReader.argument.Goals.{else-is_empty-via-then-is_empty+else-not-lists, else-is_empty-via-else-is_empty}

pub returns-then-not-lists : goal.returns-then-not-lists
returns-then-not-lists c rest hand =
    let un : lists c.args.self.now.reading c.args.command c.args.byte ≡ false = grind (arith, nat_tests, c.lists.ensures, c.if-not-lists.true) in
    let none : length c.args.self.now.kept.items ≤ 0 = grind (arith, nat_tests, c.is_empty.ensures, c.if-is_empty.true) in
    c.pass_over.ensures rest c.args.byte (argument_unknown c.args.self.now c.args.command rest c.args.byte hand none un)
    (argument_none c.args.self.now c.args.command rest hand)

pub returns : goal.returns
returns c rest hand =
    let first : length c.args.self.now.kept.items ≡ 0 → lists c.args.self.now.reading c.args.command c.args.byte ≡ true =
    λ z. elim c.else-is_empty.branch [
      | else-is_empty-via-then-is_empty+else-not-lists w ↦ grind (arith, nat_tests, w.lists.ensures, w.if-not-lists)
      | else-is_empty-via-else-is_empty w ↦ grind (arith, nat_tests, c.is_empty.ensures, w.if-is_empty)
    ] in
    argument_lands c.args.self.now c.args.command rest c.args.byte c.keep.new.kept.items _ _ hand
    (grind arith) c.keep.ensures c.land.ensures
