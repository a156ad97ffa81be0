use Rattle.std.proofs.Common.{◌∙◌, ◌∷◌, [], sym, arith}
use Rattle.std.proofs.lemmas.Bool.Decides.{nat_tests}
use Rattle.std.proofs.lemmas.List.{take_at, length-map}
use Rattle.vp_zpl.specs.Shown.{shown_part, shown_parts}
use Rattle.vp_zpl.proofs.reader.ZplReader.end_parameter.Goals as goal

pub returns-then-is_full-clause-kept : goal.returns-then-is_full-clause-kept
returns-then-is_full-clause-kept c =
    sym (take_at (shown_parts c.args.self.now.sent.parameters.items) (shown_part c.args.self.now.part ∷ []) 8 (length-map c.args.self.now.sent.parameters.items shown_part ∙ (grind (arith, nat_tests))))
