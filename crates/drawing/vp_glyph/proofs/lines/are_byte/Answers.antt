use Rattle.std.proofs.Common.{take, sym, ap, ◌∙◌, eqb}
use Rattle.std.proofs.lemmas.List.{length-take-le, get_or-take}
use Rattle.vp_glyph.proofs.Plain.{other_byte}
use Rattle.vp_glyph.proofs.lines.are_byte.Goals as goal

pub returns : goal.returns
returns c = λ i l z. ap (λ v. eqb v c.args.byte) (sym (get_or-take 16 c.args.text.now i 0 l)) ∙ other_byte c.args.byte (take 16 c.args.text.now) i (length-take-le 16 c.args.text.now c.requires) l z
