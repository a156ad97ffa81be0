use Rattle.std.proofs.Common.{◌≡◌, ℕ, ◌-◌, ◌≤◌, List, [], ◌∷◌, get_or, length, take, drop, sym, ap, arith}
use Rattle.std.proofs.lemmas.Grind.{common_steps}
use Rattle.std.proofs.lemmas.List.{take_all}
use Rattle.vp_glyph.specs.Blocks.{pieces}
use Rattle.vp_glyph.specs.declared.lines.Piece.TheVariants.{Cell}
use Rattle.vp_glyph.proofs.lines.next_piece.Goals as goal

backslash_first : (text : List ℕ) → 2 ≤ length text → get_or text 0 0 ≡ 92 → get_or text 1 0 ≡ 92 → pieces text ≡ Cell 92 ∷ pieces (take (length text - 2) (drop 2 text))
backslash_first [] l p q = absurd (omega arith)
backslash_first (b ∷ []) l p q = absurd (omega arith)
backslash_first (b ∷ next ∷ text) l p q = rw (p, q) (ap (λ (t : List ℕ). Cell 92 ∷ pieces t) (sym (take_all _ text (omega arith))))

pub returns-in-92-2 : goal.returns-in-92-2
returns-in-92-2 c = backslash_first c.args.text.now (omega arith) (omega arith) (omega arith)

pub returns-in-92 : goal.returns-in-92
returns-in-92 c = grind (arith, common_steps)

pub returns-in-len1-up : goal.returns-in-len1-up
returns-in-len1-up c = grind (arith, common_steps)
