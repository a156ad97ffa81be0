use Rattle.std.proofs.Common.{ap, arith, get_or, length, replicate, ℕ, ◌∙◌}
use Rattle.std.proofs.lemmas.List.{get_or_past}
use Rattle.vp_dots.specs.Words.{word_dot}
use Rattle.vp_glyph.proofs.Gathered.{grown_end}
use Rattle.vp_glyph.proofs.Joining.{rows_white}
use Rattle.vp_glyph.proofs.Looks.{white_dot}
use Rattle.vp_glyph.proofs.stretch.halves_of.Goals as goal

pub returns-then-cell-ge24 : goal.returns-then-cell-ge24
returns-then-cell-ge24 c = λ r d l m. rows_white r d _ _ (grown_end (λ r d. word_dot (get_or c.args.cell.now r 0) d) 24 (replicate {A = ℕ} 24 0) c.add_halves.new.halves (λ r d n k. absurd (omega (arith, n, k))) c.add_halves.ensures r d l m)

pub returns : goal.returns
returns c = λ r d l m. rows_white r d _ _
    (grown_end (λ r d. word_dot (get_or c.args.cell.now r 0) d) (length c.args.cell.now) (replicate {A = ℕ} 24 0) c.add_halves-2.new.halves (λ r d n k. ap (λ v. word_dot v d) (get_or_past c.args.cell.now r 0 (omega (arith, n))) ∙ white_dot d) c.add_halves-2.ensures r d l m)
