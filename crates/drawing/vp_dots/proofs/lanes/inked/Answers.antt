use Rattle.std.proofs.Common.{ℕ, arith, sym, replicate, ◌∙◌}
use Rattle.std.proofs.lemmas.Simd.{length-chunk, get_or-chunk, length-replicate, get_or-replicate}
use Rattle.vp_dots.proofs.Unlike.{unlike_few, unlike_not}
use Rattle.vp_dots.proofs.lanes.inked.Goals as goal

pub returns-clause-few : goal.returns-clause-few
returns-clause-few g c = unlike_few g.row.N c.requires.lanes _ (replicate {A = ℕ} g.row.N 0) (length-chunk c.args.from g.row.N c.args.numbers.now (omega arith)) (length-replicate {A = ℕ} g.row.N 0)

pub returns-clause-white : goal.returns-clause-white
returns-clause-white g c = λ i l z.
    sym (get_or-chunk c.args.from g.row.N c.args.numbers.now i 0 l)
    ∙ unlike_not g.row.N c.requires.lanes _ (replicate {A = ℕ} g.row.N 0) (length-chunk c.args.from g.row.N c.args.numbers.now (omega arith)) (length-replicate {A = ℕ} g.row.N 0) i l z ∙ get_or-replicate g.row.N i 0 0 l
