use Rattle.std.proofs.Common.{arith, sym, get_or, ◌+◌, ◌≡◌, ◌∙◌, ap}
use Rattle.std.proofs.lemmas.Simd.{length-chunk, get_or-chunk}
use Rattle.vp_dots.proofs.Unlike.{unlike_few, unlike_not}
use Rattle.vp_dots.proofs.lanes.edges.Goals as goal

pub returns-clause-few : goal.returns-clause-few
returns-clause-few g c = unlike_few g.row.N c.requires.lanes _ _ (length-chunk c.args.from g.row.N c.args.numbers.now (omega arith)) (length-chunk (c.args.from + 1) g.row.N c.args.numbers.now (omega arith))

pub returns-clause-alike : goal.returns-clause-alike
returns-clause-alike g c = λ i l z.
    let numbers = c.args.numbers.now in
    let e : c.args.from + i + 1 ≡ c.args.from + 1 + i = omega arith in
    ap (λ k. get_or numbers k 0) e ∙ sym (get_or-chunk (c.args.from + 1) g.row.N numbers i 0 l)
    ∙ sym (unlike_not g.row.N c.requires.lanes _ _ (length-chunk c.args.from g.row.N numbers (omega arith)) (length-chunk (c.args.from + 1) g.row.N numbers (omega arith)) i l z) ∙ get_or-chunk c.args.from g.row.N numbers i 0 l
