use Rattle.std.proofs.Common.{◌∙◌, ◌++◌, ap}
use Rattle.vp_closing.proofs.Rows.{made_if_is}
use Rattle.vp_closing.proofs.modules.keep_made.Goals as goal

pub returns-clause-stored : goal.returns-clause-stored
returns-clause-stored g c =
    let old = c.args.format.now.stored in
    let p = c.args.parts.now in
    c.keep_symbol.ensures.stored ∙ ap (λ xs. old ++ xs)
    (made_if_is old p.symbol p.content c.in-Some-symbol.symbol c.in-Some.content c.in-Matrix.choice c.in-Data.start c.in-Some-symbol.is c.in-Matrix.is c.in-Some.is c.in-Data.is)
