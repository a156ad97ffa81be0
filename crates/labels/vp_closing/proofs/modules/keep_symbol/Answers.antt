use Rattle.std.proofs.Common.{◌∙◌, ◌++◌, ap}
use Rattle.vp_closing.proofs.Rows.{made_is}
use Rattle.vp_closing.proofs.modules.keep_symbol.Goals as goal

pub returns-clause-stored : goal.returns-clause-stored
returns-clause-stored g c =
    let old = c.args.format.now.stored in
    c.keep_rows.ensures.stored ∙ ap (λ xs. old ++ xs)
    (made_is old c.stored-stored.result.now c.bytes_of-src.result.now c.args.start c.bytes_from.result c.args.asked c.code_of.result c.escape_of.result c.in-Ok.matrix
    c.stored-stored.ensures.bytes c.bytes_from.ensures.value c.bytes_of-src.ensures c.code_of.ensures c.escape_of.ensures c.in-Ok.ensures.symbol)
