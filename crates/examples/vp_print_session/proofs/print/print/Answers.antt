use Rattle.vp_engine.specs.Setups.{setup_of}
use Rattle.vp_print_session.proofs.Pumping.{ends, next}
use Rattle.vp_print_session.proofs.print.print.Goals as goal

pub returns-then-not-matches : goal.returns-then-not-matches
returns-then-not-matches g c =
    let setup = setup_of c.args.language c.args.sheets in
    ends _ _ _ _ setup c.again.session c.again.answer (c.paper_grows.ensures setup) c.again.invariant

pub again-preserved : goal.again-preserved
again-preserved g c =
    let setup = setup_of c.args.language c.args.sheets in
    let i = c.again.invariant in
    next _ _ _ _ _ _ setup _ _ _ _ i (c.pump-answer-in-again.ensures.pumps setup i.read i.written i.at)

pub returns : goal.returns
returns g c =
    let setup = setup_of c.args.language c.args.sheets in
    ends _ _ _ _ setup c.again.session c.again.answer (c.paper_grows.ensures setup) c.again.invariant
