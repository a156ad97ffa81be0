use Rattle.vp_receipt.proofs.act.draw.Goals as goal

pub returns-in-Page-clause-job : goal.returns-in-Page-clause-job
returns-in-Page-clause-job g c = c.none.ensures.job _
