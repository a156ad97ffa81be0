use Rattle.vp_receipt.proofs.act.laid.Goals as goal

pub returns-in-PrintsPage-clause-job : goal.returns-in-PrintsPage-clause-job
returns-in-PrintsPage-clause-job g c = c.page_job.ensures.job _
