use Rattle.std.proofs.lemmas.Bool.{both_ways}
use Rattle.vp_fields_by_band.proofs.Next.{heads_carried, heads_begun}
use Rattle.vp_fields_by_band.proofs.walk.Walk.passed.Goals as goal

pub returns-then-leads_to-clause-heads : goal.returns-then-leads_to-clause-heads
returns-then-leads_to-clause-heads g c = λ entries b table walk next is.
    rw c.link.ensures.value (heads_carried entries c.args.threads.now.links b c.args.n c.args.self walk next (c.leads_to.ensures.0 c.if-leads_to.true))

pub returns-else-leads_to-clause-heads : goal.returns-else-leads_to-clause-heads
returns-else-leads_to-clause-heads g c = λ entries b table walk next is.
    rw is (heads_begun entries c.args.threads.now.links b c.args.n c.args.self table walk next (λ e. both_ways c.leads_to.result c.if-leads_to.false (c.leads_to.ensures.1 e)))
