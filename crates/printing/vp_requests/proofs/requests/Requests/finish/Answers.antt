use Rattle.std.proofs.Common.{◌∙◌}
use Rattle.vp_requests.proofs.Arms.{of_label, last_of}
use Rattle.vp_requests.proofs.requests.Requests.finish.Goals as goal

pub returns-in-Label : goal.returns-in-Label
returns-in-Label c = λ language bytes told t.
    let of = of_label language c.args.self.now bytes told t c.in-Label.labels c.in-Label.is in
    c.short.ensures ∙ last_of language of.0 c.in-Label.labels bytes told of.1
