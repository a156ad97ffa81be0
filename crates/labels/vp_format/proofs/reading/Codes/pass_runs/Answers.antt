use Rattle.vp_format.proofs.reading.Codes.pass_runs.Goals as goal

pub returns-clause-passed : goal.returns-clause-passed
returns-clause-passed c = λ width all r.
    rw (c.go_on_to.ensures.advanced.bytes, c.go_on_to.ensures.at) (c.pass_runs-x.ensures.passed width all r)
