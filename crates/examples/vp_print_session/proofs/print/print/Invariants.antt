use Rattle.vp_engine.specs.Setups.{setup_of}
use Rattle.vp_print_session.proofs.Pumping.{IsPumped}
use Rattle.vp_print_session.proofs.print.print.Given as goal

abbrev pub invariant-again : goal.invariant-again
invariant-again g l = IsPumped (g.S.Source.remaining l.fn.reader) (g.S.Source.remaining l.reader) (g.K.Sink.contents l.fn.writer) (g.K.Sink.contents l.writer)
    (setup_of l.fn.language l.fn.sheets) l.session l.answer
