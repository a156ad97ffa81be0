use Rattle.std.proofs.Common.{ap, subst, ◌∙◌, arith, take, length}
use Rattle.vp_engine.specs.Setups.{setup_of}
use Rattle.std.specs.Io.KnownBytes.{Consumes}
use Rattle.vp_print_stream.proofs.Reading.{part_less, answer_of, stands, goes_on, none_pending, reads_on, ends, stops, length_part, from_start}
use Rattle.vp_print_stream.proofs.print.print.Goals as goal
use Rattle.vp_print_stream.proofs.print.print.Goals.{in-Room, in-More+in_ok-to-in-More+else-to-eq0}

pub returns-in-Stopped : goal.returns-in-Stopped
returns-in-Stopped g c =
    let setup = setup_of c.args.language c.args.sheets in
    let i = c.steps.invariant in
    stops _ _ setup _ _ _ _ _ _ c.step-step.result.taken i.reading c.in_ok-extend_from_slice.ensures.items c.step-step.ensures.stands c.in-Stopped.fault
    (c.step-step.ensures.stopped_at c.in-Stopped.fault setup i.reading.taken c.steps.paper.items i.reading.stands c.in-Stopped.is)
    (c.nothing_follows_a_fault.ensures.fault setup) (c.nothing_follows_a_fault.ensures.paper setup)

pub finish-requires : goal.finish-requires
finish-requires g c =
    let setup = setup_of c.args.language c.args.sheets in
    let i = c.steps.invariant in
    none_pending _ _ setup _ _ _ _ _ _ c.step-step.result.taken i.reading c.in_ok-extend_from_slice.ensures.items c.step-step.ensures.stands
    (c.step-step.ensures.more c.in-More.is setup i.reading.taken c.steps.paper.items i.reading.stands)

pub returns-then-to-eq0 : goal.returns-then-to-eq0
returns-then-to-eq0 g c =
    let setup = setup_of c.args.language c.args.sheets in
    let i = c.steps.invariant in
    let e = c.step-step.ensures in
    let appended = c.in_ok-extend_from_slice.ensures.items in
    let bytes = c.in_ok-to-in-More.ensures.bytes in
    let none = c.if-to-eq0.true in
    ends _ _ setup _ _ _ _ _ _ c.step-step.result.taken i.reading appended e.stands
    (e.more c.in-More.is setup i.reading.taken c.steps.paper.items i.reading.stands)
    _ _ (subst (λ n. Consumes (g.R.Read.remaining c.steps.reader) (g.R.Read.remaining c.read.new.self) (take n c.read.new.buf)) none bytes.0) (bytes.1 none (omega arith))
    (c.err.ensures.value ∙ answer_of c.finish.result _ (c.finish.ensures setup _ _ (stands _ _ setup _ _ _ _ _ _ c.step-step.result.taken i.reading appended e.stands)))

pub steps-preserved : goal.steps-preserved
steps-preserved g c =
    let setup = setup_of c.args.language c.args.sheets in
    let i = c.steps.invariant in
    let e = c.step-step.ensures in
    let n = c.step-step.result.taken in
    let appended = c.in_ok-extend_from_slice.ensures.items in
    let most = length_part c.steps.input c.steps.from c.steps.to in
    elim c.match-step.branch [
      | in-Room w ↦ record {
        order = omega (arith, w.from-is, w.to-is, e.taken, most, i.order);
        fits = omega (arith, w.to-is, ap length w.input-is, i.fits);
        reading = rw (w.reader-is, w.input-is, w.from-is, w.to-is)
            (goes_on _ _ setup _ _ _ _ _ _ n i.reading appended e.stands _ (part_less c.steps.input c.steps.from c.steps.to n (omega (arith, e.taken, most))));
      }
      | in-More+in_ok-to-in-More+else-to-eq0 w ↦ record {
        order = omega (arith, w.from-is);
        fits = omega (arith, w.to-is, ap length w.input-is, w.in_ok-to-in-More.ensures.bound);
        reading = rw (w.reader-is, w.input-is, w.from-is, w.to-is)
            (reads_on _ _ setup _ _ _ _ _ _ n i.reading appended e.stands
            (e.more w.in-More.is setup i.reading.taken c.steps.paper.items i.reading.stands)
            _ _ _ (from_start w.read.new.buf w.in_ok-to-in-More.to) w.in_ok-to-in-More.ensures.bytes.0);
      }
    ]
