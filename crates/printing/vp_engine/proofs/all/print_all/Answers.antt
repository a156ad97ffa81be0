use Rattle.std.proofs.Common.{◌≤◌, length, take, sym, ap, ◌∙◌, arith, length-append, length-take-le}
use Rattle.vp_engine.specs.Paper.{paper, fault_at_end}
use Rattle.vp_engine.specs.Setups.{setup_of, rules_of}
use Rattle.vp_engine.proofs.Cuts.{length_part}
use Rattle.vp_engine.proofs.Faults.{no_longer}
use Rattle.vp_engine.proofs.Steps.{answer_of}
use Rattle.vp_engine.proofs.Whole.{next_stands, all_taken, all_printed, stopped_paper, stopped_fault}
use Rattle.vp_engine.proofs.all.print_all.Goals as goal

pub returns-in-More-clause-paper : goal.returns-in-More-clause-paper
returns-in-More-clause-paper g c =
    let setup = setup_of c.args.language c.args.sheets in let i = c.steps.invariant in
    all_printed setup c.args.src.now c.steps.at c.step-step.result.taken c.steps.paper.items (take c.step-step.result.put c.step-step.new.output) _ c.in_ok-extend_from_slice.ensures.items i.at (c.step-step.ensures.more c.in-More.is setup (take c.steps.at c.args.src.now) c.steps.paper.items i.stands)

pub returns-in-More-clause-fault : goal.returns-in-More-clause-fault
returns-in-More-clause-fault g c =
    let setup = setup_of c.args.language c.args.sheets in let e = c.step-step.ensures in let i = c.steps.invariant in
    let appended = c.in_ok-extend_from_slice.ensures.items in
    let now = next_stands setup c.args.src.now c.steps.at c.step-step.result.taken c.steps.paper.items (take c.step-step.result.put c.step-step.new.output) _ appended _ _ i.stands (e.stands setup) in
    c.err.ensures.value ∙ answer_of c.finish.result _ (c.finish.ensures setup _ _ now)
    ∙ ap (fault_at_end (rules_of setup)) (all_taken setup c.args.src.now c.steps.at c.step-step.result.taken c.steps.paper.items (take c.step-step.result.put c.step-step.new.output) _ appended i.at (e.more c.in-More.is setup (take c.steps.at c.args.src.now) c.steps.paper.items i.stands))

pub steps-smaller : goal.steps-smaller
steps-smaller g c =
    let setup = setup_of c.args.language c.args.sheets in let src = c.args.src.now in let e = c.step-step.ensures in
    let i = c.steps.invariant in let appended = c.in_ok-extend_from_slice.ensures.items in
    let now = next_stands setup src c.steps.at c.step-step.result.taken c.steps.paper.items (take c.step-step.result.put c.step-step.new.output) _ appended _ _ i.stands (e.stands setup) in
    let room = e.room c.in-Room.is setup (take c.steps.at c.args.src.now) c.steps.paper.items i.stands in
    let most : length c.extend_from_slice.new.self.items ≤ length (paper (rules_of setup) src) = no_longer (rules_of setup) _ _ src _ (c.paper_grows.ensures setup) now.pending in
    omega (arith, room.full, most, ap length appended, length-append c.steps.paper.items (take c.step-step.result.put c.step-step.new.output), length-take-le c.step-step.result.put c.step-step.new.output)

pub steps-preserved : goal.steps-preserved
steps-preserved g c =
    let setup = setup_of c.args.language c.args.sheets in let e = c.step-step.ensures in let i = c.steps.invariant in
    record {
      at = omega (arith, e.taken, length_part c.steps.at c.args.src.now);
      stands = next_stands setup c.args.src.now c.steps.at c.step-step.result.taken c.steps.paper.items (take c.step-step.result.put c.step-step.new.output) _ c.in_ok-extend_from_slice.ensures.items _ _ i.stands (e.stands setup);
    }

pub returns-in-Stopped-clause-paper : goal.returns-in-Stopped-clause-paper
returns-in-Stopped-clause-paper g c =
    let setup = setup_of c.args.language c.args.sheets in
    stopped_paper setup c.args.src.now c.steps.at c.step-step.result.taken c.steps.paper.items (take c.step-step.result.put c.step-step.new.output) _ c.in_ok-extend_from_slice.ensures.items c.in-Stopped.fault (c.nothing_follows_a_fault.ensures.paper setup)
    (c.step-step.ensures.stopped_at c.in-Stopped.fault setup (take c.steps.at c.args.src.now) c.steps.paper.items c.steps.invariant.stands c.in-Stopped.is)

pub returns-in-Stopped-clause-fault : goal.returns-in-Stopped-clause-fault
returns-in-Stopped-clause-fault g c =
    let setup = setup_of c.args.language c.args.sheets in
    sym (stopped_fault setup c.args.src.now c.steps.at c.step-step.result.taken c.steps.paper.items (take c.step-step.result.put c.step-step.new.output) _ c.in_ok-extend_from_slice.ensures.items c.in-Stopped.fault (c.nothing_follows_a_fault.ensures.fault setup)
    (c.step-step.ensures.stopped_at c.in-Stopped.fault setup (take c.steps.at c.args.src.now) c.steps.paper.items c.steps.invariant.stands c.in-Stopped.is))
