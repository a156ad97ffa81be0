use Rattle.std.proofs.Common.{◌≡◌, None, sym, ap, ◌∙◌, arith}
use Rattle.std.proofs.lemmas.Result.{err_from_is_err_and}
use Rattle.vp_engine.specs.Session.{IsDrained}
use Rattle.vp_engine.specs.Stands.{Engine}
use Rattle.vp_engine.proofs.Desks.{reaches_start, reaches_accepts, reaches_takes, stop_answer, whole_answer, end_answer, none_of, reads_more}
use Rattle.vp_engine.proofs.session.Session.run.Goals as goal

pub turns-init : goal.turns-init
turns-init g c = grind (arith, reaches_start)

pub returns-in_err-settle-clause-pumps : goal.returns-in_err-settle-clause-pumps
returns-in_err-settle-clause-pumps g c setup r w a =
    let p = err_from_is_err_and c.from_residual.result c.from_residual.ensures.1 in
    record {
      reaches = reaches_accepts setup _ _ _ _ _ _ _ r w (c.turns.invariant.reaches setup r w a) (λ u v h. c.settle.ensures.at setup u v h);
      answer = rw (p.1, p.2, c.in_err-settle.ensures.err.0) tt;
    }

pub returns-in-Some-clause-pumps : goal.returns-in-Some-clause-pumps
returns-in-Some-clause-pumps g c setup r w a =
    let k = reaches_accepts setup _ _ _ _ _ _ _ r w (c.turns.invariant.reaches setup r w a) (λ u v h. c.settle.ensures.at setup u v h) in
    let d = c.in_ok-settle.ensures.ok.0 in
    record {
      reaches = k;
      answer = stop_answer setup c.settle.new.self _ _ c.in-Some.fault _ _ k.at (record { unwritten = d.unwritten; pending = d.pending }) (sym c.in-Some.ensures.value) c.report-report.ensures.taken;
    }

pub returns-in_err-n-clause-pumps : goal.returns-in_err-n-clause-pumps
returns-in_err-n-clause-pumps g c setup r w a =
    let p = err_from_is_err_and c.from_residual-in_err-n.result c.from_residual-in_err-n.ensures.1 in
    let j = reaches_accepts setup _ _ _ _ _ _ _ r w (c.turns.invariant.reaches setup r w a) (λ u v h. c.settle.ensures.at setup u v h) in
    record {
      reaches = reaches_takes setup _ _ _ _ _ _ _ r w j (λ u v h. c.fill.ensures.at setup u v h);
      answer = rw (p.1, p.2, c.in_err-n.ensures.err.0) tt;
    }

pub returns-in-Ok-clause-pumps : goal.returns-in-Ok-clause-pumps
returns-in-Ok-clause-pumps g c setup r w a =
    let j = reaches_accepts setup _ _ _ _ _ _ _ r w (c.turns.invariant.reaches setup r w a) (λ u v h. c.settle.ensures.at setup u v h) in
    let k = reaches_takes setup _ _ _ _ _ _ _ r w j (λ u v h. c.fill.ensures.at setup u v h) in
    let d = c.in_ok-settle.ensures.ok.0 in let s = c.fill.ensures.same in
    let z = c.in_ok-n.ensures.end c.if-n-eq0.true in
    let dr : IsDrained c.fill.new.self = record { unwritten = s.unwritten ∙ d.unwritten; pending = ap (λ (p : Engine). p.pending) s.printer ∙ d.pending } in
    record {
      reaches = k;
      answer = whole_answer setup c.fill.new.self _ _ c.report-report.result _ k.at dr z.0 (c.in-Ok.ensures setup) (c.report-report.ensures.taken ∙ sym s.taken) (c.report-report.ensures.written ∙ sym s.written) z.1;
    }

pub returns-in-Err-clause-pumps : goal.returns-in-Err-clause-pumps
returns-in-Err-clause-pumps g c setup r w a =
    let j = reaches_accepts setup _ _ _ _ _ _ _ r w (c.turns.invariant.reaches setup r w a) (λ u v h. c.settle.ensures.at setup u v h) in
    let k = reaches_takes setup _ _ _ _ _ _ _ r w j (λ u v h. c.fill.ensures.at setup u v h) in
    let d = c.in_ok-settle.ensures.ok.0 in let s = c.fill.ensures.same in
    let z = c.in_ok-n.ensures.end c.if-n-eq0.true in
    let dr : IsDrained c.fill.new.self = record { unwritten = s.unwritten ∙ d.unwritten; pending = ap (λ (p : Engine). p.pending) s.printer ∙ d.pending } in
    let run : c.fill.new.self.printer.stopped ≡ None = ap (λ (p : Engine). p.stopped) s.printer ∙ sym c.stopped.ensures.value ∙ none_of c.stopped.result c.in_default.not-Some in
    record {
      reaches = k;
      answer = end_answer setup c.fill.new.self _ _ c.in-Err.fault _ _ k.at dr z.0 run (c.in-Err.ensures setup) (c.report-report.ensures.taken ∙ sym s.taken) z.1;
    }

pub returns-in_err-settle-clause-at_end : goal.returns-in_err-settle-clause-at_end
returns-in_err-settle-clause-at_end g c f after e end = grind (arith, err_from_is_err_and)

pub returns-in_err-n-clause-at_end : goal.returns-in_err-n-clause-at_end
returns-in_err-n-clause-at_end g c f after e end = grind (arith, err_from_is_err_and)

-- the printer stops by a fault of a byte
pub returns-in-Some-clause-at_end : goal.returns-in-Some-clause-at_end
returns-in-Some-clause-at_end g c f after e end = grind arith

pub returns-in-Ok-clause-at_end : goal.returns-in-Ok-clause-at_end
returns-in-Ok-clause-at_end g c f after e end = cc

pub returns-in-Err-clause-at_end : goal.returns-in-Err-clause-at_end
returns-in-Err-clause-at_end g c f after e end = (c.in_ok-n.ensures.end c.if-n-eq0.true).1

pub returns-clause-at_end : goal.returns-clause-at_end
returns-clause-at_end g c f after e end = cc

pub turns-preserved : goal.turns-preserved
turns-preserved g c = record {
  reaches = λ setup r w a.
      let j = reaches_accepts setup _ _ _ _ _ _ _ r w (c.turns.invariant.reaches setup r w a) (λ u v h. c.settle.ensures.at setup u v h) in
      reaches_takes setup _ _ _ _ _ _ _ r w j (λ u v h. c.fill.ensures.at setup u v h);
  failed_reads = c.in_ok-n.ensures.ok ∙ c.turns.invariant.failed_reads;
  failed_writes = c.in_ok-settle.ensures.ok.1 ∙ c.turns.invariant.failed_writes;
  none_yet = λ e. absurd (omega arith);
  reads = λ h. reads_more _ _ _ c.turns._turn c.turns.invariant.none_yet c.turns.invariant.reads c.fill.ensures.reads;
}

pub returns-clause-turns : goal.returns-clause-turns
returns-clause-turns g c e = grind arith
