use Rattle.std.proofs.Common.{arith, [], ◌++◌, take, ap, ◌∙◌}
use Rattle.std.proofs.KnownBytes.{Consumes-nil, Consumes-trans, Consumes-kept}
use Rattle.vp_join.specs.Told.{Told}
use Rattle.vp_streams.specs.Count.{grown}
use Rattle.vp_join.proofs.Streams.{ends_at}
use Rattle.vp_join.proofs.Counts.{calls_more, no_turns, no_read_fault, found_is, found_at_end}
use Rattle.vp_join.proofs.passes.measure.Goals as goal

pub turns-init : goal.turns-init
turns-init g c = grind (arith, Consumes-nil)

pub returns-in_default : goal.returns-in_default
returns-in_default g c =
    let i = c.turns.invariant.after in
    record {
      measures = record { bytes = i.bytes; consumed = Consumes-kept _ _ _ i.bytes i.consumed c.in_default.ensures.bytes; answer = tt };
      reads = record { calls = _; within = omega arith; counted = calls_more _ _ _ c.turns.turn c.turns.invariant.reads c.in_default.ensures.reads; all = λ e. absurd (cc e) };
      reads_told = tt;
      failed = c.in_default.ensures.failed ∙ ap (λ n. grown n 1) c.turns.invariant.failed;
    }

pub returns-in-Ok-finish : goal.returns-in-Ok-finish
returns-in-Ok-finish g c =
    let i = c.turns.invariant.after in
    let k = c.in-Ok.ensures.bytes in
    let calls = calls_more _ _ _ c.turns.turn c.turns.invariant.reads c.in-Ok.ensures.reads in
    record {
      measures = record {
        bytes = i.bytes;
        consumed = ends_at _ _ _ i.bytes c.read.new.buf c.in-Ok.n c.if-n-eq0.true i.consumed k.0;
        answer = (record { rows = [] ++ i.stands.more; whole_is = c.in-Ok-finish.ensures i.bytes ([] ++ i.stands.more) i.stands.stands }, k.1 c.if-n-eq0.true (omega (arith, c.read.auto.buf)));
      };
      reads = record { calls = _; within = omega arith; counted = calls; all = λ e. absurd (cc e) };
      reads_told = (omega arith, calls);
      failed = c.in-Ok.ensures.failed ∙ c.turns.invariant.failed;
    }

pub returns-in-Err : goal.returns-in-Err
returns-in-Err g c =
    let i = c.turns.invariant.after in
    let k = c.in-Ok.ensures.bytes in
    record {
      measures = record {
        bytes = i.bytes;
        consumed = ends_at _ _ _ i.bytes c.read.new.buf c.in-Ok.n c.if-n-eq0.true i.consumed k.0;
        answer = rw c.fault.ensures (found_is c.in-Err.offence i.bytes _ (found_at_end c.in-Err.offence i.bytes _ (k.1 c.if-n-eq0.true (omega (arith, c.read.auto.buf))) (c.in-Err.ensures i.bytes ([] ++ i.stands.more) i.stands.stands)));
      };
      reads = record { calls = _; within = omega arith; counted = calls_more _ _ _ c.turns.turn c.turns.invariant.reads c.in-Ok.ensures.reads; all = λ e. absurd (no_turns c.in-Err.offence (cc (e, c.fault.ensures))) };
      reads_told = tt;
      failed = rw (c.fault.ensures, no_read_fault c.in-Err.offence) (c.in-Ok.ensures.failed ∙ c.turns.invariant.failed);
    }

pub returns-in-Some : goal.returns-in-Some
returns-in-Some g c =
    let i = c.turns.invariant.after in
    let chunk = take c.in-Ok.n c.read.new.buf in
    let s = c.skim.ensures.stands i.bytes ([] ++ i.stands.more) i.stands.stands in
    record {
      measures = record {
        bytes = i.bytes ++ chunk;
        consumed = Consumes-trans _ _ _ i.bytes chunk i.consumed c.in-Ok.ensures.bytes.0;
        answer = rw c.fault-in-Some.ensures (found_is c.in-Some.offence (i.bytes ++ chunk) _ (λ more f. ap (λ (t : Told). t.offence) (c.in-Some.ensures.told (i.bytes ++ chunk) (([] ++ i.stands.more) ++ s.more) s.stands more)));
      };
      reads = record { calls = _; within = omega arith; counted = calls_more _ _ _ c.turns.turn c.turns.invariant.reads c.in-Ok.ensures.reads; all = λ e. absurd (no_turns c.in-Some.offence (cc (e, c.fault-in-Some.ensures))) };
      reads_told = tt;
      failed = rw (c.fault-in-Some.ensures, no_read_fault c.in-Some.offence) (c.in-Ok.ensures.failed ∙ c.turns.invariant.failed);
    }

pub turns-preserved : goal.turns-preserved
turns-preserved g c =
    let i = c.turns.invariant.after in
    let chunk = take c.in-Ok.n c.read.new.buf in
    let s = c.skim.ensures.stands i.bytes ([] ++ i.stands.more) i.stands.stands in
    record {
      after = record {
        bytes = i.bytes ++ chunk;
        consumed = Consumes-trans _ _ _ i.bytes chunk i.consumed c.in-Ok.ensures.bytes.0;
        stands = record { more = i.stands.more ++ s.more; stands = s.stands };
      };
      wide = c.skim.ensures.wide;
      reads = calls_more _ _ _ c.turns.turn c.turns.invariant.reads c.in-Ok.ensures.reads;
      failed = c.in-Ok.ensures.failed ∙ c.turns.invariant.failed;
    }

pub returns : goal.returns
returns g c = grind arith
