use Rattle.std.proofs.Common.{arith, ◌≡◌, Ok, Err, false, refl, sym, ap, ◌∙◌}
use Rattle.std.specs.Prelude.{⊤}
use Rattle.std.proofs.lemmas.Result.{err_from_is_err_and}
use Rattle.vp_streams.specs.Count.{one_more_if}
use Rattle.vp_join.specs.Passes.{is_read_fault, is_write_fault}
use Rattle.vp_join.specs.declared.fault.JoinFault.TheVariants.{TooWide, TooManyTurns}
use Rattle.vp_join.specs.declared.passes.Measured.{Measured}
use Rattle.vp_join.proofs.Sizes.{no_height, low}
use Rattle.vp_join.proofs.Joining.{after_measure, after_width, after_head, after_copy, after_all, exact_of, first_writes, same_read, copy_read, copy_write, not_both}
use Rattle.vp_join.proofs.passes.join.Goals as goal

pub returns-in_err-measured : goal.returns-in_err-measured
returns-in_err-measured g c =
    let m = c.in_err-measured.ensures.measures in
    let j = after_measure (λ bytes. g.W.ImageWriter.has c.args.writer.now bytes c.args.writer.now) g.W.ImageWriter.too_wide c.in_err-measured.field-0.0 _ (g.T.Source.remaining c.args.second.now) _ m.bytes m.consumed (g.met.W.ImageWriter.nothing c.args.writer.now) m.answer in
    let p = err_from_is_err_and c.from_residual.result c.from_residual.ensures.1 in
    rw (p.1, p.2) (record {
      awaits = tt;
      joins = j;
      exact = λ text e f. exact_of text _ _ _ _ _ _ (Err c.in_err-measured.field-0.0) j e f;
      reads = record {
        first = c.in_err-measured.ensures.reads.calls;
        second = 0;
        within = omega (arith, c.in_err-measured.ensures.reads.within);
        first_counted = c.in_err-measured.ensures.reads.counted;
        second_counted = refl;
        all = λ e. let k : c.in_err-measured.field-0.0 ≡ TooManyTurns = cc e in omega (arith, c.in_err-measured.ensures.reads.all (ap (λ f. Err f) k));
      };
      failed_reads = record {
        first = is_read_fault {A = Measured} (Err c.in_err-measured.field-0.0);
        second = false;
        first_counted = c.in_err-measured.ensures.failed;
        second_counted = refl;
        either = same_read c.in_err-measured.field-0.0;
        one = not_both (is_read_fault {A = Measured} (Err c.in_err-measured.field-0.0));
      };
      failed_writes = rw (first_writes c.in_err-measured.field-0.0 m.bytes _ m.answer) refl;
    })

pub returns-then-is_too_wide : goal.returns-then-is_too_wide
returns-then-is_too_wide g c =
    let m = c.in_ok-measured.ensures.measures in
    let j = after_width (λ bytes. g.W.ImageWriter.has c.args.writer.now bytes c.args.writer.now) g.W.ImageWriter.too_wide _ (g.T.Source.remaining c.args.second.now) _ m.bytes c.in_ok-measured.measured.size m.consumed (g.met.W.ImageWriter.nothing c.args.writer.now) m.answer.0 m.answer.1 (sym c.is_too_wide.ensures ∙ c.if-is_too_wide.true) in
    record {
      awaits = tt;
      joins = j;
      exact = λ text p q. exact_of text _ _ _ _ _ _ (Err TooWide) j p q;
      reads = record {
        first = c.in_ok-measured.measured.reads;
        second = 0;
        within = omega (arith, c.in_ok-measured.ensures.reads_told.0);
        first_counted = c.in_ok-measured.ensures.reads_told.1;
        second_counted = refl;
        all = λ e. absurd (cc e);
      };
      failed_reads = record { first = false; second = false; first_counted = c.in_ok-measured.ensures.failed; second_counted = refl; either = refl; one = refl };
      failed_writes = refl;
    }

pub returns-in_err-begin : goal.returns-in_err-begin
returns-in_err-begin g c =
    let m = c.in_ok-measured.ensures.measures in
    let w = c.in_err-begin.ensures.writes in
    let p = err_from_is_err_and c.from_residual-in_err-begin.result c.from_residual-in_err-begin.ensures.1 in
    rw (p.1, p.2, w.answer) (record {
      awaits = tt;
      joins = after_head _ g.W.ImageWriter.too_wide _ (g.T.Source.remaining c.args.second.now) _ m.bytes w.taken w.rest c.in_ok-measured.measured.size m.consumed m.answer.0 m.answer.1 (sym c.is_too_wide.ensures ∙ c.if-is_too_wide.false) w.has w.split;
      exact = λ text e f. tt;
      reads = record {
        first = c.in_ok-measured.measured.reads;
        second = 0;
        within = omega (arith, c.in_ok-measured.ensures.reads_told.0);
        first_counted = c.in_ok-measured.ensures.reads_told.1;
        second_counted = refl;
        all = λ e. absurd (cc e);
      };
      failed_reads = record { first = false; second = false; first_counted = c.in_ok-measured.ensures.failed; second_counted = refl; either = refl; one = refl };
      failed_writes = rw w.answer at c.in_err-begin.ensures.failed;
    })

pub begin-requires : goal.begin-requires
begin-requires g c =
    let m = c.in_ok-measured.ensures.measures in
    record {
      narrow = sym c.is_too_wide.ensures ∙ c.if-is_too_wide.false;
      wide = no_height m.bytes c.in_ok-measured.measured.size m.answer.0;
      low = low m.bytes c.in_ok-measured.measured.size m.answer.0;
    }

pub copy-requires : goal.copy-requires
copy-requires g c = record {
  none = no_height c.in_ok-measured.ensures.measures.bytes c.in_ok-measured.measured.size c.in_ok-measured.ensures.measures.answer.0;
  awaits = c.in_ok-begin.ensures.awaits;
}

pub returns-in_err-copy : goal.returns-in_err-copy
returns-in_err-copy g c =
    let m = c.in_ok-measured.ensures.measures in
    let w = c.in_ok-begin.ensures.writes in
    let k = c.in_err-copy.ensures in
    let f = c.in_err-copy.field-0.0 in
    let j = after_copy g.W.ImageWriter.has g.W.ImageWriter.too_wide _ _ _ _ _ _ _ m.bytes w.taken w.rest c.in_ok-measured.measured.size m.consumed m.answer.0 m.answer.1 (sym c.is_too_wide.ensures ∙ c.if-is_too_wide.false) w.has w.split w.answer f k.copies in
    let p = err_from_is_err_and c.from_residual-in_err-copy.result c.from_residual-in_err-copy.ensures.1 in
    rw (p.1, p.2) (record {
      awaits = tt;
      joins = j;
      exact = λ text p q. exact_of text _ _ _ _ _ _ (Err f) j p q;
      reads = record {
        first = c.in_ok-measured.measured.reads;
        second = k.reads.calls;
        within = omega (arith, k.reads.within, c.in_ok-measured.ensures.reads_told.0);
        first_counted = c.in_ok-measured.ensures.reads_told.1;
        second_counted = k.reads.counted;
        all = λ e. let z : f ≡ TooManyTurns = cc e in omega (arith, k.reads.all (ap (λ x. Err x) z), c.in_ok-measured.ensures.reads_told.0);
      };
      failed_reads = record {
        first = false;
        second = is_read_fault {A = ⊤} (Err f);
        first_counted = c.in_ok-measured.ensures.failed;
        second_counted = k.failed_reads;
        either = copy_read f;
        one = refl;
      };
      failed_writes = rw (copy_write f) at (k.failed_writes ∙ ap (λ n. one_more_if (is_write_fault {A = ⊤} (Err f)) n) c.in_ok-begin.ensures.failed);
    })

pub returns : goal.returns
returns g c =
    let m = c.in_ok-measured.ensures.measures in
    let w = c.in_ok-begin.ensures.writes in
    let k = c.in_ok-copy.ensures in
    let j = after_all g.W.ImageWriter.has g.W.ImageWriter.too_wide _ _ _ _ _ _ _ m.bytes w.taken w.rest c.in_ok-measured.measured.size m.consumed m.answer.0 m.answer.1 (sym c.is_too_wide.ensures ∙ c.if-is_too_wide.false) w.has w.split w.answer c.in_ok-copy.field-0 k.copies in
    record {
      awaits = k.awaits;
      joins = j;
      exact = λ text p q. exact_of text _ _ _ _ _ _ (Ok c.in_ok-measured.measured.size.height) j p q;
      reads = record {
        first = c.in_ok-measured.measured.reads;
        second = k.reads.calls;
        within = omega (arith, k.reads.within, c.in_ok-measured.ensures.reads_told.0);
        first_counted = c.in_ok-measured.ensures.reads_told.1;
        second_counted = k.reads.counted;
        all = λ e. absurd (cc e);
      };
      failed_reads = record { first = false; second = false; first_counted = c.in_ok-measured.ensures.failed; second_counted = k.failed_reads; either = refl; one = refl };
      failed_writes = k.failed_writes ∙ c.in_ok-begin.ensures.failed;
    }
