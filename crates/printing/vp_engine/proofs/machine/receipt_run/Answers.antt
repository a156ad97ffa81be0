use Rattle.std.proofs.Common.{◌≡◌, ◌≤◌, ◌++◌, ℕ, List, take, drop, length, reverse, sym, ap, subst, ◌∙◌, arith}
use Rattle.std.proofs.lemmas.List.{take-take, length-take-le, take_at, drop_at, append-nil}
use Rattle.vp_esc.specs.Reader.{Stands as EscStands, raster_items}
use Rattle.vp_esc.specs.declared.reading.Reading.{Reading as EscReading}
use Rattle.vp_esc.specs.declared.reader.EscReader.{EscReader}
use Rattle.vp_esc.specs.Split.{items}
use Rattle.vp_engine.specs.Paper.{printed}
use Rattle.vp_engine.specs.Setups.{Receipts, rules_of}
use Rattle.vp_engine.proofs.Rasters.{known_run, accepted_bytes, accepted_stored, printed_same}
use Rattle.vp_engine.proofs.Texts.{accepted_text}
use Rattle.vp_engine.proofs.machine.receipt_run.Goals as goal

-- a reader that took nothing stands where it stood
still_stands : (by : EscReading) (reader : EscReader) (t input : List ℕ) (n : ℕ) → n ≤ 0 → EscStands by reader (t ++ take n input) → EscStands by reader t
still_stands by reader t input n none h = grind (arith, append-nil)

pub returns-then-skipped-gt0-clause-takes : goal.returns-then-skipped-gt0-clause-takes
returns-then-skipped-gt0-clause-takes g c by s t before reads at known = grind (arith, append-nil)

pub returns-then-text-gt0-clause-takes : goal.returns-then-text-gt0-clause-takes
returns-then-text-gt0-clause-takes g c by s t before reads at known = grind (arith, length-take-le, take-take, still_stands, known_run, accepted_text, printed_same, append-nil)

pub returns-then-stored-gt0-clause-takes : goal.returns-then-stored-gt0-clause-takes
returns-then-stored-gt0-clause-takes g c by s t before reads at known = grind (arith, still_stands, accepted_stored, printed_same, append-nil)

pub returns-clause-rest : goal.returns-clause-rest
returns-clause-rest g c = grind (arith, drop_at, length-take-le)

pub returns-clause-takes : goal.returns-clause-takes
returns-clause-takes g c by s t before reads at known =
    let e = c.take_raster-n.ensures in let n = c.take_raster-n.result in let room = c.min-room-2.result in
    let input = c.args.input.now in
    let within : room ≤ length input = omega (arith, c.min-room-2.ensures) in
    let long : length (take room input) ≡ room = length-take-le room input within in
    let less : n ≤ room = omega (arith, e.fits, long) in
    let idle : EscStands by c.take_skipped-skipped.new.self t = still_stands by c.take_skipped-skipped.new.self t input c.take_skipped-skipped.result (omega (arith, c.if-skipped-gt0.false)) (c.take_skipped-skipped.ensures.stands by t reads) in
    let calm : EscStands by c.take_text-text.new.self t = still_stands by c.take_text-text.new.self t (take c.min-room.result input) c.take_text-text.result (omega (arith, c.if-text-gt0.false)) (c.take_text-text.ensures.stands by t idle) in
    let still : EscStands by c.take_stored-stored.new.self t = still_stands by c.take_stored-stored.new.self t input c.take_stored-stored.result (omega (arith, c.if-stored-gt0.false)) (c.take_stored-stored.ensures.stands by t calm) in
    let front : take n (take room input) ≡ take n input = take-take n room input less in
    let a = c.put_rows-put.ensures in let put = c.put_rows-put.result in let rows = take put (take n input) in
    let text : rows ≡ take put c.put_rows-put.new.output =
    sym (ap (take put) a.bytes ∙ take_at rows (drop put c.args.output.now) put (length-take-le put (take n input) a.within)) in
    record {
      added = raster_items (take n input);
      gives = ap (λ x. items by (t ++ x)) (sym front) ∙ e.gives by t n still (omega arith) ∙ ap (λ x. items by t ++ raster_items x) front;
      known = known_run by t (take room input) (take n input) n front known (λ some. e.known by t n still some (omega arith));
      accepted = accepted_bytes by s (take n input) before;
      prints = printed_same by s (reverse (raster_items (take n input)) ++ before) ∙ a.prints s before at ∙ ap (λ x. x ++ rows) (sym (printed_same by s before))
          ∙ ap (λ x. printed (rules_of (Receipts by s)) before ++ x) text;
      stands = (subst (λ x. EscStands by c.take_raster-n.new.self (t ++ x)) front (e.stands by t still), a.stands s before at);
    }
