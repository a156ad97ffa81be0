use Rattle.std.proofs.Common.{arith, ◌≡◌, ◌≤◌, ◌+◌, ◌-◌, ℕ, List, [], ◌++◌, length, take, refl, ap, ◌∙◌, sym, append_assoc, Option}
use Rattle.std.specs.Prelude.{Result, ⊤}
use Rattle.std.specs.Io.KnownBytes.{Consumes, IsAtEnd}
use Rattle.vp_join.specs.Passes.{IsCopy, IsCopied, Copies}
use Rattle.vp_join.specs.declared.fault.JoinFault.{JoinFault}
use Rattle.vp_join.specs.declared.reading.Reading.{Reading}
use Rattle.vp_join.specs.declared.reading.Size.{Size}
use Rattle.std.proofs.lemmas.List.{append-nil, length-append, length-take-le}
use Rattle.std.proofs.lemmas.Result.{err_from_is_err_and}
use Rattle.std.proofs.KnownBytes.{Consumes-nil, Consumes-trans, Consumes-kept}
use Rattle.vp_streams.specs.Count.{grown}
use Rattle.vp_join.specs.Strips.{without_padding}
use Rattle.vp_join.proofs.Ends.{given_rows}
use Rattle.vp_join.proofs.Sizes.{length_told}
use Rattle.vp_join.proofs.Streams.{ends_at, follows_nil, follows_more, follows_all}
use Rattle.vp_join.proofs.Trims.{length-without_padding, without_padding-front}
use Rattle.vp_join.proofs.Counts.{calls_more}
use Rattle.vp_join.proofs.passes.copy.Goals as goal

-- all that was given is written
rows_all : (a b c : Option (List ℕ)) (Has : List ℕ → Type 0) (size : Size) (s : Reading) (n : ℕ) (result : Result ⊤ JoinFault) (i : IsCopied a b Has size s n) → Consumes a c i.bytes → IsCopy result size i.bytes [] (IsAtEnd c) → Copies a c Has size result
rows_all a b c Has size s n result i consumed answer = record {
  bytes = i.bytes;
  taken = without_padding size.width i.rows;
  rest = [];
  consumed = consumed;
  front = append-nil (without_padding size.width i.rows) ∙ ap (without_padding size.width) (sym (given_rows s i.bytes i.rows i.stands));
  fits = omega (arith, length-without_padding size.width i.rows, i.given_is, i.fits);
  has = i.has;
  answer = answer;
}

-- what is still to come behind a piece
less : (A : Type 0) (awaits : A → ℕ → Type 0) (a : A) (all given n m : ℕ) → n ≡ m → given + m ≤ all → awaits a (all - given) → awaits a (n + (all - (given + m)))
less A awaits a all given n m e l h = rw (let k : n + (all - (given + m)) ≡ all - given = omega (arith, e, l) in k) h

-- nothing is put yet
none_yet : (A : Type 0) (awaits : A → ℕ → Type 0) (a : A) (all : ℕ) → awaits a all → awaits a (all - 0)
none_yet A awaits a all h = rw (let k : all - 0 ≡ all = omega arith in k) h

-- all is put
none_left : (A : Type 0) (awaits : A → ℕ → Type 0) (a : A) (all given : ℕ) → given ≡ all → awaits a (all - given) → awaits a 0
none_left A awaits a all given e h = rw (let k : all - given ≡ 0 = omega (arith, e) in k) at h

pub turns-init : goal.turns-init
turns-init g c = record {
  copied = record { bytes = []; rows = []; consumed = Consumes-nil _; stands = c.new-reading.ensures.stands; given_is = refl; fits = omega arith; has = follows_nil g.W.ImageWriter.has c.args.writer.now };
  awaits = none_yet _ g.W.ImageWriter.awaits _ _ c.requires.awaits;
  counted = c.new-reading.ensures.counted;
  wide = c.new-reading.ensures.wide;
  reads = refl;
  failed_reads = refl;
  failed_writes = refl;
}

pub returns-in_default : goal.returns-in_default
returns-in_default g c = record {
  awaits = tt;
  copies = rows_all _ _ _ _ c.args.size c.turns.reading _ _ c.turns.invariant.copied (Consumes-kept _ _ _ c.turns.invariant.copied.bytes c.turns.invariant.copied.consumed c.in_default.ensures.bytes) tt;
  reads = record { calls = _; within = omega arith; counted = calls_more _ _ _ c.turns._turn c.turns.invariant.reads c.in_default.ensures.reads; all = λ e. absurd (cc e) };
  failed_reads = c.in_default.ensures.failed ∙ ap (λ n. grown n 1) c.turns.invariant.failed_reads;
  failed_writes = c.turns.invariant.failed_writes;
}

pub returns-then-is_of_size : goal.returns-then-is_of_size
returns-then-is_of_size g c =
    let i = c.turns.invariant.copied in
    let k = c.in-Ok.ensures.bytes in
    record {
      awaits = none_left _ g.W.ImageWriter.awaits _ _ _ (omega (arith, i.given_is, ap length (given_rows c.turns.reading i.bytes i.rows i.stands), length_told i.bytes c.args.size (c.if-is_of_size.ensures i.bytes i.rows i.stands))) c.turns.invariant.awaits;
      copies = rows_all _ _ _ _ c.args.size c.turns.reading _ _ i (ends_at _ _ _ i.bytes c.read.new.buf c.in-Ok.n c.if-n-eq0.true i.consumed k.0) (c.if-is_of_size.ensures i.bytes i.rows i.stands, refl, k.1 c.if-n-eq0.true (omega (arith, c.read.auto.buf)));
      reads = record { calls = _; within = omega arith; counted = calls_more _ _ _ c.turns._turn c.turns.invariant.reads c.in-Ok.ensures.reads; all = λ e. absurd (cc e) };
      failed_reads = c.in-Ok.ensures.failed ∙ c.turns.invariant.failed_reads;
      failed_writes = c.turns.invariant.failed_writes;
    }

pub returns-then-n-eq0 : goal.returns-then-n-eq0
returns-then-n-eq0 g c =
    let i = c.turns.invariant.copied in
    let k = c.in-Ok.ensures.bytes in
    record {
      awaits = tt;
      copies = rows_all _ _ _ _ c.args.size c.turns.reading _ _ i (ends_at _ _ _ i.bytes c.read.new.buf c.in-Ok.n c.if-n-eq0.true i.consumed k.0)
          (λ more f t. c.if-is_of_size.ensures i.bytes i.rows i.stands (rw (f (k.1 c.if-n-eq0.true (omega (arith, c.read.auto.buf))), append-nil i.bytes) at t));
      reads = record { calls = _; within = omega arith; counted = calls_more _ _ _ c.turns._turn c.turns.invariant.reads c.in-Ok.ensures.reads; all = λ e. absurd (cc e) };
      failed_reads = c.in-Ok.ensures.failed ∙ c.turns.invariant.failed_reads;
      failed_writes = c.turns.invariant.failed_writes;
    }

pub returns-in_default-next_rows : goal.returns-in_default-next_rows
returns-in_default-next_rows g c =
    let i = c.turns.invariant.copied in
    let w = c.args.size.width in
    let chunk = take c.in-Ok.n c.read.new.buf in
    let k = c.in_default-next_rows.ensures.rows i.bytes i.rows i.stands i.given_is in
    let f = without_padding-front w i.rows k.0 in
    record {
      awaits = tt;
      copies = record {
        bytes = i.bytes ++ chunk;
        taken = without_padding w i.rows;
        rest = f.0;
        consumed = Consumes-trans _ _ _ i.bytes chunk i.consumed c.in-Ok.ensures.bytes.0;
        front = sym f.1 ∙ ap (without_padding w) (sym (given_rows c.next_rows.new.reading (i.bytes ++ chunk) (i.rows ++ k.0) k.1));
        fits = omega (arith, length-without_padding w i.rows, i.given_is, i.fits);
        has = i.has;
        answer = λ more e. k.2 more;
      };
      reads = record { calls = _; within = omega arith; counted = calls_more _ _ _ c.turns._turn c.turns.invariant.reads c.in-Ok.ensures.reads; all = λ e. absurd (cc e) };
      failed_reads = c.in-Ok.ensures.failed ∙ c.turns.invariant.failed_reads;
      failed_writes = c.turns.invariant.failed_writes;
    }

pub returns-in_err-put : goal.returns-in_err-put
returns-in_err-put g c =
    let i = c.turns.invariant.copied in
    let w = c.args.size.width in
    let chunk = take c.in-Ok.n c.read.new.buf in
    let k = c.in-Some.ensures.rows i.bytes i.rows i.stands i.given_is in
    let v = c.in_err-put.ensures.writes in
    let p = err_from_is_err_and c.from_residual.result c.from_residual.ensures.1 in
    let e = c.in_err-put.ensures.writes.answer in
    record {
      awaits = rw p.1 tt;
      copies = record {
        bytes = i.bytes ++ chunk;
        taken = without_padding w i.rows ++ v.taken;
        rest = v.rest;
        consumed = Consumes-trans _ _ _ i.bytes chunk i.consumed c.in-Ok.ensures.bytes.0;
        front = append_assoc (without_padding w i.rows) v.taken v.rest ∙ ap (λ z. without_padding w i.rows ++ z) v.split ∙ sym k.3 ∙ ap (without_padding w) (sym (given_rows c.next_rows.new.reading (i.bytes ++ chunk) (i.rows ++ k.0) k.1));
        fits = omega (arith, length-append (without_padding w i.rows) v.taken, length-without_padding w i.rows, i.given_is, c.in-Some.ensures.within.1, length-append v.taken v.rest, ap length v.split, length-take-le c.in-Some.m c.next_rows.new.rows c.in-Some.ensures.within.0);
        has = follows_more g.W.ImageWriter.has _ _ _ (without_padding w i.rows) v.taken i.has v.has;
        answer = rw (p.1, p.2, e) tt;
      };
      reads = record { calls = _; within = omega arith; counted = calls_more _ _ _ c.turns._turn c.turns.invariant.reads c.in-Ok.ensures.reads; all = λ q. absurd (let z = rw (p.1, p.2, e) at q in cc) };
      failed_reads = rw (p.1, p.2, e) (c.in-Ok.ensures.failed ∙ c.turns.invariant.failed_reads);
      failed_writes = rw (p.1, p.2, e) ((rw e at c.in_err-put.ensures.failed) ∙ ap (λ n. grown n 1) c.turns.invariant.failed_writes);
    }

pub turns-preserved : goal.turns-preserved
turns-preserved g c =
    let i = c.turns.invariant.copied in
    let w = c.args.size.width in
    let chunk = take c.in-Ok.n c.read.new.buf in
    let k = c.in-Some.ensures.rows i.bytes i.rows i.stands i.given_is in
    let v = c.in_ok-put.ensures.writes in
    record {
      copied = record {
        bytes = i.bytes ++ chunk;
        rows = i.rows ++ k.0;
        consumed = Consumes-trans _ _ _ i.bytes chunk i.consumed c.in-Ok.ensures.bytes.0;
        stands = k.1;
        given_is = omega (arith, i.given_is, k.2, length-append i.rows k.0);
        fits = c.in-Some.ensures.within.1;
        has = rw k.3 (follows_all g.W.ImageWriter.has _ _ _ (without_padding w i.rows) v.taken v.rest (take c.in-Some.m c.next_rows.new.rows) i.has v.has v.split v.answer);
      };
      counted = c.in-Some.ensures.within.2;
      awaits = c.in_ok-put.ensures.awaits _ (less _ g.W.ImageWriter.awaits _ _ _ _ _ (length-take-le c.in-Some.m c.next_rows.new.rows c.in-Some.ensures.within.0) c.in-Some.ensures.within.1 c.turns.invariant.awaits);
      wide = c.next_rows.ensures.wide;
      reads = calls_more _ _ _ c.turns._turn c.turns.invariant.reads c.in-Ok.ensures.reads;
      failed_reads = c.in-Ok.ensures.failed ∙ c.turns.invariant.failed_reads;
      failed_writes = c.in_ok-put.ensures.failed ∙ c.turns.invariant.failed_writes;
    }

pub returns : goal.returns
returns g c = record {
  awaits = tt;
  copies = rows_all _ _ _ _ c.args.size c.turns.reading _ _ c.turns.invariant.copied c.turns.invariant.copied.consumed tt;
  reads = record { calls = c.turns._turn; within = c.turns.auto._turn-end; counted = c.turns.invariant.reads; all = λ e. omega arith };
  failed_reads = c.turns.invariant.failed_reads;
  failed_writes = c.turns.invariant.failed_writes;
}

pub put-requires : goal.put-requires
put-requires g c = (_, less _ g.W.ImageWriter.awaits _ _ _ _ _ (length-take-le c.in-Some.m c.next_rows.new.rows c.in-Some.ensures.within.0) c.in-Some.ensures.within.1 c.turns.invariant.awaits)
