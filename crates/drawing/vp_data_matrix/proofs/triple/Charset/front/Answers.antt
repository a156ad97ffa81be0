use Rattle.std.proofs.Common.{ℕ, ◌≡◌, ◌+◌, length, take, arith, ap, sym, ◌∙◌}
use Rattle.vp_data_matrix.specs.declared.triple.Front.{Front}
use Rattle.vp_data_matrix.specs.Triples.{values}
use Rattle.vp_data_matrix.proofs.TripleWords.{length-values_more, largest_whole, largest_other, front_of}
use Rattle.vp_data_matrix.proofs.triple.Charset.front.Goals.{then-count-eq0, else-count-eq0}
use Rattle.vp_data_matrix.proofs.triple.Charset.front.Goals as goal

pub loop-at-preserved : goal.loop-at-preserved
loop-at-preserved c =
    let set = c.args.self in
    let src = c.args.src.now in
    let counted : c.loop-at.count + c.len.result ≡ length (values set (take (c.loop-at.at + 1) src)) =
    omega (arith, length-values_more set src c.loop-at.at (omega arith), c.len.ensures.value, ap length c.byte_values.ensures.values) in
    elim c.if-count-eq0.branch [
      | then-count-eq0 w ↦
          let bytes : c.if-count-eq0.front.bytes ≡ c.loop-at.at + 1 = ap (λ (f : Front). f.bytes) w.front-is in
          let now : c.if-count-eq0.front.values ≡ c.loop-at.count + c.len.result = ap (λ (f : Front). f.values) w.front-is in
          record {
            bytes = bytes ∙ sym (largest_whole set src c.loop-at.at _ counted w.if-count-eq0.true);
            within = omega (arith, bytes);
            values_are = now ∙ counted ∙ ap (λ (n : ℕ). length (values set (take n src))) (sym bytes);
            most = omega (arith, now, c.len.ensures.fits);
            counted = counted;
            count_most = omega (arith, c.len.ensures.fits);
          }
      | else-count-eq0 w ↦
          let bytes : c.if-count-eq0.front.bytes ≡ c.loop-at.front.bytes = ap (λ (f : Front). f.bytes) w.front-is in
          let now : c.if-count-eq0.front.values ≡ c.loop-at.front.values = ap (λ (f : Front). f.values) w.front-is in
          record {
            bytes = bytes ∙ c.loop-at.invariant.bytes ∙ sym (largest_other set src c.loop-at.at _ counted w.if-count-eq0.false);
            within = omega (arith, bytes);
            values_are = now ∙ c.loop-at.invariant.values_are ∙ ap (λ (n : ℕ). length (values set (take n src))) (sym bytes);
            most = omega (arith, now);
            counted = counted;
            count_most = omega (arith, c.len.ensures.fits);
          }
    ]

pub returns-clause-bytes : goal.returns-clause-bytes
returns-clause-bytes c = c.loop-at.invariant.bytes ∙ front_of c.args.self c.args.src.now c.loop-at.at (omega arith)

pub returns-clause-values : goal.returns-clause-values
returns-clause-values c =
    c.loop-at.invariant.values_are
    ∙ ap (λ (n : ℕ). length (values c.args.self (take n c.args.src.now))) (c.loop-at.invariant.bytes ∙ front_of c.args.self c.args.src.now c.loop-at.at (omega arith))
