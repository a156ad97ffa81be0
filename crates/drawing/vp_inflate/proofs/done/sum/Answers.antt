use Rattle.std.proofs.Common.{◌≡◌, ℕ, ◌+◌, ◌%◌, ◌∷◌, [], List, take, reverse, get_or, refl, ap, sym, ◌∙◌, lit<, arith}
use Rattle.std.proofs.lemmas.List.{take_more, reverse-append}
use Rattle.vp_inflate.specs.Headers.{low_sum, high_sum}
use Rattle.vp_inflate.proofs.done.sum.Goals as goal

pub loop-byte-init : goal.loop-byte-init
unfolding low_sum high_sum
loop-byte-init c = record { low = refl; high = refl; low_within = lit< tt; high_within = lit< tt }

pub loop-byte-preserved : goal.loop-byte-preserved
unfolding low_sum high_sum
loop-byte-preserved c =
    let l = c.loop-byte in
    let done = c.args.done.now in
    let before = reverse (take l.byte-index done) in
    let byte = get_or done l.byte-index 0 in
    let more : byte ∷ before ≡ reverse (take (l.byte-index + 1) done) =
    sym (ap reverse (take_more done l.byte-index 0 (omega arith)) ∙ reverse-append (take l.byte-index done) (byte ∷ [])) in
    let low : (l.low + c.from.result) % 65521 ≡ low_sum (byte ∷ before) =
    ap (λ (b : ℕ). (l.low + b) % 65521) c.from.ensures ∙ ap (λ (k : ℕ). (k + byte) % 65521) l.invariant.low in
    let high : (l.high + (l.low + c.from.result) % 65521) % 65521 ≡ high_sum (byte ∷ before) =
    ap (λ (k : ℕ). (l.high + k) % 65521) low ∙ ap (λ (k : ℕ). (k + low_sum (byte ∷ before)) % 65521) l.invariant.high in
    record {
      low = low ∙ ap low_sum more;
      high = high ∙ ap high_sum more;
      low_within = omega arith;
      high_within = omega arith;
    }
