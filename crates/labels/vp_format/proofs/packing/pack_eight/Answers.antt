use Rattle.std.proofs.Common.{◌≡◌, ℕ, ◌+◌, ◌-◌, ◌*◌, ◌%◌, ◌++◌, get_or, map, ap, ◌∙◌, arith}
use Rattle.std.proofs.lemmas.Simd.{get_or-put_chunk_below, get_or-put_chunk_at}
use Rattle.std.proofs.lemmas.List.FromFn.{get_or-map-range_with_len}
use Rattle.std.specs.Simd.Lanes.{chunk, put_chunk}
use Rattle.std.specs.List.{range_with_len}
use Rattle.vp_format.proofs.Lanes.{twice_lane}
use Rattle.vp_format.proofs.packing.pack_eight.Goals as goal

pub returns-clause-kept : goal.returns-clause-kept
returns-clause-kept c k l = get_or-put_chunk_below c.args.i c.args.row.now _ k 0 l

pub returns-clause-packed : goal.returns-clause-packed
returns-clause-packed c small k from to =
    let m = k - c.args.i in let e : k ≡ c.args.i + m = omega arith in
    let twice = chunk (2 * c.args.i) 16 c.args.places.now ++ chunk (2 * c.args.i) 16 c.args.places.now in
    let f = λ (j : ℕ). (get_or twice (2 * j) 0 * 16 % 256 + get_or twice (2 * j + 1) 0) % 256 in
    let there : 2 * c.args.i + 2 * m ≡ 2 * k = omega arith in
    let behind : 2 * c.args.i + (2 * m + 1) ≡ 2 * k + 1 = omega arith in
    let high = twice_lane c.args.places.now (2 * c.args.i) (2 * m) c.requires.places (omega arith) ∙ ap (λ i. get_or c.args.places.now i 0) there in
    let low = twice_lane c.args.places.now (2 * c.args.i) (2 * m + 1) c.requires.places (omega arith) ∙ ap (λ i. get_or c.args.places.now i 0) behind in
    ap (λ i. get_or (put_chunk c.args.i c.args.row.now (map f (range_with_len 0 8))) i 0) e
    ∙ get_or-put_chunk_at c.args.i c.args.row.now (map f (range_with_len 0 8)) m 0 (omega arith) c.requires.room
    ∙ get_or-map-range_with_len f 0 8 m m 0 (omega arith) (omega arith)
    ∙ omega (arith, high, low, small (2 * k) (omega arith), small (2 * k + 1) (omega arith))
