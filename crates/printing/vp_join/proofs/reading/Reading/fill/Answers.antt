use Rattle.std.proofs.Common.{arith, ◌≡◌, [], ◌++◌, ◌-◌, ◌+◌, length, take, drop, ap, ◌∙◌, sym}
use Rattle.std.proofs.lemmas.List.{append-nil, length-take-le}
use Rattle.vp_join.proofs.Cuts.{front_more, length_part}
use Rattle.vp_join.proofs.Ends.{stands_more}
use Rattle.vp_join.proofs.reading.Reading.fill.Goals as goal

pub pieces-preserved-in-Head : goal.pieces-preserved-in-Head
pieces-preserved-in-Head c =
    let bytes = c.args.bytes.now in
    let front = take c.pieces.at bytes in
    let given = take c.pieces.n c.pieces.rows in
    let rest = take (length bytes - c.pieces.at) (drop c.pieces.at bytes) in
    record {
      stands = λ b r h. stands_more c.take.new.self b r front given (take 1 rest) [] (front_more c.pieces.at 1 bytes) (sym (append-nil given))
          (c.in-Head.ensures.stands (b ++ front) (r ++ given) (c.pieces.invariant.stands b r h));
      counted = λ m h. let k = c.in-Head.ensures.counted (m + c.pieces.n) (c.pieces.invariant.counted m h) in record { count = omega (arith, k.count); none = k.none };
      within = omega arith;
      room = omega arith;
      same_length = c.pieces.invariant.same_length;
      wide = c.in-Head.ensures.wide;
    }

pub pieces-preserved : goal.pieces-preserved
pieces-preserved c =
    let bytes = c.args.bytes.now in
    let run = c.in-Rows.run' in
    let front = take c.pieces.at bytes in
    let given = take c.pieces.n c.pieces.rows in
    let rest = take (length bytes - c.pieces.at) (drop c.pieces.at bytes) in
    let long : length (take run rest) ≡ run = length-take-le run rest c.in-Rows.ensures.within in
    record {
      stands = λ b r h. stands_more c.take.new.self b r front given (take run rest) (take run rest) (front_more c.pieces.at run bytes)
          (ap (λ n. take (c.pieces.n + n) c.put.new.rows) (sym long) ∙ c.put.ensures.bytes)
          (c.in-Rows.ensures.stands (b ++ front) (r ++ given) (c.pieces.invariant.stands b r h));
      counted = λ m h. let k = c.in-Rows.ensures.counted (m + c.pieces.n) (c.pieces.invariant.counted m h) in record { count = omega (arith, k.count, long); none = k.none };
      within = omega (arith, c.in-Rows.ensures.within, length_part c.pieces.at bytes);
      room = omega arith;
      same_length = c.put.ensures.same_length ∙ c.pieces.invariant.same_length;
      wide = c.in-Rows.ensures.wide;
    }
