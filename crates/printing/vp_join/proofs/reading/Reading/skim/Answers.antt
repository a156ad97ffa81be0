use Rattle.std.proofs.Common.{arith, ◌≡◌, [], ◌++◌, ◌-◌, length, take, drop}
use Rattle.std.proofs.lemmas.Grind.{common_steps}
use Rattle.vp_join.proofs.Cuts.{front_more, length_part}
use Rattle.vp_join.proofs.Ends.{read_none, read_more}
use Rattle.vp_join.proofs.reading.Reading.skim.Goals as goal

pub pieces-init : goal.pieces-init
pieces-init c = record { stands = λ b r h. read_none c.args.self.now b r h; within = omega arith; wide = c.requires }

pub pieces-preserved-in-Head : goal.pieces-preserved-in-Head
pieces-preserved-in-Head c =
    let bytes = c.args.bytes.now in
    let rest = take (length bytes - c.pieces.at) (drop c.pieces.at bytes) in
    record {
      stands = λ b r h. let k = c.pieces.invariant.stands b r h in
          read_more c.pieces.self c.take.new.self b r (take c.pieces.at bytes) (take 1 rest) [] (front_more c.pieces.at 1 bytes) k (c.in-Head.ensures.stands (b ++ take c.pieces.at bytes) (r ++ k.more) k.stands);
      within = omega arith;
      wide = c.in-Head.ensures.wide;
    }

pub pieces-preserved : goal.pieces-preserved
pieces-preserved c =
    let bytes = c.args.bytes.now in
    let rest = take (length bytes - c.pieces.at) (drop c.pieces.at bytes) in
    record {
      stands = λ b r h. let k = c.pieces.invariant.stands b r h in
          read_more c.pieces.self c.take.new.self b r (take c.pieces.at bytes) (take c.in-Rows.n rest) (take c.in-Rows.n rest) (front_more c.pieces.at c.in-Rows.n bytes) k (c.in-Rows.ensures.stands (b ++ take c.pieces.at bytes) (r ++ k.more) k.stands);
      within = omega (arith, c.in-Rows.ensures.within, length_part c.pieces.at bytes);
      wide = c.in-Rows.ensures.wide;
    }

pub returns-clause-stands : goal.returns-clause-stands
returns-clause-stands c = λ b r h. let e : take c.pieces.at c.args.bytes.now ≡ c.args.bytes.now = grind (arith, common_steps) in rw e at (c.pieces.invariant.stands b r h)
