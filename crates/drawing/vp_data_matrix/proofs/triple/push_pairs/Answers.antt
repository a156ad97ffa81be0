use Rattle.std.proofs.Common.{arith, ◌+◌, ◌≤◌, length, get_or}
use Rattle.vp_data_matrix.specs.Triples.{pair, pairs}
use Rattle.vp_data_matrix.proofs.Words.{room_for, part_written, written_all}
use Rattle.vp_data_matrix.proofs.TripleWords.{small_rest, pairs_three, pairs_none}
use Rattle.vp_data_matrix.proofs.triple.push_pairs.Goals as goal

pub push_pair-requires-clause-room : goal.push_pair-requires-clause-room
push_pair-requires-clause-room c =
    let left = c.loop-left.left.now in
    let room : length c.loop-left.words.items + length (pair (get_or left 0 0) (get_or left 1 0) (get_or left 2 0)) ≤ 1558 =
    room_for c.loop-left.words.items (pairs left) (pair (get_or left 0 0) (get_or left 1 0) (get_or left 2 0)) _ c.args.words.now.items (pairs c.args.values.now) 1558 c.requires.room c.loop-left.invariant.written
    (pairs_three left (omega arith)) in
    omega arith

pub loop-left-preserved : goal.loop-left-preserved
loop-left-preserved c =
    let left = c.loop-left.left.now in
    record {
      written = part_written c.loop-left.words.items _ _ (pairs left) (pair (get_or left 0 0) (get_or left 1 0) (get_or left 2 0)) _
          c.push_pair.ensures (pairs_three left (omega arith)) c.loop-left.invariant.written;
      small = small_rest _ left c.loop-left.invariant.small;
    }

pub returns : goal.returns
returns c = written_all _ _ _ (pairs_none c.loop-left.left.now (omega arith)) c.loop-left.invariant.written
