use Rattle.std.proofs.Common.{arith, ℕ, List, ◌+◌, ◌≤◌, ◌++◌, [], ◌∙◌, sym, ap, length, get_or, append-nil}
use Rattle.vp_data_matrix.specs.Ascii.{ascii}
use Rattle.vp_data_matrix.specs.Edifact.{four, fours}
use Rattle.vp_data_matrix.proofs.Words.{room_for, room_behind, part_written}
use Rattle.vp_data_matrix.proofs.EdifactWords.{fours_more, fours_three, fours_two, fours_few, edifact_written, length-edifact}
use Rattle.vp_data_matrix.proofs.edifact.push_edifact.Goals as goal

pub push-requires : goal.push-requires
push-requires c = (omega arith, omega (arith, length-edifact c.args.src.now))

pub push_four-requires : goal.push_four-requires
push_four-requires c =
    let left = c.loop-left.left.now in
    let room : length c.loop-left.words.items + 3 ≤ 1558 =
    room_for c.loop-left.words.items (fours left) (four (get_or left 0 0) (get_or left 1 0) (get_or left 2 0) (get_or left 3 0)) _ c.push.new.self.items (fours c.args.src.now) 1558
    (omega (arith, length-edifact c.args.src.now, c.push.ensures.len)) c.loop-left.invariant (fours_more left (omega arith)) in
    omega arith

pub loop-left-preserved : goal.loop-left-preserved
loop-left-preserved c =
    let left = c.loop-left.left.now in
    part_written c.loop-left.words.items _ _ (fours left) (four (get_or left 0 0) (get_or left 1 0) (get_or left 2 0) (get_or left 3 0)) _
    c.push_four.ensures (fours_more left (omega arith)) c.loop-left.invariant

pub push_ascii-requires : goal.push_ascii-requires
push_ascii-requires c =
    let left = c.loop-left.left.now in
    room_for c.loop-left.words.items (fours left) (ascii left) [] c.push.new.self.items (fours c.args.src.now) 1558
    (omega (arith, length-edifact c.args.src.now, c.push.ensures.len)) c.loop-left.invariant (fours_few left (omega arith) ∙ sym (append-nil (ascii left)))

pub push_four-requires-in-len2 : goal.push_four-requires-in-len2
push_four-requires-in-len2 c =
    let left = c.loop-left.left.now in
    let room : length c.loop-left.words.items + 3 ≤ 1558 =
    room_for c.loop-left.words.items (fours left) (four (get_or left 0 0) (get_or left 1 0) 31 0) [] c.push.new.self.items (fours c.args.src.now) 1558
    (omega (arith, length-edifact c.args.src.now, c.push.ensures.len)) c.loop-left.invariant (fours_two left (omega arith) (omega arith)) in
    omega arith

pub push_four-requires-in-len3-up : goal.push_four-requires-in-len3-up
push_four-requires-in-len3-up c =
    let left = c.loop-left.left.now in
    let room : length c.loop-left.words.items + 3 ≤ 1558 =
    room_for c.loop-left.words.items (fours left) (four (get_or left 0 0) (get_or left 1 0) (get_or left 2 0) 31) _ c.push.new.self.items (fours c.args.src.now) 1558
    (omega (arith, length-edifact c.args.src.now, c.push.ensures.len)) c.loop-left.invariant (fours_three left (omega arith) (omega arith)) in
    omega arith

pub push_ascii-requires-in-len3-up : goal.push_ascii-requires-in-len3-up
push_ascii-requires-in-len3-up c =
    let left = c.loop-left.left.now in
    room_behind c.loop-left.words.items _ (fours left) (four (get_or left 0 0) (get_or left 1 0) (get_or left 2 0) 31) _ c.push.new.self.items (fours c.args.src.now) 1558
    (omega (arith, length-edifact c.args.src.now, c.push.ensures.len)) c.push_four-in-len3-up.ensures (fours_three left (omega arith) (omega arith)) c.loop-left.invariant

pub returns-in_default-left : goal.returns-in_default-left
returns-in_default-left c =
    edifact_written c.args.words.now.items c.push.new.self.items _ c.args.src.now c.push.ensures.items
    (c.push_ascii.ensures ∙ ap (λ (l : List ℕ). c.loop-left.words.items ++ l) (sym (fours_few c.loop-left.left.now (omega arith))) ∙ c.loop-left.invariant)

pub returns-in-len2 : goal.returns-in-len2
returns-in-len2 c =
    edifact_written c.args.words.now.items c.push.new.self.items _ c.args.src.now c.push.ensures.items
    (c.push_four-in-len2.ensures ∙ ap (λ (l : List ℕ). c.loop-left.words.items ++ l) (sym (fours_two c.loop-left.left.now (omega arith) (omega arith))) ∙ c.loop-left.invariant)

pub returns-in-len3-up : goal.returns-in-len3-up
returns-in-len3-up c =
    let left = c.loop-left.left.now in
    edifact_written c.args.words.now.items c.push.new.self.items _ c.args.src.now c.push.ensures.items
    (c.push_ascii-in-len3-up.ensures ∙ part_written c.loop-left.words.items c.push_four-in-len3-up.new.words.items _ (fours left) (four (get_or left 0 0) (get_or left 1 0) (get_or left 2 0) 31) _
    c.push_four-in-len3-up.ensures (fours_three left (omega arith) (omega arith)) c.loop-left.invariant)
