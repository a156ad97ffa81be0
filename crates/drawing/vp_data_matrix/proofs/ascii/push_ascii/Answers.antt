use Rattle.std.proofs.Common.{arith, ℕ, List, ◌++◌, ◌≤◌, ◌+◌, [], ◌∷◌, ◌∙◌, sym, ap, length, get_or, append-nil}
use Rattle.vp_data_matrix.specs.Ascii.{ascii, single, digit_pair}
use Rattle.vp_data_matrix.proofs.Words.{ascii_pair, ascii_one, ascii_last, ascii_none, room_for, part_written, written_all}
use Rattle.vp_data_matrix.proofs.ascii.push_ascii.Goals as goal

pub push-requires : goal.push-requires
push-requires c =
    let left = c.loop-left.left.now in
    let room : length c.loop-left.words.items + 1 ≤ 1558 =
    room_for c.loop-left.words.items (ascii left) (digit_pair (get_or left 0 0) (get_or left 1 0) ∷ []) _ c.args.words.now.items (ascii c.args.src.now) 1558 c.requires c.loop-left.invariant
    (ascii_pair left (omega arith) (sym c.are_digits.ensures ∙ c.if-are_digits.true)) in
    (omega arith, omega arith)

pub loop-left-preserved-then-are_digits : goal.loop-left-preserved-then-are_digits
loop-left-preserved-then-are_digits c =
    let left = c.loop-left.left.now in
    part_written c.loop-left.words.items _ _ (ascii left) (digit_pair (get_or left 0 0) (get_or left 1 0) ∷ []) _
    (c.push.ensures.items ∙ ap (λ (n : ℕ). c.loop-left.words.items ++ n ∷ []) c.digit_pair.ensures) (ascii_pair left (omega arith) (sym c.are_digits.ensures ∙ c.if-are_digits.true)) c.loop-left.invariant

pub push_single-requires : goal.push_single-requires
push_single-requires c =
    let left = c.loop-left.left.now in
    room_for c.loop-left.words.items (ascii left) (single (get_or left 0 0)) _ c.args.words.now.items (ascii c.args.src.now) 1558 c.requires c.loop-left.invariant
    (ascii_one left (omega arith) (sym c.are_digits.ensures ∙ c.if-are_digits.false))

pub loop-left-preserved : goal.loop-left-preserved
loop-left-preserved c =
    let left = c.loop-left.left.now in
    part_written c.loop-left.words.items _ _ (ascii left) (single (get_or left 0 0)) _
    c.push_single.ensures (ascii_one left (omega arith) (sym c.are_digits.ensures ∙ c.if-are_digits.false)) c.loop-left.invariant

pub push_single-requires-in-len1-up : goal.push_single-requires-in-len1-up
push_single-requires-in-len1-up c =
    let left = c.loop-left.left.now in
    room_for c.loop-left.words.items (ascii left) (single (get_or left 0 0)) [] c.args.words.now.items (ascii c.args.src.now) 1558 c.requires c.loop-left.invariant
    (ascii_last left (omega arith) (omega arith) ∙ sym (append-nil (single (get_or left 0 0))))

pub returns-in_default-left : goal.returns-in_default-left
returns-in_default-left c = written_all _ _ _ (ascii_none c.loop-left.left.now (omega arith)) c.loop-left.invariant

pub returns-in-len1-up : goal.returns-in-len1-up
returns-in-len1-up c =
    c.push_single-in-len1-up.ensures ∙ ap (λ (l : List ℕ). c.loop-left.words.items ++ l) (sym (ascii_last c.loop-left.left.now (omega arith) (omega arith))) ∙ c.loop-left.invariant
