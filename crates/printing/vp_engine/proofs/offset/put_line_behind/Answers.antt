use Rattle.std.proofs.Common.{◌+◌, ◌++◌, ◌∷◌, take, drop, slice_set, ap, ◌∙◌}
use borrow.Rule.Slice.PartMut.{put_mid}
use Rattle.vp_engine.proofs.OffsetLines.{written_over}
use Rattle.vp_engine.proofs.offset.put_line_behind.Goals as goal

pub returns : goal.returns
returns c =
    let digits = c.args.digits.now in let n = c.args.n in let last = 48 + c.args.last in
    let output = c.args.output.now in let line = c.byte_line.result.now in
    c.write_eight.ensures
    ∙ ap (λ x. put_mid (n + 2) 8 (slice_set (slice_set x n last) (n + 1) 0x20) line) c.write_digits.ensures
    ∙ written_over digits output line n last c.requires.n c.requires.covered c.requires.room
    ∙ ap (λ x. (take n digits ++ last ∷ 0x20 ∷ x) ++ drop (n + 10) output) c.byte_line.ensures.line
