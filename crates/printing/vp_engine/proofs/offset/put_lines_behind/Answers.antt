use Rattle.std.proofs.Common.{◌≡◌, ◌+◌, ◌*◌, ◌++◌, length, take, drop, get_or, sym, ap, ◌∙◌, arith}
use Rattle.std.proofs.lemmas.List.{take_more, length-take-le}
use Rattle.vp_engine.specs.Lines.{line_behind, lines_behind}
use Rattle.vp_engine.proofs.OffsetLines.{written_behind, one_line_behind, length_behind}
use Rattle.vp_engine.proofs.offset.put_lines_behind.Goals as goal

pub loop-i-preserved : goal.loop-i-preserved
loop-i-preserved c =
    let n = c.args.n in let i = c.loop-i.i in let last = c.args.last in let bytes = c.args.bytes.now in
    let digits = take n c.args.digits.now in let byte = get_or bytes i 0 in
    let lines = lines_behind digits last (take i bytes) in let line = line_behind digits (last + i) byte in
    let output = c.args.output.now in let put = (n + 10) * i in
    let front : length (take i bytes) ≡ i = length-take-le i bytes (omega (arith, c.loop-i-test.true)) in
    let long : length lines ≡ put =
    length_behind digits last (take i bytes) ∙ ap (λ k. (k + 10) * length (take i bytes)) (length-take-le n c.args.digits.now c.requires.n) ∙ ap (λ k. (n + 10) * k) front in
    let more : lines_behind digits last (take (i + 1) bytes) ≡ lines ++ line =
    ap (lines_behind digits last) (take_more bytes i 0 c.loop-i-test.true) ∙ one_line_behind digits last (take i bytes) byte ∙ ap (λ k. lines ++ line_behind digits (last + k) byte) front in
    let next : put + (n + 10) ≡ (n + 10) * (i + 1) = grind arith in
    written_behind put (n + 10) lines line output c.loop-i.output c.put_line_behind.new.output c.loop-i.invariant long c.put_line_behind.ensures
    ∙ ap (λ x. x ++ drop (put + (n + 10)) output) (sym more) ∙ ap (λ k. lines_behind digits last (take (i + 1) bytes) ++ drop k output) next
