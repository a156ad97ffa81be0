use Rattle.std.proofs.Common.{refl, ◌+◌, ◌<◌, ◌-◌, ◌%◌, ◌/◌, ap, ◌∙◌, arith, eqb, leb, ltb, ◌&&◌, ◌||◌, ℕ, Bool, length}
use Rattle.vp_dots.specs.Dots.{bit, span}
use Rattle.vp_dots.proofs.Paints.{painted_same, painted_then}
use Rattle.vp_dots.proofs.Spans.{bit_of_and, within, across, front_apart, back_apart}
use Rattle.vp_dots.proofs.span.fill_dots.Goals as goal

pub returns-then-first-last : goal.returns-then-first-last
returns-then-first-last c = painted_same _ _ _ _ _ (λ d l.
    ap (λ b. eqb (d / 8) (c.args.from / 8) && b) (bit_of_and c.bits_from-head.result c.bits_before-tail.result (7 - d % 8)
    ∙ ap (λ b. b && bit c.bits_before-tail.result (7 - d % 8)) (c.bits_from-head.ensures (7 - d % 8) (omega arith))
    ∙ ap (λ b. leb (c.args.from % 8) (7 - (7 - d % 8)) && b) (c.bits_before-tail.ensures (7 - d % 8) (omega arith)))
    ∙ within c.args.from c.args.to d c.if-first-last.true) c.paint_masked.ensures

pub returns : goal.returns
returns c =
    let first : ℕ → Bool = λ d. eqb (d / 8) (c.args.from / 8) && leb (c.args.from % 8) (7 - (7 - d % 8)) in
    let between : ℕ → Bool = λ d. span (c.args.from / 8 + 1) c.min-whole.result (d / 8) in
    let last : ℕ → Bool = λ d. eqb (d / 8) (c.args.to / 8) && ltb (7 - (7 - d % 8)) (c.args.to % 8) in
    let row = c.args.row.now in
    let apart : c.args.from / 8 < c.args.to / 8 = omega arith in
    let head = painted_same c.args.op _ first row _ (λ d l. ap (λ b. eqb (d / 8) (c.args.from / 8) && b) (c.bits_from-head.ensures (7 - d % 8) (omega arith))) c.paint_masked-2.ensures in
    let tail = painted_same c.args.op _ last _ _ (λ d l. ap (λ b. eqb (d / 8) (c.args.to / 8) && b) (c.bits_before-tail.ensures (7 - d % 8) (omega arith))) c.paint_masked-3.ensures in
    let front = painted_then c.args.op first between (λ d. first d || between d) row _ _ head c.fill_bytes.ensures (λ d l. refl)
    (λ d l. front_apart c.args.from c.args.to c.min-whole.result (length c.paint_masked-2.new.row) d apart c.min-whole.ensures (omega (arith, c.paint_masked-2.ensures.length_is))) in
    painted_then c.args.op (λ d. first d || between d) last (span c.args.from c.args.to) row _ _ front tail
    (λ d l. across c.args.from c.args.to c.min-whole.result (length c.paint_masked-2.new.row) d apart c.min-whole.ensures (omega (arith, c.paint_masked-2.ensures.length_is)))
    (λ d l. back_apart c.args.from c.args.to c.min-whole.result (length c.paint_masked-2.new.row) d apart c.min-whole.ensures (omega (arith, c.paint_masked-2.ensures.length_is)))
