use Rattle.std.proofs.Common.{◌≡◌, ℕ, ◌+◌, ◌-◌, ◌*◌, ◌<◌, eqb, ap, sym, ◌∙◌, w64, arith}
use Rattle.std.proofs.lemmas.Int.{to_z-of_z}
use Rattle.std.specs.Int.{bit_at}
use Rattle.vp_pdf417.specs.declared.size.Size.{Size}
use Rattle.vp_pdf417.specs.Modules.{parts}
use Rattle.vp_matrix.specs.declared.matrix.Matrix.TheVariants.{Pdf417}
use Rattle.vp_matrix.specs.Symbols.{is_dark}
use Rattle.vp_matrix.proofs.DarkRuns.{run_none, run_at, run_on, run_off, run_all, no_row, part_module, last_module, none_behind_parts}
use Rattle.vp_matrix.proofs.runs.paint_parts.Goals as goal
use Rattle.vp_matrix.proofs.runs.paint_parts.Goals.{then-not-is_dark_in, else-not-is_dark_in}

pub returns-then-line-size : goal.returns-then-line-size
returns-then-line-size c = no_row c.args.op c.args.at c.args.wide c.args.symbol.now c.args.line c.args.row.now (rw (sym (ap (λ (s : Size). s.rows) c.size.ensures.size)) c.if-line-size.true)

pub loop-k-init : goal.loop-k-init
loop-k-init c = run_none c.args.op _ c.args.wide (λ (k : ℕ). is_dark (Pdf417 c.args.symbol.now) c.args.line k) c.requires.some _

pub loop-i-init : goal.loop-i-init
loop-i-init c = run_at c.args.op _ c.args.wide (λ (k : ℕ). is_dark (Pdf417 c.args.symbol.now) c.args.line k) c.requires.some (17 * c.loop-k.k) (17 * c.loop-k.k + 0) c.loop-k.from _ _
    (omega arith) c.loop-k.invariant

pub loop-i-preserved : goal.loop-i-preserved
loop-i-preserved c =
    let s = c.args.symbol.now in
    let dark = λ (k : ℕ). is_dark (Pdf417 s) c.args.line k in
    let column = 17 * c.loop-k.k + c.loop-i.i in
    let line : c.args.line < s.size.rows = rw (sym (ap (λ (z : Size). z.rows) c.size.ensures.size)) c.if-line-size.false in
    let part : c.loop-k.k < parts s.size = rw (sym c.parts-parts.ensures.parts) c.loop-k-test.true in
    let module_is : dark column ≡ c.is_dark_in.result =
    part_module s c.args.line c.loop-k.k c.loop-i.i line part c.loop-i-test.true ∙ sym (c.is_dark_in.ensures ∙ ap (λ (n : ℕ). eqb (bit_at n (16 - c.loop-i.i)) 1) c.part-part.ensures) in
    run_at c.args.op _ c.args.wide dark c.requires.some (column + 1) (17 * c.loop-k.k + (c.loop-i.i + 1)) _ _ _ (omega arith) (elim c.if-not-is_dark_in.branch [
      | then-not-is_dark_in w ↦ rw (w.row-is, w.from-is) (run_off c.args.op _ c.args.wide dark c.requires.some column c.loop-i.from _ _ _
          c.loop-i.invariant w.fill_moved.ensures (module_is ∙ w.if-not-is_dark_in.true))
      | else-not-is_dark_in w ↦ rw (w.row-is, w.from-is) (run_on c.args.op _ c.args.wide dark c.requires.some column c.loop-i.from _ _
          c.loop-i.invariant (module_is ∙ w.if-not-is_dark_in.false))
    ])

pub loop-k-preserved : goal.loop-k-preserved
loop-k-preserved c = run_at c.args.op _ c.args.wide (λ (k : ℕ). is_dark (Pdf417 c.args.symbol.now) c.args.line k) c.requires.some (17 * c.loop-k.k + c.loop-i.i) (17 * (c.loop-k.k + 1)) c.loop-i.from _ _
    (omega arith) c.loop-i.invariant

pub returns : goal.returns
returns c =
    let s = c.args.symbol.now in
    let dark = λ (k : ℕ). is_dark (Pdf417 s) c.args.line k in
    let line : c.args.line < s.size.rows = rw (sym (ap (λ (z : Size). z.rows) c.size.ensures.size)) c.if-line-size.false in
    let end : 17 * c.loop-k.k ≡ 17 * parts s.size = omega (arith, c.parts-parts.ensures.parts) in
    let all : 17 * parts s.size + 1 ≡ 17 * c.parts-parts.result + 1 = omega (arith, c.parts-parts.ensures.parts) in
    let painted = run_at c.args.op _ c.args.wide dark c.requires.some (17 * c.loop-k.k) (17 * parts s.size) c.loop-k.from _ _ end c.loop-k.invariant in
    let behind = run_on c.args.op _ c.args.wide dark c.requires.some (17 * parts s.size) c.loop-k.from _ _ painted (last_module s c.args.line line) in
    rw (sym (to_z-of_z w64 c.args.at c.ranges.at)) (run_all c.args.op _ c.args.wide dark c.requires.some (17 * parts s.size + 1) c.loop-k.from (17 * c.parts-parts.result + 1) _ _ _
    all behind c.fill_moved-2.ensures (λ k h. none_behind_parts s c.args.line k (omega (arith, all, h))))
