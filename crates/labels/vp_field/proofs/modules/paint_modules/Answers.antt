use Rattle.std.proofs.Common.{◌≡◌, ℕ, sym, ◌∙◌, w64, arith}
use Rattle.std.proofs.lemmas.Int.{to_z-of_z}
use Rattle.vp_field.specs.Matrices.{is_dark}
use Rattle.vp_field.proofs.DarkRuns.{run_none, run_on, run_off, run_all, none_behind}
use Rattle.vp_field.proofs.modules.paint_modules.Goals as goal
use Rattle.vp_field.proofs.modules.paint_modules.Goals.{then-not-is_dark, else-not-is_dark}

pub loop-column-init : goal.loop-column-init
loop-column-init c =
    let m = c.args.modules.now in
    run_none c.args.op _ m.symbol.wide (λ (k : ℕ). is_dark m.symbol m.bytes.now c.args.line k) m.wide_some _

pub loop-column-preserved : goal.loop-column-preserved
loop-column-preserved c =
    let m = c.args.modules.now in
    let dark = λ (k : ℕ). is_dark m.symbol m.bytes.now c.args.line k in
    elim c.if-not-is_dark.branch [
      | then-not-is_dark w ↦ rw (w.row-is, w.from-is) (run_off c.args.op _ m.symbol.wide dark m.wide_some c.loop-column.column c.loop-column.from _ _ _
          c.loop-column.invariant (rw c.from-wide.ensures at w.fill_moved.ensures) (sym c.is_dark.ensures ∙ w.if-not-is_dark.true))
      | else-not-is_dark w ↦ rw (w.row-is, w.from-is) (run_on c.args.op _ m.symbol.wide dark m.wide_some c.loop-column.column c.loop-column.from _ _
          c.loop-column.invariant (sym c.is_dark.ensures ∙ w.if-not-is_dark.false))
    ]

pub returns : goal.returns
returns c =
    let m = c.args.modules.now in
    let dark = λ (k : ℕ). is_dark m.symbol m.bytes.now c.args.line k in
    let end : c.loop-column.column ≡ c.from-columns.result = omega arith in
    rw (sym (to_z-of_z w64 c.args.at c.ranges.at)) (run_all c.args.op _ m.symbol.wide dark m.wide_some c.loop-column.column c.loop-column.from c.from-columns.result _ _ _
    end c.loop-column.invariant (rw c.from-wide.ensures at c.fill_moved-2.ensures) (λ k h. none_behind m.symbol m.bytes.now c.args.line k (rw (sym c.from-columns.ensures) h)))
