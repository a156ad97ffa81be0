use Rattle.std.proofs.Common.{◌≡◌, ℕ, sym, ◌∙◌, w64, arith}
use Rattle.std.proofs.lemmas.Int.{to_z-of_z}
use Rattle.vp_matrix.specs.Symbols.{is_dark}
use Rattle.vp_matrix.proofs.DarkRuns.{run_none, run_on, run_off, run_all, none_behind}
use Rattle.vp_matrix.proofs.runs.paint_modules.Goals as goal
use Rattle.vp_matrix.proofs.runs.paint_modules.Goals.{then-not-is_dark, else-not-is_dark}

pub loop-column-init : goal.loop-column-init
loop-column-init c = run_none c.args.op _ c.args.wide (λ (k : ℕ). is_dark c.args.symbol.now c.args.line k) c.requires.some _

pub loop-column-preserved : goal.loop-column-preserved
loop-column-preserved c =
    let dark = λ (k : ℕ). is_dark c.args.symbol.now c.args.line k in
    elim c.if-not-is_dark.branch [
      | then-not-is_dark w ↦ rw (w.row-is, w.from-is) (run_off c.args.op _ c.args.wide dark c.requires.some c.loop-column.column c.loop-column.from _ _ _
          c.loop-column.invariant w.fill_moved.ensures (sym c.is_dark.ensures ∙ w.if-not-is_dark.true))
      | else-not-is_dark w ↦ rw (w.row-is, w.from-is) (run_on c.args.op _ c.args.wide dark c.requires.some c.loop-column.column c.loop-column.from _ _
          c.loop-column.invariant (sym c.is_dark.ensures ∙ w.if-not-is_dark.false))
    ]

pub returns : goal.returns
returns c =
    let dark = λ (k : ℕ). is_dark c.args.symbol.now c.args.line k in
    let end : c.loop-column.column ≡ c.columns-columns.result = omega arith in
    rw (sym (to_z-of_z w64 c.args.at c.ranges.at)) (run_all c.args.op _ c.args.wide dark c.requires.some c.loop-column.column c.loop-column.from c.columns-columns.result _ _ _
    end c.loop-column.invariant c.fill_moved-2.ensures (λ k h. none_behind c.args.symbol.now c.args.line k (rw (sym c.columns-columns.ensures.columns) h)))
