use Rattle.vp_dots.specs.declared.square.TheConstants.{SIDE}
use Rattle.std.proofs.Common.{◌≡◌, ℕ, Bool, ◌+◌, ◌-◌, ◌*◌, ◌/◌, ◌%◌, ◌<◌, drop, min, ap, ◌∙◌, arith, [], get_or, length-set, rules}
use Rattle.std.proofs.Math.Nat.{mul-le-mul_right, suc-mul, div-le_self}
use Rattle.vp_dots.specs.Dots.{dot}
use Rattle.vp_receipt_settings.specs.Rasters.{row_at, times_across, times_down}
use Rattle.vp_receipt.proofs.PageRows.{front_shown}
use Rattle.vp_receipt.proofs.RasterLines.{line_set, not_first, row_there, same_row}
use Rattle.vp_page.specs.declared.line.TheConstants.{LINE_BYTES}
use Rattle.vp_receipt.proofs.raster_page.write_lines.Goals as goal
use Rattle.vp_receipt.proofs.raster_page.write_lines.Goals.{then-from-i-gt0, else-from-i-gt0}

pub slice_bounds-write_line-end : goal.slice_bounds-write_line-end
slice_bounds-write_line-end c =
    grind (arith, mul-le-mul_right, row_there, c.times_down-times.ensures.some, c.times_down-times.ensures.few, c.loop-i-test.true, c.min-few.ensures, suc-mul, c.requires.long, c.min-shown.ensures)

pub loop-i-preserved : goal.loop-i-preserved
loop-i-preserved c =
    let bytes = c.args.bytes.now in
    let wide = c.args.wide in
    let from = c.args.from in
    let i = c.loop-i.i in
    let times = times_down c.args.scale in
    let across = times_across c.args.scale in
    let is = c.times_down-times.ensures.value in
    let f : ℕ → ℕ → Bool = λ k u. dot (row_at bytes wide ((from + k) / times)) (u / across) in
    elim c.if-from-i-gt0.branch [
      | then-from-i-gt0 w ↦
          let more : 0 < (from + i) % times = rw (← is) w.if-from-i-gt0.true in
          let some : 0 < i = not_first from i times c.requires.row_begins more in
          let above : from + (i - 1) ≡ from + i - 1 = omega (arith, some) in
          let same : (from + (i - 1)) / times ≡ (from + i) / times = rw above (same_row (from + i) times (omega (arith, is, c.times_down-times.ensures.few)) (omega (arith, some)) more) in
          rw w.lines-is (record {
            count = length-set _ _ _ ∙ c.loop-i.invariant.count;
            dots = line_set f c.loop-i.lines i (get_or c.loop-i.lines (i - 1) []) (omega (arith, c.loop-i.invariant.count, c.loop-i-test.true, c.min-few.ensures))
                (λ u l. rw same at (c.loop-i.invariant.dots (i - 1) u (omega (arith, some)) l))
                c.loop-i.invariant.dots;
          })
      | else-from-i-gt0 w ↦
          let at = (from + i) / c.times_down-times.result * wide in
          let shown : at + c.min-shown.result - at ≡ min wide LINE_BYTES = omega (arith, c.min-shown.ensures) in
          rw w.lines-is (record {
            count = length-set _ _ _ ∙ c.loop-i.invariant.count;
            dots = line_set f c.loop-i.lines i w.write_line.new.line (omega (arith, c.loop-i.invariant.count, c.loop-i-test.true, c.min-few.ensures))
                (λ u l. w.write_line.ensures u l ∙ rw shown (front_shown wide (u / across) (drop at bytes) (let near = div-le_self u across in omega (arith, near, l)))
                ∙ ap (λ t. dot (row_at bytes wide ((from + i) / t)) (u / across)) is)
                c.loop-i.invariant.dots;
          })
    ]

pub returns-clause-few : goal.returns-clause-few
returns-clause-few c = c.min-few.ensures ∙ ap (λ t. min (c.args.rows * t - c.args.from) SIDE) c.times_down-times.ensures.value

pub returns-clause-dots : goal.returns-clause-dots
returns-clause-dots c k u h l = grind (arith, c.loop-i.invariant.dots, c.loop-i-test.false, c.times_down-times.ensures.value, c.min-few.ensures, h)

pub loop-i-init : goal.loop-i-init
loop-i-init c = record { count = search rules; dots = λ k u h l. absurd (omega arith) }
