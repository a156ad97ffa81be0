use Rattle.std.proofs.Common.{◌≡◌, ◌+◌, ◌<◌, ◌∙◌, [], arith, rules, length, get_or}
use Rattle.vp_receipt_settings.specs.declared.text.TheConstants.{LINE_ROWS}
use Rattle.vp_strips.proofs.SameRows.{parted_clear, parted_shows}
use Rattle.vp_strips.proofs.same.part_row.Goals as goal

pub returns-then-same-y-clause-shows : goal.returns-then-same-y-clause-shows
returns-then-same-y-clause-shows g c = λ z.
    let own = c.own_row-own.result in
    let same = c.args.same.now in
    let inside : c.args.y < length c.args.band.now = omega (arith, c.row_mut.ensures.rows, c.if-y-lt-LINE_ROWS.true) in
    let long : length same ≡ LINE_ROWS = search rules in
    let place : own + 0 ≡ own = omega arith in
    let is : c.write_row.new.row ≡ get_or c.args.band.now own [] = c.write_row.ensures ∙ rw place at (c.rows.ensures.rows 0 (omega arith)) in
    rw is (parted_shows same c.args.band.now c.args.y own inside (omega (arith, long, c.if-y-lt-LINE_ROWS.true)) (c.own_row-own.ensures.shows c.args.band.now inside) z)

pub returns-then-same-y-clause-clear : goal.returns-then-same-y-clause-clear
returns-then-same-y-clause-clear g c =
    let own = c.own_row-own.result in
    let same = c.args.same.now in
    let inside : c.args.y < length c.args.band.now = omega (arith, c.row_mut.ensures.rows, c.if-y-lt-LINE_ROWS.true) in
    let long : length same ≡ LINE_ROWS = search rules in
    let place : own + 0 ≡ own = omega arith in
    let is : c.write_row.new.row ≡ get_or c.args.band.now own [] = c.write_row.ensures ∙ rw place at (c.rows.ensures.rows 0 (omega arith)) in
    rw is (parted_clear same c.args.band.now c.args.y own inside (omega (arith, long, c.if-y-lt-LINE_ROWS.true)) (c.own_row-own.ensures.shows c.args.band.now inside) c.if-y-lt-LINE_ROWS.true c.own_row-own.ensures.up c.if-same-y.true)
