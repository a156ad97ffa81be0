use Rattle.std.proofs.Common.{◌<◌, ◌∙◌, ℕ, length, ap, sym, subst, true≢false, arith}
use Rattle.std.specs.Result.{IsOk}
use Rattle.vp_dots.proofs.ImageRows.{length-row_from}
use Rattle.vp_dots.specs.Images.{row_bytes}
use Rattle.vp_format.specs.declared.format.TheConstants.{STORED}
use Rattle.vp_matrix.specs.Symbols.{columns, rows}
use Rattle.vp_format.specs.declared.format.Format.{Format}
use Rattle.vp_closing.proofs.Rows.{has_room, next_row, white}
use Rattle.vp_closing.proofs.modules.keep_rows.Goals as goal

pub draw_row-requires-clause-white : goal.draw_row-requires-clause-white
draw_row-requires-clause-white g c = λ d l. white _ d (omega (arith, c.columns.ensures.most)) l

pub unreachable-requires : goal.unreachable-requires
unreachable-requires g c =
    let m = c.args.matrix.now in
    let count = ap (length {A = ℕ}) c.draw_row.ensures ∙ length-row_from (row_bytes (columns m)) _ 0 in
    let below : c.loop-y.y < rows m = omega (arith, c.loop-y-test.true, c.rows-y-end.ensures.rows) in
    true≢false (sym (subst IsOk c.in_default.is (c.keep.ensures.room.1 (has_room m c.loop-y.y STORED c.args.format.now.stored c.loop-y.format.stored c.draw_row.new.row below c.loop-y.invariant.stored count c.requires.room))))

pub loop-y-preserved : goal.loop-y-preserved
loop-y-preserved g c = record {
  stored = next_row c.args.matrix.now c.loop-y.y c.args.format.now.stored c.loop-y.format.stored c.keep.new.self.stored c.draw_row.new.row c.loop-y.invariant.stored c.draw_row.ensures (ap (λ (f : Format _). f.stored) c.in-Ok.ensures.ok);
  fields = ap (λ (f : Format _). f.fields) c.in-Ok.ensures.ok ∙ c.loop-y.invariant.fields;
}
