use Rattle.std.proofs.Common.{ℕ, arith, ◌∙◌, ◌+◌, ◌*◌, ◌<◌, ◌≤◌, ap, ◌||◌, get_or, inl, inr, refl, sym, w64}
use Rattle.std.proofs.Math.Nat.{mul-le-mul_left, mul-le-mul_right}
use Rattle.std.proofs.lemmas.Bool.{cases_lt}
use Rattle.std.proofs.lemmas.Int.{to_z-of_z}
use Rattle.vp_glyph.specs.Halves.{half_dot}
use Rattle.vp_dots.specs.declared.Op.TheVariants.{Black}
use Rattle.vp_glyph.specs.Blocks.{pieces, first}
use Rattle.vp_glyph.proofs.Handed.{line_unseen, seen_some}
use Rattle.vp_glyph.proofs.Pieces.{behind_all, behind_more, cell_is}
use Rattle.vp_glyph.proofs.Sides.{dot_none, dot_more, dots_all}
use Rattle.vp_glyph.proofs.Joining.{cell_row}
use Rattle.vp_glyph.proofs.joined.add_cells.Goals as goal

-- a cell that begins before the line's end
begun : (w k cells to : ℕ) → w * k < to → to ≤ w * cells → k < cells
begun w k cells to l m = elim (cases_lt k cells) [ inl y ↦ y | inr g ↦ absurd (let o : w * cells ≤ w * k = mul-le-mul_left w g in omega arith) ]

-- cells that end within a line
few : (w k cells from : ℕ) → 0 < w → w * k ≤ from → from ≤ w * cells → k ≤ cells
few w k cells from p l m = elim (cases_lt cells k) [ inl y ↦ absurd (let o : w * (cells + 1) ≤ w * k = mul-le-mul_left w (let z : cells + 1 ≤ k = omega arith in z) in omega arith) | inr g ↦ g ]

pub behind_cells-rest-requires : goal.behind_cells-rest-requires
behind_cells-rest-requires g c = grind (arith, few, c.cells_within-k.ensures)

pub loop-k-init : goal.loop-k-init
loop-k-init g c =
    let w = c.args.stretch.now.width in
    let upto = few w c.cells_within-k.result c.args.line.cells c.seen_dots-from.result.0 c.requires.w c.cells_within-k.ensures c.seen_dots-from.ensures.first in
    record {
      within = omega (arith, upto);
      counted = omega arith;
      none = λ e. c.cells_within-k.ensures;
      behind = record { first_is = c.behind_cells-rest.ensures.first; others_are = c.behind_cells-rest.ensures.others; within = omega (arith, upto, c.requires.cells) };
      added = λ s x l m. dot_none Black _ c.args.sheet.now _ c.args.line.cells w 24 c.args.left s c.requires.cells c.requires.w c.cells_within-k.result (λ v e i n o. c.seen_dots-from.ensures.before v e i (omega (arith, c.cells_within-k.ensures)) o) _ x;
    }

pub add_rows-requires : goal.add_rows-requires
add_rows-requires g c =
    let w = c.args.stretch.now.width in
    let more = begun w c.loop-k.k c.args.line.cells c.seen_dots-from.result.1 (omega arith) (omega (arith, c.seen_dots-from.ensures.last)) in
    let room : w * (c.loop-k.k + 1) ≤ w * c.args.line.cells = mul-le-mul_left w (let l : c.loop-k.k + 1 ≤ c.args.line.cells = omega (arith, more) in l) in
    record { fits = omega (arith, room, c.requires.fits) }

pub unreachable-requires : goal.unreachable-requires
unreachable-requires g c = grind (arith, behind_all, begun, c.in_default.ensures)

pub loop-k-preserved : goal.loop-k-preserved
loop-k-preserved g c =
    let w = c.args.stretch.now.width in
    let more = begun w c.loop-k.k c.args.line.cells c.seen_dots-from.result.1 (omega arith) (omega (arith, c.seen_dots-from.ensures.last)) in
    record {
      within = omega (arith, more);
      counted = omega (arith, c.loop-k.invariant.counted);
      none = λ e. absurd {A = w * (c.loop-k.k + 1) ≤ c.seen_dots-from.result.0} (omega (arith, e));
      behind = behind_more c.loop-k.k _ _ _ _ c.loop-k.invariant.behind c.in-Some.ensures;
      added = λ s x l m. dot_more Black _ c.args.sheet.now _ c.args.line.cells w 24 c.args.left s c.requires.cells c.requires.w c.loop-k.k c.in-Some.character (c.args.left + w * c.loop-k.k) more
          (cell_is c.loop-k.k _ _ _ _ c.loop-k.invariant.behind c.in-Some.ensures) refl _ _ _ x (c.loop-k.invariant.added s x l m)
          (c.add_rows.ensures s x l (omega arith) ∙ ap (λ t. half_dot (get_or c.loop-k.rows s 0) x || t) (cell_row c.args.sheet.now c.in-Some.character w (c.args.left + w * c.loop-k.k) s _ x _ l (λ u. c.rows_in.ensures u s)));
    }

pub loop-k-smaller : goal.loop-k-smaller
loop-k-smaller g c = grind arith

pub overflow_add-drawn : goal.overflow_add-drawn
overflow_add-drawn g c = grind (arith, begun, mul-le-mul_right, c.requires.w)

pub returns : goal.returns
returns g c = rw (sym (to_z-of_z w64 c.args.at c.ranges.at)) (record {
  added = λ s x l m. c.loop-k.invariant.added s x l m ∙ ap (λ t. half_dot (get_or c.args.rows.now s 0) x || t)
      (dots_all Black _ c.args.sheet.now _ c.args.line.cells c.args.stretch.now.width 24 c.args.left s c.requires.cells c.requires.w c.loop-k.k c.loop-k.k 4 x (omega arith) (λ v d i n o. c.seen_dots-from.ensures.behind v d (omega arith) n o) (omega arith));
  most = omega (arith, c.loop-k.invariant.counted, c.loop-k.invariant.within);
  some = λ s x l m t. seen_some _ _
      (λ e. line_unseen _ c.args.sheet.now (first (pieces c.args.line.text.now)) c.args.line.cells c.args.stretch.now.width 24 c.args.left s _ _ 32 x c.requires.cells
      (let before = c.loop-k.invariant.none e in omega (arith, before)) c.seen_dots-from.ensures.before c.seen_dots-from.ensures.behind m)
      t;
})

pub overflow_cast-line : goal.overflow_cast-line
overflow_cast-line g c = let m : 1 * c.args.line.cells ≤ c.args.stretch.now.width * c.args.line.cells = mul-le-mul_right c.args.line.cells c.requires.w in omega (arith, m)

pub overflow_add-k : goal.overflow_add-k
overflow_add-k g c = let m : 1 * c.loop-k.k ≤ c.args.stretch.now.width * c.loop-k.k = mul-le-mul_right c.loop-k.k c.requires.w in omega (arith, m, c.seen_dots-from.ensures.last)
