use Rattle.std.proofs.Common.{ℕ, inl, inr, arith, refl, ap, ◌-◌, length, take, sym, w64, to_z, of_z, ◌+◌, ◌*◌, ◌/◌, ◌<◌, ◌≤◌, ◌≡◌}
use Rattle.std.proofs.Math.Nat.{div-lt_iff_lt-mul, div-mul-le_self, mul-le-mul_left, mul-le-mul_right}
use Rattle.std.proofs.lemmas.Int.{to_z-of_z}
use Rattle.vp_glyph.proofs.Handed.{cells_few, text_unseen, seen_some, no_text, short_last}
use Rattle.vp_glyph.proofs.Moved.{short_row}
use Rattle.vp_glyph.proofs.Sides.{so_far, front_none, front_more, text_all, text_below}
use Rattle.vp_glyph.proofs.text.paint_short.Goals as goal
use Rattle.vp_glyph.proofs.text.paint_short.Goals.{then-loop-k-test+else-w-k, else-loop-k-test}

-- no more cells than dots
few : (w n : ℕ) → 0 < w → n ≤ w * n
few w n p = let m : 1 * n ≤ w * n = mul-le-mul_right n p in omega (arith, m)

pub returns-then-y-h : goal.returns-then-y-h
returns-then-y-h g c = record {
  painted = text_below _ _ _ _ _ _ _ _ c.if-y-h.true;
  most = omega arith;
  some = λ d l t. seen_some _ _ (λ e. no_text c.args.at c.args.sheet.now c.args.text.now c.args.stretch.now.width c.args.h c.args.y d c.if-y-h.true) t;
}

pub loop-k-init : goal.loop-k-init
loop-k-init g c =
    let w = c.args.stretch.now.width in
    let from = c.seen_dots-from.result.0 in
    let below : from / w < length c.args.text.now + 1 = (div-lt_iff_lt-mul {k = w} {x = from} {y = length c.args.text.now + 1} c.requires.some).1 (omega (arith, c.seen_dots-from.ensures.first)) in
    let whole : w * c.whole_cells-first.result ≡ w * (from / w) = ap (λ n. w * n) c.whole_cells-first.ensures in
    record {
      within = omega arith;
      after = omega (arith, c.whole_cells-first.ensures);
      begun = inl c.whole_cells-first.ensures;
      gathered = λ d l. front_none c.args.op _ c.args.sheet.now c.args.text.now (length c.args.text.now) w c.args.h 0 c.args.y (omega arith) c.requires.some c.whole_cells-first.result (λ x e g m n. c.seen_dots-from.ensures.before x e g (omega arith) n) d;
    }

pub loop-k-preserved : goal.loop-k-preserved
loop-k-preserved g c = record {
  within = omega arith;
  after = omega (arith, c.loop-k.invariant.after);
  begun = inr (let same : c.loop-k.k + 1 - 1 ≡ c.loop-k.k = omega arith in rw same (omega arith));
  gathered = λ d l.
      front_more c.args.op _ c.args.sheet.now c.args.text.now (length c.args.text.now) c.args.stretch.now.width c.args.h 0 c.args.y (omega arith) c.requires.some c.loop-k.k _ (c.args.stretch.now.width * c.loop-k.k) (omega arith) refl (omega arith) c.loop-k.front c.cell_front-front.result _ d
      refl (c.loop-k.invariant.gathered d l) (c.cell_front-front.ensures c.args.h c.args.y c.if-y-h.false (rw c.source_row-source.ensures refl) d l);
}

pub returns : goal.returns
returns g c =
    let w = c.args.stretch.now.width in
    let all : c.seen_dots-from.result.1 ≤ w * c.loop-k.k = elim c.loop-k-test.branch [
      | then-loop-k-test+else-w-k t ↦ omega arith
      | else-loop-k-test t ↦ (let m : w * length c.args.text.now ≤ w * c.loop-k.k = mul-le-mul_left w (let l : length c.args.text.now ≤ c.loop-k.k = omega arith in l) in omega (arith, c.seen_dots-from.ensures.last))
    ] in
    let few : c.loop-k.k ≤ c.seen_dots-from.result.0 / w + (8 * length c.args.row.now / w + 2) = elim c.loop-k.invariant.begun [
      | inl e ↦ omega (arith, e)
      | inr l ↦ cells_few c.seen_dots-from.result.0 c.seen_dots-from.result.1 (8 * length c.args.row.now) w c.loop-k.k c.requires.some c.seen_dots-from.ensures.few (short_last w c.loop-k.k c.seen_dots-from.result.1 l)
    ] in
    let whole : w * (c.seen_dots-from.result.0 / w) ≤ c.seen_dots-from.result.0 = (let m = div-mul-le_self c.seen_dots-from.result.0 w in omega (arith, m)) in
    rw (sym (to_z-of_z w64 c.args.at c.ranges.at)) (record {
      painted = text_all _ _ c.args.sheet.now c.args.text.now w c.args.h c.args.y c.requires.some c.loop-k.k c.loop-k.k _ _ (omega arith) (λ x d g m n. c.seen_dots-from.ensures.behind x d (omega arith) m n)
          (short_row _ (to_z w64 (of_z w64 c.args.at)) (so_far c.args.sheet.now (take (length c.args.text.now) c.args.text.now) w c.args.h 0 c.args.y c.loop-k.k) c.loop-k.front _ _ c.requires.short c.loop-k.invariant.gathered c.paint_word.ensures);
      most = omega (arith, few, c.loop-k.invariant.after, c.whole_cells-first.ensures);
      some = λ d l t. seen_some _ _
          (λ e. text_unseen _ c.args.sheet.now c.args.text.now w c.args.h c.args.y _ _ _ d
          (let same : c.loop-k.k ≡ c.seen_dots-from.result.0 / w = omega (arith, e, c.loop-k.invariant.after, c.whole_cells-first.ensures) in let m = rw same at all in omega (arith, m, whole)) c.seen_dots-from.ensures.before c.seen_dots-from.ensures.behind l)
          t;
    })

pub overflow_cast-k-in-loop-k : goal.overflow_cast-k-in-loop-k
overflow_cast-k-in-loop-k g c = omega (arith, few c.args.stretch.now.width (length c.args.text.now) c.requires.some)

pub overflow_cast-k-in-loop-k-2 : goal.overflow_cast-k-in-loop-k-2
overflow_cast-k-in-loop-k-2 g c = omega (arith, few c.args.stretch.now.width (length c.args.text.now) c.requires.some)

pub overflow_cast-result : goal.overflow_cast-result
overflow_cast-result g c = omega (arith, few c.args.stretch.now.width (length c.args.text.now) c.requires.some)

pub cell_front-front-requires-clause-fits : goal.cell_front-front-requires-clause-fits
cell_front-front-requires-clause-fits g c =
    let m : c.args.stretch.now.width * (c.loop-k.k + 1) ≤ c.args.stretch.now.width * length c.args.text.now = mul-le-mul_left c.args.stretch.now.width (omega arith) in
    omega (arith, m)
