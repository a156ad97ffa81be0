use Rattle.std.proofs.Common.{inl, inr, ℕ, ◌<◌, ◌≡◌, ◌&&◌, arith, ◌∙◌, ◌+◌, ◌||◌, ap, leb, get_or, w64, to_z, of_z}
use Rattle.std.proofs.lemmas.Int.{to_z-of_z}
use Rattle.vp_dots.specs.Dots.{shifted}
use Rattle.vp_dots.specs.Words.{word_dot}
use Rattle.vp_glyph.specs.Halves.{half_dot}
use Rattle.vp_glyph.proofs.Spread.{edge_at}
use Rattle.vp_glyph.proofs.Windows.{place_meets, wide_none, wide_hidden, wide_more, wide_all, wide_seen}
use Rattle.vp_glyph.proofs.stretch.Stretch.add_wide.Goals as goal

pub loop-s-init : goal.loop-s-init
loop-s-init c =
    let at = to_z w64 (of_z w64 c.args.at) in
    let seen = c.first_seen-s.ensures in
    let s = c.first_seen-s.result.0 in
    let from = c.first_seen-s.result.1 in
    let meets : (d : ℕ) → d < 32 → leb from d ≡ shifted at (leb (c.args.left + edge_at 12 c.args.self.now.width s)) d = λ d l. place_meets at (c.args.left + edge_at 12 c.args.self.now.width s) from d l seen.below seen.above in
    record {
      begun = seen.begun;
      within = seen.within;
      from_is = meets;
      added = λ r d l m. elim seen.first [
        | inl e ↦ wide_none at c.args.left c.args.self.now.width (word_dot (get_or c.args.cell.now r 0)) s _ d e
        | inr e ↦ wide_hidden at c.args.left c.args.self.now.width (word_dot (get_or c.args.cell.now r 0)) s from d _ seen.begun (meets d m) e
      ];
    }

pub loop-s-preserved : goal.loop-s-preserved
loop-s-preserved c =
    let at = to_z w64 (of_z w64 c.args.at) in
    let to : (d : ℕ) → d < 32 → leb c.in_half-to.result d ≡ shifted at (leb (c.args.left + edge_at 12 c.args.self.now.width (c.loop-s.s + 1))) d = λ d l. place_meets at (c.args.left + c.edge.result) _ d l c.in_half-to.ensures.below c.in_half-to.ensures.above ∙ ap (λ n. shifted at (leb (c.args.left + n)) d) c.edge.ensures.edge in
    record {
      begun = omega arith;
      within = c.in_half-to.ensures.within;
      from_is = to;
      added = λ r d l m. wide_more at c.args.left c.args.self.now.width (word_dot (get_or c.args.cell.now r 0)) c.loop-s.s c.loop-s.from c.in_half-to.result d _ _ _ (omega arith) (c.loop-s.invariant.from_is d m) (to d m)
          (c.loop-s.invariant.added r d l m) (c.add_dot.ensures r d l m ∙ ap (λ t. half_dot (get_or c.loop-s.rows r 0) d || t && half_dot c.left_half.result d) (c.halves_of-halves.ensures r c.loop-s.s l (omega arith))
          ∙ ap (λ t. half_dot (get_or c.loop-s.rows r 0) d || word_dot (get_or c.args.cell.now r 0) c.loop-s.s && t) (c.left_half.ensures d m ∙ c.mask.ensures d));
    }

pub returns-after-loop-s : goal.returns-after-loop-s
returns-after-loop-s c = grind (arith, to_z-of_z, wide_all)

pub returns-else-from-lt-HALF : goal.returns-else-from-lt-HALF
returns-else-from-lt-HALF c = grind (arith, to_z-of_z, wide_seen, c.loop-s.invariant.begun)
