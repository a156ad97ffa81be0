use Rattle.std.proofs.Common.{refl, subst, sym, w64, List, ℕ}
use Rattle.std.proofs.lemmas.Int.{to_z-of_z}
use Rattle.vp_glyph.specs.Layouts.{layout_of, HaveLine}
use Rattle.vp_glyph.proofs.Joining.{again_added}
use Rattle.vp_glyph.proofs.block.Block.join.Goals as goal

pub returns-then-is_like-clause-added : goal.returns-then-is_like-clause-added
returns-then-is_like-clause-added g c =
    subst (λ (cells : List ℕ). HaveLine (layout_of c.args.self.now) c.args.at cells c.args.rows.now) (sym (c.if-is_like.ensures refl)) c.requires.last

pub returns-clause-last : goal.returns-clause-last
returns-clause-last g c = rw (sym (to_z-of_z w64 c.args.at c.ranges.at)) (λ s x l m. again_added _ _ _ (c.add_rows-drawn.ensures.added s x l m))
