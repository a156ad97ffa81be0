use Rattle.std.proofs.Common.{inl, inr, subst, sym, w64, ◌∙◌}
use Rattle.std.proofs.lemmas.Int.{to_z-of_z}
use Rattle.vp_glyph.specs.Kept.{IsDrawn}
use Rattle.vp_glyph.specs.Layouts.{layout_of}
use Rattle.vp_glyph.proofs.Joining.{rows_white}
use Rattle.vp_glyph.proofs.block.Block.keep.Goals as goal

pub returns-clause-line : goal.returns-clause-line
returns-clause-line g c = rw (c.put.ensures.latest.1, sym (to_z-of_z w64 c.args.at c.ranges.at)) (λ s x l m. rows_white s x _ _ (c.add_rows-drawn.ensures.added s x l m))

pub returns-clause-first : goal.returns-clause-first
returns-clause-first g c = elim c.put.ensures.first [
  | inl e ↦ subst (IsDrawn (layout_of c.args.self.now) c.args.at) (sym (e ∙ c.has.ensures.first)) c.requires.first
  | inr h ↦ rw (h.0, h.1, sym (to_z-of_z w64 c.args.at c.ranges.at)) (λ s x l m. rows_white s x _ _ (c.add_rows-drawn.ensures.added s x l m))
]

pub returns-clause-second : goal.returns-clause-second
returns-clause-second g c = elim c.put.ensures.second [
  | inl e ↦ subst (IsDrawn (layout_of c.args.self.now) c.args.at) (sym (e ∙ c.has.ensures.second)) c.requires.second
  | inr h ↦ rw (h.0, h.1, sym (to_z-of_z w64 c.args.at c.ranges.at)) (λ s x l m. rows_white s x _ _ (c.add_rows-drawn.ensures.added s x l m))
]
