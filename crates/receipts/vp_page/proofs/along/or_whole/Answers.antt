use Rattle.std.proofs.Common.{inl, inr}
use Rattle.vp_dots.specs.declared.Op.TheVariants.{Black}
use Rattle.vp_dots.proofs.Paints.{painted_same}
use Rattle.vp_page.proofs.HalfRows.{whole_left, whole_right}
use Rattle.vp_page.proofs.along.or_whole.Goals as goal

pub returns-in-LeftToRight : goal.returns-in-LeftToRight
returns-in-LeftToRight c = elim c.in-LeftToRight.is [
  | inl is ↦ (let on = rw is at c.requires in rw is (painted_same Black _ _ _ _ (λ x l. whole_right c.args.area c.args.bytes.now x on.begins on.short) c.or_words.ensures))
  | inr is ↦ (let on = rw is at c.requires in rw is (painted_same Black _ _ _ _ (λ x l. whole_right c.args.area c.args.bytes.now x on.begins on.short) c.or_words.ensures))
]

pub returns-in-RightToLeft : goal.returns-in-RightToLeft
returns-in-RightToLeft c = elim c.in-RightToLeft.is [
  | inl is ↦ (let on = rw is at c.requires in rw is (painted_same Black _ _ _ _ (λ x l. whole_left c.args.area c.args.bytes.now x on.begins on.short) c.or_reversed.ensures))
  | inr is ↦ (let on = rw is at c.requires in rw is (painted_same Black _ _ _ _ (λ x l. whole_left c.args.area c.args.bytes.now x on.begins on.short) c.or_reversed.ensures))
]
