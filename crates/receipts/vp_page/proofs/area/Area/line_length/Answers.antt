use Rattle.std.proofs.Common.{inl, inr, refl}
use Rattle.vp_page.proofs.area.Area.line_length.Goals as goal

pub returns-in-BottomToTop : goal.returns-in-BottomToTop
returns-in-BottomToTop c = elim c.in-BottomToTop.is [ inl is ↦ rw is refl | inr is ↦ rw is refl ]
