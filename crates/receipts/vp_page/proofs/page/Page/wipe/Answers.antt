use Rattle.std.proofs.Common.{refl, sym, subst, arith}
use Rattle.vp_page.specs.Pages.{HasPage}
use Rattle.vp_page.proofs.Pages.{wiped}
use Rattle.vp_page.proofs.page.Page.wipe.Goals as goal

pub returns : goal.returns
returns g c = λ layers page.
    wiped layers c.args.area c.wipe.result c.wipe-2.result _ _ (subst (HasPage layers) (sym c.self.view_is) page) c.wipe.ensures.black (rw c.turned.ensures at c.wipe-2.ensures.black)
    c.wipe.ensures.white (rw c.turned.ensures at c.wipe-2.ensures.white) c.wipe.ensures.most (rw c.turned.ensures at c.wipe-2.ensures.most)
    (omega (arith, c.saturating_add-self-inside.ensures, c.count-rows.ensures, c.count-columns.ensures)) refl
