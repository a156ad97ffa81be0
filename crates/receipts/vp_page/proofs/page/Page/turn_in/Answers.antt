use Rattle.std.proofs.Common.{refl, sym, subst}
use Rattle.vp_page.specs.Pages.{HasPage}
use Rattle.vp_page.proofs.Pages.{shown, turned_in}
use Rattle.vp_page.proofs.page.Page.turn_in.Goals as goal

pub returns : goal.returns
returns g c =
    let white = rw c.turned.ensures at c.wipe.ensures.white in
    record {
      page = λ layers page. turned_in _ _ c.wipe.ensures.rows white layers (subst (HasPage layers) (sym c.self.view_is) page) c.turn.ensures refl refl;
      shown = shown _ _ c.wipe.ensures.rows white;
    }
