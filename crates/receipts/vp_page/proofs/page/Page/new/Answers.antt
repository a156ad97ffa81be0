use Rattle.vp_page.proofs.Blank.{blank}
use Rattle.vp_page.proofs.page.Page.new.Goals as goal

pub returns : goal.returns
returns g c = blank _ _ c.in_ok-upright.ensures c.in_ok-turned.ensures
