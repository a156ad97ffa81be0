use Rattle.vp_page.proofs.Pages.{rows_make_an_image}
use Rattle.vp_page.proofs.laws.rows_make_an_image.Goals as goal

pub returns : goal.returns
returns c = rows_make_an_image
