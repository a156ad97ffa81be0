use Rattle.vp_page.proofs.Wipes.{marks_and_wipes}
use Rattle.vp_page.proofs.laws.marks_and_wipes.Goals as goal

pub returns : goal.returns
returns c = marks_and_wipes
