use Rattle.vp_bars.proofs.UpcForms.{short_stands, articles_shortened, behind_system_same}
use Rattle.vp_bars.proofs.laws.upce_law.Goals as goal

pub returns-clause-stands : goal.returns-clause-stands
returns-clause-stands c = short_stands

pub returns-clause-articles : goal.returns-clause-articles
returns-clause-articles c = articles_shortened

pub returns-clause-system : goal.returns-clause-system
returns-clause-system c = behind_system_same
