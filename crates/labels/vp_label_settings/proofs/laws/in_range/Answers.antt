use Rattle.vp_label_settings.proofs.InRange.{settings-fit}
use Rattle.vp_label_settings.proofs.Among.{parts-fit}
use Rattle.vp_label_settings.proofs.laws.in_range.Goals as goal

pub returns-clause-settings : goal.returns-clause-settings
returns-clause-settings c before = settings-fit before

pub returns-clause-parts : goal.returns-clause-parts
returns-clause-parts c before = parts-fit before
