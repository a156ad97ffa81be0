use Rattle.vp_label_settings.proofs.Idle.{IsIdle, idle}
use Rattle.vp_label_settings.proofs.laws.between_formats.Goals as goal

pub returns-clause-parts : goal.returns-clause-parts
returns-clause-parts c before shut = let h : IsIdle before = idle before shut in h.parts

pub returns-clause-stored : goal.returns-clause-stored
returns-clause-stored c before shut = let h : IsIdle before = idle before shut in h.stored

pub returns-clause-quantity : goal.returns-clause-quantity
returns-clause-quantity c before shut = let h : IsIdle before = idle before shut in h.quantity
