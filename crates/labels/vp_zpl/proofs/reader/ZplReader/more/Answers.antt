use Rattle.vp_zpl.proofs.Phases.{outside_goes, skipping_goes, name_goes}
use Rattle.vp_zpl.proofs.Pictures.{behind_goes}
use Rattle.vp_zpl.proofs.reader.ZplReader.more.Goals as goal

pub returns-in-Outside : goal.returns-in-Outside
returns-in-Outside c reading before command stands wants = outside_goes _ before command _ stands c.in-Outside.is

pub returns-in-Skipping : goal.returns-in-Skipping
returns-in-Skipping c reading before command stands wants = skipping_goes _ before command _ stands c.in-Skipping.is

pub returns-in-Binary : goal.returns-in-Binary
returns-in-Binary c reading before command stands wants = behind_goes _ before command _ _ stands wants c.in-Binary.is

pub returns-in-AfterSign : goal.returns-in-AfterSign
returns-in-AfterSign c reading before command stands wants = name_goes _ before command _ _ stands c.in-AfterSign.is
