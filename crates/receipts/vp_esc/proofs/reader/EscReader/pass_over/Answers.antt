use Rattle.std.proofs.Common.{refl}
use Rattle.vp_esc.proofs.Fronts.{stops_at, goes_on}
use Rattle.vp_esc.proofs.Kept.{without_effect}
use Rattle.vp_esc.proofs.reader.EscReader.pass_over.Goals as goal

pub returns-in-Profile : goal.returns-in-Profile
returns-in-Profile c rest b n none = stops_at _ _ _ _ rest b _ _ c.in-Profile.is n refl c.byte.ensures refl

pub returns-in-Whole : goal.returns-in-Whole
returns-in-Whole c rest b n none = goes_on _ _ _ _ rest b _ _ c.in-Whole.is n none (without_effect _ c.unused.result _ _ c.unused.ensures) refl refl
