use Rattle.std.proofs.Common.{refl}
use Rattle.vp_inflate.proofs.law.tables_follow_their_rules.Goals as goal

pub returns : goal.returns
returns c = record { lengths = refl; length_bits = refl; distances = refl; distance_bits = refl; places = refl }
