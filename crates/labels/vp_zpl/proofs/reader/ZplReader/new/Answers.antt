use Rattle.std.proofs.Common.{refl}
use Rattle.vp_zpl.specs.Reader.{Stands}
use Rattle.vp_zpl.specs.Items.{items, given, all_ended}
use Rattle.vp_zpl.specs.Commands.{cut, in_format, indicator, kind}
use Rattle.vp_zpl.proofs.reader.ZplReader.new.Goals as goal

pub returns-clause-stands : goal.returns-clause-stands
unfolding Stands cut in_format indicator kind
returns-clause-stands c = record { reads = refl; opened = refl; indicates = refl; phase = refl }

pub returns-clause-nothing : goal.returns-clause-nothing
unfolding items cut given all_ended
returns-clause-nothing c = refl
