use Rattle.std.proofs.Common.{refl}
use Rattle.vp_zpl.specs.Reader.{Stands}
use Rattle.vp_zpl.specs.Commands.{cut, in_format, indicator, kind}
use Rattle.vp_zpl.proofs.reader.ZplReader.begin_anew.Goals as goal

pub returns : goal.returns
unfolding Stands cut in_format indicator kind
returns g = λ reading bytes stands. record { reads = stands.reads; opened = refl; indicates = refl; phase = refl }
