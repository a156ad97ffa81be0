use Rattle.std.proofs.Common.{refl}
use Rattle.vp_esc.specs.Reader.{Stands}
use Rattle.vp_esc.specs.Split.{split, split_on}
use Rattle.vp_esc.proofs.reader.EscReader.begin_anew.Goals as goal

pub returns : goal.returns
unfolding split split_on Stands
returns g = λ reading bytes stands. (stands.0, refl)
