use Rattle.vp_bars.proofs.PaddedSymbols.{ean8_padded, upca_padded, add_on_padded}
use Rattle.vp_bars.proofs.laws.padded_law.Goals as goal

pub returns-clause-ean8 : goal.returns-clause-ean8
returns-clause-ean8 c = ean8_padded

pub returns-clause-upca : goal.returns-clause-upca
returns-clause-upca c = upca_padded

pub returns-clause-add_on : goal.returns-clause-add_on
returns-clause-add_on c = add_on_padded
