use Rattle.vp_zpl.proofs.Division.{cut_is, read_as}
use Rattle.vp_zpl.proofs.laws.commands.Goals as goal

pub returns-clause-are : goal.returns-clause-are
returns-clause-are c reading bytes = cut_is reading bytes

pub returns-clause-read : goal.returns-clause-read
returns-clause-read c reading bytes command i w = read_as reading bytes command i w
