use Rattle.std.proofs.Common.{arith, refl}
use Rattle.vp_pdf417.proofs.SizeWords.{fits_sound}
use Rattle.vp_pdf417.proofs.size.Asked.size_for.Goals as goal

pub returns-clause-sound : goal.returns-clause-sound
returns-clause-sound c =
    fits_sound c.args.self c.args.count c.in_ok-columns.columns c.rows_of.result c.level_of-level.result c.check_count.result _
    c.rows_of.ensures (omega (arith, c.level_of-level.ensures, c.requires.level)) c.check_count.ensures.count refl c.requires.some c.in_ok-columns.ensures.fits
