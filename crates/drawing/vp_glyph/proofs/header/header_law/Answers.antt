use Rattle.vp_glyph.proofs.Formed.{header_only}
use Rattle.vp_glyph.proofs.Forms.{header_is}
use Rattle.vp_glyph.proofs.header.header_law.Goals as goal

pub returns-clause-read : goal.returns-clause-read
returns-clause-read c = header_is

pub returns-clause-only : goal.returns-clause-only
returns-clause-only c = header_only
