use Rattle.vp_esc.proofs.AtMostOne.{a_byte_gives, bytes_give}
use Rattle.vp_esc.proofs.laws.a_byte_gives_at_most_one.Goals as goal

pub returns-clause-byte : goal.returns-clause-byte
returns-clause-byte c reading bytes byte = a_byte_gives reading bytes byte

pub returns-clause-bytes : goal.returns-clause-bytes
returns-clause-bytes c reading bytes more = bytes_give reading bytes more
