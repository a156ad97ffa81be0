use Rattle.vp_png.proofs.Files.{header_is}
use Rattle.vp_png.proofs.png.header.Goals as goal

pub returns : goal.returns
returns c = header_is c.args.width c.args.height c.to_be_bytes.result c.to_be_bytes-2.result c.to_be_bytes.ensures c.to_be_bytes-2.ensures
