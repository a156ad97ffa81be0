use Rattle.std.proofs.Common.{reverse}
use Rattle.vp_esc.specs.Split.{items}
use Rattle.vp_receipt.proofs.Across.{all_across}
use Rattle.vp_receipt.proofs.Begun.{tells, none_begun}
use Rattle.vp_receipt.proofs.Orderly.{items_orderly, items_whole}
use Rattle.vp_receipt.proofs.laws.what_is_printed_is_images.Goals as goal

pub returns-clause-images : goal.returns-clause-images
returns-clause-images c = λ reading setup bytes. tells setup (reverse (items reading bytes)) (items_orderly reading bytes (c.one_reading.ensures.stands reading bytes))

pub returns-clause-whole : goal.returns-clause-whole
returns-clause-whole c = λ reading setup bytes e. none_begun setup (reverse (items reading bytes)) (items_whole reading bytes (c.one_reading.ensures.stands reading bytes) e)

pub returns-clause-across : goal.returns-clause-across
returns-clause-across c = λ setup before. all_across setup before
