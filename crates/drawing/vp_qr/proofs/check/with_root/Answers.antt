use Rattle.std.proofs.Common.{◌∷◌, ℕ, get_or, bit_xor, arith, ap, ◌∙◌, length-set}
use Rattle.vp_qr.specs.Field.{times}
use Rattle.vp_qr.proofs.Multiples.{term_made, root_product}
use Rattle.vp_qr.proofs.check.with_root.Goals as goal

pub loop-k-preserved : goal.loop-k-preserved
loop-k-preserved c =
    let low = c.args.low.now in
    let k = c.loop-k.k in (
      length-set c.loop-k.next k (bit_xor (get_or low k 0) c.product.result) ∙ c.loop-k.invariant.0,
      term_made (λ (j : ℕ). bit_xor (get_or low j 0) (times c.args.root (get_or (1 ∷ low) j 0))) c.loop-k.next k (bit_xor (get_or low k 0) c.product.result) 0 (omega (arith, c.loop-k.invariant.0))
          (ap (bit_xor (get_or low k 0)) (root_product low c.args.root (get_or c.behind_one-above.result k 0) k c.product.result c.fits-low (omega (arith, c.ranges.root.fits)) (c.behind_one-above.ensures.terms k (omega arith)) c.product.ensures))
          c.loop-k.invariant.1,
    )
