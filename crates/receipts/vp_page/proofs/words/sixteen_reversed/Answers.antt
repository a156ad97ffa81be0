use Rattle.std.proofs.Common.{◌+◌, ◌-◌, ◌∙◌, ap, arith, get_or}
use Rattle.std.proofs.lemmas.Simd.{get_or-chunk, length-chunk}
use Rattle.vp_dots.specs.Dots.{bit}
use Rattle.vp_page.proofs.Lanes.{exchange, bit_mirrored, backward_lane}
use Rattle.vp_page.proofs.words.sixteen_reversed.Goals as goal

pub returns-clause-turned : goal.returns-clause-turned
returns-clause-turned c i k h l =
    let line = c.args.line.now in
    ap (λ b. bit b k) (c.exchanged.ensures.lanes i h ∙ ap (exchange 1 0x55) (c.exchanged-pairs.ensures.lanes i h ∙ ap (exchange 2 0x33) (c.exchanged-halves.ensures.lanes i h ∙ ap (exchange 4 0x0f)
    (backward_lane _ _ i (length-chunk c.args.j 16 line c.requires) h ∙ get_or-chunk c.args.j 16 line (15 - i) 0 (omega arith)))))
    ∙ bit_mirrored (get_or line (c.args.j + (15 - i)) 0) k (omega (arith, c.type_inv.line (c.args.j + (15 - i)))) l
