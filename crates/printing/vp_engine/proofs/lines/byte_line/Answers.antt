use Rattle.std.proofs.Common.{◌≡◌, ◌+◌, length, ap, ◌∙◌, arith}
use Rattle.std.specs.List.{range_with_len}
use Rattle.std.proofs.lemmas.List.FromFn.{get_or-range_with_len}
use Rattle.hex.specs.Hex.{encode_with}
use Rattle.vp_dots.specs.Listing.{listed}
use Rattle.vp_esc.specs.declared.item.EscItem.TheVariants.{RasterByte}
use Rattle.vp_esc.specs.Lines.{line_of}
use Rattle.vp_engine.proofs.ByteLines.{line_among, line_length}
use Rattle.vp_engine.proofs.lines.byte_line.Goals as goal

-- the table has the line of each byte
pub returns-clause-line : goal.returns-clause-line
unfolding listed encode_with
returns-clause-line c =
    let unit : 0 + c.args.byte ≡ c.args.byte = omega arith in
    c.line_among.ensures ∙ line_among (range_with_len 0 256) c.args.byte (omega (arith, c.ranges.byte.fits))
    ∙ ap (λ b. line_of (RasterByte b)) (get_or-range_with_len 0 256 c.args.byte 0 (omega (arith, c.ranges.byte.fits)) ∙ unit)

pub returns-clause-long : goal.returns-clause-long
returns-clause-long c = ap length (returns-clause-line c) ∙ line_length c.args.byte
