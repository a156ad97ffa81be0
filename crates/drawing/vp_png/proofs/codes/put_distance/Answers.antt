use Rattle.std.proofs.Common.{ℕ, ◌-◌, ◌%◌, ◌^◌, ◌++◌, List, ap, ◌∙◌, append_assoc}
use Rattle.vp_png.specs.Bits.{low_bits, code_bits}
use Rattle.vp_png.specs.Codes.{row_of, extra_count, extra_bits, distance_bits, distances}
use Rattle.vp_png.specs.Kept.{bits_in}
use Rattle.vp_png.proofs.CodeTables.{distance_extras}
use Rattle.vp_png.proofs.codes.put_distance.Goals as goal

pub returns-clause-bits : goal.returns-clause-bits
unfolding distance_bits extra_bits
returns-clause-bits c =
    let start = bits_in c.args.bits.now in
    let extra = c.distance_extra-extra.result in
    let k = c.args.distance in
    c.put_extra.ensures.bits
    ∙ ap (λ (l : List ℕ). l ++ low_bits extra ((k - 1) % 2 ^ extra)) (c.put_code.ensures.bits ∙ ap (λ (v : ℕ). start ++ code_bits 5 v) c.distance_symbol.ensures.symbol)
    ∙ append_assoc start (code_bits 5 (row_of distances k)) (low_bits extra ((k - 1) % 2 ^ extra))
    ∙ ap (λ (n : ℕ). start ++ (code_bits 5 (row_of distances k) ++ low_bits n ((k - 1) % 2 ^ n))) c.distance_extra-extra.ensures.extra
    ∙ ap (λ (n : ℕ). start ++ (code_bits 5 (row_of distances k) ++ low_bits (extra_count distances k) n)) (distance_extras k c.requires.least c.requires.most)
