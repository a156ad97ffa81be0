use Rattle.std.proofs.Common.{ℕ, ◌+◌, ◌-◌, ◌%◌, ◌^◌, ◌++◌, List, ap, ◌∙◌, append_assoc}
use Rattle.vp_png.specs.Bits.{low_bits}
use Rattle.vp_png.specs.Codes.{row_of, extra_count, extra_bits, length_bits, symbol_bits, lengths}
use Rattle.vp_png.specs.Kept.{bits_in}
use Rattle.vp_png.proofs.CodeTables.{length_extras}
use Rattle.vp_png.proofs.codes.put_length.Goals as goal

pub returns-clause-bits : goal.returns-clause-bits
unfolding length_bits extra_bits
returns-clause-bits c =
    let start = bits_in c.args.bits.now in
    let extra = c.length_extra-extra.result in
    let k = c.args.long in
    c.put_extra.ensures.bits
    ∙ ap (λ (l : List ℕ). l ++ low_bits extra ((k - 3) % 2 ^ extra)) (c.put_symbol.ensures.bits ∙ ap (λ (v : ℕ). start ++ symbol_bits v) c.length_symbol.ensures.symbol)
    ∙ append_assoc start (symbol_bits (257 + row_of lengths k)) (low_bits extra ((k - 3) % 2 ^ extra))
    ∙ ap (λ (n : ℕ). start ++ (symbol_bits (257 + row_of lengths k) ++ low_bits n ((k - 3) % 2 ^ n))) c.length_extra-extra.ensures.extra
    ∙ ap (λ (n : ℕ). start ++ (symbol_bits (257 + row_of lengths k) ++ low_bits (extra_count lengths k) n)) (length_extras k c.requires.least c.requires.most)
