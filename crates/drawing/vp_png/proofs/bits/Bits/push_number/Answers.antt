use Rattle.std.proofs.Common.{ℕ, ◌/◌, ◌%◌, ◌^◌, ◌++◌, List, ap, ◌∙◌, arith, slice_index_or}
use Rattle.vp_png.specs.Bits.{bits_of}
use Rattle.vp_png.specs.Zlib.{four_bytes}
use Rattle.vp_png.specs.Kept.{bits_in}
use Rattle.vp_png.proofs.LowBits.{four_more, four_same, long_in}
use Rattle.vp_png.proofs.bits.Bits.push_number.Goals as goal

pub returns-clause-bits : goal.returns-clause-bits
unfolding four_bytes
returns-clause-bits c =
    let n = c.args.number in
    let start = bits_in c.args.self.now in
    let bytes = c.to_be_bytes.ensures in
    four_more start c.from.result c.from-2.result c.from-3.result c.from-4.result
    (bits_in c.push.new.self) (bits_in c.push-2.new.self) (bits_in c.push-3.new.self) (bits_in c.push-4.new.self)
    c.push.ensures.bits c.push-2.ensures.bits c.push-3.ensures.bits c.push-4.ensures.bits
    ∙ ap (λ (l : List ℕ). start ++ bits_of l) (four_same c.from.result c.from-2.result c.from-3.result c.from-4.result
    (n / 2 ^ 24 % 256) (n / 2 ^ 16 % 256) (n / 2 ^ 8 % 256) (n % 256)
    (c.from.ensures ∙ ap (λ (l : List ℕ). slice_index_or l 0 0) bytes)
    (c.from-2.ensures ∙ ap (λ (l : List ℕ). slice_index_or l 1 0) bytes)
    (c.from-3.ensures ∙ ap (λ (l : List ℕ). slice_index_or l 2 0) bytes)
    (c.from-4.ensures ∙ ap (λ (l : List ℕ). slice_index_or l 3 0) bytes))

pub returns-clause-whole : goal.returns-clause-whole
returns-clause-whole c = λ whole.
    let s = c.args.self.now in
    let t = c.push-4.new.self in
    omega (arith, long_in s, long_in t, c.push.ensures.room, c.push-2.ensures.room, c.push-3.ensures.room, c.push-4.ensures.room, t.few)
