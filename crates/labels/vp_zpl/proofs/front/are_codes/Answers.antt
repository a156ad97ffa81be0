use Rattle.std.proofs.Common.{ℕ, cond, eqb, leb, bit_or, refl, arith}
use Rattle.std.proofs.lemmas.Bool.{eqb-true}
use Rattle.std.proofs.lemmas.Simd.{length-chunk, zip2_splat, zip2_of_maps, splat_is_map}
use Rattle.std.specs.Simd.Lanes.{chunk}
use Rattle.vp_zpl.proofs.Fronts.{all_kept}
use Rattle.vp_zpl.proofs.front.are_codes.Goals as goal

-- the tests at each lane
abbrev blank : ℕ → ℕ
blank b = cond (leb b 32) 255 0

abbrev sign : ℕ → ℕ
sign b = cond (eqb (bit_or b 32) 126) 255 0

pub returns : goal.returns
returns c all =
    let v = chunk c.args.at 64 c.args.bytes.now in let long = length-chunk c.args.at 64 c.args.bytes.now c.requires in
    all_kept (λ b. bit_or (blank b) (sign b)) c.args.bytes.now _ c.args.at 64 c.requires (omega arith)
    (zip2_of_maps {X = ℕ} {Y = ℕ} bit_or blank sign v (zip2_splat {Y = ℕ} (λ a b. cond (leb a b) 255 0) v 64 32 long)
    (zip2_of_maps {X = ℕ} {Y = ℕ} (λ a b. cond (eqb a b) 255 0) (λ b. bit_or b 32) (λ _. 126) v (zip2_splat {Y = ℕ} bit_or v 64 32 long) (splat_is_map v 64 126 long))) (eqb-true _ 0 all) refl
    (λ i. (c.type_inv.bytes i).fits)
