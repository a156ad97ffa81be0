use Rattle.std.proofs.Common.{◌≡◌, ℕ, ◌+◌, ◌≤◌, List, cond, eqb, bit_and, bit_or, length, map, replicate, refl}
use Rattle.std.proofs.lemmas.Simd.{length-chunk, chunk-fits, below_from_Fits, zip2_splat, zip2_of_maps, splat_is_map}
use Rattle.std.specs.Int.{w8}
use Rattle.std.specs.Simd.Lanes.{chunk, zip2}
use Rattle.vp_zpl.proofs.Fronts.{counted, few}
use Rattle.vp_zpl.proofs.front.codes_in.Goals as goal

abbrev same : ℕ → ℕ → ℕ
same a b = cond (eqb a b) 255 0

-- the test at each lane
abbrev other : ℕ → ℕ
other b = bit_or (bit_or (same (bit_and b 223) 94) (bit_or (same b 32) (same b 9))) (bit_or (same b 13) (same b 10))

others : (bytes : List ℕ) (at : ℕ) → at + 16 ≤ length bytes
    → zip2 bit_or (zip2 bit_or (zip2 same (zip2 bit_and (chunk at 16 bytes) (replicate 16 223)) (replicate 16 94)) (zip2 bit_or (zip2 same (chunk at 16 bytes) (replicate 16 32)) (zip2 same (chunk at 16 bytes) (replicate 16 9))))
    (zip2 bit_or (zip2 same (chunk at 16 bytes) (replicate 16 13)) (zip2 same (chunk at 16 bytes) (replicate 16 10)))
    ≡ map other (chunk at 16 bytes)
others bytes at room =
    let long = length-chunk at 16 bytes room in
    zip2_of_maps {X = ℕ} {Y = ℕ} bit_or (λ b. bit_or (same (bit_and b 223) 94) (bit_or (same b 32) (same b 9))) (λ b. bit_or (same b 13) (same b 10)) _
    (zip2_of_maps {X = ℕ} {Y = ℕ} bit_or (λ b. same (bit_and b 223) 94) (λ b. bit_or (same b 32) (same b 9)) _
    (zip2_of_maps {X = ℕ} {Y = ℕ} same (λ b. bit_and b 223) (λ _. 94) _ (zip2_splat {Y = ℕ} bit_and _ 16 223 long) (splat_is_map _ 16 94 long))
    (zip2_of_maps {X = ℕ} {Y = ℕ} bit_or (λ b. same b 32) (λ b. same b 9) _ (zip2_splat {Y = ℕ} same _ 16 32 long) (zip2_splat {Y = ℕ} same _ 16 9 long)))
    (zip2_of_maps {X = ℕ} {Y = ℕ} bit_or (λ b. same b 13) (λ b. same b 10) _ (zip2_splat {Y = ℕ} same _ 16 13 long) (zip2_splat {Y = ℕ} same _ 16 10 long))

pub returns-clause-count : goal.returns-clause-count
returns-clause-count c = counted other c.args.bytes.now _ c.args.at c.first_set.result c.requires (others c.args.bytes.now c.args.at c.requires) c.first_set.ensures refl
    (below_from_Fits w8 _ (chunk-fits w8 c.args.at 16 c.args.bytes.now (λ k. c.type_inv.bytes k)))

pub returns-clause-few : goal.returns-clause-few
returns-clause-few c = few c.args.bytes.now c.args.at c.first_set.result c.requires
    (counted other c.args.bytes.now _ c.args.at c.first_set.result c.requires (others c.args.bytes.now c.args.at c.requires) c.first_set.ensures refl (below_from_Fits w8 _ (chunk-fits w8 c.args.at 16 c.args.bytes.now (λ k. c.type_inv.bytes k))))
