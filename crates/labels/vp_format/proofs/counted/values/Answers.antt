use Rattle.std.proofs.Common.{ℕ, ◌*◌, ◌/◌, ◌%◌, ◌^◌, bit_and, arith}
use Rattle.std.proofs.lemmas.Simd.{zip2_splat, zip2_of_maps, splat_is_map}
use Rattle.vp_format.proofs.Runs.{fars, own_lane, next_lane}
use Rattle.vp_format.proofs.counted.values.Goals as goal

pub returns-clause-digits : goal.returns-clause-digits
returns-clause-digits c k l digit =
    own_lane c.args.bytes.now _ _ c.args.at k c.requires (λ i. (c.type_inv.bytes i).fits) (fars c.args.bytes.now c.args.at (omega (arith, c.requires)))
    (λ long. zip2_of_maps {Y = ℕ} _ (λ b. bit_and b 15) (λ b. b / 2 ^ 6 * 9 % 256) _ (zip2_splat {Y = ℕ} _ _ 16 15 long) (zip2_of_maps {Y = ℕ} _ (λ b. b / 2 ^ 6) (λ _. 9) _ (zip2_splat {Y = ℕ} _ _ 16 6 long) (splat_is_map _ 16 9 long))) l digit

pub returns-clause-counts : goal.returns-clause-counts
returns-clause-counts c k l run big =
    next_lane c.args.bytes.now _ _ c.args.at k c.requires (λ i. (c.type_inv.bytes i).fits) (fars c.args.bytes.now c.args.at (omega (arith, c.requires)))
    (λ long. zip2_of_maps {Y = ℕ} _ (λ b. bit_and b 15) (λ b. b / 2 ^ 6 * 9 % 256) _ (zip2_splat {Y = ℕ} _ _ 16 15 long) (zip2_of_maps {Y = ℕ} _ (λ b. b / 2 ^ 6) (λ _. 9) _ (zip2_splat {Y = ℕ} _ _ 16 6 long) (splat_is_map _ 16 9 long))) l run big
