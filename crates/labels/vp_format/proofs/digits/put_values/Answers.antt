use Rattle.std.proofs.Common.{ℕ, ◌+◌, ◌*◌, ◌/◌, ◌%◌, ◌^◌, bit_and, get_or, ◌∙◌, refl}
use Rattle.std.proofs.lemmas.Simd.{length-chunk, get_or-put_chunk_below, zip2_splat, zip2_of_maps, splat_is_map}
use Rattle.std.specs.Simd.Lanes.{chunk}
use Rattle.vp_format.specs.Codes.{code_of}
use Rattle.vp_format.proofs.Lanes.{value_by, stored_lane}
use Rattle.vp_format.proofs.digits.put_values.Goals as goal

pub returns-clause-kept : goal.returns-clause-kept
returns-clause-kept c j l = get_or-put_chunk_below c.args.x c.args.places.now _ j 0 l

pub returns-clause-put : goal.returns-clause-put
unfolding code_of
returns-clause-put c k l few =
    let v = chunk c.args.at 16 c.args.bytes.now in
    let long = length-chunk c.args.at 16 c.args.bytes.now c.requires.bytes in
    let value = λ (b : ℕ). (bit_and b 15 + b / 2 ^ 6 * 9 % 256) % 256 in
    stored_lane value c.args.bytes.now c.args.places.now _ c.args.at c.args.x k c.requires.bytes c.requires.room l
    (zip2_of_maps {Y = ℕ} _ (λ b. bit_and b 15) (λ b. b / 2 ^ 6 * 9 % 256) v (zip2_splat {Y = ℕ} _ v 16 15 long) (zip2_of_maps {Y = ℕ} _ (λ b. b / 2 ^ 6) (λ _. 9) v (zip2_splat {Y = ℕ} _ v 16 6 long) (splat_is_map v 16 9 long)))
    ∙ value_by value (get_or c.args.bytes.now (c.args.at + k) 0) refl (c.type_inv.bytes (c.args.at + k)).fits few
