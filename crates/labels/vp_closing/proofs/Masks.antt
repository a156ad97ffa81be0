-- The mask of a QR symbol is a small number.
use Rattle.std.proofs.Common.{◌≤◌, ℕ, List, map, not, nat_le, arith}
use Rattle.std.proofs.lemmas.List.Sums.{prefix_len-le-length}
use Rattle.std.specs.List.{list_all}
use Rattle.vp_qr.specs.declared.level.Level.{Level}
use Rattle.vp_qr.specs.declared.segment.Mode.{Mode}
use Rattle.vp_qr.specs.Penalty.{penalty}
use Rattle.vp_qr.specs.Places.{size}
use Rattle.vp_qr.specs.Encoding.{masks, masked, least_place, best_mask, mask_of}

best_mask-small : (level : Level) (version : ℕ) (codewords : List ℕ) → best_mask level version codewords ≤ 8
unfolding best_mask least_place
best_mask-small level version codewords =
    let penalties = map (λ (mask : ℕ). penalty (masked level version codewords mask) (size version)) masks in
    prefix_len-le-length (λ (x : ℕ). not (list_all (nat_le x) penalties)) penalties

pub mask_of-small : (level : Level) (mode : Mode) (bytes : List ℕ) → mask_of level mode bytes ≤ 8
mask_of-small level mode bytes = grind (arith, best_mask-small)
