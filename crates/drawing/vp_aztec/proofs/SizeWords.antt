-- A size that fits.
use Rattle.std.proofs.Common.{◌≡◌, ℕ, ◌+◌, ◌<◌, ◌≤◌, Bool, true, false, List, length, not, ◌||◌, leb, subst, sym, arith}
use Rattle.std.proofs.lemmas.Bool.{and_parts, leb-true}
use Rattle.vp_aztec.specs.declared.size.Size.{Size}
use Rattle.vp_aztec.specs.declared.size.Asked.{Asked}
use Rattle.vp_aztec.specs.Stuffing.{stuffed}
use Rattle.vp_aztec.specs.Sizes.{word_bits, total, size_at, least_check, fits}

fits_parts : (asked : Asked) (bits : List Bool) (k : ℕ) → fits asked bits k ≡ true
    → (length (stuffed (word_bits (size_at k).layers) bits) + least_check asked (size_at k) ≤ total (size_at k)) × ((not (size_at k).compact || leb (length (stuffed (word_bits (size_at k).layers) bits)) 64) ≡ true)
unfolding fits
fits_parts asked bits k h =
    let p = and_parts _ _ (and_parts _ _ h).1 in
    (leb-true _ _ p.0, p.1)

or_right : (a b : Bool) → (not a || b) ≡ true → a ≡ true → b ≡ true
or_right true b h e = h
or_right false b h e = grind arith

pub fits_room : (asked : Asked) (bits : List Bool) (k : ℕ) (s : Size) → s ≡ size_at k → fits asked bits k ≡ true → length (stuffed (word_bits s.layers) bits) < total s
fits_room asked bits k s e h =
    let p = (fits_parts asked bits k h).0 in
    subst (λ (s : Size). length (stuffed (word_bits s.layers) bits) < total s) (sym e) (omega (arith, p))

pub fits_compact : (asked : Asked) (bits : List Bool) (k : ℕ) (s : Size) → s ≡ size_at k → fits asked bits k ≡ true → s.compact ≡ true → length (stuffed (word_bits s.layers) bits) ≤ 64
fits_compact asked bits k s e h =
    subst (λ (s : Size). s.compact ≡ true → length (stuffed (word_bits s.layers) bits) ≤ 64) (sym e) (λ c. leb-true _ _ (or_right _ _ (fits_parts asked bits k h).1 c))
