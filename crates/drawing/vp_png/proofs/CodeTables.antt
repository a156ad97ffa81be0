-- The fixed codes, number by number.
use Rattle.std.proofs.Common.{◌≡◌, ℕ, ◌+◌, ◌-◌, ◌*◌, ◌/◌, ◌%◌, ◌^◌, ◌<◌, ◌≤◌, slice_index_or, refl, arith, subst}
use Rattle.std.proofs.Math.Nat.{pow-le-pow_right}
use Rattle.std.proofs.lemmas.Nat.{shr_below}
use Rattle.vp_png.specs.declared.codes.TheConstants.{TURNED}
use Rattle.vp_png.specs.Bits.{low_bits, code_bits}
use Rattle.vp_png.specs.Codes.{row_of, row_at, extra_count, lengths, distances}
use Rattle.vp_png.proofs.Tables.{table, same_in}

-- nine bits turned round
abbrev pub nine_turned : ℕ → ℕ
nine_turned code = 32 * slice_index_or TURNED (code % 16) 0 + 2 * slice_index_or TURNED (code / 16 % 16) 0 + code / 256

small_turned : (k : ℕ) → k < 16 → slice_index_or TURNED k 0 / 16 ≡ 0
small_turned k h = same_in 16 (λ (j : ℕ). slice_index_or TURNED j 0 / 16) (λ (j : ℕ). 0) refl k h

pub nine_small : (code : ℕ) → code < 512 → (slice_index_or TURNED (code % 16) 0 ≤ 15) × (nine_turned code < 512)
nine_small code h =
    let a = small_turned (code % 16) (omega arith) in
    let b = small_turned (code / 16 % 16) (omega arith) in
    (omega (arith, a), omega (arith, a, b))

turned_table : table 10 (λ (n : ℕ). table 512 (λ (x : ℕ). low_bits n (nine_turned x / 2 ^ (9 - n))))
    ≡ table 10 (λ (n : ℕ). table 512 (λ (x : ℕ). code_bits n x))
unfolding low_bits
turned_table = refl

pub turned_bits : (n code : ℕ) → n < 10 → code < 512 → low_bits n (nine_turned code / 2 ^ (9 - n)) ≡ code_bits n code
turned_bits n code few h =
    same_in 512 (λ (x : ℕ). low_bits n (nine_turned x / 2 ^ (9 - n))) (λ (x : ℕ). code_bits n x)
    (same_in 10 (λ (m : ℕ). table 512 (λ (x : ℕ). low_bits m (nine_turned x / 2 ^ (9 - m)))) (λ (m : ℕ). table 512 (λ (x : ℕ). code_bits m x)) turned_table n few) code h

pub turned_few : (n code : ℕ) → n < 10 → code < 512 → nine_turned code / 2 ^ (9 - n) < 2 ^ n
turned_few n code few h =
    let e : 9 ≡ n + (9 - n) = omega arith in
    shr_below (nine_turned code) n (9 - n) (subst (λ (m : ℕ). nine_turned code < 2 ^ m) e (nine_small code h).1)

-- a code of so many bits has nine at most
pub nine_bits : (n code : ℕ) → n ≤ 9 → code < 2 ^ n → code < 512
nine_bits n code few h = omega (arith, pow-le-pow_right {n = 2} (omega arith) {i = n} {j = 9} few)

-- the symbol of a length but for the longest, and of a distance, by how many extra bits there are
pub length_row : (k : ℕ) → 3 ≤ k → k < 258 → 4 * extra_count lengths k + (k - 3) / 2 ^ extra_count lengths k ≡ row_of lengths k
unfolding extra_count row_of
length_row k from to =
    let at : 3 + (k - 3) ≡ k = omega arith in
    subst (λ (n : ℕ). 4 * extra_count lengths n + (n - 3) / 2 ^ extra_count lengths n ≡ row_of lengths n) at
    (same_in 255 (λ (j : ℕ). 4 * extra_count lengths (3 + j) + (3 + j - 3) / 2 ^ extra_count lengths (3 + j)) (λ (j : ℕ). row_of lengths (3 + j)) refl (k - 3) (omega arith))

pub length_extras : (k : ℕ) → 3 ≤ k → k ≤ 258 → (k - 3) % 2 ^ extra_count lengths k ≡ k - (row_at lengths k).0
unfolding extra_count row_of
length_extras k from to =
    let at : 3 + (k - 3) ≡ k = omega arith in
    subst (λ (n : ℕ). (n - 3) % 2 ^ extra_count lengths n ≡ n - (row_at lengths n).0) at
    (same_in 256 (λ (j : ℕ). (3 + j - 3) % 2 ^ extra_count lengths (3 + j)) (λ (j : ℕ). 3 + j - (row_at lengths (3 + j)).0) refl (k - 3) (omega arith))

pub length_rows : (k : ℕ) → 3 ≤ k → k < 258 → row_of lengths k < 28
unfolding row_of
length_rows k from to =
    let at : 3 + (k - 3) ≡ k = omega arith in
    let small : row_of lengths k / 28 ≡ 0 = subst (λ (n : ℕ). row_of lengths n / 28 ≡ 0) at
    (same_in 255 (λ (j : ℕ). row_of lengths (3 + j) / 28) (λ (j : ℕ). 0) refl (k - 3) (omega arith)) in
    omega (arith, small)

pub distance_row : (k : ℕ) → 1 ≤ k → k ≤ 256 → 2 * extra_count distances k + (k - 1) / 2 ^ extra_count distances k ≡ row_of distances k
unfolding extra_count row_of
distance_row k from to =
    let at : 1 + (k - 1) ≡ k = omega arith in
    subst (λ (n : ℕ). 2 * extra_count distances n + (n - 1) / 2 ^ extra_count distances n ≡ row_of distances n) at
    (same_in 256 (λ (j : ℕ). 2 * extra_count distances (1 + j) + (1 + j - 1) / 2 ^ extra_count distances (1 + j)) (λ (j : ℕ). row_of distances (1 + j)) refl (k - 1) (omega arith))

pub distance_extras : (k : ℕ) → 1 ≤ k → k ≤ 256 → (k - 1) % 2 ^ extra_count distances k ≡ k - (row_at distances k).0
unfolding extra_count row_of
distance_extras k from to =
    let at : 1 + (k - 1) ≡ k = omega arith in
    subst (λ (n : ℕ). (n - 1) % 2 ^ extra_count distances n ≡ n - (row_at distances n).0) at
    (same_in 256 (λ (j : ℕ). (1 + j - 1) % 2 ^ extra_count distances (1 + j)) (λ (j : ℕ). 1 + j - (row_at distances (1 + j)).0) refl (k - 1) (omega arith))

pub distance_rows : (k : ℕ) → 1 ≤ k → k ≤ 256 → row_of distances k < 16
unfolding row_of
distance_rows k from to =
    let at : 1 + (k - 1) ≡ k = omega arith in
    let small : row_of distances k / 16 ≡ 0 = subst (λ (n : ℕ). row_of distances n / 16 ≡ 0) at
    (same_in 256 (λ (j : ℕ). row_of distances (1 + j) / 16) (λ (j : ℕ). 0) refl (k - 1) (omega arith)) in
    omega (arith, small)

pub longest_row : row_of lengths 258 ≡ 28
unfolding row_of
longest_row = refl
