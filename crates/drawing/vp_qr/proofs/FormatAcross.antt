-- The bits of the format across row 8.
use Rattle.std.proofs.lemmas.Bool.Decides.{nat_tests}
use Rattle.std.proofs.Common.{◌≡◌, ℕ, ◌+◌, ◌-◌, ◌*◌, ◌%◌, ◌^◌, ◌<◌, ◌≤◌, Bool, true, eqb, ltb, cond, refl, inl, inr, arith, bit_or}
use Rattle.std.specs.Int.Bits.{or_zero_r}
use Rattle.std.proofs.lemmas.Bool.{cases_lt, lt-ltb, le-ltb, le-leb, ne_eqb}
use Rattle.vp_qr.specs.Penalty.{is_set}
use Rattle.vp_qr.specs.Places.{corner}
use Rattle.vp_qr.specs.Symbol.{format_here}
use Rattle.vp_qr.proofs.FreeModules.{Made, made_dark}
use Rattle.vp_qr.proofs.ShapeLines.{is_set_shl}

pub made_bit : (f : ℕ → Bool) (line column bit : ℕ) → column < 64 → bit < 2 → eqb bit 1 ≡ f column → Made f line column → Made f (bit_or line (bit * 2 ^ column % 2 ^ 64)) (column + 1)
made_bit f line column bit lt two e h = grind (arith, or_zero_r, ne_eqb, made_dark)

left_or_right : (s j : ℕ) → 21 ≤ s → corner s 8 j ≡ true → 9 ≤ j → s - 8 ≤ j
left_or_right s j low h far = grind arith

behind_timing : (s j : ℕ) → 6 ≤ j → j < 9 → (j ≡ 6 → ⊥) → 14 - (j - 1) ≡ cond (eqb j 7) 8 (cond (eqb j 8) 7 (s - 1 - j))
behind_timing s j low high ne = grind arith

right_end : (s j : ℕ) → 21 ≤ s → j < s → 9 ≤ j → s - 8 ≤ j → 14 - (j - (s - 15)) ≡ cond (eqb j 7) 8 (cond (eqb j 8) 7 (s - 1 - j))
right_end s j low hj far end = grind arith

pub across_is : (s format bits j : ℕ) → 21 ≤ s → s ≤ 57 → j < s → ((k : ℕ) → k < 15 → is_set bits k ≡ is_set format (14 - k)) → corner s 8 j ≡ true → (j ≡ 6 → ⊥)
    → cond (ltb j 6) (is_set bits j) (cond (ltb j 9) (is_set (bits * 2 ^ 1 % 2 ^ 64) j) (is_set (bits * 2 ^ (s - 15) % 2 ^ 64) j))
    ≡ is_set format (cond (ltb j 6) (14 - j) (cond (eqb j 7) 8 (cond (eqb j 8) 7 (s - 1 - j))))
across_is s format bits j low high hj first here not_six = elim (cases_lt j 6) [
  | inl six ↦ rw (lt-ltb j 6 six) (first j (omega arith))
  | inr past ↦ rw (le-ltb j 6 past) (elim (cases_lt j 9) [
    | inl nine ↦ rw (lt-ltb j 9 nine, is_set_shl bits 1 j (omega arith), le-leb 1 j (omega arith), first (j - 1) (omega arith), behind_timing s j past nine not_six) refl
    | inr right ↦
        let end : s - 8 ≤ j = left_or_right s j low here right in
        rw (le-ltb j 9 right, is_set_shl bits (s - 15) j (omega arith), le-leb (s - 15) j (omega arith), first (j - (s - 15)) (omega arith), right_end s j low hj right end) refl
  ])
]

pub not_in_timing : (v i j : ℕ) → format_here v i j ≡ true → j ≡ 6 → ⊥
unfolding format_here
not_in_timing v i j h e = grind (arith, nat_tests)
