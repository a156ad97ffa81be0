-- Parts of a row as words.
use Rattle.std.proofs.Common.{◌≡◌, ℕ, ◌+◌, ◌-◌, ◌*◌, ◌%◌, ◌^◌, ◌<◌, ◌≤◌, ◌&&◌, ◌||◌, Bool, eqb, ltb, leb, refl, arith}
use Rattle.std.proofs.lemmas.Bool.{le-ltb, le-leb}
use Rattle.std.proofs.Math.Nat.{pow-le-pow_right}
use Rattle.std.proofs.lemmas.Nat.{one_shl}
use Rattle.std.proofs.lemmas.Nat.Bits.{bit_at_mask_above, bit_at_mask_below, bit_at_mask_inside}
use Rattle.vp_qr.specs.Penalty.{is_set}
use Rattle.vp_qr.specs.Places.{near}

pub span_bit : (from to j : ℕ) → from ≤ to → to < 64 → is_set (1 * 2 ^ to % 2 ^ 64 - 1 * 2 ^ from % 2 ^ 64) j ≡ (leb from j && ltb j to)
span_bit from to j h k = grind (arith, one_shl to 64 k, one_shl from 64, bit_at_mask_below from to j, bit_at_mask_inside from to j, le-ltb j to, bit_at_mask_above from to j)

pub near_span : (c j : ℕ) → 2 ≤ c → (leb (c - 2) j && ltb j (c + 3)) ≡ near c j
near_span c j h = grind arith

pub one_column : (c j : ℕ) → (leb c j && ltb j (c + 1)) ≡ eqb j c
one_column c j = grind arith

pub all_columns : (b : Bool) (j : ℕ) → j < 63 → (b && (leb 0 j && ltb j 63)) ≡ b
all_columns b j h = grind arith

pub span_fits : (from to : ℕ) → from ≤ to → to < 64 → 1 * 2 ^ from % 2 ^ 64 ≤ 1 * 2 ^ to % 2 ^ 64
span_fits from to h k = grind (arith, pow-le-pow_right)

-- columns that a row has
pub has_columns : (has bit row column : Bool) → has ≡ row → bit ≡ column → (has && bit) ≡ (row && column)
has_columns has bit row column e f = rw (e, f) refl

pub and_grouped : (a b c : Bool) → (a && (b && c)) ≡ ((a && b) && c)
and_grouped a b c = grind arith

pub and_turned : (a b c : Bool) → ((a && b) && c) ≡ ((c && a) && b)
and_turned a b c = grind arith

pub or_grouped : (a b c : Bool) → (a || (b || c)) ≡ ((a || b) || c)
or_grouped a b c = grind arith

pub first_columns : (wide j : ℕ) → (leb 0 j && ltb j wide) ≡ ltb j wide
first_columns wide j = rw (le-leb 0 j (omega arith)) refl
