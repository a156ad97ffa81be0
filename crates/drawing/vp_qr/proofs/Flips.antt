-- The columns in which a mask's formula is 0 repeat after six, and its rows after twelve.
use Rattle.std.proofs.Common.{◌≡◌, ℕ, ◌*◌, ◌%◌, ◌<◌, true, eqb, ltb, [], get_or, refl, sym, ap, ◌∙◌, arith}
use mathlib.Core.Bool.{beq}
use Rattle.std.proofs.lemmas.Bool.{ltb-true}
use Rattle.std.proofs.lemmas.Nat.{mul-mod_second}
use Rattle.vp_qr.specs.Penalty.{is_set}
use Rattle.vp_qr.specs.Symbol.{formula}
use Rattle.vp_qr.proofs.FieldLaws.{passes_below, passes_at}
use Rattle.vp_qr.specs.declared.symbol.TheConstants.{FLIPS}
use Rattle.vp_qr.proofs.Modules.{beq_same}

formula_repeats : (m i j : ℕ) → formula m i j ≡ formula m i (j % 6)
formula_repeats m i j = grind (arith, mul-mod_second i j 6)

six_again : passes_below 64 (λ six. passes_below 57 (λ j. beq (is_set (six * 18300341342965825) j) (is_set six (j % 6)))) ≡ true
six_again = refl

repeated : (m i six j : ℕ) → six < 64 → is_set six (j % 6) ≡ eqb (formula m i (j % 6)) 0 → j < 57 → is_set (six * 18300341342965825) j ≡ eqb (formula m i j) 0
repeated m i six j h first lt =
    beq_same _ _ (passes_at 57 (λ k. beq (is_set (six * 18300341342965825) k) (is_set six (k % 6))) (passes_at 64 (λ n. passes_below 57 (λ k. beq (is_set (n * 18300341342965825) k) (is_set n (k % 6)))) six_again six h) j lt)
    ∙ first
    ∙ ap (λ n. eqb n 0) (sym (formula_repeats m i j))

formula_rows : (m i j : ℕ) → formula m (i % 12) j ≡ formula m i j
formula_rows m i j = grind (arith, mul-mod_second j i 12)

-- what the table has of a mask and a row
abbrev pub in_table : ℕ → ℕ → ℕ
in_table m i = get_or (get_or FLIPS m []) i 0

table_fits : passes_below 8 (λ m. passes_below 12 (λ i. ltb (in_table m i) 64)) ≡ true
table_fits = refl

table_flips : passes_below 8 (λ m. passes_below 12 (λ i. passes_below 6 (λ j. beq (is_set (in_table m i) j) (eqb (formula m i j) 0)))) ≡ true
table_flips = refl

pub flips_fit : (m i : ℕ) → m < 8 → i < 12 → in_table m i < 64
flips_fit m i hm hi = ltb-true (in_table m i) 64 (passes_at 12 (λ k. ltb (in_table m k) 64) (passes_at 8 (λ n. passes_below 12 (λ k. ltb (in_table n k) 64)) table_fits m hm) i hi)

pub flips_are : (m i j : ℕ) → m < 8 → j < 57 → is_set (in_table m (i % 12) * 18300341342965825) j ≡ eqb (formula m i j) 0
flips_are m i j hm lt =
    let low : i % 12 < 12 = omega arith in
    let of_row = passes_at 12 (λ k. passes_below 6 (λ c. beq (is_set (in_table m k) c) (eqb (formula m k c) 0))) (passes_at 8 (λ n. passes_below 12 (λ k. passes_below 6 (λ c. beq (is_set (in_table n k) c) (eqb (formula n k c) 0)))) table_flips m hm) (i % 12) low in
    let first = beq_same _ _ (passes_at 6 (λ c. beq (is_set (in_table m (i % 12)) c) (eqb (formula m (i % 12) c) 0)) of_row (j % 6) (omega arith)) in
    repeated m (i % 12) (in_table m (i % 12)) j (flips_fit m (i % 12) hm low) first lt
    ∙ ap (λ n. eqb n 0) (formula_rows m i j)
