-- The data bits ahead in a word, and two of them placed at once.
use Rattle.std.proofs.Common.{◌≡◌, ℕ, zero, suc, ◌+◌, ◌-◌, ◌*◌, ◌/◌, ◌%◌, ◌^◌, ◌<◌, ◌≤◌, ◌&&◌, ◌||◌, Bool, true, false, eqb, leb, cond, List, length, get_or, set, refl, sym, ◌∙◌, arith, bit_and, bit_or, count_ones}
use lib.Count.{ones}
use Rattle.std.proofs.lemmas.Bool.{eqb-true}
use Rattle.vp_dots.specs.Dots.{bit, dot}
use Rattle.vp_dots.specs.Words.{word_dot}
use Rattle.vp_dots.proofs.Cuts.{bit_low64}
use Rattle.vp_dots.proofs.Words.{bit_shl}
use Rattle.vp_qr.specs.Penalty.{is_set}
use Rattle.vp_qr.specs.Walk.{dark, data_bit}
use Rattle.vp_qr.proofs.Bits.{no_bit, row_or}
use Rattle.vp_qr.proofs.FieldLaws.{passes_below, passes_at}
use Rattle.vp_qr.proofs.Modules.{is_set_and, is_set_shr}
use Rattle.vp_qr.proofs.ShapeLines.{is_set_shl}

-- a dot of the codewords is a data bit
pub bits_ahead : (bytes : List ℕ) (word k : ℕ) → ((x : ℕ) → x < 64 → word_dot word x ≡ dot bytes (k + x)) → (x : ℕ) → x < 64 → word_dot word x ≡ data_bit bytes (k + x)
unfolding dot bit data_bit
bits_ahead bytes word k h x lt = h x lt

pub bits_behind : (word n left x : ℕ) → n ≤ left → left ≤ 64 → x < left - n → word_dot (word * 2 ^ n % 2 ^ 64) x ≡ word_dot word (n + x)
bits_behind word n left x most all lt = grind (arith, bit_low64, bit_shl)

-- the two bits of a pair
abbrev pub two_placed : ℕ → ℕ → ℕ → Bool
two_placed free word j = (eqb j 1 && (is_set free 1 && word_dot word 0)) || (eqb j 0 && (is_set free 0 && word_dot word (cond (is_set free 1) 1 0)))

first_bit : (word : ℕ) → word_dot word 0 ≡ is_set word 63
unfolding bit
first_bit word = refl

second_bit : (word : ℕ) → word_dot word 1 ≡ is_set word 62
unfolding bit
second_bit word = refl

or_none : (b : Bool) → (b || false) ≡ b
or_none b = grind arith

neither : (j : ℕ) (a b : Bool) → 2 ≤ j → ((eqb j 1 && a) || (eqb j 0 && b)) ≡ false
neither j a b h = grind arith

pub both_placed : (word j : ℕ) → word < 2 ^ 64 → is_set (word / 2 ^ 62) j ≡ two_placed 3 word j
both_placed word zero h = is_set_shr word 62 0 ∙ sym (second_bit word)
both_placed word (suc zero) h = is_set_shr word 62 1 ∙ sym (or_none (word_dot word 0) ∙ first_bit word)
both_placed word (suc (suc j)) h =
    is_set_shr word 62 (suc (suc j)) ∙ no_bit word (suc (suc j) + 62) h (omega arith) ∙ sym (neither (suc (suc j)) (is_set 3 1 && word_dot word 0) (is_set 3 0 && word_dot word (cond (is_set 3 1) 1 0)) (omega arith))

one_bit : (word j : ℕ) → word < 2 ^ 64 → 1 ≤ j → is_set (word / 2 ^ 63) j ≡ false
one_bit word j h some = is_set_shr word 63 j ∙ no_bit word (j + 63) h (omega arith)

right_placed : (word j : ℕ) → word < 2 ^ 64 → j < 64 → is_set (word / 2 ^ 63 * 2 ^ 1 % 2 ^ 64) j ≡ two_placed 2 word j
right_placed word zero h lt = grind arith
right_placed word (suc zero) h lt = grind (arith, first_bit)
right_placed word (suc (suc j)) h lt = grind arith

left_placed : (word j : ℕ) → word < 2 ^ 64 → is_set (word / 2 ^ 63) j ≡ two_placed 1 word j
left_placed word j h = grind (arith, first_bit, one_bit)

pub one_placed : (word free j : ℕ) → word < 2 ^ 64 → free < 3 → j < 64 → is_set (word / 2 ^ 63 * free) j ≡ two_placed free word j
one_placed word zero j h few lt = grind arith
one_placed word (suc zero) j h few lt = grind (arith, left_placed word j h)
one_placed word (suc (suc zero)) j h few lt = grind (arith, right_placed word j h lt)
one_placed word (suc (suc (suc n))) j h few lt = absurd (omega arith)

pub right_free : (row left column : ℕ) → column ≡ left + 1 → is_set (bit_and (row / 2 ^ left) 3) 1 ≡ is_set row column
right_free row left column e = grind (arith, is_set_and (row / 2 ^ left) 3 1, is_set_shr row left 1)

pub left_free : (row left : ℕ) → is_set (bit_and (row / 2 ^ left) 3) 0 ≡ is_set row left
left_free row left = grind (arith, is_set_and (row / 2 ^ left) 3 0)

ones_of_two : passes_below 4 (λ t. eqb (count_ones t) (cond (is_set t 1) 1 0 + cond (is_set t 0) 1 0)) ≡ true
unfolding ones
ones_of_two = refl

pub two_ones : (t : ℕ) → t < 4 → count_ones t ≡ cond (is_set t 1) 1 0 + cond (is_set t 0) 1 0
two_ones t h = eqb-true _ _ (passes_at 4 (λ t. eqb (count_ones t) (cond (is_set t 1) 1 0 + cond (is_set t 0) 1 0)) ones_of_two t h)

in_place : (j left column : ℕ) (a b : Bool) → column ≡ left + 1
    → (leb left j && ((eqb (j - left) 1 && a) || (eqb (j - left) 0 && b))) ≡ ((eqb j column && a) || (eqb j (column - 1) && b))
in_place j left column a b e = grind arith

pub row_placed : (rows : List ℕ) (row left column bits i j : ℕ) (a b : Bool) → row < length rows → column ≡ left + 1 → j < 64
    → ((k : ℕ) → k < 64 → is_set bits k ≡ ((eqb k 1 && a) || (eqb k 0 && b)))
    → dark (set rows row (bit_or (get_or rows row 0) (bits * 2 ^ left % 2 ^ 64))) i j ≡ (dark rows i j || (eqb i row && ((eqb j column && a) || (eqb j (column - 1) && b))))
row_placed rows row left column bits i j a b h e lt is = grind (arith, in_place, is_set_shl, row_or)
