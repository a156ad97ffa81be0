-- Bytes with their bits in the other order, and rows of them.
use Rattle.std.proofs.Common.{inl, inr, ◌≡◌, ℕ, zero, suc, ◌+◌, ◌-◌, ◌*◌, ◌/◌, ◌%◌, ◌<◌, true, false, ◌&&◌, eqb, ltb, leb, refl, sym, ap, ◌∙◌, arith, List, length, get_or, bit_and, bit_or}
use Rattle.std.specs.Int.{bit_at, reverse_bits_onto}
use Rattle.std.proofs.lemmas.Nat.Bits.{bit_at_lowest, bit_at-suc}
use Rattle.std.proofs.lemmas.Bool.{cases_lt, eqb-true, ltb-true, and_parts, lt-ltb, le-ltb}
use Rattle.vp_dots.specs.Swaps.{swap_place}
use Rattle.vp_dots.specs.Dots.{bit, dot}
use Rattle.vp_dots.specs.Words.{word_dot}
use Rattle.vp_dots.proofs.Rows.{dot_past}
use Rattle.vp_dots.proofs.Swaps.{apart_all, every, every_at}

above : (a b i : ℕ) → b < 2 → bit_at (a * 2 + b) (suc i) ≡ bit_at a i
above a b i h = bit_at-suc (a * 2 + b) i ∙ ap (λ n. bit_at n i) (let e : (a * 2 + b) / 2 ≡ a = omega arith in e)

onto_above : (k n a i : ℕ) → bit_at (reverse_bits_onto k n a) (i + k) ≡ bit_at a i
unfolding reverse_bits_onto
onto_above zero n a i = ap (bit_at a) (let e : i + 0 ≡ i = omega arith in e)
onto_above (suc k) n a i = grind (arith, above, onto_above k (n / 2) (a * 2 + n % 2) (suc i))

onto : (k n a i : ℕ) → i < k → bit_at (reverse_bits_onto k n a) i ≡ bit_at n (k - 1 - i)
unfolding reverse_bits_onto
onto zero n a i h = absurd (omega arith)
onto (suc k) n a i h = elim (cases_lt i k) [
  | inl l ↦ (let e : suc (k - 1 - i) ≡ suc k - 1 - i = omega arith in onto k (n / 2) (a * 2 + n % 2) i l ∙ sym (bit_at-suc n (k - 1 - i)) ∙ ap (bit_at n) e)
  | inr g ↦ ap (bit_at (reverse_bits_onto k (n / 2) (a * 2 + n % 2))) (let e : i ≡ 0 + k = omega arith in e)
      ∙ onto_above k (n / 2) (a * 2 + n % 2) 0 ∙ bit_at_lowest (a * 2 + n % 2)
      ∙ (let e : (a * 2 + n % 2) % 2 ≡ n % 2 = omega arith in e) ∙ sym (bit_at_lowest n) ∙ ap (bit_at n) (let e : 0 ≡ suc k - 1 - i = omega arith in e)
]

pub bit_reversed : (n i : ℕ) → i < 8 → bit (reverse_bits_onto 8 n 0) i ≡ bit n (7 - i)
unfolding bit
bit_reversed n i h = ap (λ b. eqb b 1) (onto 8 n 0 i h ∙ ap (bit_at n) (let e : 8 - 1 - i ≡ 7 - i = omega arith in e))

-- the byte that three exchanges give: of its halves, of theirs, and of theirs
abbrev exchanged : ℕ → ℕ
exchanged n =
    let halves = bit_or (n * 16 % 256) (n / 16) in
    let pairs = bit_or (bit_and halves 51 * 4 % 256) (bit_and halves 204 / 4) in
    bit_or (bit_and pairs 85 * 2 % 256) (bit_and pairs 170 / 2)

all_exchanged : every 256 (λ n. eqb (exchanged n) (reverse_bits_onto 8 n 0)) ≡ true
unfolding reverse_bits_onto
all_exchanged = refl

pub bit_exchanged : (n k : ℕ) → n < 256 → k < 8 → bit (exchanged n) k ≡ bit n (7 - k)
bit_exchanged n k h l =
    ap (λ b. bit b k) (eqb-true _ _ (every_at 256 (λ n. eqb (exchanged n) (reverse_bits_onto 8 n 0)) all_exchanged n h)) ∙ bit_reversed n k l

-- bytes in the other order, each reversed
pub turned : (old new : List ℕ) → length new ≡ length old → ((i k : ℕ) → i < length old → k < 8 → bit (get_or new i 0) k ≡ bit (get_or old (length old - 1 - i) 0) (7 - k))
    → (d : ℕ) → dot new d ≡ (ltb d (8 * length old) && dot old (8 * length old - 1 - d))
unfolding dot
turned old new e h d = elim (cases_lt d (8 * length old)) [
  | inl l ↦
      let q : (8 * length old - 1 - d) / 8 ≡ length old - 1 - d / 8 = omega arith in
      let r : 7 - (8 * length old - 1 - d) % 8 ≡ 7 - (7 - d % 8) = omega arith in
      rw (lt-ltb d (8 * length old) l, q, r) (h (d / 8) (7 - d % 8) (omega arith) (omega arith))
  | inr g ↦ rw (le-ltb d (8 * length old) g) (dot_past new d (omega arith))
]

-- the three exchanges in each byte of a word: the mask of each doesn't meet itself
pub nibbles_apart : (i : ℕ) → i < 64 → (bit 0x0f0f_0f0f_0f0f_0f0f i && (leb 4 i && bit 0x0f0f_0f0f_0f0f_0f0f (i - 4))) ≡ false
unfolding bit
nibbles_apart = apart_all 0x0f0f_0f0f_0f0f_0f0f 4 refl

pub pairs_apart : (i : ℕ) → i < 64 → (bit 0x3333_3333_3333_3333 i && (leb 2 i && bit 0x3333_3333_3333_3333 (i - 2))) ≡ false
unfolding bit
pairs_apart = apart_all 0x3333_3333_3333_3333 2 refl

pub ones_apart : (i : ℕ) → i < 64 → (bit 0x5555_5555_5555_5555 i && (leb 1 i && bit 0x5555_5555_5555_5555 (i - 1))) ≡ false
unfolding bit
ones_apart = apart_all 0x5555_5555_5555_5555 1 refl

-- where bit i comes from behind all three
mirror_test : (i : ℕ) → i < 64 → (ltb (swap_place 0x5555_5555_5555_5555 1 i) 64 && (ltb (swap_place 0x3333_3333_3333_3333 2 (swap_place 0x5555_5555_5555_5555 1 i)) 64
    && eqb (swap_place 0x0f0f_0f0f_0f0f_0f0f 4 (swap_place 0x3333_3333_3333_3333 2 (swap_place 0x5555_5555_5555_5555 1 i))) (8 * (i / 8) + (7 - i % 8)))) ≡ true
unfolding bit
mirror_test = every_at 64 (λ i. ltb (swap_place 0x5555_5555_5555_5555 1 i) 64 && (ltb (swap_place 0x3333_3333_3333_3333 2 (swap_place 0x5555_5555_5555_5555 1 i)) 64
    && eqb (swap_place 0x0f0f_0f0f_0f0f_0f0f 4 (swap_place 0x3333_3333_3333_3333 2 (swap_place 0x5555_5555_5555_5555 1 i))) (8 * (i / 8) + (7 - i % 8)))) refl

-- eight bytes of a row in the other order, each reversed by the three exchanges
pub word_reversed : (i : ℕ) (row back : List ℕ) (bytes halves pairs ones : ℕ) → ((k : ℕ) → k < 8 → get_or back k 0 ≡ get_or row (i + (7 - k)) 0) → ((x : ℕ) → word_dot bytes x ≡ dot back x)
    → ((k : ℕ) → k < 64 → bit halves k ≡ bit bytes (swap_place 0x0f0f_0f0f_0f0f_0f0f 4 k)) → ((k : ℕ) → k < 64 → bit pairs k ≡ bit halves (swap_place 0x3333_3333_3333_3333 2 k))
    → ((k : ℕ) → k < 64 → bit ones k ≡ bit pairs (swap_place 0x5555_5555_5555_5555 1 k)) → (x : ℕ) → x < 64 → word_dot ones x ≡ dot row (8 * i + (63 - x))
unfolding dot
word_reversed i row back bytes halves pairs ones turned b p q r x h =
    let k : ℕ = 63 - x in
    let low : k < 64 = omega arith in
    let d : ℕ = 63 - (8 * (k / 8) + (7 - k % 8)) in
    let few : d < 64 = omega arith in
    let back_is : 63 - d ≡ 8 * (k / 8) + (7 - k % 8) = omega arith in
    let byte : i + (7 - d / 8) ≡ (8 * i + k) / 8 = omega arith in
    let place : 7 - d % 8 ≡ 7 - (8 * i + k) % 8 = omega arith in
    let t = and_parts _ _ (mirror_test k low) in
    let u = and_parts _ _ t.1 in
    let from : bit bytes (8 * (k / 8) + (7 - k % 8)) ≡ bit (get_or back (d / 8) 0) (7 - d % 8) = ap (bit bytes) (sym back_is) ∙ ap (λ l. l && bit bytes (63 - d)) (sym (lt-ltb d 64 few)) ∙ b d in
    ap (λ l. l && bit ones k) (lt-ltb x 64 h) ∙ r k low ∙ q _ (ltb-true _ 64 t.0) ∙ p _ (ltb-true _ 64 u.0) ∙ ap (bit bytes) (eqb-true _ _ u.1)
    ∙ from ∙ ap (λ n. bit n (7 - d % 8)) (turned (d / 8) (omega arith) ∙ ap (λ n. get_or row n 0) byte) ∙ ap (bit (get_or row ((8 * i + k) / 8) 0)) place
