-- Eight bytes painted by a word.
use Rattle.std.proofs.Common.{◌≡◌, ℕ, ◌+◌, ◌-◌, ◌*◌, ◌/◌, ◌%◌, ◌^◌, ◌<◌, ◌≤◌, ltb, leb, ◌&&◌, refl, ap, ◌∙◌, sym, arith, Bool, List, bit_and, length, get_or}
use Rattle.std.proofs.lemmas.Bool.Decides.{nat_tests}
use Rattle.std.proofs.lemmas.Bool.{lt-ltb, le-ltb, le-leb}
use Rattle.vp_dots.specs.Dots.{bit, dot}
use Rattle.vp_dots.specs.Words.{word_dot}
use Rattle.vp_dots.specs.Painting.{paint, Painted}
use Rattle.vp_dots.specs.declared.Op.{Op}
use Rattle.vp_dots.proofs.Words.{byte_bit}

dot_of_byte : (row : List ℕ) (d i k : ℕ) → d / 8 ≡ i → 7 - d % 8 ≡ k → dot row d ≡ bit (get_or row i 0) k
unfolding dot
dot_of_byte row d i k e f = rw (e, f) refl

-- a byte of the painted word, where the bytes before it are written
pub eight_byte : (op : Op) (word old new i j k : ℕ) (a b : List ℕ) → i + 8 ≤ length a → ((x : ℕ) → x < 64 → word_dot old x ≡ dot a (8 * i + x))
    → ((n : ℕ) → n < 64 → bit new n ≡ paint op (bit word n) (bit old n)) → j < 8 → k < 8
    → Painted op (λ d. ltb (d / 8) (i + j) && (leb (8 * i) d && word_dot word (d - 8 * i))) a b
    → bit (bit_and (new / 2 ^ (56 - 8 * j)) 255) k ≡ paint op (leb (8 * i) (8 * (i + j) + (7 - k)) && word_dot word (8 * (i + j) + (7 - k) - 8 * i)) (bit (get_or b (i + j) 0) k)
eight_byte op word old new i j k a b room cut is p h q =
    let x = 8 * j + (7 - k) in
    let d = 8 * (i + j) + (7 - k) in
    let inside : x < 64 = omega arith in
    let place : d - 8 * i ≡ x = omega arith in
    let here : 8 * i + x ≡ d = omega arith in
    let kept : dot b d ≡ dot a d = q.dots_are d (omega arith) ∙ rw (le-ltb (d / 8) (i + j) (omega arith)) refl in
    let before : bit old (63 - x) ≡ dot a (8 * i + x) = rw (lt-ltb x 64 inside) at (cut x inside) in
    byte_bit new i j k p h ∙ rw (le-leb (8 * i) d (omega arith), place, lt-ltb x 64 inside)
    (is (63 - x) (omega arith) ∙ ap (paint op (bit word (63 - x))) (before ∙ ap (dot a) here ∙ sym kept ∙ dot_of_byte b d (i + j) k (omega arith) (omega arith)))

-- once all eight are written
pub eight_all : (i n d : ℕ) (b : Bool) → 8 ≤ n → (ltb (d / 8) (i + n) && (leb (8 * i) d && (ltb (d - 8 * i) 64 && b))) ≡ (leb (8 * i) d && (ltb (d - 8 * i) 64 && b))
eight_all i n d b h = grind (arith, nat_tests)
