-- The codewords of a block, and those of all blocks in their order.
use Rattle.std.proofs.Common.{◌≡◌, ℕ, zero, suc, ◌+◌, ◌-◌, ◌*◌, ◌/◌, ◌%◌, ◌<◌, ◌≤◌, List, [], ◌∷◌, ◌++◌, length, take, get_or, refl, sym, subst, ap, ◌∙◌, arith, get_or-take, append_assoc, append-nil, add-one}
use Rattle.std.proofs.Math.Nat.{mul_comm, le-div_iff_mul-le, div-lt_iff_lt-mul}
use Rattle.vp_reed_solomon.specs.declared.field.Field.TheVariants.{Gf256}
use Rattle.vp_reed_solomon.specs.Polynomials.{generator, check_of}
use Rattle.vp_data_matrix.specs.declared.size.Size.{Size}
use Rattle.vp_data_matrix.specs.Sizes.{IsSound}
use Rattle.vp_data_matrix.specs.Blocks.{every, block_length, block_of, block_check, check_word, check_words, codewords}

-- one word more of a block
pub every_more : (words : List ℕ) (at step n : ℕ) → every words at step (n + 1) ≡ every words at step n ++ get_or words (at + n * step) 0 ∷ []
every_more words at step n = rw add-one (every_behind words at step n)
  where
    every_behind : (words : List ℕ) (at step n : ℕ) → every words at step (suc n) ≡ every words at step n ++ get_or words (at + n * step) 0 ∷ []
    every_behind words at step zero = ap (λ k. get_or words k 0 ∷ []) (omega arith)
    every_behind words at step (suc n) =
        let e : at + step + n * step ≡ at + suc n * step = omega (arith, mul_comm step n, mul_comm (suc n) step) in
        ap (λ l. get_or words at 0 ∷ l) (every_behind words (at + step) step n) ∙ ap (λ k. get_or words at 0 ∷ every words (at + step) step n ++ get_or words k 0 ∷ []) e

-- the last word of a block is within all words
pub block_within : (words blocks b k : ℕ) → b < blocks → k < block_length words blocks b → b + k * blocks < words
block_within words blocks b k lt h =
    let some : 0 < blocks = omega arith in
    let whole : (k + 1) * blocks ≤ words + blocks - 1 - b = (le-div_iff_mul-le {k = blocks} {x = k + 1} {y = words + blocks - 1 - b} some).0 (omega arith) in
    let t : (k + 1) * blocks ≡ k * blocks + blocks = omega (arith, mul_comm (k + 1) blocks, mul_comm k blocks) in
    omega arith

pub block_most : (words blocks b : ℕ) → 0 < blocks → words ≤ 175 * blocks → block_length words blocks b ≤ 175
block_most words blocks b some h =
    let t : 176 * blocks ≡ blocks * 176 = mul_comm 176 blocks in
    let least : block_length words blocks b < 176 = (div-lt_iff_lt-mul {k = blocks} {x = words + blocks - 1 - b} {y = 176} some).1 (omega arith) in
    omega arith

-- a check codeword's block is one of them, and it is in it
pub check_within : (k check blocks : ℕ) → 0 < blocks → k < check * blocks → k / blocks < check
check_within k check blocks some h = (div-lt_iff_lt-mul {k = blocks} {x = k} {y = check} some).1 h

-- an element more
pub elements_push : (xs : List ℕ) (x : ℕ) → ((j : ℕ) → get_or xs j 0 < 256) → x < 256 → (j : ℕ) → get_or (xs ++ x ∷ []) j 0 < 256
elements_push [] x h lt zero = lt
elements_push [] x h lt (suc j) = omega arith
elements_push (y ∷ xs) x h lt zero = h 0
elements_push (y ∷ xs) x h lt (suc j) = elements_push xs x (λ (k : ℕ). h (suc k)) lt j

-- the check of a block, by the generator's coefficients
pub check_made : (s : Size) (words low block new : List ℕ) (b : ℕ) → 1 ∷ low ≡ generator Gf256 1 s.check → length low ≡ s.check → block ≡ block_of s words b
    → new ≡ check_of Gf256 (1 ∷ low) (length low) block → new ≡ block_check s words b
unfolding block_check
check_made s words low block new b e n is h = h ∙ ap (λ g. check_of Gf256 g (length low) block) e ∙ ap (λ k. check_of Gf256 (generator Gf256 1 s.check) k block) n ∙ ap (check_of Gf256 (generator Gf256 1 s.check) s.check) is

pub codewords_all : (s : Size) (words all : List ℕ) (k : ℕ) → k ≡ s.check * s.blocks → all ≡ words ++ check_words s words k → all ≡ codewords s words
unfolding codewords
codewords_all s words all k e h = h ∙ ap (λ n. words ++ check_words s words n) e

pub check_words_more : (s : Size) (words all new : List ℕ) (k x : ℕ) → all ≡ words ++ check_words s words k → new ≡ all ++ x ∷ [] → x ≡ check_word s words k → new ≡ words ++ check_words s words (k + 1)
check_words_more s words all new k x h e is =
    e ∙ ap (λ l. l ++ x ∷ []) h ∙ append_assoc words (check_words s words k) (x ∷ []) ∙ ap (λ y. words ++ (check_words s words k ++ y ∷ [])) is ∙ ap (λ l. words ++ l) (sym one_more)
  where
    one_more : check_words s words (k + 1) ≡ check_words s words k ++ check_word s words k ∷ []
    one_more = rw add-one refl

pub check_words_none : (s : Size) (words all : List ℕ) → all ≡ words → all ≡ words ++ check_words s words 0
check_words_none s words all e = e ∙ sym (append-nil words)

-- a check codeword in the rows of all blocks' check
pub check_value : (s : Size) (words : List ℕ) (rows : List (List ℕ)) (k : ℕ) → IsSound s → length words ≡ s.words → k < s.check * s.blocks
    → ((b : ℕ) → b < s.blocks → take s.check (get_or rows b []) ≡ block_check s words b)
    → get_or (get_or rows ((s.words + k) % s.blocks) []) (k / s.blocks) 0 ≡ check_word s words k
check_value s words rows k sound e lt h =
    let inside : k / s.blocks < s.check = check_within k s.check s.blocks sound.blocks_some lt in
    let block : (s.words + k) % s.blocks < s.blocks = mod_lt (s.words + k) s.blocks sound.blocks_some in
    sym (get_or-take s.check (get_or rows ((s.words + k) % s.blocks) []) (k / s.blocks) 0 inside)
    ∙ ap (λ l. get_or l (k / s.blocks) 0) (h ((s.words + k) % s.blocks) block)
    ∙ ap (λ n. get_or (block_check s words ((n + k) % s.blocks)) (k / s.blocks) 0) (sym e)
  where
    mod_lt : (a n : ℕ) → 0 < n → a % n < n
    mod_lt a n h = omega arith

pub check_small : (s : Size) (rows : List (List ℕ)) (k : ℕ) → IsSound s → k < s.check * s.blocks
    → ((b : ℕ) → b < s.blocks → (i : ℕ) → get_or (take s.check (get_or rows b [])) i 0 < 256)
    → get_or (get_or rows ((s.words + k) % s.blocks) []) (k / s.blocks) 0 < 256
check_small s rows k sound lt h =
    let inside : k / s.blocks < s.check = check_within k s.check s.blocks sound.blocks_some lt in
    let block : (s.words + k) % s.blocks < s.blocks = omega (arith, sound.blocks_some) in
    subst (λ n. n < 256) (get_or-take s.check (get_or rows ((s.words + k) % s.blocks) []) (k / s.blocks) 0 inside) (h ((s.words + k) % s.blocks) block (k / s.blocks))
