-- Blocks of codewords, and codewords block by block.
use Rattle.std.proofs.Common.{◌≡◌, ℕ, zero, suc, ◌+◌, ◌-◌, ◌*◌, ◌<◌, ◌≤◌, List, [], ◌∷◌, ◌++◌, length, get_or, map, take, drop, refl, sym, ap, ◌∙◌, subst, inl, inr, arith, append-nil, mul-le-mul_right}
use Rattle.std.specs.List.{flat_map}
use Rattle.std.proofs.lemmas.List.{length-append, length-drop, length-take, length-take-le, drop-drop, drop_more, drop_all, get_or-drop, get_or-take, get_or_append_left, get_or-append_right, take_at, drop_at}
use Rattle.std.proofs.lemmas.Bool.{cases_lt, lt-ltb, le-ltb}
use Rattle.vp_qr.specs.declared.level.Blocks.{Blocks}
use Rattle.vp_qr.specs.Polynomial.{check_of}
use Rattle.vp_qr.proofs.Division.{length_check}
use Rattle.vp_qr.specs.Blocks.{IsSound, words_of, pieces, data_blocks, column, columns, interleaved, block_start, block_length}

pub length-pieces : (n k : ℕ) (ws : List ℕ) → length (pieces n k ws) ≡ n
unfolding pieces
length-pieces zero k ws = refl
length-pieces (suc n) k ws = omega (arith, length-pieces n k (drop k ws))

pub pieces_at : (n k i : ℕ) (ws : List ℕ) → i < n → get_or (pieces n k ws) i [] ≡ take k (drop (i * k) ws)
unfolding pieces
pieces_at zero k i ws h = absurd (omega arith)
pieces_at (suc n) k zero ws h = grind arith
pieces_at (suc n) k (suc i) ws h = grind (arith, drop-drop, pieces_at n k i (drop k ws))

pub length-data_blocks : (b : Blocks) (ws : List ℕ) → length (data_blocks b ws) ≡ b.short + b.long
unfolding data_blocks
length-data_blocks b ws = grind (arith, length-append, length-pieces)

-- block number i
pub block_at : (b : Blocks) (ws : List ℕ) (i : ℕ) → i < b.short + b.long → get_or (data_blocks b ws) i [] ≡ take (block_length b i) (drop (block_start b i) ws)
unfolding data_blocks
block_at b ws i h =
    let rest : List ℕ = drop (b.short * b.words) ws in
    elim (cases_lt i b.short) [
      | inl lt ↦ grind (arith, get_or_append_left (pieces b.short b.words ws) (pieces b.long (b.words + 1) rest) [] i, length-pieces b.short b.words ws, pieces_at b.short b.words i ws lt)
      | inr le ↦
          let ei : i ≡ b.short + (i - b.short) = omega arith in
          let e : b.short * b.words + (i - b.short) * (b.words + 1) ≡ i * b.words + (i - b.short) = subst (λ m. b.short * b.words + (i - b.short) * (b.words + 1) ≡ m * b.words + (i - b.short)) (sym ei) (omega arith) in
          grind (
            arith,
            get_or-append_right (pieces b.short b.words ws) (pieces b.long (b.words + 1) rest) b.short i [],
            length-pieces b.short b.words ws,
            pieces_at b.long (b.words + 1) (i - b.short),
            drop-drop ((i - b.short) * (b.words + 1)) (b.short * b.words) ws,
          )
    ]

-- it ends among the codewords
pub block_fits : (b : Blocks) (i : ℕ) → i < b.short + b.long → block_start b i + block_length b i ≤ words_of b
block_fits b i h = elim (cases_lt i b.short) [
  | inl lt ↦ rw (lt-ltb i b.short lt) (omega (arith, mul-le-mul_right {m = i + 1} {n = b.short} b.words (omega arith)))
  | inr le ↦ (let ei : i ≡ b.short + (i - b.short) = omega arith in rw (le-ltb i b.short le, ei) (omega (arith, mul-le-mul_right {m = i - b.short + 1} {n = b.long} (b.words + 1) (omega arith))))
]

pub column_front : (at i : ℕ) (blocks : List (List ℕ)) → i < length blocks → column at (drop i blocks) ≡ take 1 (drop at (get_or blocks i [])) ++ column at (drop (i + 1) blocks)
unfolding column
column_front at i blocks h = ap (column at) (drop_more blocks i [] h)

pub column_end : (at i : ℕ) (blocks : List (List ℕ)) → length blocks ≤ i → column at (drop i blocks) ≡ []
unfolding column
column_end at i blocks h = ap (column at) (drop_all i blocks h)

take_one : (at n : ℕ) (ws : List ℕ) → at < n → n ≤ length ws → take 1 (drop at (take n ws)) ≡ get_or ws at 0 ∷ []
take_one at n ws h le = ap (take 1) (drop_more (take n ws) at 0 (omega (arith, length-take-le n ws le))) ∙ ap (λ x. x ∷ []) (get_or-take n ws at 0 h)

-- the codeword that a block has, or none
pub block_has : (b : Blocks) (ws : List ℕ) (i at : ℕ) → length ws ≡ words_of b → i < b.short + b.long → at < block_length b i
    → take 1 (drop at (get_or (data_blocks b ws) i [])) ≡ get_or ws (block_start b i + at) 0 ∷ []
block_has b ws i at e h lt = grind (arith, block_at, block_fits, get_or-drop, length-drop, take_one)

pub block_lacks : (b : Blocks) (ws : List ℕ) (i at : ℕ) → i < b.short + b.long → block_length b i ≤ at → take 1 (drop at (get_or (data_blocks b ws) i [])) ≡ []
block_lacks b ws i at h le = grind (arith, block_at, drop_all, length-take)

pub columns_more : (at n : ℕ) (blocks : List (List ℕ)) → at < n → columns at (n - at) blocks ≡ column at blocks ++ columns (at + 1) (n - (at + 1)) blocks
unfolding columns
columns_more at n blocks h = grind arith

pub columns_none : (at n : ℕ) (blocks : List (List ℕ)) → n ≤ at → columns at (n - at) blocks ≡ []
unfolding columns
columns_none at n blocks h = grind arith

-- how many codewords stand above number k in all blocks
abbrev pub above : ℕ → List (List ℕ) → ℕ
above k [] = 0
above k (b ∷ bs) = (length b - k) + above k bs

length_one : (k : ℕ) (b : List ℕ) → length (take 1 (drop k b)) + (length b - (k + 1)) ≡ length b - k
length_one k b = omega (arith, length-take 1 (drop k b), length-drop k b)

length-column : (k : ℕ) (blocks : List (List ℕ)) → length (column k blocks) + above (k + 1) blocks ≡ above k blocks
unfolding column
length-column k [] = refl
length-column k (b ∷ bs) = omega (arith, length-append (take 1 (drop k b)) (column k bs), length_one k b, length-column k bs)

pub length-columns : (k n : ℕ) (blocks : List (List ℕ)) → length (columns k n blocks) + above (k + n) blocks ≡ above k blocks
unfolding columns
length-columns k zero blocks = grind arith
length-columns k (suc n) blocks = grind (arith, length-append, length-column, length-columns (k + 1) n blocks)

above-append : (k : ℕ) (bs cs : List (List ℕ)) → above k (bs ++ cs) ≡ above k bs + above k cs
above-append k [] cs = omega arith
above-append k (b ∷ bs) cs = omega (arith, above-append k bs cs)

above-pieces : (j n k : ℕ) (ws : List ℕ) → n * k ≤ length ws → above j (pieces n k ws) ≡ n * (k - j)
unfolding pieces
above-pieces j zero k ws h = omega arith
above-pieces j (suc n) k ws h = grind (arith, length-drop k ws, length-take-le k ws, above-pieces j n k (drop k ws))

pub above-data_blocks : (j : ℕ) (b : Blocks) (ws : List ℕ) → length ws ≡ words_of b → above j (data_blocks b ws) ≡ b.short * (b.words - j) + b.long * (b.words + 1 - j)
unfolding data_blocks
above-data_blocks j b ws e = grind (arith, above-append, above-pieces, length-drop)

-- what is left of a column begins with the block's codeword, where it has one
pub column_has : (b : Blocks) (ws : List ℕ) (i at n : ℕ) → length ws ≡ words_of b → i < b.short + b.long → n ≡ block_length b i → at < n
    → column at (drop i (data_blocks b ws)) ≡ (get_or ws (block_start b i + at) 0 ∷ []) ++ column at (drop (i + 1) (data_blocks b ws))
column_has b ws i at n e h f lt = grind (arith, block_has, column_front, length-data_blocks)

pub column_lacks : (b : Blocks) (ws : List ℕ) (i at n : ℕ) → i < b.short + b.long → n ≡ block_length b i → n ≤ at
    → column at (drop i (data_blocks b ws)) ≡ column at (drop (i + 1) (data_blocks b ws))
column_lacks b ws i at n h f le = grind (arith, block_lacks, column_front, length-data_blocks)

-- a block is neither empty nor too long
pub block_some : (b : Blocks) (i : ℕ) → IsSound b → 0 < block_length b i
block_some b i s = grind arith

pub block_most : (b : Blocks) (i : ℕ) → IsSound b → i < b.short + b.long → block_length b i ≤ 116
block_most b i s h = grind arith

pub ruleset block_ends = (block_fits, block_some, block_most)

-- one block's check codewords more
pub checks_more : (b : Blocks) (ws : List ℕ) (i : ℕ) → i < b.short + b.long
    → flat_map (λ block. check_of block b.check) (drop i (data_blocks b ws))
    ≡ check_of (get_or (data_blocks b ws) i []) b.check ++ flat_map (λ block. check_of block b.check) (drop (i + 1) (data_blocks b ws))
checks_more b ws i h = ap (flat_map (λ block. check_of block b.check)) (drop_more (data_blocks b ws) i [] (omega (arith, length-data_blocks b ws)))

-- a block as a part of all codewords
pub part_is : (b : Blocks) (ws : List ℕ) (i from to : ℕ) → i < b.short + b.long → from ≡ block_start b i → to ≡ block_start b i + block_length b i
    → take (to - from) (drop from ws) ≡ get_or (data_blocks b ws) i []
part_is b ws i from to h ef et = grind (arith, block_at)

pub checks_end : (b : Blocks) (ws : List ℕ) (i : ℕ) → b.short + b.long ≤ i → flat_map (λ block. check_of block b.check) (drop i (data_blocks b ws)) ≡ []
checks_end b ws i h = ap (flat_map (λ block. check_of block b.check)) (drop_all i (data_blocks b ws) (omega (arith, length-data_blocks b ws)))

-- pieces of n elements each, joined and cut again
pub pieces-flat_map : (f : List ℕ → List ℕ) (n : ℕ) → ((b : List ℕ) → length (f b) ≡ n) → (bs : List (List ℕ)) → pieces (length bs) n (flat_map f bs) ≡ map f bs
unfolding pieces
pieces-flat_map f n h [] = refl
pieces-flat_map f n h (b ∷ bs) = grind (arith, take_at, drop_at, pieces-flat_map f n h bs)

-- the check codewords as blocks of their own
abbrev pub behind : Blocks → Blocks
behind b = record { check = b.check; short = b.short + b.long; words = b.check; long = 0 }

no_long : (n k : ℕ) (ws : List ℕ) → data_blocks (record { check = k; short = n; words = k; long = 0 }) ws ≡ pieces n k ws
unfolding data_blocks pieces
no_long n k ws = append-nil (pieces n k ws)

pub behind_blocks : (b : Blocks) (ws : List ℕ) → data_blocks (behind b) (flat_map (λ block. check_of block b.check) (data_blocks b ws)) ≡ map (λ block. check_of block b.check) (data_blocks b ws)
behind_blocks b ws = grind (arith, no_long (b.short + b.long) b.check, length-data_blocks b ws, pieces-flat_map, length_check b.check)

-- all codewords stand in the columns up to the longest block's end
nothing_above : (a m n : ℕ) → m ≤ n → a * (m - n) ≡ 0
nothing_above a m n h = grind arith

pub length-all_columns : (b : Blocks) (ws : List ℕ) (n : ℕ) → length ws ≡ words_of b → b.words ≤ n → b.long * (b.words + 1 - n) ≡ 0 → length (columns 0 n (data_blocks b ws)) ≡ words_of b
length-all_columns b ws n e le none = grind (arith, above-data_blocks, length-columns)

pub length-data_columns : (b : Blocks) (ws : List ℕ) → length ws ≡ words_of b → length (columns 0 (b.words + 1) (data_blocks b ws)) ≡ words_of b
length-data_columns b ws e = length-all_columns b ws (b.words + 1) e (omega arith) (nothing_above b.long (b.words + 1) (b.words + 1) (omega arith))

pub length-check_columns : (b : Blocks) (ws : List ℕ) → length ws ≡ words_of (behind b) → length (columns 0 b.check (data_blocks (behind b) ws)) ≡ words_of (behind b)
length-check_columns b ws e = length-all_columns (behind b) ws b.check e (omega arith) (omega arith)

-- both parts, one behind the other
pub both_parts : (b : Blocks) (ws checks none data_part all : List ℕ) → none ≡ []
    → checks ≡ flat_map (λ block. check_of block b.check) (data_blocks b ws)
    → data_part ≡ none ++ columns 0 (b.words + 1) (data_blocks b ws)
    → all ≡ data_part ++ columns 0 b.check (data_blocks (behind b) checks)
    → all ≡ interleaved b ws
unfolding interleaved
both_parts b ws checks none data_part all en ec ed ea = grind (arith, behind_blocks)
