-- Texts that begin with cells alone, none of them a blank.
use Rattle.std.proofs.Common.{◌≡◌, ℕ, zero, suc, ◌+◌, ◌-◌, ◌/◌, ◌%◌, ◌^◌, ◌<◌, ◌≤◌, Bool, false, cond, eqb, List, [], ◌∷◌, map, length, drop, get_or, replicate, w8, refl, sym, ap, ◌∙◌, arith}
use lib.Lanes.{zip2, mask_l, top}
use Rattle.std.proofs.lemmas.List.{get_or-map}
use Rattle.std.proofs.lemmas.Simd.{bitmask_splat, bit_mask_l}
use Rattle.vp_dots.specs.Dots.{bit}
use Rattle.vp_glyph.specs.Blocks.{pieces, first, others, last_blank}
use Rattle.vp_glyph.specs.declared.lines.Piece.{Piece}
use Rattle.vp_glyph.proofs.Pieces.{plain_piece}

not_one : (b : Bool) → eqb (cond b 1 0) 1 ≡ false → b ≡ false
not_one b h1 = grind arith

-- a lane whose bit is 0 isn't the byte that is looked for
pub other_byte : (byte : ℕ) (xs : List ℕ) (i : ℕ) → length xs ≡ 16 → i < 16 → bit (mask_l (map (top 7) (zip2 (λ a b. cond (eqb a b) (2 ^ 8 - 1) 0) xs (replicate 16 byte))) % 2 ^ 64) i ≡ false → eqb (get_or xs i 0) byte ≡ false
unfolding bit
other_byte byte xs i l m z =
    let mask = bitmask_splat w8 (λ (a b : ℕ). eqb a b) xs 16 byte l (omega arith) in
    let lane : get_or (map (λ x. eqb x byte) xs) i false ≡ eqb (get_or xs i 0) byte = get_or-map (λ x. eqb x byte) xs i 0 false (omega arith) in
    not_one (eqb (get_or xs i 0) byte) (ap (λ t. eqb (cond t 1 0) 1) (sym lane) ∙ ap (λ v. eqb v 1) (sym (bit_mask_l (map (λ x. eqb x byte) xs) i)) ∙ ap (λ v. eqb (v / 2 ^ i % 2) 1) (sym mask) ∙ z)

-- n bytes of a text are cells
abbrev pub AreCells : ℕ → List ℕ → Type 0
AreCells n text = (n ≤ length text) × ((j : ℕ) → j < n → eqb (get_or text j 0) 92 ≡ false)

less : (n b : ℕ) (text : List ℕ) → AreCells (suc n) (b ∷ text) → AreCells n text
less n b text p = (omega (arith, p.0), λ j l. p.1 (suc j) (omega arith))

begins : (n b : ℕ) (text : List ℕ) → AreCells (suc n) (b ∷ text) → pieces (b ∷ text) ≡ Piece.Cell b ∷ pieces text
begins n b text p = plain_piece b text (p.1 0 (omega arith))

pub first_behind : (n : ℕ) (text : List ℕ) → AreCells n text → first (pieces (drop n text)) ≡ drop n (first (pieces text))
first_behind zero text p = refl
first_behind (suc n) [] p = absurd (omega (arith, p.0))
first_behind (suc n) (b ∷ text) p = rw (begins n b text p) (first_behind n text (less n b text p))

pub others_behind : (n : ℕ) (text : List ℕ) → AreCells n text → others (pieces (drop n text)) ≡ others (pieces text)
others_behind zero text p = refl
others_behind (suc n) [] p = absurd (omega (arith, p.0))
others_behind (suc n) (b ∷ text) p = rw (begins n b text p) (others_behind n text (less n b text p))

pub cells_enough : (n : ℕ) (text : List ℕ) → AreCells n text → n ≤ length (first (pieces text))
cells_enough zero text p = omega arith
cells_enough (suc n) [] p = absurd (omega (arith, p.0))
cells_enough (suc n) (b ∷ text) p = rw (begins n b text p) (let m = cells_enough n text (less n b text p) in omega arith)

cell_is_byte : (n : ℕ) (text : List ℕ) → AreCells n text → (j : ℕ) → j < n → get_or (first (pieces text)) j 0 ≡ get_or text j 0
cell_is_byte zero text p j l = absurd (omega arith)
cell_is_byte (suc n) [] p j l = absurd (omega (arith, p.0))
cell_is_byte (suc n) (b ∷ text) p zero l = rw (begins n b text p) refl
cell_is_byte (suc n) (b ∷ text) p (suc j) l = rw (begins n b text p) (cell_is_byte n text (less n b text p) j (omega arith))

blank_none : (n : ℕ) (cells : List ℕ) → ((j : ℕ) → j ≤ n → eqb (get_or cells j 0) 32 ≡ false) → last_blank n cells ≡ 0
blank_none zero cells p = refl
blank_none (suc n) cells p = rw (p (suc n) (omega arith)) (blank_none n cells (λ j l. p j (omega arith)))

pub no_blank : (n : ℕ) (text : List ℕ) → AreCells (n + 1) text → ((j : ℕ) → j ≤ n → eqb (get_or text j 0) 32 ≡ false) → last_blank n (first (pieces text)) ≡ 0
no_blank n text p q = blank_none n (first (pieces text)) (λ j l. ap (λ v. eqb v 32) (cell_is_byte (n + 1) text p j (omega arith)) ∙ q j l)
