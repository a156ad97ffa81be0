-- Halves of words that are black or white as a whole.
use Rattle.std.proofs.Common.{inl, inr, ◌≡◌, ℕ, ◌+◌, ◌-◌, ◌*◌, ◌/◌, ◌%◌, ◌^◌, ◌<◌, ◌≤◌, ◌⊎◌, Bool, true, false, not, eqb, ltb, leb, ◌&&◌, refl, sym, ap, ◌∙◌, arith, bit_or, List, take, drop}
use Rattle.std.proofs.lemmas.Bool.{cases_lt, cases_eq, lt-ltb, le-ltb, lt-leb, le-leb}
use Rattle.std.proofs.lemmas.List.{get_or-take, length-take}
use Rattle.std.specs.Int.{bit_at, w32}
use Rattle.std.proofs.lemmas.Nat.Bits.{bit_at_ones, bit_at_set_same, bit_at_set_other}
use Rattle.vp_dots.specs.Dots.{bit, dot, span}
use Rattle.vp_dots.specs.Painting.{paint}
use Rattle.vp_dots.specs.Words.{word_dot}
use Rattle.vp_dots.specs.declared.Op.TheVariants.{Black}
use Rattle.vp_dots.proofs.Rows.{dot_past}
use Rattle.vp_dots.proofs.Parts.{dot-drop}
use Rattle.vp_glyph.specs.Halves.{half_dot}
use Rattle.vp_field.proofs.Columns.{white_half}

pub black_half : (x : ℕ) → x < 32 → half_dot (2 ^ 32 - 1) x ≡ true
unfolding bit
black_half x l = rw (lt-ltb x 32 l) (ap (λ n. eqb n 1) (bit_at_ones 32 (31 - x) (omega arith)))

-- each dot of such a half tells whether it is white
pub plain_half : (h x : ℕ) → x < 32 → (h ≡ 0) ⊎ (h ≡ 2 ^ 32 - 1) → half_dot h x ≡ not (eqb h 0)
plain_half h x l p = grind (arith, white_half, black_half)

-- a word that is added to a row: dots before it, its own, and those behind it
pub word_before : (at i word : ℕ) (o : Bool) → i < at → paint Black (leb at i && word_dot word (i - at)) o ≡ o
word_before at i word o l = rw (lt-leb at i l) refl

pub word_there : (at i word : ℕ) (o : Bool) → at ≤ i → o ≡ false → paint Black (leb at i && word_dot word (i - at)) o ≡ word_dot word (i - at)
word_there at i word o l e = grind (arith, le-leb)

pub word_behind : (at i word : ℕ) (o : Bool) → at + 64 ≤ i → o ≡ false → paint Black (leb at i && word_dot word (i - at)) o ≡ false
word_behind at i word o l e = rw (le-leb at i (omega arith), le-ltb (i - at) 64 (omega arith), e) refl

-- the dots of the first bytes of a row
pub dot_front : (n : ℕ) (row : List ℕ) (i : ℕ) → i < 8 * n → dot (take n row) i ≡ dot row i
unfolding dot
dot_front n row i l = ap (λ b. bit b (7 - i % 8)) (get_or-take {A = ℕ} n row (i / 8) 0 (omega arith))

pub front_end : (n : ℕ) (row : List ℕ) (i : ℕ) → 8 * n ≤ i → dot (take n row) i ≡ false
front_end n row i l = dot_past (take n row) i (let m = length-take {A = ℕ} n row in omega (arith, m))

-- they are painted from a place on
pub front_span : (words : ℕ) (row : List ℕ) (x d : ℕ) → (leb x d && dot (take (8 * words) row) (d - x)) ≡ (span x (x + 64 * words) d && dot row (d - x))
front_span words row x d = grind (arith, cases_lt, lt-leb, le-leb, lt-ltb, dot_front, le-ltb, front_end)

-- some bytes of a row
pub cut_line : (from n : ℕ) (row : List ℕ) (d : ℕ) → (leb (8 * from) d && dot (take n (drop from row)) (d - 8 * from)) ≡ (span (8 * from) (8 * (from + n)) d && dot row d)
cut_line from n row d = grind (arith, cases_lt, lt-leb, le-leb, lt-ltb, dot_front, dot-drop, le-ltb, front_end)

-- a dot more of half a word, black or white
pub half_more : (f : ℕ → Bool) (old new x d : ℕ) → x < 32 → half_dot old d ≡ (ltb d x && f d) → new ≡ bit_or old (1 * 2 ^ (31 - x) % 2 ^ 32) → f x ≡ true
    → half_dot new d ≡ (ltb d (x + 1) && f d)
unfolding bit
half_more f old new x d h p e t = elim (cases_lt d 32) [
  | inr g ↦ rw (le-ltb d 32 g, le-ltb d (x + 1) (omega arith)) refl
  | inl l ↦ elim (cases_eq d x) [
    | inl y ↦ rw (y, e, lt-ltb x 32 h, lt-ltb x (x + 1) (omega arith), t) (ap (λ n. eqb n 1) (bit_at_set_same w32 old (31 - x) (omega arith)))
    | inr n ↦
        let other : bit_at new (31 - d) ≡ bit_at old (31 - d) = rw e (bit_at_set_other w32 old (31 - x) (omega arith) (31 - d) (λ same. n (omega (arith, same)))) in
        rw other (p ∙ ap (λ b. b && f d) (one_less d x n))
  ]
]
  where
    one_less : (d x : ℕ) → (d ≡ x → ⊥) → ltb d x ≡ ltb d (x + 1)
    one_less d x n = elim (cases_lt d x) [ inl y ↦ lt-ltb d x y ∙ sym (lt-ltb d (x + 1) (omega arith)) | inr g ↦ le-ltb d x g ∙ sym (le-ltb d (x + 1) (omega arith)) ]

pub half_less : (f : ℕ → Bool) (half x d : ℕ) → half_dot half d ≡ (ltb d x && f d) → f x ≡ false → half_dot half d ≡ (ltb d (x + 1) && f d)
half_less f half x d p t = grind (arith, cases_eq, le-ltb, lt-ltb, cases_lt)
