-- Many rows of a block, line by line.
use Rattle.std.proofs.Common.{inl, inr, ◌%◌, ◌≡◌, ℕ, ◌+◌, ◌-◌, ◌*◌, ◌/◌, ◌<◌, ◌≤◌, min, Bool, true, false, ltb, leb, ◌&&◌, ◌||◌, get_or, set, length, replicate, bit_or, cond, eqb, zero, suc, ◌^◌, w64, refl, sym, ap, ◌∙◌, arith, List, Option, ℤ}
use Rattle.std.proofs.Math.Nat.{mul-le-mul_left, pow-le-pow_right, div-le_self}
use Rattle.std.proofs.lemmas.List.{get_or-set_same, get_or-set_other, get_or_past}
use Rattle.std.proofs.lemmas.Bool.{cases_eq, cases_lt, lt-ltb, le-ltb, lt-leb, le-leb}
use Rattle.std.proofs.lemmas.Nat.Bits.{bit_at-zero, bit_at-trailing_zeros}
use Rattle.std.specs.Int.{trailing_zeros}
use Rattle.vp_dots.specs.Dots.{bit, dot, shifted, span}
use Rattle.vp_dots.proofs.Bits.{bit_of_or}
use Rattle.vp_dots.proofs.Words.{bit_shl, bit_shr}
use Rattle.vp_dots.specs.Words.{word_dot}
use Rattle.vp_dots.specs.Painting.{paint, Painted}
use Rattle.vp_dots.specs.declared.Op.TheVariants.{Black}
use Rattle.vp_glyph.specs.Sheets.{Glyphs}
use Rattle.vp_glyph.specs.Texts.{sampled_dot, text_dot}
use Rattle.vp_glyph.specs.Halves.{half_dot, AreEdges}
use Rattle.vp_glyph.proofs.Halves.{or_half, white_half}
use Rattle.vp_glyph.proofs.Overlaid.{zero_dots, zero_at}
use Rattle.vp_glyph.proofs.Spread.{edge_at, edge_within}
use Rattle.std.proofs.lemmas.Bool.Decides.{nat_tests}

-- lines that show the same row of the sheet
pub text_alike : (sheet : Option Glyphs) (cells : List ℕ) (w h y z : ℕ) → y < h → z < h → y * 24 / h ≡ z * 24 / h → (x : ℕ) → text_dot sheet cells w h x y ≡ text_dot sheet cells w h x z
unfolding text_dot sampled_dot
text_alike sheet cells w h y z a b e x = rw (lt-ltb y h a, lt-ltb z h b, e) refl

-- the row of 24 that is shown
pub row_shown : (h s u : ℕ) → s < 24 → edge_at 24 h s ≤ u → u < edge_at 24 h (s + 1) → (u < h) × (u * 24 / h ≡ s)
row_shown h s u k l m = grind (arith, edge_within)

-- row u of h shows a row of the sheet, and so do the others that do
pub row_alike : (h u : ℕ) → u < h → (u * 24 / h < 24) × (edge_at 24 h (u * 24 / h) ≤ u) × (u < edge_at 24 h (u * 24 / h + 1))
row_alike h u l = grind arith

-- later rows begin later
edge_upto : (n w s t : ℕ) → 0 < n → s ≤ t → edge_at n w s ≤ edge_at n w t
edge_upto n w s t p l = grind arith

black_more : (old new : Bool) → (old || new) ≡ paint Black new old
black_more old new = grind arith

or_false : (b : Bool) → b ≡ (b || false)
or_false b = grind arith

-- rows of the sheet, drawn h rows high in all from row `above` on
-- dot x of row y
abbrev pub shown : List ℕ → ℕ → ℕ → ℕ → ℕ → Bool
shown rows above h y x = leb above y && ltb (y - above) h && half_dot (get_or rows ((y - above) * 24 / h) 0) x

module _ (rows : List ℕ) (above h n top : ℕ) where
  -- the rows before r are added to the fronts
  abbrev pub Added : ℕ → (ℕ → ℕ → Bool) → (ℕ → ℕ → Bool) → Type 0
  Added r old new = (i x : ℕ) → i < n → x < 32 → new i x ≡ (old i x || ltb (top + i) (above + edge_at 24 h r) && shown rows above h (top + i) x)

  -- a row on which one of the rows from r on is shown that are like r
  shown_row : (r q y x : ℕ) → q ≤ 24 → ((p : ℕ) → r ≤ p → p < q → get_or rows p 0 ≡ get_or rows r 0) → above + edge_at 24 h r ≤ y → y < above + edge_at 24 h q → shown rows above h y x ≡ half_dot (get_or rows r 0) x
  shown_row r q y x k a l m = grind (arith, row_alike, edge_upto)

  pub added_none : (old : ℕ → ℕ → Bool) → Added 0 old old
  added_none old i x l m = grind arith

  module _ (r q : ℕ) (old mid : ℕ → ℕ → Bool) (k : q ≤ 24) (j : r < q) (a : (p : ℕ) → r ≤ p → p < q → get_or rows p 0 ≡ get_or rows r 0) (o : Added r old mid) where
    -- where none of the rows is shown
    unchanged : (i : ℕ) → (above + edge_at 24 h r ≤ top + i → top + i < above + edge_at 24 h q → ⊥) → ltb (top + i) (above + edge_at 24 h r) ≡ ltb (top + i) (above + edge_at 24 h q)
    unchanged i g = grind arith

    same : (i x : ℕ) → i < n → x < 32 → (above + edge_at 24 h r ≤ top + i → top + i < above + edge_at 24 h q → ⊥)
        → mid i x ≡ (old i x || ltb (top + i) (above + edge_at 24 h q) && shown rows above h (top + i) x)
    same i x l m g = o i x l m ∙ ap (λ t. old i x || t && shown rows above h (top + i) x) (unchanged i g)

    -- on one that shows them
    within : (i x : ℕ) → i < n → x < 32 → above + edge_at 24 h r ≤ top + i → top + i < above + edge_at 24 h q
        → (mid i x || half_dot (get_or rows r 0) x) ≡ (old i x || ltb (top + i) (above + edge_at 24 h q) && shown rows above h (top + i) x)
    within i x l m y z =
        ap (λ t. t || half_dot (get_or rows r 0) x) (o i x l m ∙ ap (λ t. old i x || t && shown rows above h (top + i) x) (le-ltb (top + i) (above + edge_at 24 h r) y) ∙ sym (or_false _))
        ∙ ap (λ t. old i x || t) (sym (shown_row r q (top + i) x k a y z))
        ∙ ap (λ t. old i x || t && shown rows above h (top + i) x) (sym (lt-ltb (top + i) (above + edge_at 24 h q) z))

    -- white rows
    pub added_white : ((x : ℕ) → x < 32 → half_dot (get_or rows r 0) x ≡ false) → Added q old mid
    added_white e i x l m = grind (arith, nat_tests, within)

    -- other ones
    pub added_more : (from to : ℕ) (new : ℕ → ℕ → Bool) → from ≡ min (above + edge_at 24 h r - top) n → to ≡ min (above + edge_at 24 h q - top) n
        → ((i x : ℕ) → i < n → x < 32 → new i x ≡ (mid i x || span from to i && half_dot (get_or rows r 0) x)) → Added q old new
    added_more from to new e f g i x l m = g i x l m ∙ elim (cases_lt i from) [
      | inl y ↦ ap (λ t. mid i x || t && half_dot (get_or rows r 0) x) (let z : span from to i ≡ false = rw (lt-leb from i y) refl in z) ∙ sym (or_false (mid i x)) ∙ same i x l m (λ p v. absurd (omega arith))
      | inr y ↦ elim (cases_lt i to) [
        | inl z ↦ ap (λ t. mid i x || t && half_dot (get_or rows r 0) x) (let t : span from to i ≡ true = rw (le-leb from i y, lt-ltb i to z) refl in t) ∙ within i x l m (omega arith) (omega arith)
        | inr z ↦ ap (λ t. mid i x || t && half_dot (get_or rows r 0) x) (let t : span from to i ≡ false = rw (le-leb from i y, le-ltb i to z) refl in t) ∙ sym (or_false (mid i x)) ∙ same i x l m (λ p v. absurd (omega arith))
      ]
    ]

  -- white rows, if there are any
  pub added_past : (r q : ℕ) (old mid : ℕ → ℕ → Bool) → q ≤ 24 → r ≤ q → ((p : ℕ) → r ≤ p → p < q → get_or rows p 0 ≡ 0) → Added r old mid → Added q old mid
  added_past r q old mid k j a o = elim (cases_lt r q) [
    | inl l ↦
        let none : get_or rows r 0 ≡ 0 = a r (omega arith) l in
        added_white r q old mid k l (λ p m n. a p m n ∙ sym none) o (λ x m. ap (λ v. half_dot v x) none ∙ white_half x)
    | inr g ↦ (let e : q ≡ r = omega arith in rw e o)
  ]

  -- all rows
  pub added_all : (r : ℕ) (old new : ℕ → ℕ → Bool) → r ≡ 24 → Added r old new → (i x : ℕ) → i < n → x < 32 → new i x ≡ (old i x || shown rows above h (top + i) x)
  added_all r old new z o i x l m = grind arith

-- rows to which dots are added, those before s
module _ (f : ℕ → ℕ → Bool) where
  abbrev pub Grown : ℕ → List ℕ → List ℕ → Type 0
  Grown s old new = (r d : ℕ) → r < 24 → d < 32 → half_dot (get_or new r 0) d ≡ (half_dot (get_or old r 0) d || ltb r s && f r d)

  pub grown_more : (s word : ℕ) (old mid : List ℕ) → s < length mid → ((d : ℕ) → d < 32 → half_dot word d ≡ f s d) → Grown s old mid → Grown (s + 1) old (set mid s (bit_or (get_or mid s 0) word))
  grown_more s word old mid k h o r d l m = grind (arith, get_or-set_same, or_half, get_or-set_other)

  pub grown_all : (s : ℕ) (old new : List ℕ) → s ≡ 24 → Grown s old new → (r d : ℕ) → r < 24 → d < 32 → half_dot (get_or new r 0) d ≡ (half_dot (get_or old r 0) d || f r d)
  grown_all s old new e o r d l m = o r d l m ∙ ap (λ t. half_dot (get_or old r 0) d || t && f r d) (lt-ltb r s (omega arith))

  -- all, where the others have none
  pub grown_end : (s : ℕ) (old new : List ℕ) → ((r d : ℕ) → s ≤ r → r < 24 → f r d ≡ false) → Grown s old new → (r d : ℕ) → r < 24 → d < 32 → half_dot (get_or new r 0) d ≡ (half_dot (get_or old r 0) d || f r d)
  grown_end s old new z o r d l m = grind arith

-- a word that was painted on a white one
pub front_white : (at : ℤ) (f : ℕ → Bool) (row : List ℕ) (word x : ℕ) → x < 64 → word_dot word x ≡ dot row x → Painted Black (shifted at f) (replicate {A = ℕ} 8 0) row → word_dot word x ≡ shifted at f x
front_white at f row word x l e p = e ∙ p.dots_are x l ∙ ap (paint Black (shifted at f x)) (zero_dots 8 x) ∙ sym (black_more false (shifted at f x))

-- the halves from one to another with the dots of ink
pub record Blackened (ink from to : ℕ) (old new : List ℕ) : Type 0 where
  pub inside : (i x : ℕ) → from ≤ i → i < to → half_dot (get_or new i 0) x ≡ (half_dot (get_or old i 0) x || half_dot ink x)
  pub outside : (i : ℕ) → span from to i ≡ false → get_or new i 0 ≡ get_or old i 0

pub blackened_more : (ink from i : ℕ) (old mid : List ℕ) → from ≤ i → i < length mid → Blackened ink from i old mid → Blackened ink from (i + 1) old (set mid i (bit_or (get_or mid i 0) ink))
blackened_more ink from i old mid l m b = grind (arith, get_or-set_same, or_half, get_or-set_other)

-- the fronts before row 16 k with what their groups have
abbrev pub Settled : List ℕ → ℕ → ℕ → List ℕ → List ℕ → Type 0
Settled groups n k old new = (i x : ℕ) → i < n → x < 32 → half_dot (get_or new i 0) x ≡ (half_dot (get_or old i 0) x || ltb i (16 * k) && half_dot (get_or groups (i / 16) 0) x)

module _ (groups : List ℕ) (n : ℕ) where
  pub settled_none : (old : List ℕ) → Settled groups n 0 old old
  settled_none old i x l m = or_false _ ∙ ap (λ t. half_dot (get_or old i 0) x || t) (sym (rw (le-ltb i (16 * 0) (omega arith)) refl))

  module _ (k : ℕ) (old mid : List ℕ) (o : Settled groups n k old mid) where
    pub settled_white : get_or groups k 0 ≡ 0 → Settled groups n (k + 1) old mid
    settled_white e i x l m = grind (arith, white_half)

  -- all groups
  pub settled_all : (k : ℕ) (old new : List ℕ) → length groups ≤ k → Settled groups n k old new → (i x : ℕ) → i < n → x < 32
      → half_dot (get_or new i 0) x ≡ (half_dot (get_or old i 0) x || half_dot (get_or groups (i / 16) 0) x)
  settled_all k old new z o i x l m = grind (arith, get_or_past, white_half)

-- what was blackened, at any place
pub black_is : (ink from to i x : ℕ) (old new : List ℕ) → Blackened ink from to old new → half_dot (get_or new i 0) x ≡ (half_dot (get_or old i 0) x || span from to i && half_dot ink x)
black_is ink from to i x old new p = grind arith

-- the ends of many fronts and the groups among them are all of them
ends_all : (from to first last i : ℕ) → from + 48 ≤ to → first ≡ from / 16 + 1 → last ≡ to / 16 → (span from (from + 16) i || span (to - 16) to i || span first last (i / 16)) ≡ span from to i
ends_all from to first last i m e f = grind arith

one_ink : (o g k a b c t : Bool) → (a || b || c) ≡ t → (((o || a && k) || b && k) || (g || c && k)) ≡ ((o || g) || t && k)
one_ink o g k a b c t h1 = grind arith

-- fronts of which the ends were blackened, and of the others the groups
pub groups_black : (ink from to first last i x : ℕ) (groups grown old one new : List ℕ) → from + 48 ≤ to → first ≡ from / 16 + 1 → last ≡ to / 16
    → Blackened ink from (from + 16) old one → Blackened ink first last groups grown → Blackened ink (to - 16) to one new
    → (half_dot (get_or new i 0) x || half_dot (get_or grown (i / 16) 0) x) ≡ ((half_dot (get_or old i 0) x || half_dot (get_or groups (i / 16) 0) x) || span from to i && half_dot ink x)
groups_black ink from to first last i x groups grown old one new m e f p q r =
    ap (λ t. t || half_dot (get_or grown (i / 16) 0) x) (black_is ink (to - 16) to i x one new r ∙ ap (λ t. t || span (to - 16) to i && half_dot ink x) (black_is ink from (from + 16) i x old one p))
    ∙ ap (λ t. half_dot (get_or old i 0) x || span from (from + 16) i && half_dot ink x || span (to - 16) to i && half_dot ink x || t) (black_is ink first last (i / 16) x groups grown q)
    ∙ one_ink (half_dot (get_or old i 0) x) (half_dot (get_or groups (i / 16) 0) x) (half_dot ink x) (span from (from + 16) i) (span (to - 16) to i) (span first last (i / 16)) (span from to i) (ends_all from to first last i m e f)

-- a white front, of groups that are white
pub no_front : (n : ℕ) (old : List ℕ) (i x : ℕ) → get_or old i 0 ≡ 0 → (half_dot (get_or old i 0) x || half_dot (get_or (replicate {A = ℕ} n 0) (i / 16) 0) x) ≡ false
no_front n old i x e = grind (arith, white_half, zero_at)

pub neither : (a b : Bool) → cond b true a ≡ false → (a ≡ false) × (b ≡ false)
neither a b h1 = grind arith

-- a bit of eight that are moved to the left
moved_bit : (n k s : ℕ) → n < 2 ^ 8 → k ≤ 16 → k ≤ s → bit (n * 2 ^ k % 2 ^ 64) s ≡ false → bit n (s - k) ≡ false
moved_bit n k s l m h z =
    let q : 2 ^ k ≤ 2 ^ 16 = pow-le-pow_right (omega arith) m in
    let p : n * 2 ^ k ≤ n * 2 ^ 16 = mul-le-mul_left n q in
    let e : n * 2 ^ k % 2 ^ 64 ≡ n * 2 ^ k = omega (arith, p) in
    ap (λ t. t && bit n (s - k)) (sym (le-leb k s h)) ∙ sym (bit_shl n k s) ∙ ap (λ v. bit v s) (sym e) ∙ z

-- what three times eight bits say where they are 0, the second from bit 8 on, the third from bit k on
pub three_eights : (P : ℕ → Type 0) (a b c k s : ℕ) → b < 2 ^ 8 → c < 2 ^ 8 → k ≤ 16 → s < k + 8
    → ((t : ℕ) → t < 8 → bit a t ≡ false → P (0 + t)) → ((t : ℕ) → t < 8 → bit b t ≡ false → P (8 + t)) → ((t : ℕ) → t < 8 → bit c t ≡ false → P (k + t))
    → bit (bit_or (bit_or a (b * 2 ^ 8 % 2 ^ 64)) (c * 2 ^ k % 2 ^ 64)) s ≡ false → P s
three_eights P a b c k s l m h g f1 f2 f3 z =
    let last = neither (bit (bit_or a (b * 2 ^ 8 % 2 ^ 64)) s) (bit (c * 2 ^ k % 2 ^ 64) s) (sym (bit_of_or _ (c * 2 ^ k % 2 ^ 64) s) ∙ z) in
    let two = neither (bit a s) (bit (b * 2 ^ 8 % 2 ^ 64) s) (sym (bit_of_or a (b * 2 ^ 8 % 2 ^ 64) s) ∙ last.0) in
    elim (cases_lt s 8) [
      | inl y ↦ (let e : 0 + s ≡ s = omega arith in rw (sym e) (f1 s y two.0))
      | inr n ↦ elim (cases_lt s 16) [
        | inl y ↦ (let e : 8 + (s - 8) ≡ s = omega arith in rw (sym e) (f2 (s - 8) (omega arith) (moved_bit b 8 s l (omega arith) n two.1)))
        | inr q ↦ (let e : k + (s - k) ≡ s = omega arith in rw (sym e) (f3 (s - k) (omega arith) (moved_bit c k s m h (omega arith) last.1)))
      ]
    ]

alike_upto : (rows : List ℕ) (edges s q : ℕ) → AreEdges rows 23 edges → q ≤ 24 → ((r : ℕ) → s ≤ r → r + 1 < q → bit edges r ≡ false) → (k : ℕ) → s + k < q → get_or rows (s + k) 0 ≡ get_or rows s 0
alike_upto rows edges s q p l h zero m = ap (λ i. get_or rows i 0) (omega arith)
alike_upto rows edges s q p l h (suc k) m = grind (arith, alike_upto rows edges s q p l h k (omega arith))

-- rows from s on, of which none has its bit set
pub alike_rows : (rows : List ℕ) (edges s q : ℕ) → AreEdges rows 23 edges → q ≤ 24 → ((r : ℕ) → s ≤ r → r + 1 < q → bit edges r ≡ false) → (r : ℕ) → s ≤ r → r < q → get_or rows r 0 ≡ get_or rows s 0
alike_rows rows edges s q p l h r a b =
    let e : r ≡ s + (r - s) = omega arith in
    rw e (alike_upto rows edges s q p l h (r - s) (omega arith))

-- no bit below the lowest is set
pub bits_below : (n i : ℕ) → n < 2 ^ 64 → i < trailing_zeros w64 n → bit n i ≡ false
unfolding bit
bits_below n i l m = elim (cases_eq n 0) [
  | inl e ↦ rw e (ap (λ b. eqb b 1) (bit_at-zero i))
  | inr g ↦ ap (λ b. eqb b 1) ((bit_at-trailing_zeros w64 n (omega arith) l).2 i m)
]

-- no bit from s on is set before the lowest of them
pub bits_from : (n s r : ℕ) → n < 2 ^ 64 → s ≤ r → r < s + trailing_zeros w64 (n / 2 ^ s) → bit n r ≡ false
bits_from n s r l k m =
    let few = div-le_self n (2 ^ s) in
    let back : s + (r - s) ≡ r = omega arith in
    ap (bit n) (sym back) ∙ sym (bit_shr n s (r - s)) ∙ bits_below (n / 2 ^ s) (r - s) (omega (arith, few)) (omega arith)
