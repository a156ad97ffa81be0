-- Cells side by side.
use Rattle.std.proofs.Common.{bit_or, Bool, List, Option, ap, arith, false, get_or, inl, inr, leb, length, ltb, refl, sym, take, true, pos, ℕ, ℤ, ◌+ℤ◌, ◌%◌, ◌&&◌, ◌*◌, ◌+◌, ◌-◌, ◌/◌, ◌<◌, ◌||◌, ◌∙◌, ◌≡◌, ◌≤◌}
use Rattle.std.proofs.Math.Nat.{mul-le-mul_left}
use Rattle.std.proofs.Math.Seq.{take-length}
use Rattle.std.proofs.lemmas.List.{length-take-le, get_or-take}
use Rattle.std.proofs.lemmas.Bool.{le-ltb, lt-ltb}
use Rattle.std.proofs.lemmas.Bool.{cases_lt, le-leb, lt-leb}
use Rattle.vp_dots.specs.Dots.{shifted}
use Rattle.vp_dots.specs.Painting.{Painted}
use Rattle.vp_dots.specs.Words.{word_dot}
use Rattle.vp_dots.specs.declared.Op.{Op}
use Rattle.vp_dots.proofs.Moves.{moved_then, moved_same}
use Rattle.vp_dots.proofs.Paints.{painted_none, painted_same}
use Rattle.vp_dots.proofs.Shifts.{met, shifted_or}
use Rattle.vp_glyph.proofs.Looks.{or_dot, white_dot}
use Rattle.vp_glyph.proofs.Spread.{quotient}
use Rattle.vp_glyph.specs.Sheets.{Glyphs}
use Rattle.vp_glyph.specs.Texts.{sampled_dot, text_dot}

-- places and cells
pub place_past : (w k x : ℕ) → k ≤ x / w → w * k ≤ x
place_past w k x l = let m = mul-le-mul_left w l in omega (arith, m)

pub place_before : (w k x : ℕ) → 0 < w → x / w < k → x < w * k
place_before w k x p l = let j : x / w + 1 ≤ k = omega arith in let m = mul-le-mul_left w j in omega (arith, m)

module _ (sheet : Option Glyphs) (cells : List ℕ) (k w h x y : ℕ) (within : k ≤ length cells) where
  -- past the last cell
  pub text_past : w * k ≤ x → text_dot sheet (take k cells) w h x y ≡ false
  unfolding text_dot
  text_past l = rw (length-take-le k cells within, le-ltb x (w * k) l) refl

  -- in a cell
  pub text_at : (b : ℕ) → 0 < w → x / w < k → get_or cells (x / w) 0 ≡ b → sampled_dot sheet b w h (x % w) y ≡ text_dot sheet (take k cells) w h x y
  unfolding text_dot
  text_at b p l e = let m = place_before w k x p l in sym (rw (length-take-le k cells within, lt-ltb x (w * k) m, get_or-take k cells (x / w) 0 l, e) refl)

pub sampled_past : (sheet : Option Glyphs) (b w h u y : ℕ) → w ≤ u → sampled_dot sheet b w h u y ≡ false
unfolding sampled_dot
sampled_past sheet b w h u y l = rw (le-ltb u w l) refl

-- the first cells of a line painted from a place on
abbrev pub so_far : Option Glyphs → List ℕ → ℕ → ℕ → ℕ → ℕ → ℕ → ℕ → Bool
so_far sheet line w h left y i x = leb left x && ltb (x - left) (w * i) && text_dot sheet line w h (x - left) y

and_false : (b : Bool) → (b && false) ≡ false
and_false b = grind arith

or_false : (b : Bool) → (b || false) ≡ b
or_false b = grind arith

or_assoc : (a b c : Bool) → (a || b || c) ≡ (a || (b || c))
or_assoc a b c = grind arith

true_and : (a s : Bool) → (a && true && s) ≡ (a && s)
true_and a s = grind arith

module _ (op : Op) (at : ℤ) (sheet : Option Glyphs) (cells : List ℕ) (k w h left y : ℕ) (within : k ≤ length cells) (some : 0 < w) where
  module _ (i b place : ℕ) (l : i < k) (g : get_or cells i 0 ≡ b) (e : place ≡ left + w * i) where
    next : w * (i + 1) ≡ w * i + w
    next = omega arith

    -- left of the cell
    before : (x : ℕ) → x < place → so_far sheet (take k cells) w h left y (i + 1) x ≡ so_far sheet (take k cells) w h left y i x
    before x j = grind arith

    -- from the cell on
    from_cell : (x : ℕ) → place ≤ x → so_far sheet (take k cells) w h left y (i + 1) x ≡ sampled_dot sheet b w h (x - place) y
    from_cell x j = let n = next in elim (cases_lt (x - place) w) [
      | inl u ↦
          let q : (x - left) / w ≡ i = quotient (x - left) w i some (omega arith) (omega arith) in
          let m : w * ((x - left) / w) ≡ w * i = ap (λ c. w * c) q in
          let r : (x - left) % w ≡ x - place = omega arith in
          let t : sampled_dot sheet b w h ((x - left) % w) y ≡ text_dot sheet (take k cells) w h (x - left) y = text_at sheet cells k w h (x - left) y within b some (omega arith) (ap (λ c. get_or cells c 0) q ∙ g) in
          rw (le-leb left x (omega arith), lt-ltb (x - left) (w * (i + 1)) (omega arith)) (sym t ∙ ap (λ c. sampled_dot sheet b w h c y) r)
      | inr p ↦ rw (le-ltb (x - left) (w * (i + 1)) (omega arith), and_false (leb left x)) (sym (sampled_past sheet b w h (x - place) y p))
    ]

    not_yet : (x : ℕ) → place ≤ x → so_far sheet (take k cells) w h left y i x ≡ false
    not_yet x j = rw (le-ltb (x - left) (w * i) (omega arith), and_false (leb left x)) refl

    -- one cell more
    pub more : (x : ℕ) → so_far sheet (take k cells) w h left y (i + 1) x ≡ (so_far sheet (take k cells) w h left y i x || leb place x && sampled_dot sheet b w h (x - place) y)
    more x = grind (arith, from_cell)

    pub side_more : (a c d : List ℕ) → Painted op (shifted at (so_far sheet (take k cells) w h left y i)) a c
        → Painted op (shifted at (λ x. leb place x && sampled_dot sheet b w h (x - place) y)) c d → Painted op (shifted at (so_far sheet (take k cells) w h left y (i + 1))) a d
    side_more a c d p q = moved_then op at (so_far sheet (take k cells) w h left y i) (λ x. leb place x && sampled_dot sheet b w h (x - place) y) (so_far sheet (take k cells) w h left y (i + 1)) a c d p q more
        (λ x. elim (cases_lt x place) [
          | inl j ↦ rw (lt-leb place x j) (and_false (so_far sheet (take k cells) w h left y i x))
          | inr j ↦ ap (λ v. v && (leb place x && sampled_dot sheet b w h (x - place) y)) (not_yet x j)
        ])

    -- in the word of a short row
    pub front_more : (front cell new d : ℕ) → new ≡ bit_or front cell → word_dot front d ≡ shifted at (so_far sheet (take k cells) w h left y i) d
        → word_dot cell d ≡ shifted at (λ x. leb place x && sampled_dot sheet b w h (x - place) y) d → word_dot new d ≡ shifted at (so_far sheet (take k cells) w h left y (i + 1)) d
    front_more front cell new d n p q =
        ap (λ v. word_dot v d) n ∙ or_dot front cell d ∙ ap (λ v. v || word_dot cell d) p ∙ ap (λ v. shifted at (so_far sheet (take k cells) w h left y i) d || v) q
        ∙ sym (shifted_or at (so_far sheet (take k cells) w h left y i) (λ x. leb place x && sampled_dot sheet b w h (x - place) y) (so_far sheet (take k cells) w h left y (i + 1)) d more)

    -- in a word that had dots before
    pub dot_more : (old mid new : Bool) (d : ℕ) → mid ≡ (old || shifted at (so_far sheet (take k cells) w h left y i) d) → new ≡ (mid || shifted at (λ x. leb place x && sampled_dot sheet b w h (x - place) y) d)
        → new ≡ (old || shifted at (so_far sheet (take k cells) w h left y (i + 1)) d)
    dot_more old mid new d p q =
        q ∙ ap (λ v. v || shifted at (λ x. leb place x && sampled_dot sheet b w h (x - place) y) d) p ∙ or_assoc old (shifted at (so_far sheet (take k cells) w h left y i) d) _
        ∙ ap (λ v. old || v) (sym (shifted_or at (so_far sheet (take k cells) w h left y i) (λ x. leb place x && sampled_dot sheet b w h (x - place) y) (so_far sheet (take k cells) w h left y (i + 1)) d more))

  module _ (i : ℕ) (n : (x d : ℕ) → left ≤ x → x < left + w * i → pos d ≡ at +ℤ pos x → d < 0) where
    -- left of the row's first dot there is nothing
    none : (d : ℕ) → shifted at (so_far sheet (take k cells) w h left y i) d ≡ false
    none d = grind arith

    pub side_none : (row : List ℕ) → Painted op (shifted at (so_far sheet (take k cells) w h left y i)) row row
    side_none row = painted_none op (shifted at (so_far sheet (take k cells) w h left y i)) row (λ d l. none d)

    pub dot_none : (old : Bool) (d : ℕ) → old ≡ (old || shifted at (so_far sheet (take k cells) w h left y i) d)
    dot_none old d = sym (ap (λ v. old || v) (none d) ∙ or_false old)

    pub front_none : (d : ℕ) → word_dot 0 d ≡ shifted at (so_far sheet (take k cells) w h left y i) d
    front_none d = white_dot d ∙ sym (none d)

  -- nor right of its last one
  pub dots_all : (i to n d : ℕ) → to ≤ i → ((x d : ℕ) → left + w * to ≤ x → x < left + w * k → pos d ≡ at +ℤ pos x → 8 * n ≤ d) → d < 8 * n
      → shifted at (so_far sheet (take k cells) w h left y i) d ≡ shifted at (λ x. leb left x && text_dot sheet (take k cells) w h (x - left) y) d
  dots_all i to n d e o m =
      let f = so_far sheet (take k cells) w h left y i in
      let g = λ (x : ℕ). leb left x && text_dot sheet (take k cells) w h (x - left) y in
      let more = mul-le-mul_left {m = to} {n = i} w e in
      elim (met at d) [
        | inl q ↦ q.2 f ∙ elim (cases_lt (q.0 - left) (w * i)) [
          | inl u ↦ rw (lt-ltb (q.0 - left) (w * i) u) (true_and (leb left q.0) (text_dot sheet (take k cells) w h (q.0 - left) y))
          | inr u ↦ elim (cases_lt q.0 (left + w * k)) [
            | inl v ↦ elim (cases_lt q.0 left) [
              | inl j ↦ rw (lt-leb left q.0 j) refl
              | inr j ↦ absurd (let z = o q.0 d (omega arith) v q.1 in omega arith)
            ]
            | inr v ↦ rw (text_past sheet cells k w h (q.0 - left) y within (omega arith), and_false (leb left q.0 && ltb (q.0 - left) (w * i)), and_false (leb left q.0)) refl
          ]
        ] ∙ sym (q.2 g)
        | inr q ↦ q.1 f ∙ sym (q.1 g)
      ]

  pub side_all : (i to : ℕ) (a b : List ℕ) → to ≤ i → ((x d : ℕ) → left + w * to ≤ x → x < left + w * k → pos d ≡ at +ℤ pos x → 8 * length a ≤ d)
      → Painted op (shifted at (so_far sheet (take k cells) w h left y i)) a b → Painted op (shifted at (λ x. leb left x && text_dot sheet (take k cells) w h (x - left) y)) a b
  side_all i to a b e n p = painted_same op (shifted at (so_far sheet (take k cells) w h left y i)) (shifted at (λ x. leb left x && text_dot sheet (take k cells) w h (x - left) y)) a b
      (λ d m. dots_all i to (length a) d e n m) p

module _ (op : Op) (at : ℤ) (sheet : Option Glyphs) (cells : List ℕ) (w h y : ℕ) where
  -- a row below the cells
  pub text_below : (row : List ℕ) → h ≤ y → Painted op (shifted at (λ x. text_dot sheet cells w h x y)) row row
  unfolding text_dot sampled_dot
  text_below row l = grind arith

  -- all cells of a text that can be seen
  pub text_all : 0 < w → (i to : ℕ) (a b : List ℕ) → to ≤ i → ((x d : ℕ) → 0 + w * to ≤ x → x < 0 + w * length cells → pos d ≡ at +ℤ pos x → 8 * length a ≤ d)
      → Painted op (shifted at (so_far sheet (take (length cells) cells) w h 0 y i)) a b → Painted op (shifted at (λ x. text_dot sheet cells w h x y)) a b
  text_all p i to a b e n q = moved_same op at (λ x. leb 0 x && text_dot sheet (take (length cells) cells) w h (x - 0) y) (λ x. text_dot sheet cells w h x y) a b
      (λ x. let z : x - 0 ≡ x = omega arith in rw (le-leb 0 x (omega arith), z, take-length cells) refl)
      (side_all op at sheet cells (length cells) w h 0 y (omega arith) p i to a b e n q)
