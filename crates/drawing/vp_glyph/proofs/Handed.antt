-- How many pieces the lines of a text have.
use Rattle.std.proofs.Common.{inl, inr, ◌≡◌, ℕ, ◌+◌, ◌-◌, ◌*◌, ◌<◌, ◌≤◌, List, [], ◌∷◌, Bool, true, false, ◌&&◌, length, replicate, drop, Option, None, Some, MatchOption, Bor, refl, sym, ap, ◌∙◌, arith, length-drop, ◌/◌, ℤ, pos, ◌+ℤ◌, leb, take}
use Rattle.std.proofs.Math.Nat.{div-lt_iff_lt-mul}
use Rattle.std.proofs.lemmas.Bool.{cases_eq, cases_lt, false_from_ne_true, le-leb, and_parts, leb-true}
use Rattle.std.proofs.lemmas.List.{length-replicate, length-take-le}
use Rattle.vp_dots.specs.Dots.{shifted}
use Rattle.vp_dots.proofs.Shifts.{shifted_same, shifted_none}
use Rattle.vp_glyph.specs.Blocks.{pieces, first, others, block_pieces, line_pieces, block_lines, lines_dot, block_dot, block_height, block_inside}
use Rattle.vp_glyph.specs.declared.block.Alignment.{Alignment}
use Rattle.vp_glyph.proofs.Layouts.{layout}
use Rattle.vp_glyph.proofs.Stacks.{lines_left}
use Rattle.vp_glyph.proofs.Joining.{lines_block}
use Rattle.vp_glyph.specs.Sheets.{Glyphs}
use Rattle.vp_glyph.specs.Texts.{text_dot, text_inside}
use Rattle.vp_glyph.specs.declared.lines.Piece.{Piece}
use Rattle.vp_glyph.specs.declared.lines.Piece.TheVariants.{Cell, ParagraphEnd}

-- the cells of paragraphs, and the ends before them
abbrev total : List (List ℕ) → ℕ
total [] = 0
total (cells ∷ rest) = 1 + length cells + total rest

size_is : (ps : List Piece) → length ps ≡ length (first ps) + total (others ps)
size_is [] = refl
size_is (ParagraphEnd ∷ rest) = let h = size_is rest in omega (arith, h)
size_is (Cell b ∷ rest) = let h = size_is rest in omega (arith, h)

-- each piece takes a byte at least
pub size_less : (text : List ℕ) → length (pieces text) ≤ length text
size_less [] = omega arith
size_less (b ∷ []) = omega arith
size_less (b ∷ next ∷ text) = grind (arith, size_less text, size_less (next ∷ text))

pub lines_fit : (text : List ℕ) → line_pieces text ≤ block_pieces text
lines_fit text = let h = size_less text in omega (arith, h)

-- a text behind its first cells
pub size_behind : (k : ℕ) (text rest : List ℕ) → k ≤ length (first (pieces text)) → first (pieces rest) ≡ drop k (first (pieces text)) → others (pieces rest) ≡ others (pieces text)
    → length (pieces rest) + k ≡ length (pieces text)
size_behind k text rest l e o = grind (arith, size_is, length-drop)

-- a line of k cells that is the last of its paragraph
pub paragraph_less : (k : ℕ) (text behind : List ℕ) (next : Option (Bor (List ℕ))) → length (pieces behind) + k ≤ length (pieces text)
    → MatchOption next (others (pieces behind) ≡ []) (λ r. others (pieces behind) ≡ first (pieces r.now) ∷ others (pieces r.now))
    → MatchOption next (1 + k ≤ line_pieces text) (λ r. 1 + k + line_pieces r.now ≤ line_pieces text)
paragraph_less k text behind next h1 h2 = grind (arith, size_is)

-- those of the lines that are left, if any are
abbrev pub pieces_left : Option (Bor (List ℕ)) → ℕ
pieces_left None = 0
pieces_left (Some text) = line_pieces text.now

pub less_left : (k : ℕ) (text : List ℕ) (next : Option (Bor (List ℕ))) → MatchOption next (1 + k ≤ line_pieces text) (λ r. 1 + k + line_pieces r.now ≤ line_pieces text) → 1 + k + pieces_left next ≤ line_pieces text
less_left k text next h1 = grind arith

-- cells that begin within n others
pub cells_upto : (w q n : ℕ) → q * w < (n + 1) * w → q ≤ n
cells_upto w q n l = grind arith

-- cells of w dots, of which the first begins before `from` and the last before `to`
pub cells_few : (from to b w q : ℕ) → 0 < w → to ≤ from + b → q * w < to + w → q ≤ from / w + (b / w + 2)
cells_few from to b w q p l m =
    let first : from < (from / w + 1) * w = (div-lt_iff_lt-mul {k = w} {x = from} {y = from / w + 1} p).0 (omega arith) in
    let last : b < (b / w + 1) * w = (div-lt_iff_lt-mul {k = w} {x = b} {y = b / w + 1} p).0 (omega arith) in
    cells_upto w q (from / w + (b / w + 2)) (omega (arith, first, last, l, m))

-- what has dots from place `left` on, `end` in all, of which none is seen on a row, has none there
pub unseen : (at : ℤ) (f : ℕ → Bool) (left from to end bytes d : ℕ) → to ≤ from → ((x : ℕ) → f x ≡ true → (left ≤ x) × (x < left + end))
    → ((x e : ℕ) → left ≤ x → x < left + from → pos e ≡ at +ℤ pos x → e < 0) → ((x e : ℕ) → left + to ≤ x → x < left + end → pos e ≡ at +ℤ pos x → bytes ≤ e)
    → d < bytes → shifted at f d ≡ false
unseen at f left from to end bytes d n h before behind l =
    shifted_same at f (λ x. false) d
    (λ x e. false_from_ne_true (f x) (λ t.
    let i = h x t in
    elim (cases_lt x (left + from)) [
      | inl y ↦ absurd (let z = before x d i.0 y e in omega (arith, z))
      | inr g ↦ absurd (let z = behind x d (omega (arith, n, g)) i.1 e in omega (arith, z, l))
    ]))
    ∙ shifted_none at (λ x. false) d (λ x. refl)

-- so where it has one, some is seen
pub seen_some : (n : ℕ) (b : Bool) → (n ≡ 0 → b ≡ false) → b ≡ true → 0 < n
seen_some n b h t = grind arith

-- of cells side by side, of which none is seen
pub text_unseen : (at : ℤ) (sheet : Option Glyphs) (text : List ℕ) (w h y from to bytes d : ℕ) → to ≤ from
    → ((x e : ℕ) → 0 ≤ x → x < 0 + from → pos e ≡ at +ℤ pos x → e < 0) → ((x e : ℕ) → 0 + to ≤ x → x < 0 + w * length text → pos e ≡ at +ℤ pos x → bytes ≤ e)
    → d < bytes → shifted at (λ x. text_dot sheet text w h x y) d ≡ false
text_unseen at sheet text w h y from to bytes d n before behind l = unseen at (λ x. text_dot sheet text w h x y) 0 from to (w * length text) bytes d n
    (λ x t. (omega arith, (let i = text_inside sheet text w h x y t in omega (arith, i.0)))) before behind l

-- below a text
pub no_text : (at : ℤ) (sheet : Option Glyphs) (text : List ℕ) (w h y d : ℕ) → h ≤ y → shifted at (λ x. text_dot sheet text w h x y) d ≡ false
no_text at sheet text w h y d l = shifted_none at (λ x. text_dot sheet text w h x y) d (λ x. false_from_ne_true (text_dot sheet text w h x y) (λ t. absurd (let i = text_inside sheet text w h x y t in omega (arith, i.1, l))))

-- the last of k cells begins before `to`
pub short_last : (w k to : ℕ) → w * (k - 1) < to → k * w < to + w
short_last w k to l = elim (cases_eq k 0) [
  | inl e ↦ rw e (omega (arith, l))
  | inr g ↦ (let same : k ≡ k - 1 + 1 = omega (arith, g) in let m : k * w ≡ (k - 1 + 1) * w = ap (λ n. n * w) same in omega (arith, m, l))
]

-- a row of a block of which no line is looked at, or none that has a dot
pub block_unseen : (at : ℤ) (sheet : Option Glyphs) (w h a b s : ℕ) (d : Alignment) (text : List ℕ) (y place : ℕ) (left : Option (Bor (List ℕ))) (x : ℕ) → 0 < w → w ≤ a → y < block_height h b s
    → ((x : ℕ) → lines_dot (layout sheet w h a b s d) 0 (block_lines (a / w) text) x y ≡ lines_dot (layout sheet w h a b s d) place (lines_left (a / w) left) x y)
    → ((x : ℕ) → lines_dot (layout sheet w h a b s d) place (lines_left (a / w) left) x y ≡ false) → shifted at (λ x. block_dot (layout sheet w h a b s d) text x y) x ≡ false
block_unseen at sheet w h a b s d text y place left x p m k e z =
    shifted_none at (λ x. block_dot (layout sheet w h a b s d) text x y) x (λ v. sym (lines_block sheet w h a b s d text y v p m k) ∙ e v ∙ z v)

-- and of one that is flipped, of which no dot was painted
pub flip_unseen : (at : ℤ) (n : ℕ) (sheet : Option Glyphs) (w h a b s : ℕ) (d : Alignment) (text : List ℕ) (y x seen : ℕ) → w ≤ a → a ≤ 8 * n → seen ≡ 0
    → ((x : ℕ) → x < 8 * length (replicate {A = ℕ} n 0) → shifted (pos 0) (λ x. block_dot (layout sheet w h a b s d) text x y) x ≡ true → 0 < seen)
    → shifted at (λ x. block_dot (layout sheet w h a b s d) text x y) x ≡ false
flip_unseen at n sheet w h a b s d text y x seen m k e g = shifted_none at (λ x. block_dot (layout sheet w h a b s d) text x y) x (λ v. false_from_ne_true (block_dot (layout sheet w h a b s d) text v y) (λ t.
    let i = block_inside (layout sheet w h a b s d) text v y t in
    let long = length-replicate {A = ℕ} n 0 in
    let same : v - 0 ≡ v = omega arith in
    absurd (let z = g v (omega (arith, i.0, long, m, k)) (rw (le-leb 0 v (omega arith), same) t) in omega (arith, z, e))))

-- of a line from place `left` on, of which no cell is seen
pub line_unseen : (at : ℤ) (sheet : Option Glyphs) (cells : List ℕ) (k w h left y from to bytes d : ℕ) → k ≤ length cells → to ≤ from
    → ((x e : ℕ) → left ≤ x → x < left + from → pos e ≡ at +ℤ pos x → e < 0) → ((x e : ℕ) → left + to ≤ x → x < left + w * k → pos e ≡ at +ℤ pos x → bytes ≤ e)
    → d < bytes → shifted at (λ x. leb left x && text_dot sheet (take k cells) w h (x - left) y) d ≡ false
line_unseen at sheet cells k w h left y from to bytes d few n before behind l =
    unseen at (λ x. leb left x && text_dot sheet (take k cells) w h (x - left) y) left from to (w * k) bytes d n
    (λ x t.
    let p = and_parts (leb left x) (text_dot sheet (take k cells) w h (x - left) y) t in
    let i = text_inside sheet (take k cells) w h (x - left) y p.1 in
    let long : w * length (take k cells) ≡ w * k = ap (λ c. w * c) (length-take-le k cells few) in
    let after = leb-true left x p.0 in
    (after, omega (arith, i.0, long, after)))
    before behind l
