-- Lines painted over each other.
use Rattle.std.proofs.Common.{pos, replicate, eqb, get_or, ◌%◌, ◌⊎◌, leb, ◌≡◌, ◌≢◌, ℕ, ◌+◌, ◌-◌, ◌*◌, ◌/◌, ◌<◌, ◌≤◌, min, List, [], ◌∷◌, Option, Some, MatchOption, Bor, Bool, true, false, ◌||◌, ◌&&◌, length, take, refl, sym, ap, ◌∙◌, arith, ℤ, inl, inr}
use Rattle.std.proofs.Math.Nat.{mul-le-mul_left, mul-div-le}
use Rattle.std.proofs.lemmas.List.{length-take-le, get_or-replicate, get_or_past, length-replicate}
use Rattle.std.proofs.lemmas.Bool.{and_parts, leb-true}
use Rattle.std.specs.Int.{bit_at}
use Rattle.std.proofs.lemmas.Nat.Bits.{bit_at-zero}
use Rattle.vp_dots.proofs.Rows.{dot_past}
use Rattle.vp_dots.specs.Dots.{bit, dot, dots, shifted}
use Rattle.vp_dots.specs.Painting.{Painted}
use Rattle.vp_dots.specs.declared.Op.{Op}
use Rattle.vp_dots.specs.declared.Op.TheVariants.{Black, Flip}
use Rattle.vp_dots.proofs.Moves.{moved_same}
use Rattle.vp_glyph.specs.Sheets.{Glyphs}
use Rattle.vp_glyph.specs.Texts.{text_dot, text_inside}
use Rattle.vp_glyph.specs.Blocks.{pieces, first, indent, block_lines, line_dot, lines_dot, block_height, block_dot, block_inside}
use Rattle.vp_glyph.proofs.Layouts.{layout}
use Rattle.vp_glyph.specs.declared.block.Alignment.{Alignment}
use Rattle.vp_glyph.proofs.Drawn.{moved_none}
use Rattle.vp_glyph.proofs.Stacks.{lines_left, lines_are, line_above, block_past, block_within}

pub painted_over : (op : Op) (at : ℤ) (f g h : ℕ → Bool) (a b c : List ℕ) → op ≢ Flip → ((x : ℕ) → h x ≡ (f x || g x)) → Painted op (shifted at f) a b → Painted op (shifted at g) b c → Painted op (shifted at h) a c
painted_over op at f g h a b c n u p q = grind arith

indent_within : (d : Alignment) (room : ℕ) → indent d room ≤ room
indent_within d room = grind arith

-- the cells of a line stand on it
pub line_fits : (d : Alignment) (a w n k left : ℕ) → n ≡ w → k ≤ a / w → left ≡ indent d (a - w * k) → left + n * k ≤ a
line_fits d a w n k left s m e = rw s (let in_room = indent_within d (a - w * k) in omega (arith, in_room, mul-le-mul_left w m, mul-div-le a w))

or_assoc : (a b c : Bool) → (a || (b || c)) ≡ (a || b || c)
or_assoc a b c = grind arith

or_true : (a b : Bool) → (a || b) ≡ true → (a ≡ true) ⊎ (b ≡ true)
or_true a b h1 = grind arith

module _ (sheet : Option Glyphs) (w h a b s : ℕ) (d : Alignment) (y : ℕ) where
  -- a line stands within the block
  pub line_inside : (place k x : ℕ) (cells : List ℕ) → k ≤ length cells → k ≤ a / w → line_dot (layout sheet w h a b s d) place (take k cells) x y ≡ true → x < a
  line_inside place k x cells l m e =
      let n : length (take k cells) ≡ k = length-take-le k cells l in
      let move : ℕ = indent d (a - w * length (take k cells)) in
      let p = and_parts (leb move x && leb (place * s) y) (text_dot sheet (take k cells) w h (x - move) (y - place * s)) e in
      let o = and_parts (leb move x) (leb (place * s) y) p.0 in
      let i = text_inside sheet (take k cells) w h (x - move) (y - place * s) p.1 in
      let t = indent_within d (a - w * length (take k cells)) in
      let f = leb-true move x o.0 in
      let g : w * length (take k cells) ≤ w * (a / w) = rw n (mul-le-mul_left w m) in
      let q = mul-div-le a w in
      let j = i.0 in
      omega arith

  -- the lines so far, painted
  pub record Overlaid (op : Op) (at : ℤ) (n : ℕ) (all : List (List ℕ)) (place : ℕ) (left : Option (Bor (List ℕ))) (old new : List ℕ) : Type 0 where
    pub done : ℕ → Bool
    pub painted : Painted op (shifted at done) old new
    pub rest_is : (x : ℕ) → lines_dot (layout sheet w h a b s d) 0 all x y ≡ (done x || lines_dot (layout sheet w h a b s d) place (lines_left n left) x y)
    pub inside : (x : ℕ) → done x ≡ true → x < a

  pub overlaid_none : (op : Op) (at : ℤ) (n : ℕ) (all : List (List ℕ)) (place : ℕ) (text : Bor (List ℕ)) (row : List ℕ)
      → ((x : ℕ) → lines_dot (layout sheet w h a b s d) 0 all x y ≡ lines_dot (layout sheet w h a b s d) place (block_lines n text.now) x y)
      → Overlaid op at n all place (Some text) row row
  overlaid_none op at n all place text row e =
      record { done = λ x. false; painted = moved_none op at (λ x. false) row (λ x. refl); rest_is = λ x. e x; inside = λ x e. cc }

  pub overlaid_more : (op : Op) (at : ℤ) (n : ℕ) (all : List (List ℕ)) (place k to : ℕ) (left next : Option (Bor (List ℕ))) (text : Bor (List ℕ)) (lent old row new : List ℕ) → op ≢ Flip → n ≡ a / w
      → Overlaid op at n all place left old row → left ≡ Some text → lent ≡ text.now → k ≤ length (first (pieces text.now)) → k ≤ n
      → MatchOption next (block_lines n text.now ≡ take k (first (pieces text.now)) ∷ []) (λ q. block_lines n text.now ≡ take k (first (pieces text.now)) ∷ block_lines n q.now)
      → Painted op (shifted at (λ x. line_dot (layout sheet w h a b s d) place (take k (first (pieces lent))) x y)) row new → to ≡ min (place + 1) (b - 1) → Overlaid op at n all to next old new
  overlaid_more op at n all place k to left next text lent old row new f z o e m l u r p t =
      let line : List ℕ = take k (first (pieces text.now)) in
      let front : lines_left n left ≡ line ∷ lines_left n next = ap (lines_left n) e ∙ lines_are n text.now line next r in
      record {
        done = λ x. o.done x || line_dot (layout sheet w h a b s d) place line x y;
        painted = painted_over op at o.done (λ x. line_dot (layout sheet w h a b s d) place line x y) (λ x. o.done x || line_dot (layout sheet w h a b s d) place line x y) old row new f (λ x. refl) o.painted (rw m at p);
        rest_is = λ x. o.rest_is x ∙ ap (λ (ls : List (List ℕ)). o.done x || lines_dot (layout sheet w h a b s d) place ls x y) front
            ∙ or_assoc (o.done x) (line_dot (layout sheet w h a b s d) place line x y) (lines_dot (layout sheet w h a b s d) (min (place + 1) (b - 1)) (lines_left n next) x y)
            ∙ ap (λ j. o.done x || line_dot (layout sheet w h a b s d) place line x y || lines_dot (layout sheet w h a b s d) j (lines_left n next) x y) (sym t);
        inside = λ x i. elim (or_true (o.done x) (line_dot (layout sheet w h a b s d) place line x y) i) [
          | inl v ↦ o.inside x v
          | inr v ↦ line_inside place k x (first (pieces text.now)) l (rw z at u) v
        ];
      }

  -- what is left has no dot in the row
  pub overlaid_all : (op : Op) (at : ℤ) (n : ℕ) (text : List ℕ) (place : ℕ) (left : Option (Bor (List ℕ))) (old new : List ℕ) → n ≡ a / w → w ≤ a → y < block_height h b s
      → ((x : ℕ) → lines_dot (layout sheet w h a b s d) place (lines_left n left) x y ≡ false)
      → Overlaid op at n (block_lines n text) place left old new → Painted op (shifted at (λ x. block_dot (layout sheet w h a b s d) text x y)) old new
  overlaid_all op at n text place left old new z m l e o = grind (arith, block_within, block_past)

  -- nor has a line that ends above it
  pub above_none : (op : Op) (at : ℤ) (place : ℕ) (line row : List ℕ) → place * s + h ≤ y → Painted op (shifted at (λ x. line_dot (layout sheet w h a b s d) place line x y)) row row
  above_none op at place line row l = moved_none op at (λ x. line_dot (layout sheet w h a b s d) place line x y) row (λ x. line_above sheet w h a b s d x y place line l)

-- a white row
pub zero_at : (n i : ℕ) → get_or (replicate {A = ℕ} n 0) i 0 ≡ 0
zero_at n i = grind (arith, get_or-replicate, get_or_past, length-replicate)

pub zero_dots : (n x : ℕ) → dot (replicate {A = ℕ} n 0) x ≡ false
unfolding dot bit
zero_dots n x = ap (λ k. eqb (bit_at k (7 - x % 8)) 1) (zero_at n (x / 8)) ∙ ap (λ k. eqb k 1) (bit_at-zero (7 - x % 8))

-- ink that was painted black in a white row
pub from_white : (n wide : ℕ) (f : ℕ → Bool) (row : List ℕ) → ((x : ℕ) → f x ≡ true → x < wide) → wide ≤ 8 * n → Painted Black (shifted (pos 0) f) (replicate {A = ℕ} n 0) row → (x : ℕ) → dot row x ≡ f x
from_white n wide f row o l p x = grind (arith, length-replicate, zero_dots, dot_past)

-- a block reversed by way of a white row
pub flipped : (at : ℤ) (n : ℕ) (sheet : Option Glyphs) (text : List ℕ) (w h a b s : ℕ) (d : Alignment) (y : ℕ) (dots old new : List ℕ) → w ≤ a → a ≤ 8 * n
    → Painted Black (shifted (pos 0) (λ x. block_dot (layout sheet w h a b s d) text x y)) (replicate {A = ℕ} n 0) dots → Painted Flip (shifted at (dot dots)) old new → Painted Flip (shifted at (λ x. block_dot (layout sheet w h a b s d) text x y)) old new
flipped at n sheet text w h a b s d y dots old new m l p q = moved_same Flip at (dot dots) (λ x. block_dot (layout sheet w h a b s d) text x y) old new
    (λ x. from_white n a (λ x. block_dot (layout sheet w h a b s d) text x y) dots (λ x e. let i = (block_inside (layout sheet w h a b s d) text x y e).0 in omega arith) l p x) q
