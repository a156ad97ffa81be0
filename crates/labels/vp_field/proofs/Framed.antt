-- The lines of a box.
use Rattle.std.proofs.Common.{◌≡◌, ℕ, ◌+◌, ◌-◌, ◌<◌, ◌≤◌, Bool, false, not, cond, ltb, leb, ◌&&◌, ◌||◌, ap, ◌∙◌, arith, List, ℤ, pos, ◌+ℤ◌}
use Rattle.std.proofs.lemmas.Bool.{cases_lt, lt-leb}
use Rattle.std.proofs.lemmas.Bool.Decides.{nat_tests}
use Rattle.std.specs.Int.RustNames.{bit_xor}
use Rattle.vp_dots.specs.Dots.{bit, shifted, span}
use Rattle.vp_dots.specs.Words.{word_dot}
use Rattle.vp_dots.specs.Painting.{Painted}
use Rattle.vp_dots.specs.declared.Op.{Op}
use Rattle.vp_dots.proofs.Bits.{bit_of_xor}
use Rattle.vp_dots.proofs.Paints.{painted_same}
use Rattle.vp_dots.proofs.Shifts.{shifted_same}
use Rattle.vp_glyph.proofs.Masks.{shift_more}
use Rattle.vp_field.specs.Frames.{frame_dot}

pub below_frame : (w h t x y : ℕ) → h ≤ y → frame_dot w h t x y ≡ false
unfolding frame_dot
below_frame w h t x y l = grind (arith, nat_tests)

pub sides_apart : (t r w x : ℕ) → t < r → (span 0 t x && span r w x) ≡ false
sides_apart t r w x l = grind (arith, nat_tests)

and_cond : (p a b : Bool) → (p && cond b (not a) a) ≡ cond (p && b) (not (p && a)) (p && a)
and_cond p a b = grind arith

xor_dot : (v w x : ℕ) → word_dot (bit_xor v w) x ≡ cond (word_dot w x) (not (word_dot v x)) (word_dot v x)
xor_dot v w x = ap (λ b. ltb x 64 && b) (bit_of_xor v w (63 - x)) ∙ and_cond (ltb x 64) (bit v (63 - x)) (bit w (63 - x))

outer_dot : (t r w x : ℕ) → t < r → r ≤ w
    → cond (ltb x w) (not (cond (ltb x r) (not (ltb x t)) (ltb x t))) (cond (ltb x r) (not (ltb x t)) (ltb x t)) ≡ (span 0 t x || span r w x)
outer_dot t r w x k l = grind (arith, nat_tests)

-- the dots before one and from another on, by three masks
pub outer_word : (t r w x a b c : ℕ) → t < r → r ≤ w → word_dot a x ≡ ltb x t → word_dot b x ≡ ltb x r → word_dot c x ≡ ltb x w
    → word_dot (bit_xor (bit_xor a b) c) x ≡ (span 0 t x || span r w x)
outer_word t r w x a b c k l e f g = grind (arith, xor_dot, outer_dot)

-- a line of a box as a word
pub line_painted : (op : Op) (at : ℤ) (word : ℕ) (line : ℕ → Bool) (a b : List ℕ) → ((x : ℕ) → word_dot word x ≡ line x)
    → Painted op (shifted at (word_dot word)) a b → Painted op (shifted at line) a b
line_painted op at word line a b h p = painted_same op (shifted at (word_dot word)) (shifted at line) a b (λ d l. shifted_same at (word_dot word) line d (λ x _. h x)) p

side_dot : (from dots x : ℕ) → (leb from x && ltb (x - from) dots) ≡ span from (from + dots) x
side_dot from dots x = grind (arith, cases_lt, lt-leb)

-- a side painted as a word
pub side_painted : (op : Op) (at at' : ℤ) (from dots word : ℕ) (a b : List ℕ) → at' ≡ at +ℤ pos from → ((x : ℕ) → word_dot word x ≡ ltb x dots)
    → Painted op (shifted at' (word_dot word)) a b → Painted op (shifted at (span from (from + dots))) a b
side_painted op at at' from dots word a b e h p = grind (arith, painted_same, shift_more, shifted_same, side_dot)
