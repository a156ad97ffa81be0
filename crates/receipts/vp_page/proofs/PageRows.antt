-- Rows made of words, and laid along the page.
use Rattle.std.proofs.Common.{◌≡◌, ℕ, ◌+◌, ◌-◌, ◌*◌, ◌/◌, ◌<◌, ◌≤◌, min, Bool, true, false, cond, ltb, leb, ◌&&◌, ◌∙◌, refl, arith, List, length, take, replicate, ◌^◌, ◌%◌}
use Rattle.std.proofs.lemmas.Bool.{lt-ltb, le-ltb, lt-leb, le-leb}
use Rattle.std.proofs.lemmas.List.{get_or-take, length-replicate, length-take}
use Rattle.std.proofs.lemmas.Bool.Decides.{nat_tests}
use Rattle.std.specs.Int.{to_be_bytes, w64}
use Rattle.vp_dots.specs.Dots.{dot, dots, span}
use Rattle.vp_dots.specs.Words.{word_dot}
use Rattle.vp_dots.specs.Painting.{Painted}
use Rattle.vp_dots.specs.declared.Op.TheVariants.{Black}
use Rattle.vp_dots.proofs.Words.{word_shr}
use Rattle.vp_page.proofs.Blank.{dot_white}
use Rattle.vp_page.proofs.Rows.{dot_past}
use Rattle.vp_page.proofs.WordsOnRows.{first_eight, word_bytes}
use Rattle.vp_page.proofs.Squares.{and_false}

pub on_white : (b o : Bool) → o ≡ false → cond b true o ≡ b
on_white b o e = grind arith

-- what stands on a row that was white
pub row_made : (n : ℕ) (ink : ℕ → Bool) (x : ℕ) (row : List ℕ) → Painted Black ink (replicate n 0) row → x < 8 * n → dot row x ≡ ink x
row_made n ink x row p l = p.dots_are x (omega (arith, length-replicate {A = ℕ} n 0)) ∙ on_white (ink x) _ (dot_white n x (omega arith))

-- a word moved to the right
pub moved_right : (word s x : ℕ) → word < 2 ^ 64 → x < 64 → word_dot (word / 2 ^ s) x ≡ (leb s x && word_dot word (x - s))
moved_right word s x fits h = grind (arith, lt-ltb, word_shr, lt-leb, le-leb)

-- the dots of a line that begins behind the place
pub begun : (line : List ℕ) (word far at x : ℕ) → word < 2 ^ 64 → at < far → x < 64 → ((u : ℕ) → u < 64 → word_dot word u ≡ dot line (0 + u))
    → word_dot (word / 2 ^ (far - at)) x ≡ (leb far (at + x) && dot line (at + x - far))
begun line word far at x fits b h e = grind (arith, nat_tests, moved_right)

-- and of one that ends behind it, turned
pub ended : (line : List ℕ) (word end at x : ℕ) → at < end → end < at + 64 → x < 64 → ((u : ℕ) → u < 64 → word_dot word u ≡ dot line (63 - u))
    → word_dot (word * 2 ^ (at + 64 - end) % 2 ^ 64) x ≡ (ltb (at + x) end && dot line (end - 1 - (at + x)))
ended line word end at x b c h e = grind (arith, first_eight word (at + 64 - end) x, e (x + (at + 64 - end)))

-- the bytes of a word, turned
pub turned_bytes : (word result x : ℕ) (bytes : List ℕ) → x < 64 → bytes ≡ to_be_bytes w64 word → word_dot result x ≡ dot bytes (8 * 0 + (63 - x)) → word_dot result x ≡ word_dot word (63 - x)
turned_bytes word result x bytes h e r = grind (arith, word_bytes)

-- the front of a line
front : (line : List ℕ) (n u : ℕ) → dot (take n line) u ≡ (ltb u (8 * n) && dot line u)
unfolding dot
front line n u = grind (arith, lt-ltb, get_or-take, le-ltb, dot_past, length-take)

-- whole words on whole bytes
pub whole_right : (line : List ℕ) (begin long x : ℕ) → begin % 8 ≡ 0 → long % 64 ≡ 0
    → (leb (8 * (begin / 8)) x && dot (take (long / 8) line) (x - 8 * (begin / 8))) ≡ (span begin (begin + long) x && dot line (x - begin))
whole_right line begin long x b w = grind (arith, nat_tests, front)

-- a row clipped where so many dots end, and where they begin
pub clipped_right : (n begin long words k x : ℕ) (b : Bool) → words ≤ n → words ≤ k → (words < n → begin + long ≤ 64 * words) → (words < n → k ≡ words) → x < 64 * n
    → cond (span (begin + long) (64 * words) x) false (ltb x (64 * k) && (leb (64 * (begin / 64)) x && (leb begin x && b))) ≡ (span begin (begin + long) x && b)
clipped_right n begin long words k x b few more all same h = grind (arith, lt-leb, le-leb, lt-ltb, le-ltb)

pub whole_left : (line : List ℕ) (begin long x : ℕ) → begin % 8 ≡ 0 → long % 64 ≡ 0 → long / 8 ≤ length line
    → (leb (8 * (begin / 8)) x && (ltb (x - 8 * (begin / 8)) (dots (take (long / 8) line)) && dot (take (long / 8) line) (dots (take (long / 8) line) - 1 - (x - 8 * (begin / 8)))))
    ≡ (span begin (begin + long) x && dot line (begin + long - 1 - x))
whole_left line begin long x b w there = grind (arith, length-take, lt-leb, le-ltb, and_false, le-leb, lt-ltb, front)

pub clipped_left : (n begin long words k x : ℕ) (b : Bool) → words ≤ k → (words < n → begin + long ≤ 64 * words) → x < 64 * n
    → cond (span (64 * (begin / 64)) begin x) false (ltb x (64 * k) && (leb (64 * (begin / 64)) x && (ltb x (begin + long) && b))) ≡ (span begin (begin + long) x && b)
clipped_left n begin long words k x b more all h = grind (arith, le-ltb, and_false, lt-ltb, lt-leb, le-leb)

-- as many rows as there are below a place of the half
pub as_many : (high top i times k : ℕ) (b : Bool) → k < high → i ≡ min times (high - top) → (ltb k (top + i) && (leb top k && b)) ≡ (span top (top + times) k && b)
as_many high top i times k b h e = grind (arith, nat_tests)

-- one of the rows from a place of the half on
pub row_below : (top i : ℕ) (b : Bool) → b ≡ (leb top (top + i) && b)
row_below top i b = rw (le-leb top (top + i) (omega arith)) refl

pub row_at : (top i : ℕ) (b : Bool) (f : ℕ → Bool) → (b && f i) ≡ (leb top (top + i) && (b && f (top + i - top)))
row_at top i b f = let here : top + i - top ≡ i = omega arith in rw (le-leb top (top + i) (omega arith), here) refl

-- so many rows from a place on
pub rows_between : (top i n k : ℕ) (b : Bool) → i ≡ n → (ltb k (top + i) && (leb top k && b)) ≡ (span top (top + n) k && b)
rows_between top i n k b e = rw e (grind (arith, nat_tests))
