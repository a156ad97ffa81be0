-- Rows of a raster, laid on the page as many at once as go.
use Rattle.std.proofs.Common.{◌≡◌, ℕ, ◌+◌, ◌-◌, ◌/◌, ◌%◌, ◌*◌, ◌<◌, ◌≤◌, Bool, ◌++◌, take, min, replicate, List, length, arith, [], get_or, set, get_or-set_same, get_or-set_other}
use Rattle.std.proofs.lemmas.List.{length-take, length-append, length-replicate, get_or-replicate, get_or_past, get_or-take, get_or_append_left, get_or-append_right}
use Rattle.vp_dots.specs.Dots.{dot}
use Rattle.vp_page.specs.declared.line.TheConstants.{LINE_BYTES, LINE_DOTS}

-- a row, and white bytes behind it
pub lengthened : (row front behind white rest : List ℕ) (n m u : ℕ) → n ≡ min (length row) LINE_BYTES → front ≡ take n row → white ≡ replicate m 0 → m ≡ LINE_BYTES - n → u < LINE_DOTS
    → dot (take n (front ++ behind) ++ (white ++ rest)) u ≡ dot row u
unfolding dot
lengthened row front behind white rest n m u e f w l h = grind (arith, length-take, length-append, length-replicate, get_or_append_left, get_or-take, get_or-append_right, get_or-replicate, get_or_past)

-- one more of the lines
pub line_set : (f : ℕ → ℕ → Bool) (lines : List (List ℕ)) (i : ℕ) (line : List ℕ) → i < length lines
    → ((u : ℕ) → u < LINE_DOTS → dot line u ≡ f i u)
    → ((k u : ℕ) → k < i → u < LINE_DOTS → dot (get_or lines k []) u ≡ f k u)
    → (k u : ℕ) → k < i + 1 → u < LINE_DOTS → dot (get_or (set lines i line) k []) u ≡ f k u
line_set f lines i line within here above k u h l = grind (arith, get_or-set_same, get_or-set_other)

-- a line that isn't the first of its row stands below another
pub not_first : (from i times : ℕ) → from % times ≡ 0 → 0 < (from + i) % times → 0 < i
not_first from i times e h = grind arith

-- of the same row
pub same_row : (w times : ℕ) → times ≤ 2 → 0 < w → 0 < w % times → (w - 1) / times ≡ w / times
same_row w times few some h = grind arith

-- a line is one of a row
pub row_there : (w rows times : ℕ) → 0 < times → times ≤ 2 → w < rows * times → w / times < rows
row_there w rows times some few h = grind arith
