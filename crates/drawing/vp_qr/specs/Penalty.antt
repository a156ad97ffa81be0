-- The penalty of a finished symbol, by which its mask is chosen: this project's own measure, in the manner of
-- ISO/IEC 18004, 7.8.3. A symbol is a function of row and column.
use Rattle.std.specs.Prelude.{ℕ, zero, suc, ◌+◌, ◌-◌, ◌*◌, ◌/◌, ◌==◌, ◌&&◌, ◌||◌, not, nat_le, Bool, true, false, List, [], ◌∷◌, if◌then◌else◌}
use Rattle.std.specs.Int.{bit_at}

-- both are dark, or both light
abbrev pub same : Bool → Bool → Bool
same true b = b
same false b = not b

-- the n modules of a line from place j on
abbrev pub line_from : (ℕ → Bool) → ℕ → ℕ → List Bool
line_from f j zero = []
line_from f j (suc n) = f j ∷ line_from f (j + 1) n

-- the lengths of the longest runs of equal modules, n modules of colour b being read
abbrev pub runs_behind : Bool → ℕ → List Bool → List ℕ
runs_behind b n [] = n ∷ []
runs_behind b n (c ∷ cs) = if same c b then runs_behind b (n + 1) cs else n ∷ runs_behind c 1 cs

abbrev pub runs : List Bool → List ℕ
runs [] = []
runs (b ∷ bs) = runs_behind b 1 bs

-- the penalty of a run of n modules
abbrev pub run_penalty : ℕ → ℕ
run_penalty n = if nat_le 5 n then n - 2 else 0

abbrev pub runs_penalty : List ℕ → ℕ
runs_penalty [] = 0
runs_penalty (n ∷ ns) = run_penalty n + runs_penalty ns

-- a line begins with a pattern
abbrev pub begins : List Bool → List Bool → Bool
begins [] line = true
begins (p ∷ ps) [] = false
begins (p ∷ ps) (b ∷ bs) = same p b && begins ps bs

-- a finder's modules with four light ones behind them, and with four before
abbrev pub light_behind : List Bool
light_behind = true ∷ false ∷ true ∷ true ∷ true ∷ false ∷ true ∷ false ∷ false ∷ false ∷ false ∷ []

abbrev pub light_before : List Bool
light_before = false ∷ false ∷ false ∷ false ∷ true ∷ false ∷ true ∷ true ∷ true ∷ false ∷ true ∷ []

-- 40 for each place where either stands
abbrev pub patterns_penalty : List Bool → ℕ
patterns_penalty [] = 0
patterns_penalty (b ∷ bs) = (if begins light_behind (b ∷ bs) || begins light_before (b ∷ bs) then 40
    else 0) + patterns_penalty bs

abbrev pub line_penalty : List Bool → ℕ
line_penalty line = runs_penalty (runs line) + patterns_penalty line

-- the sum of f over the numbers below n
abbrev pub sum_below : ℕ → (ℕ → ℕ) → ℕ
sum_below zero f = 0
sum_below (suc n) f = sum_below n f + f n

-- all lines of s modules that a function of line and place gives
abbrev pub lines_penalty : (ℕ → ℕ → Bool) → ℕ → ℕ
lines_penalty f s = sum_below s (λ i. line_penalty (line_from (f i) 0 s))

-- 1 where module j of a line, the next one, and both below them are equal
abbrev pub square_at : (ℕ → Bool) → (ℕ → Bool) → ℕ → ℕ
square_at above below j = if same (above j) (above (j + 1)) && same (above j) (below j)
    && same (above j) (below (j + 1)) then 1 else 0

-- 3 for each square of four equal modules
abbrev pub squares_penalty : (ℕ → ℕ → Bool) → ℕ → ℕ
squares_penalty f s = 3 * sum_below (s - 1) (λ i. sum_below (s - 1) (square_at (f i) (f (i + 1))))

abbrev pub dark_modules : (ℕ → ℕ → Bool) → ℕ → ℕ
dark_modules f s = sum_below s (λ i. sum_below s (λ j. if f i j then 1 else 0))

-- ten for each twentieth by which the dark ones are away from a half
abbrev pub balance_penalty : ℕ → ℕ → ℕ
balance_penalty dark all = 10 * (((20 * dark - 10 * all) + (10 * all - 20 * dark)) / all)

-- the whole
unfoldable pub penalty : (ℕ → ℕ → Bool) → ℕ → ℕ
penalty f s = lines_penalty f s + lines_penalty (λ i j. f j i) s + squares_penalty f s
    + balance_penalty (dark_modules f s) (s * s)

-- a bit of a number as a module
abbrev pub is_set : ℕ → ℕ → Bool
is_set row j = bit_at row j == 1

-- the modules of a number's lowest n bits
abbrev pub bits_line : ℕ → ℕ → List Bool
bits_line row n = line_from (is_set row) 0 n
