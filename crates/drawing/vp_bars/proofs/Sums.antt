-- Sums from the last value on.
use Rattle.std.proofs.Common.{◌≡◌, ℕ, Bool, true, not, cond, ◌+◌, ◌-◌, ◌*◌, ◌<◌, List, [], ◌∷◌, length, get_or, take, reverse, ap, ◌∙◌, arith}
use Rattle.std.proofs.lemmas.List.{take_more, reverse-append}
use Rattle.vp_bars.specs.Ean13.{weighted}
use Rattle.vp_bars.specs.Checks.{next_weight, in_turn}
use Rattle.vp_bars.specs.Msi.{doubled, doubled_sum}

-- the last of the first values comes first
pub last_first : (vs : List ℕ) (i : ℕ) → i < length vs → reverse (take (i + 1) vs) ≡ get_or vs i 0 ∷ reverse (take i vs)
last_first vs i h = ap reverse (take_more vs i 0 h) ∙ reverse-append (take i vs) (get_or vs i 0 ∷ [])

-- one digit fewer is left
pub weighted_less : (ds : List ℕ) (i sum weight : ℕ) → i < length ds → weighted 3 (reverse ds) ≡ sum + weighted weight (reverse (take (i + 1) ds))
    → weighted 3 (reverse ds) ≡ (sum + weight * get_or ds i 0) + weighted (4 - weight) (reverse (take i ds))
weighted_less ds i sum weight h e = e ∙ ap (λ xs. sum + weighted weight xs) (last_first ds i h) ∙ omega arith

-- one value fewer
pub in_turn_less : (first last : ℕ) (vs : List ℕ) (i sum weight : ℕ) → i < length vs → in_turn first last first (reverse vs) ≡ sum + in_turn first last weight (reverse (take (i + 1) vs))
    → in_turn first last first (reverse vs) ≡ (sum + weight * get_or vs i 0) + in_turn first last (next_weight first last weight) (reverse (take i vs))
in_turn_less first last vs i sum weight h e = e ∙ ap (λ xs. sum + in_turn first last weight xs) (last_first vs i h) ∙ omega arith

doubled_one : (twice : Bool) (d : ℕ) (ds : List ℕ) → doubled_sum twice (d ∷ ds) ≡ cond twice (doubled d) d + doubled_sum (not twice) ds
doubled_one twice d ds = grind arith

pub doubled_less : (ds : List ℕ) (i sum : ℕ) (twice : Bool) → i < length ds → doubled_sum true (reverse ds) ≡ sum + doubled_sum twice (reverse (take (i + 1) ds))
    → doubled_sum true (reverse ds) ≡ (sum + cond twice (doubled (get_or ds i 0)) (get_or ds i 0)) + doubled_sum (not twice) (reverse (take i ds))
doubled_less ds i sum twice h e = e ∙ ap (λ xs. sum + doubled_sum twice xs) (last_first ds i h) ∙ ap (λ k. sum + k) (doubled_one twice (get_or ds i 0) (reverse (take i ds))) ∙ omega arith
