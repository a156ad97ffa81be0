-- Digits that are padded with zeros on the left.
use Rattle.std.proofs.Common.{inl, inr, ◌≡◌, ℕ, ◌-◌, ◌<◌, ◌≤◌, Bool, true, false, List, ◌++◌, length, take, min, replicate, sym, ap, ◌∙◌, arith}
use Rattle.std.specs.List.{All}
use Rattle.std.proofs.lemmas.Bool.{cases_lt}
use Rattle.std.proofs.lemmas.List.{take_all, length-append, length-replicate}
use Rattle.std.proofs.lemmas.List.Elements.{All-append, All-replicate, All-take}
use Rattle.vp_bars.specs.Upc.{padded}

-- zeros and then the first digits
pub padded_is : (count : ℕ) (ds : List ℕ) → replicate (count - min (length ds) count) 0 ++ take (min (length ds) count) ds ≡ padded true count ds
padded_is count ds = elim (cases_lt (length ds) count) [
  | inl l ↦ (
      let n : min (length ds) count ≡ length ds = omega arith in
      let k : length (replicate (count - length ds) 0 ++ ds) ≤ count = omega (arith, length-append (replicate (count - length ds) 0) ds, length-replicate {A = ℕ} (count - length ds) 0) in
      ap (λ j. replicate (count - j) 0 ++ take j ds) n
      ∙ ap (λ xs. replicate (count - length ds) 0 ++ xs) (take_all (length ds) ds (omega arith))
      ∙ sym (take_all count (replicate (count - length ds) 0 ++ ds) k))
  | inr g ↦ (
      let n : min (length ds) count ≡ count = omega arith in
      let o : count - count ≡ 0 = omega arith in
      let z : count - length ds ≡ 0 = omega arith in
      ap (λ j. replicate (count - j) 0 ++ take j ds) n
      ∙ ap (λ j. replicate j 0 ++ take count ds) o
      ∙ ap (λ j. take count (replicate j 0 ++ ds)) (sym z))
]

-- they are digits still
pub padded_small : (pad : Bool) (count : ℕ) (ds : List ℕ) → All (λ d. d < 10) ds → All (λ d. d < 10) (padded pad count ds)
padded_small false count ds h = h
padded_small true count ds h = All-take (λ d. d < 10) count (replicate (count - length ds) 0 ++ ds)
    (All-append (λ d. d < 10) (replicate (count - length ds) 0) ds (All-replicate (λ d. d < 10) (count - length ds) 0 (omega arith)) h)
