-- Parts of lists.
use Rattle.std.proofs.Common.{◌≡◌, ℕ, ◌+◌, ◌-◌, List, ◌++◌, length, take, drop, sym, ap, ◌∙◌, length-drop}
use Rattle.std.proofs.Math.Seq.{take-length, take-add}

-- the part from a on
pub part_is : (a : ℕ) (xs : List ℕ) → take (length xs - a) (drop a xs) ≡ drop a xs
part_is a xs = ap (λ n. take n (drop a xs)) (sym (length-drop a xs)) ∙ take-length (drop a xs)

-- a front, and then a front of the rest
pub front_more : (at n : ℕ) (xs : List ℕ) → take (at + n) xs ≡ take at xs ++ take n (take (length xs - at) (drop at xs))
front_more at n xs = take-add at n xs ∙ ap (λ ys. take at xs ++ take n ys) (sym (part_is at xs))

pub length_part : (at : ℕ) (xs : List ℕ) → length (take (length xs - at) (drop at xs)) ≡ length xs - at
length_part at xs = ap length (part_is at xs) ∙ length-drop at xs
