-- A list of which the part from a on was written anew.
use Rattle.vp_dots.specs.declared.fault.Fault.{Fault}
use Rattle.std.proofs.Common.{Option, None, is_some, ◌<◌, true, false, ◌≡◌, ◌≤◌, ℕ, ◌+◌, ◌-◌, List, [], ◌++◌, length, take, drop, sym, ap, ◌∙◌, arith, length-append, length-drop}
use Rattle.std.proofs.lemmas.List.{length-take-le, length-take, take_at, drop_at, drop-take, drop-drop}
use Rattle.std.proofs.lemmas.Grind.{common_steps}
use Rattle.std.proofs.Math.Seq.{take-length, take-add, take-append-add, drop-append-add}
use borrow.Rule.Slice.PartMut.{put_mid}

-- the part from a on
pub part_is : (a : ℕ) (xs : List ℕ) → take (length xs - a) (drop a xs) ≡ drop a xs
part_is a xs = ap (λ n. take n (drop a xs)) (sym (length-drop a xs)) ∙ take-length (drop a xs)

pub cut_is : (a : ℕ) (xs ys : List ℕ) → put_mid a (length xs - a) xs ys ≡ take a xs ++ ys
cut_is a xs ys = grind (arith, common_steps)

pub cut_length : (a : ℕ) (xs ys : List ℕ) → a ≤ length xs → length ys ≡ length (take (length xs - a) (drop a xs)) → length (put_mid a (length xs - a) xs ys) ≡ length xs
cut_length a xs ys h e = omega (arith, ap length (cut_is a xs ys), length-append (take a xs) ys, length-take-le a xs h, ap length (part_is a xs), length-drop a xs)

pub cut_take : (a n : ℕ) (xs ys : List ℕ) → a ≤ length xs → take (a + n) (put_mid a (length xs - a) xs ys) ≡ take a xs ++ take n ys
cut_take a n xs ys h = grind (arith, common_steps, take-append-add)

pub cut_drop : (a n : ℕ) (xs ys : List ℕ) → a ≤ length xs → drop n ys ≡ drop n (take (length xs - a) (drop a xs)) → drop (a + n) (put_mid a (length xs - a) xs ys) ≡ drop (a + n) xs
cut_drop a n xs ys h e = grind (arith, common_steps, drop-append-add)

pub rest_same : (a n : ℕ) (xs ys : List ℕ) → drop a xs ≡ drop a ys → drop (a + n) xs ≡ drop (a + n) ys
rest_same a n xs ys e = sym (drop-drop n a xs) ∙ ap (drop n) e ∙ drop-drop n a ys

pub empty_unless : (xs : List ℕ) → (0 < length xs → false ≡ true) → xs ≡ []
empty_unless xs h = grind (arith, common_steps)

pub none_is_not_some : (o : Option Fault) → None ≡ o → is_some o ≡ true → ⊥
none_is_not_some o e h = let no : false ≡ true = ap is_some e ∙ h in cc

-- a front, and then a front of the rest
pub front_more : (at n : ℕ) (xs : List ℕ) → take at xs ++ take n (take (length xs - at) (drop at xs)) ≡ take (at + n) xs
front_more at n xs = ap (λ ys. take at xs ++ take n ys) (part_is at xs) ∙ sym (take-add at n xs)

pub length_part : (at : ℕ) (xs : List ℕ) → length (take (length xs - at) (drop at xs)) ≡ length xs - at
length_part at xs = ap length (part_is at xs) ∙ length-drop at xs

pub take_all : (n : ℕ) (xs : List ℕ) → n ≡ length xs → take n xs ≡ xs
take_all n xs e = ap (λ k. take k xs) e ∙ take-length xs

pub range_less : (xs : List ℕ) (from to n : ℕ) → n ≤ to - from → take (to - (from + n)) (drop (from + n) xs) ≡ drop n (take (to - from) (drop from xs))
range_less xs from to n h =
    let m = to - (from + n) in let e : to - from ≡ n + m = omega arith in
    sym (ap (λ k. drop n (take k (drop from xs))) e ∙ drop-take n m (drop from xs) ∙ ap (take m) (drop-drop n from xs))

pub length_range : (xs : List ℕ) (from to : ℕ) → length (take (to - from) (drop from xs)) ≤ to - from
length_range xs from to = omega (arith, length-take (to - from) (drop from xs))

-- what was written to the front, and what was left
pub take_written : (put : ℕ) (text old new : List ℕ) → put ≡ length text → new ≡ text ++ drop put old → take put new ≡ text
take_written put text old new long e = ap (take put) e ∙ take_at text (drop put old) put (sym long)

pub drop_written : (put : ℕ) (text old new : List ℕ) → put ≡ length text → new ≡ text ++ drop put old → drop put new ≡ drop put old
drop_written put text old new long e = ap (drop put) e ∙ drop_at text (drop put old) put (sym long)
