-- The halves of an EAN-13 symbol.
use Rattle.std.proofs.Common.{◌≡◌, ℕ, zero, suc, ◌+◌, ◌<◌, ◌≤◌, ◌*◌, min, List, [], ◌∷◌, ◌++◌, length, get_or, take, drop, map, refl, sym, ap, ◌∙◌, append_assoc, add-one, arith}
use Rattle.std.proofs.lemmas.Bool.Decides.{nat_tests}
use Rattle.std.specs.List.{flat_map}
use Rattle.std.proofs.lemmas.List.{append-nil}
use Rattle.vp_bars.specs.declared.symbology.Symbology.{Symbology}
use Rattle.vp_bars.specs.declared.symbology.Symbology.TheVariants.{Ean13}
use Rattle.vp_bars.specs.Patterns.{parity}
use Rattle.vp_bars.specs.Elements.{set_a_elements, left_elements_of, left_elements, ean13_elements}
use Rattle.vp_bars.specs.Symbologies.{size_of}
use Rattle.vp_bars.specs.Widths.{sized, next_widths, total}
use Rattle.vp_bars.proofs.Draws.{total-append, map_append}

-- one more digit
left_suc : (sets ds : List ℕ) (i : ℕ) → i < length sets → i < length ds → left_elements (take (suc i) sets) (take (suc i) ds) ≡ left_elements (take i sets) (take i ds) ++ left_elements_of (get_or sets i 0) (get_or ds i 0)
left_suc [] ds i h k = absurd (omega arith)
left_suc (s ∷ sets) [] i h k = absurd (omega arith)
left_suc (s ∷ sets) (d ∷ ds) zero h k = append-nil (left_elements_of s d)
left_suc (s ∷ sets) (d ∷ ds) (suc i) h k = ap (λ es. left_elements_of s d ++ es) (left_suc sets ds i (omega arith) (omega arith)) ∙ sym (append_assoc (left_elements_of s d) _ _)

pub left_more : (sets ds : List ℕ) (i : ℕ) → i < length sets → i < length ds → left_elements (take i sets) (take i ds) ++ left_elements_of (get_or sets i 0) (get_or ds i 0) ≡ left_elements (take (i + 1) sets) (take (i + 1) ds)
left_more sets ds i h k = rw add-one (sym (left_suc sets ds i h k))

-- the digits so far, and one more, are no wider than all
module _ (s : Symbology) (narrow wide : ℕ) where
  sized_both : (us vs : List ℕ) → total (sized s narrow wide (us ++ vs)) ≡ total (sized s narrow wide us) + total (sized s narrow wide vs)
  sized_both us vs = ap total (map_append (size_of s narrow wide) us vs) ∙ total-append (sized s narrow wide us) (sized s narrow wide vs)

  pub left_room : (sets ds : List ℕ) (i : ℕ) → i < length sets → i < length ds
      → total (sized s narrow wide (left_elements (take i sets) (take i ds))) + total (sized s narrow wide (left_elements_of (get_or sets i 0) (get_or ds i 0))) ≤ total (sized s narrow wide (left_elements sets ds))
  left_room [] ds i h k = absurd (omega arith)
  left_room (p ∷ sets) [] i h k = absurd (omega arith)
  left_room (p ∷ sets) (d ∷ ds) zero h k = omega (arith, sized_both (left_elements_of p d) (left_elements sets ds))
  left_room (p ∷ sets) (d ∷ ds) (suc i) h k =
      let one = left_elements_of p d in
      omega (arith, sized_both one (left_elements sets ds), sized_both one (left_elements (take i sets) (take i ds)), left_room sets ds i (omega arith) (omega arith))

-- all digits that have a set
pub left_all : (sets ds : List ℕ) (i : ℕ) → min (length sets) (length ds) ≤ i → left_elements (take i sets) (take i ds) ≡ left_elements sets ds
left_all [] ds zero h = refl
left_all [] ds (suc i) h = refl
left_all (s ∷ sets) [] zero h = refl
left_all (s ∷ sets) [] (suc i) h = refl
left_all (s ∷ sets) (d ∷ ds) zero h = absurd (omega arith)
left_all (s ∷ sets) (d ∷ ds) (suc i) h = ap (λ es. left_elements_of s d ++ es) (left_all sets ds i (omega arith))

-- the digits on the right have nothing between them
module _ (narrow wide : ℕ) where
  flat_sized : (ds : List ℕ) → flat_map (next_widths Ean13 narrow wide) ds ≡ sized Ean13 narrow wide (flat_map set_a_elements ds)
  flat_sized [] = refl
  flat_sized (d ∷ ds) = ap (λ ws. sized Ean13 narrow wide (set_a_elements d) ++ ws) (flat_sized ds) ∙ sym (map_append (λ e. e * narrow) (set_a_elements d) (flat_map set_a_elements ds))

  pub right_widths : (s : Symbology) (ds : List ℕ) → s ≡ Ean13 → flat_map (next_widths s narrow wide) ds ≡ sized s narrow wide (flat_map set_a_elements ds)
  right_widths s ds e = rw e (flat_sized ds)

-- the first six
pub first_six : (ds : List ℕ) → take (min (length ds) 6) ds ≡ take 6 ds
first_six ds = grind (arith, nat_tests)

pub other_six : (ds : List ℕ) → drop (min (length ds) 6) ds ≡ drop 6 ds
other_six ds = grind (arith, nat_tests)

-- guard, left digits, centre, right digits, guard
module _ (s : Symbology) (narrow wide : ℕ) where
  abbrev size : ℕ → ℕ
  size = size_of s narrow wide

  abbrev pub guard_widths : List ℕ
  guard_widths = size 1 ∷ size 1 ∷ size 1 ∷ []

  abbrev pub centre_widths : List ℕ
  centre_widths = size 1 ∷ size 1 ∷ size 1 ∷ size 1 ∷ size 1 ∷ []

  abbrev pub all_widths : List ℕ → List ℕ → List ℕ
  all_widths ls rs = guard_widths ++ (ls ++ (centre_widths ++ (rs ++ guard_widths)))

  by_parts : (ls rs : List ℕ) → map size ((1 ∷ 1 ∷ 1 ∷ []) ++ (ls ++ ((1 ∷ 1 ∷ 1 ∷ 1 ∷ 1 ∷ []) ++ (rs ++ (1 ∷ 1 ∷ 1 ∷ []))))) ≡ all_widths (map size ls) (map size rs)
  by_parts ls rs = grind (arith, map_append)

  pub halves : (vs digits left right sets : List ℕ) (first m : ℕ) → s ≡ Ean13 → vs ≡ first ∷ digits → m ≡ min (length digits) 6 → left ≡ take m digits → right ≡ drop m digits → sets ≡ parity first
      → all_widths (sized s narrow wide (left_elements sets left)) (flat_map (next_widths s narrow wide) right) ≡ sized s narrow wide (ean13_elements vs)
  halves vs digits left right sets first m e v n l r p = grind (arith, right_widths, first_six, other_six, by_parts)

  pub total-all : (ls rs : List ℕ) → total (all_widths ls rs) ≡ 8 * size 1 + total ls + total rs + 3 * size 1
  total-all ls rs = omega (arith, total-append ls (centre_widths ++ (rs ++ guard_widths)), total-append rs guard_widths)
