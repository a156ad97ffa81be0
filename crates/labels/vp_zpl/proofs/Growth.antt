-- What is given stays given.
use Rattle.std.proofs.Common.{◌≡◌, ℕ, Bool, true, false, cond, zero, suc, Option, Some, None, List, [], ◌∷◌, ◌++◌, take, refl, sym, ap, ◌∙◌, append_assoc, arith}
use Rattle.vp_zpl.specs.declared.reading.Reading.{Reading}
use Rattle.vp_zpl.specs.declared.name.Kind.{Kind}
use Rattle.vp_zpl.specs.declared.name.Kind.TheVariants as kinds
use Rattle.vp_zpl.specs.declared.name.Name.{Name}
use Rattle.vp_zpl.specs.Spelling.{behind_commas, undecided}
use Rattle.vp_zpl.specs.Commands.{longer, is_whole, is_b, head, count_of, indicator}
use Rattle.vp_zpl.specs.Items.{Item, items, item_of, data_items, graphic, picture, is_code, text_known, given, given_named, at_end, at_end_named, all_ended}
use Rattle.vp_zpl.proofs.Cuts.{cut-push, items-is, with-byte}
use Rattle.vp_zpl.proofs.Steps.{none_given, ended-is}
use Rattle.vp_zpl.proofs.Texts.{step, out}
use Rattle.vp_zpl.proofs.Heads.{still, code_more}
use Rattle.std.proofs.lemmas.List.{append-nil, map-append}
use Rattle.vp_zpl.proofs.Ends.{text_ends}

pub record Grows (small big : List Item) : Type 0 where
  pub added : List Item
  pub is : big ≡ small ++ added

same : (xs ys : List Item) → ys ≡ xs → Grows xs ys
same xs ys e = record { added = []; is = e ∙ sym (append-nil xs) }

from_none : (xs ys : List Item) → xs ≡ [] → Grows xs ys
from_none xs ys e = record { added = ys; is = ap (λ x. x ++ ys) (sym e) }

take_grows : (n : ℕ) (xs : List ℕ) (y : ℕ) → (added : List ℕ) × (take n (xs ++ y ∷ []) ≡ take n xs ++ added)
take_grows zero xs y = ([], refl)
take_grows (suc n) [] y = (take (suc n) (y ∷ []), refl)
take_grows (suc n) (x ∷ xs) y = let g = take_grows n xs y in (g.0, ap (λ l. x ∷ l) g.1)

picture_by : (z : Bool) (args : List ℕ) (c : ℕ) → is_whole args ≡ true → is_b (head args) ≡ z → (added : List ℕ) × (picture (args ++ c ∷ []) ≡ picture args ++ added)
unfolding picture
picture_by true args c w b =
    let s = still args c w in let g = take_grows (count_of (head args)) (behind_commas 4 args) c in
    (g.0, rw (s.head_is, s.data_is, b) g.1)
picture_by false args c w b = (cond (is_code c) (c ∷ []) [], code_more args c (cond (is_code c) (c ∷ []) []) w b refl)

graphic_by : (reading : Reading) (z : Bool) (before : List (List ℕ)) (name : Name) (args : List ℕ) (c : ℕ) → is_whole args ≡ z
    → Grows (given_named reading kinds.Graphic before name args) (given_named reading kinds.Graphic before name (args ++ c ∷ []))
graphic_by reading true before name args c w =
    let s = still args c w in let g = picture_by (is_b (head args)) args c w refl in
    record { added = data_items g.0; is = rw (s.whole, w, s.head_is, g.1) (ap (λ d. item_of kinds.Graphic name (head args) ∷ d) (map-append _ (picture args) g.0)) }
graphic_by reading false before name args c w = from_none _ _ (ap (λ z. cond z (graphic name args) []) w)

text_by : (o : Option ℕ) (args : List ℕ) (c : ℕ) → (added : List ℕ) × (text_known o (args ++ c ∷ []) ≡ text_known o args ++ added)
text_by None args c = (c ∷ [], refl)
text_by (Some x) args c = (out x (undecided x args) c, (step x args c).makes)

named_grows : (reading : Reading) (k : Kind) (before : List (List ℕ)) (name : Name) (args : List ℕ) (c : ℕ) → Grows (given_named reading k before name args) (given_named reading k before name (args ++ c ∷ []))
named_grows reading kinds.FieldData before name args c =
    let g = text_by (indicator reading before) args c in
    record { added = data_items g.0; is = ap (λ d. item_of kinds.FieldData name [] ∷ data_items d) g.1 ∙ ap (λ d. item_of kinds.FieldData name [] ∷ d) (map-append _ (text_known (indicator reading before) args) g.0) }
named_grows reading kinds.Graphic before name args c = graphic_by reading (is_whole args) before name args c refl
named_grows reading _ before name args c = same _ _ refl

given_grows : (reading : Reading) (before : List (List ℕ)) (command : List ℕ) (c : ℕ) → Grows (given reading before command) (given reading before (longer command c))
unfolding given
given_grows reading before command c = grind (arith, same, from_none, named_grows)

named_ends : (reading : Reading) (k : Kind) (before : List (List ℕ)) (name : Name) (args : List ℕ) → Grows (given_named reading k before name args) (at_end_named reading k before name args)
named_ends reading kinds.FieldHex before name args = from_none _ _ refl
named_ends reading (kinds.Plain j) before name args = from_none _ _ refl
named_ends reading kinds.FieldData before name args = grind (arith, text_ends, map-append)
named_ends reading kinds.Graphic before name args = grind (arith, same, from_none)
named_ends reading _ before name args = same _ _ refl

pub end_grows : (reading : Reading) (before : List (List ℕ)) (command : List ℕ)
    → Grows (given reading before command) (at_end reading before command)
unfolding given at_end
end_grows reading before command = grind (arith, same, named_ends)

within : (reading : Reading) (before : List (List ℕ)) (small big : List Item) → Grows small big → Grows (all_ended reading before ++ small) (all_ended reading before ++ big)
within reading before small big g = record { added = g.added; is = ap (λ x. all_ended reading before ++ x) g.is ∙ sym (append_assoc (all_ended reading before) small g.added) }

one_more : (reading : Reading) (bytes : List ℕ) (c : ℕ) → Grows (items reading bytes) (items reading (bytes ++ c ∷ []))
one_more reading bytes c =
    let push = cut-push reading bytes c in
    grind (arith, within, given_grows, same, end_grows, none_given, append-nil, ended-is, items-is, push, with-byte)

pub grows : (reading : Reading) (bytes more : List ℕ) → Grows (items reading bytes) (items reading (bytes ++ more))
grows reading bytes [] = grind (arith, same, append-nil)
grows reading bytes (c ∷ more) =
    let a = one_more reading bytes c in let b = grows reading (bytes ++ c ∷ []) more in
    grind (arith, append_assoc)
