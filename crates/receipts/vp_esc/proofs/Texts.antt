-- Text, one byte after another.
use Rattle.std.proofs.Common.{◌≡◌, ℕ, ◌+◌, ◌<◌, ◌≤◌, Bool, true, cond, ◌&&◌, suc, is_none, Option, Some, None, Ok, List, [], ◌∷◌, ◌++◌, length, take, refl, sym, ap, subst, ◌∙◌, append_assoc, arith}
use Rattle.std.proofs.lemmas.Grind.{common_steps}
use Rattle.std.proofs.lemmas.Bool.Decides.{nat_tests}
use Rattle.std.specs.List.{prefix_len, AllByRecursion}
use Rattle.std.proofs.lemmas.List.{append-nil}
use Rattle.vp_esc.specs.declared.reading.Reading.{Reading}
use Rattle.vp_esc.specs.declared.item.Lead.{Lead}
use Rattle.vp_esc.specs.declared.reader.EscReader.{EscReader}
use Rattle.vp_esc.specs.declared.reader.Phase.TheVariants.{Ground}
use Rattle.vp_esc.specs.Command.{lead_of}
use Rattle.vp_esc.specs.Units.{single_item}
use Rattle.vp_esc.specs.Split.{split, items, fault_of}
use Rattle.vp_esc.specs.Reader.{Stands, Gives, is_text, text_items}
use Rattle.vp_esc.proofs.Fronts.{alone_between}
use Rattle.vp_esc.proofs.Splits.{gives-from_advances, stands-from_advances, reads_so}

first_passes : (z : Bool) (n m : ℕ) → suc n ≤ cond z (1 + m) 0 → (z ≡ true) × (n ≤ m)
first_passes z n m h = grind arith

-- what stands at the front of the front is text
pub front_passes : (n : ℕ) (cs : List ℕ) → n ≤ prefix_len is_text cs → AllByRecursion (λ b. is_text b ≡ true) (take n cs)
front_passes (suc n) (c ∷ cs) h = grind (arith, front_passes n cs)
front_passes n cs h = tt

no_lead : (lead : Option Lead) (z : Bool) → is_none lead && z ≡ true → lead ≡ None
no_lead lead z h = grind arith

-- text is taken, and the reader is as it was
pub record Ran (reading : Reading) (r : EscReader) (bytes xs : List ℕ) : Type 0 where
  pub gives : items reading (bytes ++ xs) ≡ items reading bytes ++ text_items xs
  pub known : 0 < length xs → fault_of reading (bytes ++ xs) ≡ None
  pub stands : Stands reading r (bytes ++ xs)

one : (reading : Reading) (r : EscReader) (bytes : List ℕ) (b : ℕ) → r.phase ≡ Ground → Stands reading r bytes → is_text b ≡ true → Ran reading r bytes (b ∷ [])
unfolding Stands
one reading r bytes b phase stands text =
    let a = reads_so stands.0 (alone_between b (single_item b) r (split reading bytes).rest (no_lead (lead_of b) _ text) refl phase stands.1) in
    let g : Gives (Ok (Some (single_item b))) (items reading bytes) (items reading (bytes ++ b ∷ [])) (fault_of reading (bytes ++ b ∷ [])) = gives-from_advances reading _ bytes b _ a in
    record { gives = g.1; known = λ some. g.0; stands = stands-from_advances reading _ bytes b _ a }

pub known_on : (reading : Reading) (bytes xs : List ℕ) → fault_of reading bytes ≡ None → (0 < length xs → fault_of reading (bytes ++ xs) ≡ None) → fault_of reading (bytes ++ xs) ≡ None
known_on reading bytes xs e h = grind (arith, common_steps)

pub ran : (reading : Reading) (r : EscReader) (bytes xs : List ℕ) → r.phase ≡ Ground → Stands reading r bytes → AllByRecursion (λ b. is_text b ≡ true) xs → Ran reading r bytes xs
ran reading r bytes [] phase stands text = grind (arith, nat_tests, append-nil)
ran reading r bytes (b ∷ xs) phase stands text =
    let first = one reading r bytes b phase stands text.0 in
    let more = ran reading r (bytes ++ b ∷ []) xs phase first.stands text.1 in
    let all : (bytes ++ b ∷ []) ++ xs ≡ bytes ++ b ∷ xs = append_assoc bytes (b ∷ []) xs in
    record {
      gives = ap (items reading) (sym all) ∙ more.gives ∙ ap (λ x. x ++ text_items xs) first.gives ∙ append_assoc (items reading bytes) (text_items (b ∷ [])) (text_items xs);
      known = λ some. ap (fault_of reading) (sym all) ∙ known_on reading (bytes ++ b ∷ []) xs (first.known (omega arith)) more.known;
      stands = subst (Stands reading r) all more.stands;
    }
