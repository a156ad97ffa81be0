-- Data that are taken at once.
use Rattle.std.proofs.lemmas.Grind.{common_steps}
use Rattle.std.proofs.Common.{◌≡◌, ℕ, ◌-◌, ◌<◌, ◌≤◌, Bool, true, zero, suc, Option, List, [], ◌∷◌, ◌++◌, length, take, refl, sym, ap, ◌∙◌, append_assoc, arith, subst}
use Rattle.std.proofs.lemmas.Bool.Decides.{nat_tests}
use Rattle.std.specs.List.{prefix_len}
use Rattle.std.proofs.lemmas.List.Sums.{prefix_len-le-length}
use Rattle.std.proofs.lemmas.List.{length-take-le}
use Rattle.vp_zpl.specs.declared.reading.Reading.{Reading}
use Rattle.vp_zpl.specs.declared.name.Kind.{Kind}
use Rattle.vp_zpl.specs.declared.reader.ZplReader.{ZplReader}
use Rattle.vp_zpl.specs.declared.reader.Phase.{Phase}
use Rattle.vp_zpl.specs.declared.reader.Phase.TheVariants.{Outside, AfterSign, AfterFirst, Text, AfterIndicator, AfterDigit, Codes, Binary}
use Rattle.vp_zpl.specs.Commands.{cut, indicator}
use Rattle.vp_zpl.specs.Items.{items, data_items, waiting}
use Rattle.vp_zpl.specs.Runs.{is_text, is_kept_code, text_front, front_named, front_in}
use Rattle.vp_zpl.specs.Reader.{Stands, Goes, Advances, Named, in_phase, indicator_at, InText, front_by, phase_after}
use Rattle.vp_zpl.proofs.Named.{wants_in, indicator-is}
use Rattle.vp_zpl.proofs.Phases.{at_phase, at_indicator, text_goes}
use Rattle.vp_zpl.proofs.Pictures.{code_goes, binary_goes}
use Rattle.vp_zpl.proofs.Steps.{gives-from, stands-from, by_more, by_binary}

-- each of these passes
abbrev pub Are : (ℕ → Bool) → List ℕ → Type 0
Are p [] = Unit {0}
Are p (c ∷ cs) = (p c ≡ true) × Are p cs

pub front_passes : (p : ℕ → Bool) (n : ℕ) (cs : List ℕ) → n ≤ prefix_len p cs → Are p (take n cs)
front_passes p zero cs h = tt
front_passes p (suc n) [] h = tt
front_passes p (suc n) (c ∷ cs) h = grind (arith, front_passes p n cs)

-- these were taken as data
pub record Ran (reading : Reading) (new : ZplReader) (bytes cs : List ℕ) : Type 0 where
  pub gives : items reading (bytes ++ cs) ≡ items reading bytes ++ data_items cs
  pub stands : Stands reading new (bytes ++ cs)

ran_none : {reading : Reading} (new : ZplReader) (bytes : List ℕ) → Stands reading new bytes → Ran reading new bytes []
ran_none new bytes stands = grind (arith, common_steps)

ran_more : {reading : Reading} (one new : ZplReader) (bytes cs : List ℕ) (c : ℕ) → Advances reading (data_items (c ∷ [])) one (cut reading bytes) c → Ran reading new (bytes ++ c ∷ []) cs → Ran reading new bytes (c ∷ cs)
ran_more {reading} one new bytes cs c a more = record {
  gives = ap (items reading) (sym (append_assoc bytes (c ∷ []) cs)) ∙ more.gives ∙ ap (λ x. x ++ data_items cs) (gives-from (data_items (c ∷ [])) one bytes c a)
      ∙ append_assoc (items reading bytes) (data_items (c ∷ [])) (data_items cs);
  stands = subst (λ b. Stands reading new b) (append_assoc bytes (c ∷ []) cs) more.stands;
}

-- where each that passes is data and leaves the reader as it is
pub runs : {reading : Reading} (p : ℕ → Bool) (r : ZplReader) → ((bytes : List ℕ) (c : ℕ) → Stands reading r bytes → p c ≡ true → Advances reading (data_items (c ∷ [])) r (cut reading bytes) c)
    → (bytes cs : List ℕ) → Stands reading r bytes → Are p cs → Ran reading r bytes cs
runs p r step bytes [] stands all = grind (arith, common_steps)
runs p r step bytes (c ∷ cs) stands all =
    let a = step bytes c stands all.0 in
    ran_more r r bytes cs c a (runs p r step (bytes ++ c ∷ []) cs (stands-from (data_items (c ∷ [])) r bytes c a) all.1)

text_step : {reading : Reading} (r : ZplReader) → r.phase ≡ Text → (bytes : List ℕ) (c : ℕ) → Stands reading r bytes → is_text r.indicator c ≡ true → Advances reading (data_items (c ∷ [])) r (cut reading bytes) c
unfolding Stands
text_step {reading} r p bytes c stands e =
    let s = cut reading bytes in let h = at_phase r s.before s.open_one Text stands p in
    by_more _ r s c (wants_in reading Text r s.open_one h) (grind arith) (grind arith)
    (subst (λ z. Goes reading (data_items (c ∷ [])) (record r { phase = z }) s.before s.open_one c) (sym p)
    (text_goes r _ _ [] (c ∷ []) [] c Text r.known stands h (at_indicator r s.before s.open_one Text stands p)
    (λ t. refl) (λ _ _ t. t) (grind arith)))

-- of ^GF A
code_step : {reading : Reading} (r : ZplReader) → r.phase ≡ Codes → (bytes : List ℕ) (c : ℕ) → Stands reading r bytes → is_kept_code c ≡ true → Advances reading (data_items (c ∷ [])) r (cut reading bytes) c
unfolding Stands
code_step {reading} r p bytes c stands e =
    by_more _ r _ c (wants_in reading Codes r _ (at_phase r _ _ Codes stands p)) (grind arith) (grind arith)
    (code_goes r r _ _ (c ∷ []) c stands p (grind arith) refl refl refl refl refl)

-- of ^GF B
binary_step : {reading : Reading} (r : ZplReader) (left : ℕ) → r.phase ≡ Binary left → 0 < left → (bytes : List ℕ) (c : ℕ) → Stands reading r bytes
    → Advances reading (data_items (c ∷ [])) (record r { phase = Binary (left - 1) }) (cut reading bytes) c
unfolding Stands
binary_step {reading} r left p some bytes c stands =
    by_binary _ _ _ c (wants_in reading (Binary left) r _ (at_phase r _ _ (Binary left) stands p)
    ∙ (grind (arith, nat_tests)))
    (binary_goes r _ _ _ left c stands (ap Rattle.vp_zpl.specs.Reader.left_of p) some refl refl refl refl refl)

pub runs_binary : {reading : Reading} (cs : List ℕ) (r : ZplReader) (left : ℕ) (bytes : List ℕ) → r.phase ≡ Binary left → length cs ≤ left → Stands reading r bytes
    → Ran reading (record r { phase = Binary (left - length cs) }) bytes cs
runs_binary [] r left bytes p fits stands = grind (arith, common_steps)
runs_binary {reading} (c ∷ cs) r left bytes p fits stands =
    let a = binary_step r left p (omega arith) bytes c stands in let one : ZplReader = record r { phase = Binary (left - 1) } in
    let less : left - 1 - length cs ≡ left - length (c ∷ cs) = omega arith in
    ran_more one (record r { phase = Binary (left - length (c ∷ cs)) }) bytes cs c a (subst (λ n. Ran reading (record r { phase = Binary n }) (bytes ++ c ∷ []) cs) less
    (runs_binary cs one (left - 1) (bytes ++ c ∷ []) refl (omega arith) (stands-from (data_items (c ∷ [])) one bytes c a)))

-- so many are data
front_of : {reading : Reading} {r : ZplReader} {k : Kind} {args command : List ℕ} → Named reading r k args command → (before : List (List ℕ)) (input : List ℕ)
    → front_in reading before command input ≡ front_named k (indicator reading before) args input
unfolding front_in
front_of {reading} {args = args} n before input = ap (λ x. front_in reading before x input) n.bytes ∙ ap (λ k. front_named k (indicator reading before) args input) n.kind

text_by : {reading : Reading} (r : ZplReader) (before : List (List ℕ)) (command left input : List ℕ) → InText reading r left command → r.indicator ≡ indicator reading (command ∷ before)
    → front_in reading before command input ≡ text_front left r.indicator input
text_by r before command left input h i =
    front_of h.named before input ∙ ap (λ o. text_front (waiting o h.args) o input) (sym (i ∙ indicator-is h.named before)) ∙ ap (λ u. text_front u r.indicator input) h.waits

pub front_is : (reading : Reading) (q : Phase) (r : ZplReader) (before : List (List ℕ)) (command input : List ℕ) → in_phase reading q r command → r.indicator ≡ indicator_at reading q command before
    → front_by q r.indicator input ≡ front_in reading before command input
unfolding front_in
front_is reading Outside r before command input h i = rw h refl
front_is reading (AfterSign s) r before command input h i = rw h refl
front_is reading (AfterFirst s a) r before command input h i = rw h refl
front_is reading Text r before command input h i = sym (text_by r before command [] input h i)
front_is reading (AfterIndicator x) r before command input h i = sym (text_by r before command (x ∷ []) input h.1 i)
front_is reading (AfterDigit x d) r before command input h i = sym (text_by r before command (x ∷ d ∷ []) input h.1 i)
front_is reading _ r before command input h i = grind (arith, front_of)

pub fits : (q : Phase) (o : Option ℕ) (input : List ℕ) → front_by q o input ≤ length input
fits q o input = grind (arith, prefix_len-le-length)

pub front_ran : {reading : Reading} (q : Phase) (r : ZplReader) (n : ℕ) (bytes input : List ℕ) → r.phase ≡ q → n ≤ front_by q r.indicator input → Stands reading r bytes
    → Ran reading (record r { phase = phase_after q n }) bytes (take n input)
front_ran {reading} Text r n bytes input p few stands =
    subst (λ x. Ran reading (record r { phase = x }) bytes (take n input)) p
    (runs (is_text r.indicator) r (text_step r p) bytes (take n input) stands (front_passes (is_text r.indicator) n input few))
front_ran {reading} Codes r n bytes input p few stands =
    subst (λ x. Ran reading (record r { phase = x }) bytes (take n input)) p
    (runs is_kept_code r (code_step r p) bytes (take n input) stands (front_passes is_kept_code n input few))
front_ran {reading} (Binary left) r n bytes input p few stands =
    let l : length (take n input) ≡ n = length-take-le n input (omega arith) in
    subst (λ m. Ran reading (record r { phase = Binary (left - m) }) bytes (take n input)) l (runs_binary (take n input) r left bytes p (omega (arith, l)) stands)
front_ran q r n bytes input p few stands = grind (arith, common_steps)
