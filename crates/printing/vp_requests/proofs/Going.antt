-- Bytes taken one by one, and what they ask.
use Rattle.std.proofs.Common.{◌≡◌, ℕ, ◌+◌, ◌≤◌, ◌<◌, ◌⊎◌, inl, inr, false, Option, None, Some, is_some, List, [], ◌∷◌, ◌++◌, length, take, get_or, refl, sym, ap, subst, ◌∙◌, append_assoc, arith}
use Rattle.std.specs.Prelude.{option_to_list}
use Rattle.std.proofs.lemmas.List.{append-nil, take_more}
use Rattle.vp_requests.specs.declared.labels.Labels.{Labels}
use Rattle.vp_requests.specs.declared.request.Request.{Request}
use Rattle.vp_requests.specs.Labels.{label_request}
use Rattle.vp_requests.specs.Requests.{behind, receipt_request, receipt_requests, label_requests}
use Rattle.vp_requests.specs.Standing.{LabelsTold, LabelsStand}

pub behind-push : (known : List ℕ → ℕ → List Request) (before bytes : List ℕ) (c : ℕ)
    → behind known before (bytes ++ c ∷ []) ≡ behind known before bytes ++ known (before ++ bytes) c
behind-push known before [] c = append-nil (known before c) ∙ ap (λ (xs : List ℕ). known xs c) (sym (append-nil before))
behind-push known before (b ∷ bytes) c =
    ap (λ (xs : List Request). known before b ++ xs) (behind-push known (before ++ b ∷ []) bytes c
    ∙ ap (λ (xs : List ℕ). behind known (before ++ b ∷ []) bytes ++ known xs c) (append_assoc before (b ∷ []) bytes))
    ∙ sym (append_assoc (known before b) (behind known (before ++ b ∷ []) bytes) (known (before ++ b ∷ bytes) c))

pub label-push : (bytes : List ℕ) (c : ℕ) → label_requests (bytes ++ c ∷ []) ≡ label_requests bytes ++ label_request bytes c
unfolding label_requests
label-push bytes c = behind-push label_request [] bytes c

pub receipt-push : (bytes : List ℕ) (c : ℕ) → receipt_requests (bytes ++ c ∷ []) ≡ receipt_requests bytes ++ receipt_request bytes c
unfolding receipt_requests
receipt-push bytes c = behind-push receipt_request [] bytes c

pub no_labels : label_requests [] ≡ []
unfolding label_requests
no_labels = refl

pub no_receipts : receipt_requests [] ≡ []
unfolding receipt_requests
no_receipts = refl

-- the first i bytes of an input were taken, and nothing more was known
pub record Went (Told : List ℕ → List Request → Type 0) (asks : List ℕ → List Request) (bytes : List ℕ) (told : List Request)
    (input : List ℕ) (i : ℕ) : Type 0 where
  pub now : Told (bytes ++ take i input) told
  pub same : (n : ℕ) → n ≤ i → asks (bytes ++ take n input) ≡ told

pub begins : (Told : List ℕ → List Request → Type 0) (asks : List ℕ → List Request) (bytes : List ℕ) (told : List Request) (input : List ℕ)
    → Told bytes told → asks bytes ≡ told → Went Told asks bytes told input 0
begins Told asks bytes told input now same = record {
  now = subst (λ (xs : List ℕ). Told xs told) (sym (append-nil bytes)) now;
  same = λ n le. subst (λ (m : ℕ). asks (bytes ++ take m input) ≡ told) (sym (zero_is n le)) (ap asks (append-nil bytes) ∙ same);
}
  where
    zero_is : (n : ℕ) → n ≤ 0 → n ≡ 0
    zero_is n le = omega (arith, le)

-- one more
pub at_next : (bytes input : List ℕ) (i : ℕ) → i < length input → bytes ++ take (i + 1) input ≡ (bytes ++ take i input) ++ get_or input i 0 ∷ []
at_next bytes input i lt = ap (λ (xs : List ℕ). bytes ++ xs) (take_more input i 0 lt) ∙ sym (append_assoc bytes (take i input) (get_or input i 0 ∷ []))

pub goes : (Told New : List ℕ → List Request → Type 0) (asks : List ℕ → List Request) (bytes : List ℕ) (told : List Request) (input : List ℕ) (i : ℕ)
    → i < length input → Went Told asks bytes told input i → New ((bytes ++ take i input) ++ get_or input i 0 ∷ []) told
    → asks ((bytes ++ take i input) ++ get_or input i 0 ∷ []) ≡ told → Went New asks bytes told input (i + 1)
goes Told New asks bytes told input i lt w now same = record {
  now = subst (λ (xs : List ℕ). New xs told) (sym (at_next bytes input i lt)) now;
  same = λ n le. by_place n (last_or n le);
}
  where
    last_or : (n : ℕ) → n ≤ i + 1 → (n ≤ i) ⊎ (n ≡ i + 1)
    last_or n le = grind (arith, le)

    by_place : (n : ℕ) → (n ≤ i) ⊎ (n ≡ i + 1) → asks (bytes ++ take n input) ≡ told
    by_place n (inl le) = w.same n le
    by_place n (inr e) = subst (λ (m : ℕ). asks (bytes ++ take m input) ≡ told) (sym e) (ap asks (at_next bytes input i lt) ∙ same)

pub none_list : (request : Option Request) → is_some request ≡ false → option_to_list request ≡ []
none_list None e = refl
none_list (Some request) e = grind (arith, e)

pub none_is : (request : Option Request) → is_some request ≡ false → request ≡ None
none_is None e = refl
none_is (Some request) e = grind (arith, e)

-- a label's byte, by what it asks
pub label_takes : (l new : Labels) (bytes : List ℕ) (told asked : List Request) (c : ℕ) → LabelsTold l bytes told
    → ((before : List ℕ) → LabelsStand l before → LabelsStand new (before ++ c ∷ []) × (asked ≡ label_request before c))
    → LabelsTold new (bytes ++ c ∷ []) (told ++ asked)
label_takes l new bytes told asked c t take =
    let done = take bytes t.stands in
    record {
      stands = done.0;
      all = label-push bytes c ∙ ap (λ (xs : List Request). xs ++ label_request bytes c) t.all ∙ ap (λ (xs : List Request). told ++ xs) (sym done.1);
    }

-- all of the input
pub ends_told : (Told : List ℕ → List Request → Type 0) (asks : List ℕ → List Request) (bytes : List ℕ) (told : List Request) (input : List ℕ) (i : ℕ)
    → Went Told asks bytes told input i → i ≡ length input → Told (bytes ++ take (length input) input) (told ++ [])
ends_told Told asks bytes told input i w e =
    subst (λ (xs : List Request). Told (bytes ++ take (length input) input) xs) (sym (append-nil told))
    (subst (λ (n : ℕ). Told (bytes ++ take n input) told) e w.now)

pub ends_same : (Told : List ℕ → List Request → Type 0) (asks : List ℕ → List Request) (bytes : List ℕ) (told : List Request) (input : List ℕ) (i n : ℕ)
    → Went Told asks bytes told input i → i ≡ length input → n < length input → asks (bytes ++ take n input) ≡ told
ends_same Told asks bytes told input i n w e lt = w.same n (omega (arith, e, lt))
