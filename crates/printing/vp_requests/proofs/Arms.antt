-- What each language is read by.
use Rattle.std.proofs.Common.{◌≡◌, ℕ, true, false, Option, None, List, [], ◌++◌, length, take, refl, sym, ap, subst, ◌∙◌, arith}
use Rattle.std.specs.Prelude.{option_to_list}
use Rattle.std.proofs.lemmas.List.{append-nil, take_all}
use Rattle.vp_language.specs.declared.language.Language.{Language}
use Rattle.vp_requests.specs.declared.labels.Labels.{Labels}
use Rattle.vp_requests.specs.declared.receipts.Receipts.{Receipts}
use Rattle.vp_requests.specs.declared.request.Request.{Request}
use Rattle.vp_requests.specs.declared.requests.Machine.{Machine}
use Rattle.vp_requests.specs.declared.requests.Machine.TheVariants.{Receipt, Label}
use Rattle.vp_requests.specs.declared.requests.Requests.{Requests}
use Rattle.vp_requests.specs.Requests.{requests, last_requests, is_label, receipt_requests, label_requests}
use Rattle.vp_requests.specs.Standing.{Told, told_by, ReceiptsTold, LabelsTold, IsFront, IsIdle, waiting, kept_short}
use Rattle.vp_requests.proofs.LabelCuts.{last_is}
use Rattle.vp_requests.proofs.BothKinds.{all_told}

module _ (language : Language) (r : Requests) (bytes : List ℕ) (told : List Request) (t : Told language r bytes told) where
  pub of_receipt : (receipts : Receipts) → r.machine ≡ Receipt receipts → (is_label language ≡ false) × ReceiptsTold receipts bytes told
  unfolding Told
  of_receipt receipts e = subst (λ (m : Machine). told_by m language bytes told) e t

  pub of_label : (labels : Labels) → r.machine ≡ Label labels → (is_label language ≡ true) × LabelsTold labels bytes told
  unfolding Told
  of_label labels e = subst (λ (m : Machine). told_by m language bytes told) e t

pub receipts_stand : (language : Language) → is_label language ≡ false → (receipts : Receipts) (bytes : List ℕ) (told : List Request)
    → ReceiptsTold receipts bytes told → Told language (record { machine = Receipt receipts }) bytes told
unfolding Told
receipts_stand language l receipts bytes told t = (l, t)

pub labels_stand : (language : Language) → is_label language ≡ true → (labels : Labels) (bytes : List ℕ) (told : List Request)
    → LabelsTold labels bytes told → Told language (record { machine = Label labels }) bytes told
unfolding Told
labels_stand language l labels bytes told t = (l, t)

pub of_receipts : (language : Language) (bytes : List ℕ) → is_label language ≡ false → requests language bytes ≡ receipt_requests bytes
of_receipts language bytes l = rw l refl

pub of_labels : (language : Language) (bytes : List ℕ) → is_label language ≡ true → requests language bytes ≡ label_requests bytes
of_labels language bytes l = rw l refl

pub receipts_first : (language : Language) → is_label language ≡ false → (receipts : Receipts) (bytes : List ℕ) (told : List Request)
    → ReceiptsTold receipts bytes told → IsFront told (requests language bytes)
receipts_first language l receipts bytes told t = record { more = waiting receipts; is = of_receipts language bytes l ∙ t.all }

pub labels_first : (language : Language) → is_label language ≡ true → (labels : Labels) (bytes : List ℕ) (told : List Request)
    → LabelsTold labels bytes told → IsFront told (requests language bytes)
labels_first language l labels bytes told t = record { more = []; is = of_labels language bytes l ∙ t.all ∙ sym (append-nil told) }

none_more : (request : Option Request) (told : List Request) → request ≡ None → told ++ option_to_list request ≡ told
none_more request told e = rw e (append-nil told)

-- where none is given all of the input was taken, and all is told
pub receipts_all : (language : Language) → is_label language ≡ false → (receipts : Receipts) (bytes input : List ℕ) (told : List Request) (request : Option Request)
    (n : ℕ) → request ≡ None → n ≡ length input → IsIdle receipts → ReceiptsTold receipts (bytes ++ take n input) (told ++ option_to_list request)
    → requests language (bytes ++ input) ≡ told
receipts_all language l receipts bytes input told request n none e i t =
    of_receipts language (bytes ++ input) l ∙ ap (λ (xs : List ℕ). receipt_requests (bytes ++ xs)) (sym (take_all n input (omega (arith, e))))
    ∙ all_told receipts (bytes ++ take n input) (told ++ option_to_list request) t i ∙ none_more request told none

pub labels_all : (language : Language) → is_label language ≡ true → (labels : Labels) (bytes input : List ℕ) (told : List Request) (request : Option Request)
    (n : ℕ) → request ≡ None → n ≡ length input → LabelsTold labels (bytes ++ take n input) (told ++ option_to_list request)
    → requests language (bytes ++ input) ≡ told
labels_all language l labels bytes input told request n none e t =
    of_labels language (bytes ++ input) l ∙ ap (λ (xs : List ℕ). label_requests (bytes ++ xs)) (sym (take_all n input (omega (arith, e))))
    ∙ t.all ∙ none_more request told none

pub last_of : (language : Language) → is_label language ≡ true → (labels : Labels) (bytes : List ℕ) (told : List Request) → LabelsTold labels bytes told
    → kept_short labels ≡ last_requests language bytes
last_of language l labels bytes told t = last_is labels bytes t.stands ∙ rw l refl
