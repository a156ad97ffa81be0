-- A sign ends what stands open.
use Rattle.std.proofs.Common.{◌≡◌, ℕ, true, Option, Some, List, [], ◌∷◌, ◌++◌, take, refl, sym, ap, ◌∙◌, arith}
use Rattle.std.proofs.lemmas.List.{append-nil, map-append}
use Rattle.vp_zpl.specs.declared.reading.Reading.{Reading}
use Rattle.vp_zpl.specs.declared.name.Kind.{Kind}
use Rattle.vp_zpl.specs.declared.name.Kind.TheVariants as kinds
use Rattle.vp_zpl.specs.declared.name.Name.{Name}
use Rattle.vp_zpl.specs.declared.reader.ZplReader.{ZplReader}
use Rattle.vp_zpl.specs.declared.reader.Phase.{Phase}
use Rattle.vp_zpl.specs.declared.reader.Phase.TheVariants.{Outside, AfterSign, AfterFirst, Skipping, Parameters, Text, AfterIndicator, AfterDigit, Codes, Binary}
use Rattle.vp_zpl.specs.Spelling.{kept_of, parameters}
use Rattle.vp_zpl.specs.Shown.{shown_parts}
use Rattle.vp_zpl.specs.Commands.{kind, is_whole, in_format, in_format_by, indicator}
use Rattle.vp_zpl.specs.Items.{item_of, data_items, graphic, text_known, text_at_end, given, given_named, at_end, at_end_named, waiting}
use Rattle.vp_zpl.specs.Reader.{StandsIn, Ends, in_phase, indicator_at, indicator_with, left_over, InParameters, InText}
use Rattle.vp_zpl.proofs.Named.{given-is, at_end-is, opened-is, indicator-is}
use Rattle.vp_zpl.proofs.Phases.{at_phase, at_indicator}
use Rattle.vp_zpl.proofs.Texts.{at_the_end}
use Rattle.vp_zpl.proofs.Parameters.{keeps_at_end}
use Rattle.vp_zpl.proofs.Inside.{none_given, Ended}

sign_stands : {reading : Reading} (new : ZplReader) (before : List (List ℕ)) (command : List ℕ) (sign : ℕ) → new.reading ≡ reading → new.in_format ≡ in_format reading (command ∷ before) → new.indicator ≡ indicator reading (command ∷ before)
    → new.phase ≡ AfterSign sign → StandsIn reading new (command ∷ before) (sign ∷ [])
unfolding in_format indicator kind
sign_stands new before command sign reads opened indicates phase = grind arith

pub parameters_end : {reading : Reading} (r new : ZplReader) (before : List (List ℕ)) (command : List ℕ) (k : Kind) (sign : ℕ) → StandsIn reading r before command → r.phase ≡ Parameters k
    → Ended r new → new.reading ≡ r.reading → new.in_format ≡ r.in_format → new.phase ≡ AfterSign sign
    → new.indicator ≡ indicator_with k (shown_parts new.sent.parameters.items) new.in_format r.indicator
    → Ends reading (item_of k r.sent.name (shown_parts new.sent.parameters.items) ∷ []) new before command sign
parameters_end {reading} r new before command k sign stands p ends same opened phase indicates =
    let h : InParameters reading r k command = at_phase r before command (Parameters k) stands p in
    let i : r.indicator ≡ indicator reading before = at_indicator r before command (Parameters k) stands p in
    let ps : shown_parts new.sent.parameters.items ≡ kept_of (parameters h.args) = grind (arith, take, keeps_at_end) in
    let o : new.in_format ≡ in_format_by (Some k) (in_format reading before) = opened ∙ stands.opened ∙ opened-is h.named before in
    record {
      gives = at_end-is h.named before ∙ (grind arith) ∙ ap (λ x. item_of k r.sent.name x ∷ []) (sym ps)
          ∙ sym (ap (λ x. x ++ item_of k r.sent.name (shown_parts new.sent.parameters.items) ∷ []) (given-is h.named before ∙ none_given reading k before r.sent.name h.args h.takes h.not_whole));
      stands = sign_stands new before command sign (same ∙ stands.reads) (opened ∙ stands.opened)
          (indicates ∙ ap (λ x. indicator_with k (shown_parts new.sent.parameters.items) x r.indicator) o ∙ ap (indicator_with k (shown_parts new.sent.parameters.items) (in_format_by (Some k) (in_format reading before))) i
          ∙ (grind arith)
          ∙ sym (indicator-is h.named before))
          phase;
    }

whole_ends : (reading : Reading) (before : List (List ℕ)) (name : Name) (args : List ℕ) → is_whole args ≡ true → at_end_named reading kinds.Graphic before name args ≡ given_named reading kinds.Graphic before name args ++ []
whole_ends reading before name args w = rw w (sym (append-nil (graphic name args)))

pub text_ends : (o : Option ℕ) (args : List ℕ) → text_at_end o args ≡ text_known o args ++ waiting o args
text_ends o args = grind (arith, append-nil, at_the_end)

text_gives : {reading : Reading} (r : ZplReader) (before : List (List ℕ)) (command left : List ℕ) → InText reading r left command → r.indicator ≡ indicator reading (command ∷ before)
    → at_end reading before command ≡ given reading before command ++ data_items left
text_gives {reading} r before command left h i =
    at_end-is h.named before ∙ (grind (arith, append-nil, at_the_end, map-append))
    ∙ ap (λ x. x ++ data_items (waiting (indicator reading before) h.args)) (sym (given-is h.named before))
    ∙ ap (λ x. given reading before command ++ data_items (waiting x h.args)) (sym (i ∙ indicator-is h.named before))
    ∙ ap (λ x. given reading before command ++ data_items x) h.waits

-- what the phases leave over
gives_in : (reading : Reading) (q : Phase) (r : ZplReader) (before : List (List ℕ)) (command : List ℕ) → in_phase reading q r command → ((k : Kind) → q ≡ Parameters k → ⊥)
    → r.indicator ≡ indicator_at reading q command before → at_end reading before command ≡ given reading before command ++ data_items (left_over q)
unfolding at_end given
gives_in reading Outside r before command h not i = rw h refl
gives_in reading (AfterSign s) r before command h not i = rw h refl
gives_in reading (AfterFirst s a) r before command h not i = rw h refl
gives_in reading Skipping r before command h not i =
    at_end-is h.named before ∙ (grind arith) ∙ ap (λ x. x ++ []) (sym (given-is h.named before))
gives_in reading (Parameters k) r before command h not i = absurd (not k refl)
gives_in reading Text r before command h not i = text_gives r before command [] h i
gives_in reading (AfterIndicator x) r before command h not i = text_gives r before command (x ∷ []) h.1 i
gives_in reading (AfterDigit x d) r before command h not i = text_gives r before command (x ∷ d ∷ []) h.1 i
gives_in reading Codes r before command h not i =
    at_end-is h.named before ∙ whole_ends reading before r.sent.name h.args h.whole ∙ ap (λ x. x ++ []) (sym (given-is h.named before))
gives_in reading (Binary n) r before command h not i =
    at_end-is h.named before ∙ whole_ends reading before r.sent.name h.args h.whole ∙ ap (λ x. x ++ []) (sym (given-is h.named before))

pub others_end : {reading : Reading} (q : Phase) (r new : ZplReader) (before : List (List ℕ)) (command : List ℕ) (sign : ℕ) → StandsIn reading r before command → r.phase ≡ q
    → ((k : Kind) → q ≡ Parameters k → ⊥) → new.reading ≡ r.reading → new.in_format ≡ r.in_format → new.indicator ≡ r.indicator → new.phase ≡ AfterSign sign
    → Ends reading (data_items (left_over q)) new before command sign
others_end {reading} q r new before command sign stands p not same opened indicates phase =
    let i : r.indicator ≡ indicator_at reading q command before = at_indicator r before command q stands p in
    record {
      gives = gives_in reading q r before command (at_phase r before command q stands p) not i;
      stands = sign_stands new before command sign (same ∙ stands.reads) (opened ∙ stands.opened) (indicates ∙ i ∙ (grind arith))
          phase;
    }
