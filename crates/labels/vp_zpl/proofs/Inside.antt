-- A byte more among parameters.
use Rattle.std.proofs.Common.{◌≡◌, ℕ, ◌<◌, ◌≤◌, Bool, true, false, cond, List, [], ◌∷◌, ◌++◌, length, take, refl, sym, ap, ◌∙◌, arith, subst}
use Rattle.vp_zpl.specs.declared.reading.Reading.{Reading}
use Rattle.vp_zpl.specs.declared.name.Kind.{Kind}
use Rattle.vp_zpl.specs.declared.name.Kind.TheVariants as kinds
use Rattle.vp_zpl.specs.declared.name.Name.{Name}
use Rattle.vp_zpl.specs.declared.reader.ZplReader.{ZplReader}
use Rattle.vp_zpl.specs.declared.reader.Phase.TheVariants.{Parameters, Codes, Binary}
use Rattle.vp_zpl.specs.Spelling.{is_comma, is_blank, ended, last, behind_commas, kept, kept_of, Kept}
use Rattle.vp_zpl.specs.Shown.{shown_part, shown_parts}
use Rattle.vp_zpl.specs.Commands.{is_b, count_of, head, is_whole, longer, indicator}
use Rattle.vp_zpl.specs.Items.{item_of, picture, given_named}
use Rattle.vp_zpl.specs.Reader.{Named, StandsIn, Goes, InParameters, has_parameters, in_phase, indicator_at, behind_head}
use Rattle.vp_zpl.proofs.Named.{goes_named, named_longer, indicator-is}
use Rattle.vp_zpl.proofs.Phases.{at_phase, at_indicator}
use Rattle.vp_zpl.proofs.Parameters.{last-push, keeps, same_ended, same_whole, comma_ended, comma_last, completes, few_whole}

-- before its head is whole, a command with parameters has given nothing
pub none_given : (reading : Reading) (k : Kind) (before : List (List ℕ)) (name : Name) (args : List ℕ) → has_parameters k ≡ true → (k ≡ kinds.Graphic → is_whole args ≡ false)
    → given_named reading k before name args ≡ []
none_given reading k before name args t w = grind arith

-- what the reader keeps of these parameters
pub record Reads (r : ZplReader) (kind : Kind) (args : List ℕ) : Type 0 where
  pub not_whole : kind ≡ kinds.Graphic → is_whole args ≡ false
  pub kept_is : shown_parts r.sent.parameters.items ≡ kept_of (ended [] args)
  pub part_is : shown_part r.part ≡ kept (last [] args)

stays_in : {reading : Reading} (r new : ZplReader) (before : List (List ℕ)) (command : List ℕ) (kind : Kind) (c : ℕ) → StandsIn reading r before command → r.phase ≡ Parameters kind
    → new.reading ≡ r.reading → new.sent.name ≡ r.sent.name → new.in_format ≡ r.in_format → new.indicator ≡ r.indicator → new.phase ≡ r.phase
    → ((args : List ℕ) → Reads r kind args → Reads new kind (args ++ c ∷ [])) → Goes reading [] new before command c
stays_in {reading} r new before command kind c stands p same name opened indicates phase reads =
    let h : InParameters reading r kind command = at_phase r before command (Parameters kind) stands p in
    let i : r.indicator ≡ indicator reading before = at_indicator r before command (Parameters kind) stands p in
    let n = reads h.args (record { not_whole = h.not_whole; kept_is = h.kept_is; part_is = h.part_is }) in
    goes_named [] new before command c (Parameters kind) h.named (same ∙ stands.reads) (opened ∙ stands.opened) (phase ∙ p) (indicates ∙ i)
    (none_given reading kind before r.sent.name (h.args ++ c ∷ []) h.takes n.not_whole ∙ sym (ap (λ x. x ++ []) (none_given reading kind before r.sent.name h.args h.takes h.not_whole)))
    name
    (record { args = h.args ++ c ∷ []; named = named_longer h.named new c name; takes = h.takes; not_whole = n.not_whole; kept_is = n.kept_is; part_is = n.part_is })

pub blank_goes : {reading : Reading} (r : ZplReader) (before : List (List ℕ)) (command : List ℕ) (kind : Kind) → StandsIn reading r before command → r.phase ≡ Parameters kind → Goes reading [] r before command 0x20
blank_goes r before command kind stands p =
    stays_in r r before command kind 0x20 stands p refl refl refl refl refl
    (λ args h. record {
      not_whole = λ e. same_whole args 0x20 refl ∙ h.not_whole e;
      kept_is = h.kept_is ∙ sym (ap kept_of (same_ended args 0x20 refl));
      part_is = h.part_is ∙ sym (ap kept (last-push [] args 0x20));
    })

pub part_goes : {reading : Reading} (r new : ZplReader) (before : List (List ℕ)) (command : List ℕ) (kind : Kind) (c : ℕ) → StandsIn reading r before command → r.phase ≡ Parameters kind
    → new ≡ record r { part = new.part } → is_comma c ≡ false → is_blank c ≡ false
    → ((p : List ℕ) → shown_part r.part ≡ kept p → shown_part new.part ≡ kept (p ++ c ∷ [])) → Goes reading [] new before command c
part_goes {reading} r new before command kind c stands p e comma blank push =
    stays_in r new before command kind c stands p (ap (λ (s : ZplReader). s.reading) e) (ap (λ (s : ZplReader). s.sent.name) e) (ap (λ (s : ZplReader). s.in_format) e) (ap (λ (s : ZplReader). s.indicator) e) (ap (λ (s : ZplReader). s.phase) e)
    (λ args h. record {
      not_whole = λ g. same_whole args c comma ∙ h.not_whole g;
      kept_is = ap (λ (s : ZplReader). shown_parts s.sent.parameters.items) e ∙ h.kept_is ∙ sym (ap kept_of (same_ended args c comma));
      part_is = grind (arith, last-push);
    })

-- a comma has ended a parameter
pub record Ended (r new : ZplReader) : Type 0 where
  pub kept : shown_parts new.sent.parameters.items ≡ take 8 (shown_parts r.sent.parameters.items ++ shown_part r.part ∷ [])
  pub part : shown_part new.part ≡ Rattle.vp_zpl.specs.Spelling.kept []

pub kept_on : (r new : ZplReader) (kind : Kind) (args : List ℕ) → Ended r new → Reads r kind args → shown_parts new.sent.parameters.items ≡ kept_of (ended [] (args ++ 0x2C ∷ []))
kept_on r new kind args e h = grind (arith, keeps, comma_ended)

pub comma_goes : {reading : Reading} (r new : ZplReader) (before : List (List ℕ)) (command : List ℕ) (kind : Kind) → StandsIn reading r before command → r.phase ≡ Parameters kind
    → new ≡ record r { sent = record r.sent { parameters = new.sent.parameters }; part = new.part } → Ended r new → (kind ≡ kinds.Graphic → length (shown_parts new.sent.parameters.items) < 4)
    → Goes reading [] new before command 0x2C
comma_goes {reading} r new before command kind stands p e ends few =
    stays_in r new before command kind 0x2C stands p (ap (λ (s : ZplReader). s.reading) e) (ap (λ (s : ZplReader). s.sent.name) e) (ap (λ (s : ZplReader). s.in_format) e) (ap (λ (s : ZplReader). s.indicator) e) (ap (λ (s : ZplReader). s.phase) e)
    (λ args h. record {
      not_whole = λ g. few_whole (args ++ 0x2C ∷ []) (subst (λ x. length x < 4) (kept_on r new kind args ends h) (few g));
      kept_is = kept_on r new kind args ends h;
      part_is = ends.part ∙ ap Rattle.vp_zpl.specs.Spelling.kept (sym (comma_last args));
    })

-- the phase behind a whole head
head_phase : {reading : Reading} (z : Bool) (new : ZplReader) (args command : List ℕ) → Named reading new kinds.Graphic args command → is_whole args ≡ true → behind_commas 4 args ≡ [] → is_b (head args) ≡ z
    → in_phase reading (cond z (Binary (count_of (head args))) Codes) new command
head_phase z new args command n w d e = grind arith

head_indicates : (reading : Reading) (z : Bool) (n : ℕ) (command : List ℕ) (before : List (List ℕ)) → indicator reading (command ∷ before) ≡ indicator_at reading (cond z (Binary n) Codes) command before
head_indicates reading z n command before = grind arith

picture_none : (args : List ℕ) → behind_commas 4 args ≡ [] → picture args ≡ []
unfolding picture
picture_none args d = grind arith

whole_given : (reading : Reading) (before : List (List ℕ)) (name : Name) (args more : List ℕ) → is_whole args ≡ false → is_whole more ≡ true → picture more ≡ []
    → given_named reading kinds.Graphic before name more ≡ given_named reading kinds.Graphic before name args ++ item_of kinds.Graphic name (head more) ∷ []
whole_given reading before name args more n w p = rw (n, w, p) refl

pub head_goes : {reading : Reading} (r new : ZplReader) (before : List (List ℕ)) (command : List ℕ) (sent : List Kept) → StandsIn reading r before command → r.phase ≡ Parameters kinds.Graphic
    → new.reading ≡ r.reading → new.sent.name ≡ r.sent.name → new.in_format ≡ r.in_format → new.indicator ≡ r.indicator → Ended r new → shown_parts new.sent.parameters.items ≡ sent
    → new.phase ≡ behind_head sent → 4 ≤ length sent → Goes reading (item_of kinds.Graphic r.sent.name sent ∷ []) new before command 0x2C
head_goes {reading} r new before command sent stands p same name opened indicates ends is phase four =
    let h : InParameters reading r kinds.Graphic command = at_phase r before command (Parameters kinds.Graphic) stands p in
    let reads : Reads r kinds.Graphic h.args = record { not_whole = h.not_whole; kept_is = h.kept_is; part_is = h.part_is } in
    let w = completes h.args sent (h.not_whole refl) (sym is ∙ kept_on r new kinds.Graphic h.args ends reads) four in
    let m = named_longer h.named new 0x2C name in let q = behind_head (head (h.args ++ 0x2C ∷ [])) in
    goes_named (item_of kinds.Graphic r.sent.name sent ∷ []) new before command 0x2C q h.named (same ∙ stands.reads) (opened ∙ stands.opened) (phase ∙ ap behind_head (sym w.head_is))
    (indicates ∙ (at_indicator r before command (Parameters kinds.Graphic) stands p) ∙ sym (indicator-is m before) ∙ head_indicates reading (is_b (head (h.args ++ 0x2C ∷ []))) (count_of (head (h.args ++ 0x2C ∷ [])))
    (longer command 0x2C) before) (whole_given reading before r.sent.name h.args (h.args ++ 0x2C ∷ []) (h.not_whole refl) w.whole (picture_none (h.args ++ 0x2C ∷ []) w.data_is) ∙ ap
    (λ x. given_named reading kinds.Graphic before r.sent.name h.args ++ item_of kinds.Graphic r.sent.name x ∷ []) w.head_is) name
    (head_phase (is_b (head (h.args ++ 0x2C ∷ []))) new (h.args ++ 0x2C ∷ []) (longer command 0x2C) m w.whole w.data_is refl)
