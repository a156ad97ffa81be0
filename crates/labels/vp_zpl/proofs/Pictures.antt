-- The data of ^GF, by the phase.
use Rattle.std.proofs.Common.{◌≡◌, ℕ, ◌-◌, ◌<◌, true, false, cond, List, [], ◌∷◌, ◌++◌, refl, sym, ap, ◌∙◌, arith}
use Rattle.std.proofs.lemmas.Bool.Decides.{nat_tests}
use Rattle.std.proofs.lemmas.List.{length_push, append-nil, map-append}
use Rattle.vp_zpl.specs.declared.reading.Reading.{Reading}
use Rattle.vp_zpl.specs.declared.name.Name.{Name}
use Rattle.vp_zpl.specs.declared.reader.ZplReader.{ZplReader}
use Rattle.vp_zpl.specs.declared.reader.Phase.TheVariants.{Codes, Binary}
use Rattle.vp_zpl.specs.Spelling.{behind_commas}
use Rattle.vp_zpl.specs.Commands.{is_whole, indicator, wants_binary}
use Rattle.vp_zpl.specs.Items.{data_items, graphic, picture, is_code}
use Rattle.vp_zpl.specs.Reader.{StandsIn, Goes, InCodes, InBinary, left_of}
use Rattle.vp_zpl.proofs.Named.{goes_named, named_longer, indicator_longer, wants_in}
use Rattle.vp_zpl.proofs.Phases.{at_phase, at_indicator}
use Rattle.vp_zpl.proofs.Heads.{still, graphic_same, binary_more, code_more}

given_graphic : (args : List ℕ) (name : Name) (more : List ℕ) (c : ℕ) → is_whole args ≡ true → picture (args ++ c ∷ []) ≡ picture args ++ more
    → (cond (is_whole (args ++ c ∷ [])) (graphic name (args ++ c ∷ [])) []) ≡ (cond (is_whole args) (graphic name args) []) ++ data_items more
given_graphic args name more c w e = grind (arith, still, map-append)

binary_by : {reading : Reading} (r new : ZplReader) (before : List (List ℕ)) (command more : List ℕ) (left c : ℕ)
    → StandsIn reading r before command → r.phase ≡ Binary left
    → new.reading ≡ r.reading → new.sent.name ≡ r.sent.name → new.in_format ≡ r.in_format → new.indicator ≡ r.indicator → new.phase ≡ Binary (left - 1)
    → ((h : InBinary reading r left command) → picture (h.args ++ c ∷ []) ≡ picture h.args ++ more)
    → Goes reading (data_items more) new before command c
binary_by {reading} r new before command more left c stands p same name opened indicates phase pictures =
    let h : InBinary reading r left command = at_phase r before command (Binary left) stands p in
    let s = still h.args c h.whole in
    let i : r.indicator ≡ indicator reading (command ∷ before) = at_indicator r before command (Binary left) stands p in
    goes_named (data_items more) new before command c (Binary (left - 1)) h.named (same ∙ stands.reads) (opened ∙ stands.opened) phase
    (indicates ∙ i ∙ indicator_longer before command c h.named refl)
    (given_graphic h.args r.sent.name more c h.whole (pictures h)) name
    (record {
      args = h.args ++ c ∷ [];
      named = named_longer h.named new c name;
      whole = s.whole;
      binary = rw s.head_is h.binary;
      left_is = rw (s.head_is, s.data_is) (omega (arith, h.left_is, length_push (behind_commas 4 h.args) c));
    })

pub behind_goes : {reading : Reading} (r : ZplReader) (before : List (List ℕ)) (command : List ℕ) (left c : ℕ) → StandsIn reading r before command → wants_binary reading command ≡ false → r.phase ≡ Binary left → Goes reading [] r before command c
behind_goes {reading} r before command left c stands wants p =
    let none = sym (wants_in reading (Binary left) r command (at_phase r before command (Binary left) stands p))
    ∙ wants in
    let zero : left ≡ 0 = grind (arith, nat_tests, none) in
    binary_by r r before command [] left c stands p refl refl refl refl (p ∙ ap Binary (omega (arith, zero)))
    (λ h. graphic_same h.args c h.whole h.binary (omega (arith, h.left_is, zero))
    ∙ sym (append-nil (picture h.args)))

-- a byte of binary data
pub binary_goes : {reading : Reading} (r new : ZplReader) (before : List (List ℕ)) (command : List ℕ) (left c : ℕ) → StandsIn reading r before command → left_of r.phase ≡ left → 0 < left
    → new.reading ≡ r.reading → new.sent.name ≡ r.sent.name → new.in_format ≡ r.in_format → new.indicator ≡ r.indicator → new.phase ≡ Binary (left - 1) → Goes reading (data_items (c ∷ [])) new before command c
binary_goes r new before command left c stands l some same name opened indicates phase =
    binary_by r new before command (c ∷ []) left c stands (grind arith) same name opened indicates phase
    (λ h. binary_more h.args c h.whole h.binary (omega (arith, h.left_is)))

-- a byte of ^GF A
pub code_goes : {reading : Reading} (r new : ZplReader) (before : List (List ℕ)) (command more : List ℕ) (c : ℕ) → StandsIn reading r before command → r.phase ≡ Codes → cond (is_code c) (c ∷ []) [] ≡ more
    → new.reading ≡ r.reading → new.sent.name ≡ r.sent.name → new.in_format ≡ r.in_format → new.indicator ≡ r.indicator → new.phase ≡ r.phase → Goes reading (data_items more) new before command c
code_goes {reading} r new before command more c stands p codes same name opened indicates phase =
    let h : InCodes reading r command = at_phase r before command Codes stands p in
    let i : r.indicator ≡ indicator reading (command ∷ before) = at_indicator r before command Codes stands p in
    let s = still h.args c h.whole in
    goes_named (data_items more) new before command c Codes h.named (same ∙ stands.reads) (opened ∙ stands.opened) (phase ∙ p) (indicates ∙ i ∙ indicator_longer before command c h.named refl)
    (given_graphic h.args r.sent.name more c h.whole (code_more h.args c more h.whole h.is_a codes)) name
    (record { args = h.args ++ c ∷ []; named = named_longer h.named new c name; whole = s.whole; is_a = rw s.head_is h.is_a })
