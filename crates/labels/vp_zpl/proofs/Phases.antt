-- A byte more, by the phase, where no parameters are read.
use Rattle.std.proofs.Common.{◌≡◌, ℕ, Option, Some, None, List, [], ◌∷◌, ◌++◌, refl, sym, ap, ◌∙◌, arith, subst}
use Rattle.std.proofs.lemmas.List.{append-nil, map-append}
use Rattle.vp_zpl.specs.declared.reading.Reading.{Reading}
use Rattle.vp_zpl.specs.declared.name.Kind.TheVariants as kinds
use Rattle.vp_zpl.specs.declared.name.Name.{Name}
use Rattle.vp_zpl.specs.declared.reader.ZplReader.{ZplReader}
use Rattle.vp_zpl.specs.declared.reader.Event.{Event}
use Rattle.vp_zpl.specs.declared.reader.Event.TheVariants as events
use Rattle.vp_zpl.specs.declared.item.DataBytes.{DataBytes}
use Rattle.vp_zpl.specs.Shown.{data_bytes}
use Rattle.vp_zpl.specs.declared.reader.Phase.{Phase}
use Rattle.vp_zpl.specs.declared.reader.Phase.TheVariants.{Outside, AfterSign, AfterFirst, Skipping}
use Rattle.vp_zpl.specs.Commands.{kind, longer, in_format, indicator}
use Rattle.vp_zpl.specs.Items.{item_of, data_items, given, given_named, text_known, waiting}
use Rattle.vp_zpl.specs.Items.Item.{Data}
use Rattle.vp_zpl.specs.Reader.{StandsIn, Goes, in_phase, InSkipping, InText, indicator_at, shown_event}
use Rattle.vp_zpl.proofs.Texts.{step, out, left_by}
use Rattle.vp_zpl.proofs.Named.{goes_named, named_longer, indicator_longer, indicator-is}

-- data that have become known
pub data_shows : {reading : Reading} (result : Event) (mid new : ZplReader) (bytes : DataBytes) (before : List (List ℕ)) (command : List ℕ) (c : ℕ) → result ≡ events.Data → new ≡ record mid { known = bytes }
    → Goes reading (data_items (data_bytes bytes)) (record mid { known = bytes }) before command c → Goes reading (shown_event result new) new before command c
data_shows result mid new bytes before command c e f g = grind (arith)

pub at_phase : {reading : Reading} (r : ZplReader) (before : List (List ℕ)) (command : List ℕ) (q : Phase) → StandsIn reading r before command → r.phase ≡ q → in_phase reading q r command
at_phase {reading} r before command q stands p = subst (λ x. in_phase reading x r command) p stands.phase

pub at_indicator : {reading : Reading} (r : ZplReader) (before : List (List ℕ)) (command : List ℕ) (q : Phase) → StandsIn reading r before command → r.phase ≡ q → r.indicator ≡ indicator_at reading q command before
at_indicator {reading} r before command q stands p = stands.indicates ∙ ap (λ x. indicator_at reading x command before) p

pub outside_goes : {reading : Reading} (r : ZplReader) (before : List (List ℕ)) (command : List ℕ) (c : ℕ) → StandsIn reading r before command → r.phase ≡ Outside → Goes reading [] r before command c
outside_goes r before command c stands p = grind (arith, at_phase, append-nil)

pub skipping_goes : {reading : Reading} (r : ZplReader) (before : List (List ℕ)) (command : List ℕ) (c : ℕ) → StandsIn reading r before command → r.phase ≡ Skipping → Goes reading [] r before command c
skipping_goes {reading} r before command c stands p =
    let h : InSkipping reading r command = at_phase r before command Skipping stands p in
    let i : r.indicator ≡ indicator reading (command ∷ before) = at_indicator r before command Skipping stands p in
    goes_named [] r before command c Skipping h.named stands.reads stands.opened p
    (i ∙ indicator_longer before command c h.named (grind arith))
    (grind arith) refl
    (record { kind = h.kind; args = h.args ++ c ∷ []; named = named_longer h.named r c refl; alone = h.alone })

pub name_goes : {reading : Reading} (r : ZplReader) (before : List (List ℕ)) (command : List ℕ) (sign c : ℕ) → StandsIn reading r before command → r.phase ≡ AfterSign sign
    → Goes reading [] (record r { phase = AfterFirst sign c }) before command c
unfolding given in_format indicator kind
name_goes r before command sign c stands p = grind (arith, at_phase, at_indicator)

pub named_first : {reading : Reading} (r : ZplReader) (before : List (List ℕ)) (command : List ℕ) (sign first : ℕ) → StandsIn reading r before command → r.phase ≡ AfterFirst sign first → command ≡ sign ∷ first ∷ []
named_first r before command sign first stands p = at_phase r before command (AfterFirst sign first) stands p

abbrev pub out_of : Option ℕ → List ℕ → ℕ → List ℕ
out_of None was c = c ∷ []
out_of (Some x) was c = out x was c

abbrev pub left_in : Option ℕ → List ℕ → ℕ → List ℕ
left_in None was c = []
left_in (Some x) was c = left_by x was c

text_more : (o : Option ℕ) (args : List ℕ) (c : ℕ)
    → (text_known o (args ++ c ∷ []) ≡ text_known o args ++ out_of o (waiting o args) c) × (waiting o (args ++ c ∷ []) ≡ left_in o (waiting o args) c)
text_more None args c = (refl, refl)
text_more (Some x) args c = let s = step x args c in (s.makes, s.leaves)

text_items : (reading : Reading) (o : Option ℕ) (name : Name) (args more : List ℕ) (c : ℕ) (before : List (List ℕ)) → indicator reading before ≡ o → text_known o (args ++ c ∷ []) ≡ text_known o args ++ more
    → given_named reading kinds.FieldData before name (args ++ c ∷ []) ≡ given_named reading kinds.FieldData before name args ++ data_items more
text_items reading o name args more c before e f = rw (e, f) (ap (λ d. item_of kinds.FieldData name [] ∷ d) (map-append Data (text_known o args) more))

-- a byte of data: what it makes known, and where the reader then is
pub text_goes : {reading : Reading} (r : ZplReader) (before : List (List ℕ)) (command was known now : List ℕ) (c : ℕ) (q : Phase)
    (bytes : DataBytes) → StandsIn reading r before command → InText reading r was command
    → r.indicator ≡ indicator reading (command ∷ before) → ((x : List ℕ) → indicator_at reading q x before ≡ indicator reading (x ∷ before))
    → ((new : ZplReader) → new.indicator ≡ r.indicator → InText reading new now (longer command c)
    → in_phase reading q new (longer command c))
    → (out_of r.indicator was c ≡ known) × (left_in r.indicator was c ≡ now)
    → Goes reading (data_items known) (record r { phase = q; known = bytes }) before command c
text_goes {reading} r before command was known now c q bytes stands h i at lands by =
    let t = text_more r.indicator h.args c in let new : ZplReader = record r { phase = q; known = bytes } in
    goes_named (data_items known) new before command c q h.named stands.reads stands.opened refl
    (i ∙ indicator_longer before command c h.named refl ∙ sym (at (longer command c)))
    (text_items reading r.indicator r.sent.name h.args known c before (sym (i ∙ indicator-is h.named before))
    (t.0 ∙ ap (λ k. text_known r.indicator h.args ++ k) (ap (λ w. out_of r.indicator w c) h.waits ∙ by.0)))
    refl
    (lands new refl (record {
      args = h.args ++ c ∷ [];
      named = named_longer h.named new c refl;
      waits = t.1 ∙ ap (λ w. left_in r.indicator w c) h.waits ∙ by.1;
    }))
