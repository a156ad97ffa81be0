use Rattle.std.proofs.Common.{◌≡◌, ◌++◌, ℕ, List, [], ◌∷◌, Bool, None, flat_map, refl, ap, ◌∙◌}
use Rattle.std.proofs.lemmas.List.{append-nil}
use Rattle.vp_dots.specs.Images.{pbm}
use Rattle.vp_receipt_settings.specs.Setup.{Setup as ReceiptSetup}
use Rattle.vp_receipt.specs.Images.{begun}
use Rattle.vp_esc.specs.declared.reading.Reading.{Reading as EscReading}
use Rattle.vp_esc.specs.Split.{split}
use Rattle.vp_engine.specs.Setups.{is_empty}
use Rattle.vp_engine.specs.Images.{receipts, IsPrinted, images_of, begun_of}
use Rattle.vp_engine.specs.Paper.{history, before_fault, fault, ending, missing}
use Rattle.vp_engine.proofs.Faults.{paper_is, before_whole, none_first, none_second}
use Rattle.vp_engine.proofs.Rasters.{printed_same}
use Rattle.vp_engine.proofs.laws.a_receipt_is_images.Goals as goal

empty_by : (rest : List ℕ) (at_rest : Bool) → missing (is_empty rest) at_rest ≡ None → rest ≡ []
empty_by [] at_rest e = refl
empty_by (b ∷ rest) at_rest e = cc

-- bytes that end with a whole command
no_rest : (by : EscReading) (setup : ReceiptSetup) (bytes : List ℕ) → ending (receipts by setup) bytes ≡ None → (split by bytes).rest ≡ []
unfolding ending
no_rest by setup bytes e = empty_by (split by bytes).rest ((receipts by setup).is_at_rest (history (receipts by setup) bytes)) e

pub returns-clause-any : goal.returns-clause-any
returns-clause-any c = λ by setup bytes.
    let sound = before_fault (receipts by setup) bytes in
    paper_is (receipts by setup) bytes ∙ printed_same by setup (history (receipts by setup) sound) ∙ c.what_is_printed_is_images.ensures.images by setup sound

none_begun : (c : goal.After-what_is_printed_is_images) (by : EscReading) (setup : ReceiptSetup) (bytes : List ℕ) → IsPrinted by setup bytes → begun_of by setup bytes ≡ []
none_begun c by setup bytes e =
    let no_fault = none_first (fault (receipts by setup) bytes) (ending (receipts by setup) bytes) e in
    let at_end = none_second (fault (receipts by setup) bytes) (ending (receipts by setup) bytes) e in
    ap (λ sound. begun setup (history (receipts by setup) sound)) (before_whole (receipts by setup) bytes no_fault)
    ∙ c.what_is_printed_is_images.ensures.whole by setup bytes (no_rest by setup bytes at_end)

pub returns-clause-printed : goal.returns-clause-printed
returns-clause-printed c = λ by setup bytes e.
    returns-clause-any c by setup bytes ∙ ap (λ t. flat_map pbm (images_of by setup bytes) ++ t) (none_begun c by setup bytes e)
    ∙ append-nil (flat_map pbm (images_of by setup bytes))

pub returns-clause-across : goal.returns-clause-across
returns-clause-across c = λ by setup bytes. c.what_is_printed_is_images.ensures.across setup (history (receipts by setup) (before_fault (receipts by setup) bytes))
