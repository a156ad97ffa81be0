use Rattle.std.proofs.Common.{◌≡◌, ℕ, true, false, List, [], sym, ap, ◌∙◌, flat_map}
use Rattle.std.proofs.lemmas.List.{append-nil}
use Rattle.vp_engine.specs.Offsets.{listed_by, placed_line}
use Rattle.vp_engine.specs.Paper.{Reading, listing, history, before_fault, printed, paper}
use Rattle.vp_engine.specs.Setups.{reading, line}
use Rattle.vp_engine.proofs.Faults.{paper_is}
use Rattle.vp_engine.proofs.Rasters.{printed_lines}
use Rattle.vp_engine.proofs.laws.a_listing_is_its_lines.Goals as goal

lines_are : {Item : Type 0} (reading : Reading Item) (line : Item → List ℕ) (bytes : List ℕ) →
    paper (listing reading line) bytes ≡ flat_map line (reading.items (before_fault (listing reading line) bytes))
lines_are reading line bytes =
    let sound = before_fault (listing reading line) bytes in
    paper_is (listing reading line) bytes ∙ ap (printed (listing reading line)) (sym (append-nil (history (listing reading line) sound)))
    ∙ printed_lines reading line (reading.items sound) []

pub returns-clause-alone : goal.returns-clause-alone
returns-clause-alone c language bytes = lines_are (listed_by false (reading language)) (line language) bytes

pub returns-clause-with_offsets : goal.returns-clause-with_offsets
returns-clause-with_offsets c language bytes = lines_are (listed_by true (reading language)) (placed_line (line language)) bytes
