-- A fault: no unit begins so, and it stays.
use Rattle.std.proofs.Common.{◌≡◌, ℕ, true, false, List, [], ◌∷◌, ◌++◌, Some, append_assoc, arith}
use Rattle.std.proofs.lemmas.List.{append-nil}
use Rattle.vp_dots.specs.declared.fault.Fault.{Fault}
use Rattle.vp_esc.specs.declared.reading.Reading.{Reading}
use Rattle.vp_esc.specs.Units.{is_unfinished, fault_in}
use Rattle.vp_esc.specs.Split.{Split, split, split_on, with_byte, fault_of}
use Rattle.vp_esc.specs.Table.{IsRow}
use Rattle.vp_esc.proofs.Divisions.{split_on-append}
use Rattle.vp_esc.proofs.Fronts.{closed_sound, stuck}
use Rattle.vp_esc.proofs.Rows.{row_is_unit}

-- whatever follows
stuck_along : (reading : Reading) (front more : List ℕ) (f : Fault) → fault_in reading front ≡ Some f → is_unfinished reading (front ++ more) ≡ true
stuck_along reading front [] f e = grind (arith, append-nil, closed_sound)
stuck_along reading front (c ∷ more) f e = grind (arith, append_assoc, stuck_along reading (front ++ c ∷ []) more f (stuck reading front c f e).1)

pub no_row : (reading : Reading) (bytes more : List ℕ) (f : Fault) → fault_of reading bytes ≡ Some f → IsRow reading ((split reading bytes).rest ++ more) → ⊥
unfolding fault_of
no_row reading bytes more f e r =
    let open_still : is_unfinished reading ((split reading bytes).rest ++ more) ≡ true = stuck_along reading (split reading bytes).rest more f e in
    let whole : is_unfinished reading ((split reading bytes).rest ++ more) ≡ false = (row_is_unit reading ((split reading bytes).rest ++ more) r).whole in
    cc

pub split_stays : (reading : Reading) (s : Split) (bytes : List ℕ) (f : Fault) → fault_in reading s.rest ≡ Some f → fault_in reading (split_on reading s bytes).rest ≡ Some f
unfolding split_on
split_stays reading s [] f e = e
split_stays reading s (b ∷ bytes) f e = split_stays reading (with_byte reading s b) bytes f (grind (arith, stuck))

pub fault_stays_lem : (reading : Reading) (bytes more : List ℕ) (f : Fault) → fault_of reading bytes ≡ Some f → fault_of reading (bytes ++ more) ≡ Some f
unfolding fault_of split
fault_stays_lem reading bytes more f e = grind (arith, split_on-append, split_stays)
