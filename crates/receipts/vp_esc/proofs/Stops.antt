-- Tab stops.
use Rattle.std.proofs.Common.{◌≡◌, ℕ, ◌-◌, ◌<◌, ◌≤◌, true, false, ◌&&◌, ltb, Some, None, Ok, List, [], ◌∷◌, ◌++◌, length, take, get_or, refl, ap, ◌∙◌, arith}
use Rattle.std.proofs.lemmas.Bool.Decides.{nat_tests}
use Rattle.std.proofs.lemmas.List.{take_at, length_push}
use Rattle.arrayvec.specs.ArrayVec.{ArrayVec}
use Rattle.vp_esc.specs.declared.reading.Reading.{Reading}
use Rattle.vp_esc.specs.declared.item.EscItem.TheVariants as items
use Rattle.vp_esc.specs.declared.command.Command.TheVariants.{TabStops}
use Rattle.vp_esc.specs.declared.reader.EscReader.{EscReader}
use Rattle.vp_esc.specs.declared.reader.Phase.TheVariants as phases
use Rattle.vp_esc.specs.Command.{is_listed}
use Rattle.vp_esc.specs.Units.{needs_more, given_behind, rises_from}
use Rattle.vp_esc.specs.Reader.{Begun, Advances, last_or, InStops}
use Rattle.vp_esc.proofs.Fronts.{advances_by, begun_longer}
use Rattle.vp_esc.proofs.Heads.{given_is}
use Rattle.vp_esc.proofs.Phases.{kept_whole}

pub rises_push : (last : ℕ) (ns : List ℕ) (c : ℕ) → rises_from last (ns ++ c ∷ []) ≡ (rises_from last ns && ltb (last_or last ns) c)
rises_push last [] c = grind arith
rises_push last (n ∷ ns) c = ap (λ b. ltb last n && b) (rises_push n ns c) ∙ (grind arith)

last_or_push : (last : ℕ) (ns : List ℕ) (c : ℕ) → c ≡ last_or last (ns ++ c ∷ [])
last_or_push last [] c = refl
last_or_push last (n ∷ ns) c = last_or_push n ns c

listed_stops : (reading : Reading) (args : List ℕ) → is_listed reading TabStops args ≡ true
listed_stops reading args = grind arith

last_at : (xs : List ℕ) (c : ℕ) → get_or (xs ++ c ∷ []) (length xs) 0 ≡ c
last_at [] c = refl
last_at (x ∷ xs) c = last_at xs c

-- a stop that isn't the 32nd
pub stops_more : (r : EscReader) (last c : ℕ) (rest : List ℕ) (kept : ArrayVec ℕ) → InStops r last rest → last < c
    → kept.items ≡ take 255 (r.kept.items ++ c ∷ []) → length kept.items < 32
    → Advances r.reading (Ok None) rest c (record r { phase = phases.Stops c; kept = kept })
unfolding needs_more given_behind
stops_more r last c rest kept hand less k few =
    let w : kept.items ≡ r.kept.items ++ c ∷ [] = k ∙ kept_whole r.kept.items c (omega (arith, hand.few)) in
    let up : rises_from 0 (r.kept.items ++ c ∷ []) ≡ true = grind (arith, rises_push, nat_tests, hand.last_is) in
    let n : (rises_from 0 (r.kept.items ++ c ∷ []) && ltb (length (r.kept.items ++ c ∷ [])) 32) ≡ true =
    grind (arith, nat_tests) in
    let n' : (rises_from 0 r.kept.items && ltb (length r.kept.items) 32) ≡ true =
    grind (arith, nat_tests, hand.rise, hand.few) in
    let new : EscReader = record r { phase = phases.Stops c; kept = kept } in
    let longer_begun : Begun r.reading r.lead r.name TabStops kept.items (rest ++ c ∷ []) = grind (arith, begun_longer, listed_stops) in
    advances_by true c None new refl hand.begun (listed_stops r.reading (r.kept.items ++ c ∷ [])) n (grind (arith, given_is))
    (record { begun = longer_begun; rise = rw w up; few = few; last_is = rw w (last_or_push 0 r.kept.items c) })

-- the 32nd stop
pub stops_full : (r : EscReader) (last c : ℕ) (rest : List ℕ) (kept : ArrayVec ℕ) (stops : ArrayVec ℕ) → InStops r last rest → last < c
    → kept.items ≡ take 255 (r.kept.items ++ c ∷ []) → 32 ≤ length kept.items → (length kept.items ≤ 32 → stops.items ≡ kept.items)
    → Advances r.reading (Ok (Some (items.TabStops stops None))) rest c (record r { phase = phases.Ground; kept = kept })
unfolding needs_more given_behind
stops_full r last c rest kept stops hand less k many same =
    let w : kept.items ≡ r.kept.items ++ c ∷ [] = k ∙ kept_whole r.kept.items c (omega (arith, hand.few)) in
    let l : 32 ≤ length (r.kept.items ++ c ∷ []) = rw (← w) many in
    let no_more : length kept.items ≤ 32 = rw w (omega (arith, hand.few, length_push r.kept.items c)) in
    let up : rises_from 0 (r.kept.items ++ c ∷ []) ≡ true = grind (arith, rises_push, nat_tests, hand.last_is) in
    let n : (rises_from 0 (r.kept.items ++ c ∷ []) && ltb (length (r.kept.items ++ c ∷ [])) 32) ≡ false =
    grind (arith, nat_tests) in
    let n' : (rises_from 0 r.kept.items && ltb (length r.kept.items) 32) ≡ true =
    grind (arith, nat_tests, hand.rise, hand.few) in
    advances_by false c (Some (items.TabStops stops None)) (record r { phase = phases.Ground; kept = kept }) refl hand.begun
    (listed_stops r.reading (r.kept.items ++ c ∷ [])) n
    (grind (arith, given_is)) refl

-- a byte that doesn't rise
pub stops_end : (r : EscReader) (last c : ℕ) (rest : List ℕ) (stops : ArrayVec ℕ) → InStops r last rest → c ≤ last
    → (length r.kept.items ≤ 32 → stops.items ≡ r.kept.items)
    → Advances r.reading (Ok (Some (items.TabStops stops (Some c)))) rest c (record r { phase = phases.Ground })
unfolding needs_more given_behind
stops_end r last c rest stops hand less same =
    let up : rises_from 0 (r.kept.items ++ c ∷ []) ≡ false = grind (arith, rises_push, nat_tests, hand.last_is) in
    let n : (rises_from 0 (r.kept.items ++ c ∷ []) && ltb (length (r.kept.items ++ c ∷ [])) 32) ≡ false = rw up refl in
    let n' : (rises_from 0 r.kept.items && ltb (length r.kept.items) 32) ≡ true =
    grind (arith, nat_tests, hand.rise, hand.few) in
    let len : length (r.kept.items ++ c ∷ []) - 1 ≡ length r.kept.items = omega (arith, length_push r.kept.items c) in
    let s : stops.items ≡ r.kept.items = same (omega (arith, hand.few)) in
    let t : take (length (r.kept.items ++ c ∷ []) - 1) (r.kept.items ++ c ∷ []) ≡ stops.items = grind (arith, take, length, take_at) in
    let e : get_or (r.kept.items ++ c ∷ []) (length (r.kept.items ++ c ∷ []) - 1) 0 ≡ c = rw len (last_at r.kept.items c) in
    advances_by false c (Some (items.TabStops stops (Some c))) (record r { phase = phases.Ground }) refl hand.begun
    (listed_stops r.reading (r.kept.items ++ c ∷ [])) n
    (grind (arith, given_is)) refl
