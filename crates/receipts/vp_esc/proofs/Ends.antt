-- Where there is no fault, the rest can be made a unit.
use Rattle.std.proofs.Common.{◌≡◌, ℕ, ◌+◌, ◌≤◌, Bool, true, false, cond, Option, None, Some, List, [], ◌∷◌, ◌++◌, length, replicate, refl, ap, ◌∙◌, append_assoc, arith, ⊎_elim}
use Rattle.std.proofs.lemmas.Bool.{cases_Bool}
use Rattle.std.proofs.lemmas.Bool.Decides.{nat_tests}
use Rattle.std.proofs.lemmas.List.{append-nil, length-append, length-replicate}
use Rattle.std.proofs.lemmas.List.Folds.{list_any-append}
use Rattle.vp_dots.specs.declared.fault.Fault.{Fault}
use Rattle.vp_dots.specs.declared.fault.Fault.TheVariants.{Unknown}
use Rattle.vp_esc.specs.declared.reading.Reading.{Reading}
use Rattle.vp_esc.specs.declared.reading.Reading.TheVariants.{Profile, Whole}
use Rattle.vp_esc.specs.declared.item.Lead.{Lead}
use Rattle.vp_esc.specs.declared.item.Lead.TheVariants.{Esc, Gs, Fs, Dle}
use Rattle.vp_esc.specs.declared.command.Command.{Command}
use Rattle.vp_esc.specs.declared.command.Command.TheVariants.{Plain, TabStops, Raster, Graphics, ReadPast}
use Rattle.vp_esc.specs.declared.command.ReadPast.{ReadPast as ReadPastCommand}
use Rattle.vp_esc.specs.declared.command.ReadPast.TheVariants as past
use Rattle.vp_esc.specs.declared.command.Plain.{Plain as PlainCommand}
use Rattle.vp_esc.specs.declared.command.Plain.TheVariants.{Sensor}
use Rattle.vp_esc.specs.Command.{lead_of, command_of, head_len, is_listed}
use Rattle.vp_esc.specs.Units.{is_unfinished, fault_in, needs_more, is_counted, data_len, is_unfinished_after, fault_after}
use Rattle.vp_esc.specs.Split.{split, fault_of}
use Rattle.vp_esc.specs.Laws.{IsUnit, IsRest, Splits}
use Rattle.vp_esc.proofs.Stops.{rises_push}
use Rattle.vp_esc.proofs.Heads.{IsSame, same, needs_counted, head_small}
use Rattle.vp_esc.proofs.Divisions.{splits, fronts_push}

-- arguments that make the command whole
record CanEnd (reading : Reading) (k : Command) (args : List ℕ) : Type 0 where
  pub more : List ℕ
  pub listed : is_listed reading k (args ++ more) ≡ true
  pub whole : needs_more k (args ++ more) ≡ false

-- a first argument that the table has
first_of : Command → ℕ
first_of (Plain Sensor) = 0x33
first_of Raster = 0x30
first_of Graphics = 0x4C
first_of (ReadPast past.UserBytes) = 0x31
first_of (ReadPast past) = 0x30
first_of _ = 0

plain_listed : (reading : Reading) (p : PlainCommand) → is_listed reading (Plain p) (first_of (Plain p) ∷ []) ≡ true
unfolding first_of
plain_listed reading p = grind arith

past_listed : (reading : Reading) (past : ReadPastCommand) → is_listed reading (ReadPast past) (first_of (ReadPast past) ∷ []) ≡ true
unfolding first_of
past_listed reading past = grind arith

-- counted data, of zeros
end_counted : (reading : Reading) (k : Command) (a : ℕ) (args : List ℕ) → is_listed reading k (a ∷ args) ≡ true → is_counted k (a ∷ args) ≡ true → CanEnd reading k (a ∷ args)
end_counted reading k a args l e =
    let zeros : List ℕ = replicate (data_len k (a ∷ args ++ replicate 8 0)) 0 in
    let c : is_counted k (a ∷ args ++ replicate 8 0) ≡ true = grind arith in
    let h : head_len k (a ∷ args ++ replicate 8 0) ≤ length (a ∷ args ++ replicate 8 0) =
    omega (arith, head_small k (a ∷ args ++ replicate 8 0), length-append args (replicate 8 0), length-replicate {A = ℕ} 8 0) in
    let s : IsSame k (a ∷ args ++ replicate 8 0) zeros = same k (a ∷ args ++ replicate 8 0) zeros c h in
    let len : length ((a ∷ args ++ replicate 8 0) ++ zeros) ≡ length (a ∷ args ++ replicate 8 0) + data_len k (a ∷ args ++ replicate 8 0) =
    length-append (a ∷ args ++ replicate 8 0) zeros ∙ ap (λ n. length (a ∷ args ++ replicate 8 0) + n) (length-replicate {A = ℕ} _ 0) in
    let w : needs_more k ((a ∷ args ++ replicate 8 0) ++ zeros) ≡ false =
    needs_counted k ((a ∷ args ++ replicate 8 0) ++ zeros) s.counted ∙ rw (s.head, s.count, len) (grind (arith, nat_tests)) in
    record { more = replicate 8 0 ++ zeros; listed = l; whole = rw append_assoc at w }

stops_end : (args : List ℕ) → needs_more TabStops (args ++ 0 ∷ []) ≡ false
unfolding needs_more
stops_end args = grind (arith, nat_tests, rises_push)

zero_whole : (k : Command) (a : ℕ) (args : List ℕ) → is_counted k (a ∷ args) ≡ false → needs_more k (a ∷ args ++ 0 ∷ []) ≡ false
unfolding needs_more
zero_whole TabStops a args e = stops_end (a ∷ args)
zero_whole k a args e = grind (arith, list_any-append)

end_begun : (reading : Reading) (k : Command) (a : ℕ) (args : List ℕ) → is_listed reading k (a ∷ args) ≡ true → CanEnd reading k (a ∷ args)
end_begun reading k a args l = ⊎_elim
    (λ (e : is_counted k (a ∷ args) ≡ true). end_counted reading k a args l e)
    (λ (e : is_counted k (a ∷ args) ≡ false). record { more = 0 ∷ []; listed = l; whole = zero_whole k a args e })
    (cases_Bool (is_counted k (a ∷ args)))

can_end : (reading : Reading) (k : Command) (args : List ℕ) → is_listed reading k args ≡ true → CanEnd reading k args
unfolding first_of
can_end reading k [] l =
    let c : CanEnd reading k (first_of k ∷ []) = end_begun reading k (first_of k) [] (grind (arith, plain_listed, past_listed)) in
    record { more = first_of k ∷ c.more; listed = c.listed; whole = c.whole }
can_end reading k (a ∷ args) l = end_begun reading k a args l

-- bytes that make a front whole
record CanClose (reading : Reading) (front : List ℕ) : Type 0 where
  pub more : List ℕ
  pub whole : is_unfinished reading (front ++ more) ≡ false

close_lead : (reading : Reading) (lead : Lead) (b : ℕ) → lead_of b ≡ Some lead → CanClose reading (b ∷ [])
unfolding is_unfinished command_of needs_more
close_lead Profile Esc b e = record { more = 0x40 ∷ []; whole = rw e refl }
close_lead Profile Gs b e = record { more = 0x61 ∷ 0 ∷ []; whole = rw e refl }
close_lead Profile Fs b e = record { more = 0x2E ∷ []; whole = rw e refl }
close_lead Profile Dle b e = record { more = 0x05 ∷ 0 ∷ []; whole = rw e refl }
close_lead Whole Esc b e = record { more = 0x40 ∷ []; whole = rw e refl }
close_lead Whole Gs b e = record { more = 0x61 ∷ 0 ∷ []; whole = rw e refl }
close_lead Whole Fs b e = record { more = 0x2E ∷ []; whole = rw e refl }
close_lead Whole Dle b e = record { more = 0x05 ∷ 0 ∷ []; whole = rw e refl }

-- what is closed is whole
closed : (reading : Reading) (front : List ℕ) → is_unfinished reading front ≡ false → CanClose reading front
closed reading front e = record { more = []; whole = ap (is_unfinished reading) (append-nil front) ∙ e }

listed_of : (l : Bool) (x : Fault) → cond l None (Some x) ≡ None → l ≡ true
listed_of l x e = grind arith

close_listed : (reading : Reading) (lead : Lead) (b name : ℕ) (args : List ℕ) (k : Command) → lead_of b ≡ Some lead → command_of reading lead name ≡ Some k
    → is_listed reading k args ≡ true → CanClose reading (b ∷ name ∷ args)
unfolding is_unfinished
close_listed reading lead b name args k e f l =
    let c : CanEnd reading k args = can_end reading k args l in
    record { more = c.more; whole = rw e (rw f (rw c.listed c.whole)) }

close_named : (reading : Reading) (lead : Lead) (b name : ℕ) (args : List ℕ) (o : Option Command) → lead_of b ≡ Some lead → command_of reading lead name ≡ o
    → fault_after reading (Some lead) b (name ∷ args) ≡ None → CanClose reading (b ∷ name ∷ args)
unfolding is_unfinished
close_named Profile lead b name args None e f g = let u : Some (Unknown b name) ≡ None = rw f at g in cc
close_named Profile lead b name args (Some k) e f g =
    close_listed Profile lead b name args k e f (listed_of (is_listed Profile k args) (Unknown b name) (rw f at g))
close_named Whole lead b name args None e f g = closed Whole (b ∷ name ∷ args) (rw e (rw f refl))
close_named Whole lead b name args (Some k) e f g = ⊎_elim
    (λ (l : is_listed Whole k args ≡ true). close_listed Whole lead b name args k e f l)
    (λ (l : is_listed Whole k args ≡ false). closed Whole (b ∷ name ∷ args) (rw e (rw f (rw l refl))))
    (cases_Bool (is_listed Whole k args))

close_after : (reading : Reading) (o : Option Lead) (b : ℕ) (bytes : List ℕ) → lead_of b ≡ o → is_unfinished_after reading o bytes ≡ true → fault_after reading o b bytes ≡ None
    → CanClose reading (b ∷ bytes)
close_after reading o b bytes e f g = grind (arith, close_lead, close_named)

can_close : (reading : Reading) (front : List ℕ) → is_unfinished reading front ≡ true → fault_in reading front ≡ None → CanClose reading front
unfolding is_unfinished fault_in
can_close reading [] o f = record { more = 0x0A ∷ []; whole = refl }
can_close reading (b ∷ bytes) o f = close_after reading (lead_of b) b bytes refl o f

-- the first whole one of the fronts that go on from a rest is a unit
unit_within : (reading : Reading) (more rest : List ℕ) → IsRest reading rest → is_unfinished reading (rest ++ more) ≡ false → (end : List ℕ) × IsUnit reading (rest ++ end)
unit_within reading [] rest r e = let o : is_unfinished reading rest ≡ false = rw append-nil at e in let p : is_unfinished reading rest ≡ true = r.opens in cc
unit_within reading (x ∷ more) rest r e = grind (arith, fronts_push, append_assoc, unit_within reading more (rest ++ x ∷ []))

pub completes_lem : (reading : Reading) (bytes : List ℕ) → fault_of reading bytes ≡ None → (end : List ℕ) × IsUnit reading ((split reading bytes).rest ++ end)
unfolding fault_of
completes_lem reading bytes f =
    let s : Splits reading bytes (split reading bytes).units (split reading bytes).rest = splits reading bytes in
    let c : CanClose reading (split reading bytes).rest = can_close reading (split reading bytes).rest s.end.opens f in
    unit_within reading c.more (split reading bytes).rest s.end c.whole
