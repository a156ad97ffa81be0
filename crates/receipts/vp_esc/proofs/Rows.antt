-- Each row of the table is a unit.
use Rattle.std.proofs.Common.{◌≡◌, ◌≢◌, ◌⊎◌, ℕ, ◌≤◌, ◌+◌, true, false, Option, Some, None, List, [], ◌∷◌, ◌++◌, length, refl, sym, ◌∙◌, arith, ⊎_elim}
use Rattle.std.proofs.lemmas.Grind.{common_steps}
use Rattle.std.proofs.lemmas.List.{length-append, length_push}
use Rattle.std.proofs.lemmas.List.Folds.{list_any-append}
use Rattle.std.proofs.lemmas.Bool.Decides.{nat_tests}
use Rattle.vp_esc.specs.declared.reading.Reading.{Reading}
use Rattle.vp_esc.specs.declared.reading.Reading.TheVariants.{Whole}
use Rattle.vp_esc.specs.declared.item.Lead.{Lead}
use Rattle.vp_esc.specs.declared.item.Lead.TheVariants.{Esc}
use Rattle.vp_esc.specs.declared.command.Command.{Command}
use Rattle.vp_esc.specs.declared.command.Command.TheVariants.{Plain, TabStops, Symbol, ReadPast}
use Rattle.vp_esc.specs.declared.command.ReadPast.{ReadPast as ReadPastCommand}
use Rattle.vp_esc.specs.Command.{lead_byte, command_of, head_len, lists, is_listed}
use Rattle.vp_esc.specs.Units.{is_unfinished, is_unfinished_named, needs_more, is_counted, data_len, rises_from, is_listed_name}
use Rattle.vp_esc.specs.Laws.{IsUnit}
use Rattle.vp_esc.specs.Table.{IsReadPast, IsStops, IsToZero, IsCountedSymbol, IsArguments, IsCommand, IsAlone, IsUnknown, IsPassedOver, IsRow}
use Rattle.vp_esc.proofs.Fronts.{front_is, none_is, lead_of-lead_byte}
use Rattle.vp_esc.proofs.Stops.{rises_push}
use Rattle.vp_esc.proofs.Heads.{same, needs_counted, heads}
use Rattle.vp_esc.proofs.Divisions.{front_of_push}

-- Commands whose data are counted.
pub record IsSized (k : Command) (args : List ℕ) : Type 0 where
  pub counted : is_counted k args ≡ true
  pub len : length args ≡ head_len k args + data_len k args

listed_front : (reading : Reading) (k : Command) (args front more : List ℕ) → args ≡ front ++ more → is_listed reading k args ≡ true → is_listed reading k front ≡ true
listed_front reading k args front more e l = grind arith

pub counted_front : (k : Command) (front more : List ℕ) → head_len k front ≤ length front → is_counted k (front ++ more) ≡ true → is_counted k front ≡ true
counted_front k front more h e = grind (arith, common_steps)

sized_short : (k : Command) (args front more : List ℕ) → IsSized k args → args ≡ front ++ more → more ≢ [] → needs_more k front ≡ true
sized_short k args front more s e n =
    let h = heads Whole Esc 0 k front in
    grind (arith, common_steps, h, counted_front, same k front more, needs_counted, nat_tests)

sized_done : (k : Command) (args : List ℕ) → IsSized k args → needs_more k args ≡ false
sized_done k args s = needs_counted k args s.counted ∙ grind (arith, nat_tests, s.len)

-- a command that is read past
past_sized : (past : ReadPastCommand) (args : List ℕ) → IsReadPast past args → IsSized (ReadPast past) args
past_sized past args a =
    let s = same (ReadPast past) a.head a.parameters refl (omega (arith, a.head_count)) in
    let len : length (a.head ++ a.parameters) ≡ head_len (ReadPast past) (a.head ++ a.parameters) + data_len (ReadPast past) (a.head ++ a.parameters) =
    rw (s.head, s.count) (omega (arith, length-append a.head a.parameters, a.head_count, a.count)) in
    record { counted = refl; len = rw a.bytes len }

-- Tab stops.

rises_front : (last : ℕ) (xs ys : List ℕ) → rises_from last (xs ++ ys) ≡ true → rises_from last xs ≡ true
rises_front last [] ys h = refl
rises_front last (x ∷ xs) ys h = grind (arith, rises_front x xs ys)

stops_short : (args front more : List ℕ) → IsStops args → args ≡ front ++ more → more ≢ [] → needs_more TabStops front ≡ true
unfolding needs_more
stops_short args front more s e n = grind (arith, front_of_push, rises_front, length-append, nat_tests)

stops_done : (args : List ℕ) → IsStops args → needs_more TabStops args ≡ false
unfolding needs_more
stops_done args a = grind (arith, rises_push, length_push, nat_tests)

-- Symbols up to a 0.

zero_short : (args front more : List ℕ) → IsToZero args → args ≡ front ++ more → more ≢ [] → needs_more Symbol front ≡ true
unfolding needs_more
zero_short args front more z e n = grind (arith, front_of_push, list_any-append)

zero_done : (args : List ℕ) → IsToZero args → needs_more Symbol args ≡ false
unfolding needs_more
zero_done args z = grind (arith, common_steps)

-- All of them.

arguments_short : (k : Command) (args front more : List ℕ) → IsArguments k args → args ≡ front ++ more → more ≢ [] → needs_more k front ≡ true
arguments_short (Plain p) args front more a e n = sized_short (Plain p) args front more (grind (arith, nat_tests)) e n
arguments_short TabStops args front more a e n = stops_short args front more a e n
arguments_short Symbol args front more a e n = ⊎_elim
    (λ (z : IsToZero args). zero_short args front more z e n)
    (λ (z : IsCountedSymbol args). sized_short Symbol args front more (grind arith) e n)
    a
arguments_short (ReadPast past) args front more a e n = sized_short (ReadPast past) args front more (past_sized past args a) e n
arguments_short k args front more a e n = sized_short k args front more (grind arith) e n

arguments_done : (k : Command) (args : List ℕ) → IsArguments k args → needs_more k args ≡ false
arguments_done (Plain p) args a = sized_done (Plain p) args (grind (arith, nat_tests))
arguments_done TabStops args a = stops_done args a
arguments_done Symbol args a = ⊎_elim
    (λ (z : IsToZero args). zero_done args z)
    (λ (z : IsCountedSymbol args). sized_done Symbol args (grind arith))
    a
arguments_done (ReadPast past) args a = sized_done (ReadPast past) args (past_sized past args a)
arguments_done k args a = sized_done k args (grind arith)

row_fronts : (reading : Reading) (lead : Lead) (name : ℕ) (k : Command) (args : List ℕ) → command_of reading lead name ≡ Some k → is_listed reading k args ≡ true → IsArguments k args
    → (front more : List ℕ) → lead_byte lead ∷ name ∷ args ≡ front ++ more → more ≢ [] → is_unfinished reading front ≡ true
unfolding is_unfinished
row_fronts reading lead name k args named l a front more e n = grind (arith, lead_of-lead_byte, arguments_short, listed_front)

command_is_unit : (reading : Reading) (bytes : List ℕ) → IsCommand reading bytes → IsUnit reading bytes
command_is_unit reading bytes r =
    let d : needs_more r.command r.args ≡ false = arguments_done r.command r.args r.arguments in
    record {
      whole = rw (front_is reading r.lead r.name r.command r.args bytes r.named r.bytes_are).opens (rw r.listed d);
      shortest = λ front more e n. row_fronts reading r.lead r.name r.command r.args r.named r.listed r.arguments front more (sym r.bytes_are ∙ e) n;
    }

alone_is_unit : (reading : Reading) (bytes : List ℕ) → IsAlone bytes → IsUnit reading bytes
unfolding is_unfinished
alone_is_unit reading bytes a =
    record {
      whole = rw a.bytes_are (rw a.no_lead refl);
      shortest = λ front more e n. no_front front more (sym a.bytes_are ∙ e) n;
    }
  where
    no_front : (front more : List ℕ) → a.byte ∷ [] ≡ front ++ more → more ≢ [] → is_unfinished reading front ≡ true
    no_front [] more e n = refl
    no_front (x ∷ []) [] e n = absurd (n refl)
    no_front (x ∷ []) (y ∷ more) e n = cc
    no_front (x ∷ y ∷ front) more e n = cc

-- What the whole language reads past.

-- a command that has no such first argument needs one
needs_first : (k : Command) (c : ℕ) → lists Whole k c ≡ false → needs_more k [] ≡ true
unfolding needs_more
needs_first k c l = grind (arith, nat_tests)

pub unknown_is_none : (lead : Lead) (name : ℕ) (args : List ℕ) (o : Option Command) → command_of Whole lead name ≡ o → IsUnknown o args
    → is_listed_name Whole (command_of Whole lead name) args ≡ false
unknown_is_none lead name args None e u = rw e refl
unknown_is_none lead name args (Some k) e u = rw e (rw u.bytes u.is)

-- the fronts of a lead and what stands behind it
named_fronts : (lead : Lead) (name : ℕ) (args front more : List ℕ) → lead_byte lead ∷ name ∷ args ≡ front ++ more
    → ((zs : List ℕ) → args ≡ zs ++ more → is_unfinished_named Whole (command_of Whole lead name) zs ≡ true) → is_unfinished Whole front ≡ true
unfolding is_unfinished
named_fronts lead name args [] more f h = refl
named_fronts lead name args (x ∷ []) more f h = let e : x ≡ lead_byte lead = cc in rw e (rw lead_of-lead_byte refl)
named_fronts lead name args (x ∷ y ∷ zs) more f h =
    let e : x ≡ lead_byte lead = cc in
    let g : y ≡ name = cc in
    let k : args ≡ zs ++ more = cc in
    rw (e, g) (rw lead_of-lead_byte (h zs k))

no_front : (zs more : List ℕ) → [] ≡ zs ++ more → more ≢ [] → ⊥
no_front [] more e n = n (sym e)
no_front (z ∷ zs) more e n = cc

one_front : (x : ℕ) (zs more : List ℕ) → x ∷ [] ≡ zs ++ more → more ≢ [] → zs ≡ []
one_front x [] more e n = refl
one_front x (z ∷ zs) more e n = absurd (no_front zs more (let t : [] ≡ zs ++ more = cc in t) n)

unknown_fronts : (lead : Lead) (name : ℕ) (args : List ℕ) (o : Option Command) → command_of Whole lead name ≡ o → IsUnknown o args
    → (more zs : List ℕ) → more ≢ [] → args ≡ zs ++ more → is_unfinished_named Whole (command_of Whole lead name) zs ≡ true
unknown_fronts lead name args None e u more zs n k = absurd (no_front zs more (sym u ∙ k) n)
unknown_fronts lead name args (Some command) e u more zs n k =
    let z : zs ≡ [] = one_front u.first zs more (sym u.bytes ∙ k) n in
    rw (e, z) (needs_first command u.first u.is)

passed_over_is_unit : (reading : Reading) (bytes : List ℕ) → IsPassedOver reading bytes → IsUnit reading bytes
passed_over_is_unit reading bytes p =
    let here = none_is Whole p.lead p.name p.args bytes (record { bytes = p.bytes_are; unknown = unknown_is_none p.lead p.name p.args _ refl p.unknown }) in
    rw p.whole (record {
      whole = here.opens;
      shortest = λ front more e n. named_fronts p.lead p.name p.args front more (sym p.bytes_are ∙ e) (λ zs k. unknown_fronts p.lead p.name p.args _ refl p.unknown more zs n k);
    })

-- each row of the table is a unit
pub row_is_unit : (reading : Reading) (bytes : List ℕ) → IsRow reading bytes → IsUnit reading bytes
row_is_unit reading bytes r = ⊎_elim
    (λ (a : IsAlone bytes). alone_is_unit reading bytes a)
    (λ (c : IsCommand reading bytes ⊎ IsPassedOver reading bytes). ⊎_elim
    (λ (c : IsCommand reading bytes). command_is_unit reading bytes c)
    (λ (p : IsPassedOver reading bytes). passed_over_is_unit reading bytes p) c)
    r
