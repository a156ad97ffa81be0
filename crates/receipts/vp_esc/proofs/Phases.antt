-- The arguments before any data, one by one, and what comes behind them.
use Rattle.std.proofs.Common.{◌≡◌, ◌≢◌, ℕ, ◌<◌, ◌≤◌, true, false, Option, Some, None, Ok, List, [], ◌∷◌, ◌++◌, length, take, refl, sym, ap, ◌∙◌, arith, lit<}
use Rattle.std.proofs.lemmas.Grind.{common_steps}
use Rattle.std.proofs.lemmas.Bool.Decides.{nat_tests}
use Rattle.std.proofs.lemmas.List.{take_all, take_at, length_push}
use Rattle.vp_esc.specs.declared.reading.Reading.{Reading}
use Rattle.vp_esc.specs.declared.item.EscItem.{EscItem}
use Rattle.vp_esc.specs.declared.item.Lead.{Lead}
use Rattle.vp_esc.specs.declared.command.Command.{Command}
use Rattle.vp_esc.specs.declared.command.Command.TheVariants.{Plain, TabStops}
use Rattle.vp_esc.specs.declared.command.Plain.{Plain as PlainCommand}
use Rattle.vp_esc.specs.declared.reader.EscReader.{EscReader}
use Rattle.vp_esc.specs.declared.reader.Phase.TheVariants as phases
use Rattle.vp_esc.specs.Command.{head_len, plain_len, lead_byte, command_of, is_listed, lists}
use Rattle.vp_esc.specs.Units.{given, needs_more, given_by, given_behind, plain_item}
use Rattle.vp_esc.specs.Reader.{Begun, Advances, Lands, InArguments, IsNoCommand}
use Rattle.vp_esc.proofs.Fronts.{lands_by, longer, given_begun, begun_longer, given_lead}
use Rattle.vp_esc.proofs.Heads.{head_small, head_push, IsHead, heads, given_is}

pub nil_of : (xs : List ℕ) → length xs ≤ 0 → xs ≡ []
nil_of xs h = grind (arith, common_steps)

-- what is kept of a byte more
pub keep_full : (xs : List ℕ) (b : ℕ) → length xs ≡ 255 → xs ≡ take 255 (xs ++ b ∷ [])
keep_full xs b h = sym (take_at xs (b ∷ []) 255 h)

pub keep_room : (xs new : List ℕ) (b : ℕ) → new ≡ xs ++ b ∷ [] → length xs < 255 → new ≡ take 255 (xs ++ b ∷ [])
keep_room xs new b e h = e ∙ sym (take_all 255 (xs ++ b ∷ []) (omega (arith, length_push xs b)))

pub kept_whole : (xs : List ℕ) (b : ℕ) → length xs < 255 → take 255 (xs ++ b ∷ []) ≡ xs ++ b ∷ []
kept_whole xs b h = let l : length (xs ++ b ∷ []) ≤ 255 = omega (arith, length_push xs b) in take_all 255 (xs ++ b ∷ []) l

pub land_arguments : (r : EscReader) (command : Command) (rest : List ℕ) → Begun r.reading r.lead r.name command r.kept.items rest
    → length r.kept.items ≤ head_len command r.kept.items → length r.kept.items ≢ head_len command r.kept.items
    → Lands r.reading None rest (record r { phase = phases.Arguments command })
land_arguments r command rest b few other =
    let less : length r.kept.items < head_len command r.kept.items = omega arith in
    let h : IsHead r.reading r.lead r.name command r.kept.items = heads r.reading r.lead r.name command r.kept.items less in
    lands_by true None (record r { phase = phases.Arguments command }) refl b h.needs h.gives (record { begun = b; few = less })

pub land_plain : (r : EscReader) (p : PlainCommand) (rest : List ℕ) (item : EscItem)
    → Begun r.reading r.lead r.name (Plain p) r.kept.items rest → length r.kept.items ≡ plain_len p r.kept.items
    → item ≡ plain_item r.lead r.name p r.kept.items → Lands r.reading (Some item) rest (record r { phase = phases.Ground })
unfolding needs_more given_behind
land_plain r p rest item b enough e = lands_by false (Some item) (record r { phase = phases.Ground }) refl b (grind (arith, nat_tests)) ((grind (arith, given_is)) ∙ ap (λ x. x ∷ []) (sym e)) refl

pub land_stops : (r : EscReader) (rest : List ℕ) → Begun r.reading r.lead r.name TabStops r.kept.items rest
    → length r.kept.items ≤ 0 → Lands r.reading None rest (record r { phase = phases.Stops 0 })
unfolding needs_more given_by given_behind
land_stops r rest b few =
    let e : r.kept.items ≡ [] = nil_of r.kept.items few in
    lands_by true None (record r { phase = phases.Stops 0 }) refl b (rw e refl) (rw e refl)
    (record { begun = b; rise = rw e refl; few = rw e (lit< tt); last_is = rw e refl })

-- the arguments so far have given nothing
pub argument_none : (r : EscReader) (command : Command) (rest : List ℕ) → InArguments r command rest → given r.reading rest ≡ []
argument_none r command rest hand = given_begun hand.begun (heads r.reading r.lead r.name command r.kept.items hand.few).gives

pub argument_lands : (r : EscReader) (command : Command) (rest : List ℕ) (c : ℕ) (kept : List ℕ) (item : Option EscItem) (new : EscReader)
    → InArguments r command rest → is_listed r.reading command (r.kept.items ++ c ∷ []) ≡ true → kept ≡ take 255 (r.kept.items ++ c ∷ [])
    → ((front : List ℕ) → Begun r.reading r.lead r.name command kept front → length kept ≤ head_len command kept → Lands r.reading item front new)
    → Advances r.reading (Ok item) rest c new
argument_lands r command rest c kept item new hand l k lands =
    let whole : kept ≡ r.kept.items ++ c ∷ [] = k ∙ kept_whole r.kept.items c (omega (arith, hand.few, head_small command r.kept.items)) in
    let begun : Begun r.reading r.lead r.name command kept (rest ++ c ∷ []) = rw whole (begun_longer c hand.begun l) in
    let few : length kept ≤ head_len command kept = rw whole (omega (arith, length_push r.kept.items c, head_push command r.kept.items c hand.few)) in
    let at = lands (rest ++ c ∷ []) begun few in
    record { reads = at.reads; gives = (at.fault, rw (argument_none r command rest hand) at.gives); stands = at.stands }

-- a first argument that the command doesn't have
pub argument_unknown : (r : EscReader) (command : Command) (rest : List ℕ) (c : ℕ) → InArguments r command rest → length r.kept.items ≤ 0
    → lists r.reading command c ≡ false → IsNoCommand r.reading r.lead r.name (c ∷ []) (rest ++ c ∷ [])
argument_unknown r command rest c hand none l =
    let empty : r.kept.items ≡ [] = nil_of r.kept.items none in
    record { bytes = longer c hand.begun ∙ rw empty refl; unknown = rw hand.begun.named l }

pub land_begun : (reading : Reading) (lead : Lead) (c : ℕ) (command : Command) (kept : List ℕ) (item : Option EscItem) (new : EscReader)
    → command_of reading lead c ≡ Some command → kept ≡ []
    → ((front : List ℕ) → Begun reading lead c command kept front → length kept ≤ head_len command kept → Lands reading item front new)
    → Advances reading (Ok item) (lead_byte lead ∷ []) c new
land_begun reading lead c command kept item new e k lands =
    let at = lands (lead_byte lead ∷ c ∷ []) (record { named = e; bytes = rw k refl; listed = rw k refl }) (rw k (omega arith)) in
    record { reads = at.reads; gives = (at.fault, rw (given_lead reading lead) at.gives); stands = at.stands }
