-- What is open, given and refused, by the command that a rest begins.
use Rattle.std.proofs.Common.{◌≡◌, ℕ, ◌<◌, Bool, eqb, ltb, true, false, cond, Option, Some, None, Ok, Err, List, [], ◌∷◌, ◌++◌, refl, sym, ap, ◌∙◌, arith}
use Rattle.std.specs.Prelude.{option_to_list}
use Rattle.std.proofs.lemmas.Bool.Decides.{nat_tests}
use Rattle.vp_esc.specs.declared.reading.Reading.{Reading}
use Rattle.vp_esc.specs.declared.reading.Reading.TheVariants.{Profile, Whole}
use Rattle.vp_esc.specs.declared.item.EscItem.{EscItem}
use Rattle.vp_dots.specs.declared.fault.Fault.{Fault}
use Rattle.vp_dots.specs.declared.fault.Fault.TheVariants.{Unknown}
use Rattle.vp_esc.specs.declared.item.Lead.{Lead}
use Rattle.vp_esc.specs.declared.command.Command.{Command}
use Rattle.vp_esc.specs.declared.reader.EscReader.{EscReader}
use Rattle.vp_esc.specs.declared.reader.Phase.{Phase}
use Rattle.vp_esc.specs.declared.reader.Phase.TheVariants.{Stopped, Ground, AfterLead}
use Rattle.vp_esc.specs.Command.{lead_of, lead_byte, command_of, is_listed}
use Rattle.vp_esc.specs.Units.{is_unfinished, given, fault_in, needs_more, given_by, single_item, unused, stays_open, passed_over, unknown, is_listed_name}
use Rattle.vp_esc.specs.Reader.{Begun, Advances, StandsIn, Lands, IsNoCommand}

-- a lead's byte is the lead's
pub lead_of-lead_byte : (lead : Lead) → lead_of (lead_byte lead) ≡ Some lead
lead_of-lead_byte lead = grind arith

-- a front that is a command with these arguments
pub record Front (reading : Reading) (front : List ℕ) (lead : Lead) (name : ℕ) (command : Command) (args : List ℕ) : Type 0 where
  pub opens : is_unfinished reading front ≡ cond (is_listed reading command args) (needs_more command args) (stays_open reading)
  pub gives : given reading front ≡ cond (is_listed reading command args) (given_by reading lead name command args) (passed_over reading lead name args)
  pub fault : fault_in reading front ≡ cond (is_listed reading command args) None (unknown reading (lead_byte lead) name)

pub front_is : (reading : Reading) (lead : Lead) (name : ℕ) (command : Command) (args rest : List ℕ) → command_of reading lead name ≡ Some command
    → rest ≡ lead_byte lead ∷ name ∷ args → Front reading rest lead name command args
unfolding is_unfinished given fault_in
front_is reading lead name command args rest named bytes = grind (arith, lead_of-lead_byte)

-- a front that is no command
pub record IsNone (reading : Reading) (front : List ℕ) (lead : Lead) (name : ℕ) (args : List ℕ) : Type 0 where
  pub opens : is_unfinished reading front ≡ stays_open reading
  pub gives : given reading front ≡ passed_over reading lead name args
  pub fault : fault_in reading front ≡ unknown reading (lead_byte lead) name

by_name : (reading : Reading) (lead : Lead) (name : ℕ) (args front : List ℕ) (o : Option Command) → command_of reading lead name ≡ o
    → front ≡ lead_byte lead ∷ name ∷ args → is_listed_name reading o args ≡ false → IsNone reading front lead name args
unfolding is_unfinished given fault_in
by_name reading lead name args front None named bytes u =
    record { opens = rw bytes (rw lead_of-lead_byte (rw named refl)); gives = rw bytes (rw lead_of-lead_byte (rw named refl)); fault = rw bytes (rw lead_of-lead_byte (rw named refl)) }
by_name reading lead name args front (Some command) named bytes u =
    let f : Front reading front lead name command args = front_is reading lead name command args front named bytes in
    record { opens = f.opens ∙ rw u refl; gives = f.gives ∙ rw u refl; fault = f.fault ∙ rw u refl }

pub none_is : (reading : Reading) (lead : Lead) (name : ℕ) (args front : List ℕ) → IsNoCommand reading lead name args front → IsNone reading front lead name args
none_is reading lead name args front n = by_name reading lead name args front (command_of reading lead name) refl n.bytes n.unknown

-- the profile stops at it
pub stops_at : (reading : Reading) (lead : Lead) (name : ℕ) (args rest : List ℕ) (c b : ℕ) (new : EscReader) → reading ≡ Profile
    → IsNoCommand reading lead name args (rest ++ c ∷ []) → new.reading ≡ reading → b ≡ lead_byte lead → new.phase ≡ Stopped (Unknown b name)
    → Advances reading (Err (Unknown b name)) rest c new
stops_at reading lead name args rest c b new w n r e p =
    let here : IsNone reading (rest ++ c ∷ []) lead name args = none_is reading lead name args (rest ++ c ∷ []) n in
    let opens : is_unfinished reading (rest ++ c ∷ []) ≡ true = here.opens ∙ rw w refl in
    let fault : fault_in reading (rest ++ c ∷ []) ≡ Some (Unknown b name) = here.fault ∙ rw (w, e) refl in
    record { reads = r; gives = fault; stands = rw opens (rw p (rw r fault)) }

-- the whole language goes on behind it
pub goes_on : (reading : Reading) (lead : Lead) (name : ℕ) (args rest : List ℕ) (c : ℕ) (item : EscItem) (new : EscReader) → reading ≡ Whole
    → IsNoCommand reading lead name args (rest ++ c ∷ []) → given reading rest ≡ [] → item ≡ unused lead name args → new.reading ≡ reading
    → new.phase ≡ Ground → Advances reading (Ok (Some item)) rest c new
goes_on reading lead name args rest c item new w n none i r p =
    let here : IsNone reading (rest ++ c ∷ []) lead name args = none_is reading lead name args (rest ++ c ∷ []) n in
    let opens : is_unfinished reading (rest ++ c ∷ []) ≡ false = here.opens ∙ rw w refl in
    let after : given reading (rest ++ c ∷ []) ≡ item ∷ [] = here.gives ∙ rw w (ap (λ x. x ∷ []) (sym i)) in
    record { reads = r; gives = (here.fault ∙ rw w refl, rw none after); stands = rw opens (rw p refl) }

-- the rest with one more argument
pub longer : {reading : Reading} {lead : Lead} {name : ℕ} {command : Command} {args rest : List ℕ} (c : ℕ) → Begun reading lead name command args rest
    → rest ++ c ∷ [] ≡ lead_byte lead ∷ name ∷ (args ++ c ∷ [])
longer c b = ap (λ r. r ++ c ∷ []) b.bytes

pub begun_longer : {reading : Reading} {lead : Lead} {name : ℕ} {command : Command} {args rest : List ℕ} (c : ℕ) → Begun reading lead name command args rest
    → is_listed reading command (args ++ c ∷ []) ≡ true → Begun reading lead name command (args ++ c ∷ []) (rest ++ c ∷ [])
begun_longer c b l = record { named = b.named; bytes = longer c b; listed = l }

-- one more argument, and the command needs more, or is whole
pub advances_by : {reading : Reading} {lead : Lead} {name : ℕ} {command : Command} {args rest : List ℕ} (more : Bool) (c : ℕ) (item : Option EscItem) (new : EscReader)
    → new.reading ≡ reading → Begun reading lead name command args rest → is_listed reading command (args ++ c ∷ []) ≡ true → needs_more command (args ++ c ∷ []) ≡ more
    → given_by reading lead name command (args ++ c ∷ []) ≡ given_by reading lead name command args ++ option_to_list item
    → StandsIn new (cond more (rest ++ c ∷ []) []) → Advances reading (Ok item) rest c new
advances_by {reading} {lead} {name} {command} {args} {rest} more c item new r b l n g s =
    let after : Front reading (rest ++ c ∷ []) lead name command (args ++ c ∷ []) = front_is reading lead name command _ _ b.named (longer c b) in
    record { reads = r; gives = (rw after.fault (rw l refl), rw (after.gives, (front_is reading lead name command args rest b.named b.bytes).gives) (rw (l, b.listed) g)); stands = rw after.opens (rw l (rw n s)) }

-- a byte that is a lead
pub leads : (reading : Reading) (b : ℕ) (lead : Lead) (new : EscReader) → new.reading ≡ reading → lead_of b ≡ Some lead → new.phase ≡ AfterLead → new.lead ≡ lead
    → Advances reading (Ok None) [] b new
unfolding is_unfinished given fault_in
leads reading b lead new r e p q =
    let l : lead_byte lead ≡ b = grind (arith, nat_tests) in
    record { reads = r; gives = (rw e refl, rw e refl); stands = rw e (rw p (rw q (ap (λ x. x ∷ []) (sym l)))) }

-- a byte alone
pub alone : (reading : Reading) (b : ℕ) (new : EscReader) → new.reading ≡ reading → lead_of b ≡ None → new.phase ≡ Ground → Advances reading (Ok (Some (single_item b))) [] b new
unfolding is_unfinished given fault_in
alone reading b new r e p = record { reads = r; gives = (rw e refl, rw e refl); stands = rw e (rw p refl) }

-- the same for a reader between units
pub alone_between : (b : ℕ) (item : EscItem) (r : EscReader) (rest : List ℕ) → lead_of b ≡ None → item ≡ single_item b
    → r.phase ≡ Ground → StandsIn r rest → Advances r.reading (Ok (Some item)) rest b r
alone_between b item r rest e i p stands = let empty : rest ≡ [] = rw p at stands in rw (empty, i) (alone r.reading b r refl e p)

-- the command with these arguments needs more, or is whole
pub lands_by : {reading : Reading} {lead : Lead} {name : ℕ} {command : Command} {args front : List ℕ} (more : Bool) (item : Option EscItem) (new : EscReader)
    → new.reading ≡ reading → Begun reading lead name command args front → needs_more command args ≡ more
    → given_by reading lead name command args ≡ option_to_list item → StandsIn new (cond more front []) → Lands reading item front new
lands_by {reading} {lead} {name} {command} {args} {front} more item new r b n g s =
    let here : Front reading front lead name command args = front_is reading lead name command _ _ b.named b.bytes in
    record { reads = r; fault = rw here.fault (rw b.listed refl); gives = rw here.gives (rw b.listed g); stands = rw here.opens (rw b.listed (rw n s)) }

-- before so many bytes, in this phase where there are some
pub stands_before : (r : EscReader) (x : Phase) (left : ℕ) (rest : List ℕ) → (0 < left → StandsIn (record r { phase = x }) rest)
    → StandsIn (record r { phase = cond (eqb left 0) Ground x }) (cond (ltb 0 left) rest [])
stands_before r x left rest h = grind (arith, nat_tests)

pub given_begun : {reading : Reading} {lead : Lead} {name : ℕ} {command : Command} {args rest : List ℕ} → Begun reading lead name command args rest
    → given_by reading lead name command args ≡ [] → given reading rest ≡ []
given_begun {reading} {lead} {name} {command} {args} {rest} b none = rw (front_is reading lead name command _ _ b.named b.bytes).gives (rw b.listed none)

-- a lead alone has given nothing
pub given_lead : (reading : Reading) (lead : Lead) → given reading (lead_byte lead ∷ []) ≡ []
unfolding given
given_lead reading lead = grind arith

-- a whole unit has no fault
pub closed_sound : (reading : Reading) (front : List ℕ) → is_unfinished reading front ≡ false → fault_in reading front ≡ None
unfolding is_unfinished fault_in
closed_sound reading front e = grind arith

pub stuck : (reading : Reading) (front : List ℕ) (d : ℕ) (f : Fault) → fault_in reading front ≡ Some f
    → (is_unfinished reading (front ++ d ∷ []) ≡ true) × (fault_in reading (front ++ d ∷ []) ≡ Some f)
unfolding is_unfinished fault_in
stuck reading front d f e = grind arith

-- a reader that has stopped
pub stopped : (reading : Reading) (rest : List ℕ) (c : ℕ) (f : Fault) (new : EscReader) → new.reading ≡ reading → fault_in reading rest ≡ Some f → new.phase ≡ Stopped f
    → Advances reading (Err f) rest c new
stopped reading rest c f new r e p =
    let on : (is_unfinished reading (rest ++ c ∷ []) ≡ true) × (fault_in reading (rest ++ c ∷ []) ≡ Some f) = stuck reading rest c f e in
    record { reads = r; gives = on.1; stands = rw (on.0) (rw p (rw r (on.1))) }
