-- What is left of the data that stand open, by the reader's phase.
use Rattle.std.proofs.Common.{min, ◌≡◌, ℕ, ◌-◌, Bool, false, cond, Some, List, [], refl, sym, ap, subst, ◌∙◌, arith}
use Rattle.std.proofs.lemmas.Bool.Decides.{nat_tests}
use Rattle.std.proofs.lemmas.List.{append-nil}
use Rattle.vp_dots.specs.declared.fault.Fault.{Fault}
use Rattle.vp_esc.specs.declared.reading.Reading.{Reading}
use Rattle.vp_esc.specs.declared.item.Lead.{Lead}
use Rattle.vp_esc.specs.declared.command.Command.{Command}
use Rattle.vp_esc.specs.declared.command.Command.TheVariants.{TabStops, Columns, Symbol, Function}
use Rattle.vp_esc.specs.declared.reader.EscReader.{EscReader}
use Rattle.vp_esc.specs.declared.reader.Data.{Data}
use Rattle.vp_esc.specs.declared.reader.Phase.{Phase}
use Rattle.vp_esc.specs.declared.reader.Phase.TheVariants as phases
use Rattle.vp_esc.specs.Units.{stores_bytes, fault_in}
use Rattle.vp_esc.specs.Split.{split}
use Rattle.vp_esc.specs.Reader.{Stands, in_phase, Begun, InBytes, InQr, are_rows, give_nothing, are_stored}
use Rattle.vp_esc.specs.Runs.{left_in, left_before_last, raster_left, skipped_left, stored_left}
use Rattle.vp_esc.proofs.Fronts.{lead_of-lead_byte}

-- of the data of these kinds, by the phase
abbrev pub left_by : (Data → Bool) → Phase → ℕ
left_by are (phases.Bytes kind left) = cond (are kind) (left - 1) 0
left_by are _ = 0

-- The commands that are meant are those with data of these kinds.
record IsTied (is_meant : Command → List ℕ → Bool) (are : Data → Bool) : Type 0 where
  stops : (args : List ℕ) → is_meant TabStops args ≡ false
  columns : (args : List ℕ) → is_meant Columns args ≡ false
  symbol : (args : List ℕ) → is_meant Symbol args ≡ false
  qr : (r : EscReader) (count left : ℕ) (rest : List ℕ) (hand : InQr r count left rest) → is_meant Function hand.args ≡ false
  bytes : (r : EscReader) (kind : Data) (left : ℕ) (rest : List ℕ) (hand : InBytes r kind left rest) → is_meant hand.command hand.args ≡ are kind

left_begun : (is_meant : Command → List ℕ → Bool) {reading : Reading} {lead : Lead} {name : ℕ} {command : Command} {args rest : List ℕ}
    → Begun reading lead name command args rest → left_in reading is_meant rest ≡ cond (is_meant command args) (left_before_last command args) 0
unfolding left_in
left_begun is_meant b = rw b.bytes (rw lead_of-lead_byte (rw b.named (rw b.listed refl)))

-- of another command
none_other : (is_meant : Command → List ℕ → Bool) {reading : Reading} {lead : Lead} {name : ℕ} {command : Command} {args rest : List ℕ}
    → Begun reading lead name command args rest → is_meant command args ≡ false → left_in reading is_meant rest ≡ 0
none_other is_meant b e = left_begun is_meant b ∙ rw e refl

none_stopped : (is_meant : Command → List ℕ → Bool) (reading : Reading) (rest : List ℕ) (f : Fault) → fault_in reading rest ≡ Some f → left_in reading is_meant rest ≡ 0
unfolding left_in fault_in
none_stopped is_meant reading rest f e = grind arith

left_is : (is_meant : Command → List ℕ → Bool) (are : Data → Bool) → IsTied is_meant are → (p : Phase) (r : EscReader) (rest : List ℕ)
    → in_phase p r rest → left_in r.reading is_meant rest ≡ left_by are p
unfolding left_in
left_is is_meant are tied phases.Ground r rest h = rw h refl
left_is is_meant are tied phases.AfterLead r rest h = rw h (rw lead_of-lead_byte refl)
left_is is_meant are tied (phases.Arguments command) r rest h = grind arith
left_is is_meant are tied (phases.Stops last) r rest h = none_other is_meant h.begun (tied.stops _)
left_is is_meant are tied (phases.Bytes kind left) r rest h =
    left_begun is_meant h.begun
    ∙ rw (tied.bytes r kind left rest h) (ap (λ n. cond (are kind) n 0) (grind (arith, nat_tests)))
left_is is_meant are tied (phases.TallColumns left) r rest h = none_other is_meant h.begun (tied.columns _)
left_is is_meant are tied (phases.Qr count left) r rest h = none_other is_meant h.begun (tied.qr r count left rest h)
left_is is_meant are tied (phases.Stopped fault) r rest h = none_stopped is_meant r.reading rest fault h
left_is is_meant are tied p r rest h = none_other is_meant h.begun (tied.symbol _)

pub raster_count : (reading : Reading) (r : EscReader) (bytes : List ℕ) (n m : ℕ) → Stands reading r bytes → m ≡ min n (left_by are_rows r.phase) → m ≡ min n (raster_left reading bytes)
unfolding Stands
raster_count reading r bytes n m s e = grind (arith, left_is)

pub skipped_count : (reading : Reading) (r : EscReader) (bytes : List ℕ) (n m : ℕ) → Stands reading r bytes → m ≡ min n (left_by give_nothing r.phase) → m ≡ min n (skipped_left reading bytes)
unfolding Stands
skipped_count reading r bytes n m s e = grind (arith, left_is)

pub stored_count : (reading : Reading) (r : EscReader) (bytes : List ℕ) (n m : ℕ) → Stands reading r bytes → m ≡ min n (left_by are_stored r.phase) → m ≡ min n (stored_left reading bytes)
unfolding Stands
stored_count reading r bytes n m s e =
    let left : left_in r.reading stores_bytes (split reading bytes).rest ≡ left_by are_stored r.phase = left_is stores_bytes are_stored (record {
      stops = λ args. refl;
      columns = λ args. refl;
      symbol = λ args. refl;
      qr = λ r count left rest hand. rw hand.is_qr (rw hand.not_stored refl);
      bytes = λ r kind left rest hand. ap (stores_bytes hand.command) (sym (append-nil hand.args)) ∙ hand.stored [];
    }) r.phase r _ s.1 in
    rw (subst (λ q. left_in q stores_bytes (split reading bytes).rest ≡ left_by are_stored r.phase) s.0 left) e
