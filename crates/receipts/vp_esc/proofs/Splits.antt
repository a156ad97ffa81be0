-- One more byte at the end of the stream.
use Rattle.std.proofs.Common.{◌≡◌, ℕ, Bool, true, false, cond, Option, Some, Result, Ok, Err, List, [], ◌∷◌, ◌++◌, refl, sym, ap, subst, ◌∙◌, append_assoc, arith}
use Rattle.std.specs.Prelude.{option_to_list}
use Rattle.std.specs.List.{flat_map}
use Rattle.std.proofs.lemmas.List.{append-nil}
use Rattle.std.proofs.lemmas.List.Concat.{flat_map-append}
use Rattle.vp_esc.specs.declared.reading.Reading.{Reading}
use Rattle.vp_esc.specs.declared.item.EscItem.{EscItem}
use Rattle.vp_dots.specs.declared.fault.Fault.{Fault}
use Rattle.vp_esc.specs.declared.reader.EscReader.{EscReader}
use Rattle.vp_esc.specs.Units.{is_unfinished, given, fault_in}
use Rattle.vp_esc.specs.Split.{Split, with_byte, split_on, split, items, fault_of}
use Rattle.vp_esc.specs.Reader.{Advances, Stands, Gives, rest_of}
use Rattle.vp_esc.proofs.Fronts.{closed_sound, stuck}

split_on-push : (reading : Reading) (s : Split) (bytes : List ℕ) (c : ℕ) → split_on reading s (bytes ++ c ∷ []) ≡ with_byte reading (split_on reading s bytes) c
unfolding split_on
split_on-push reading s [] c = refl
split_on-push reading s (b ∷ bytes) c = split_on-push reading (with_byte reading s b) bytes c

pub rest-push : (reading : Reading) (bytes : List ℕ) (c : ℕ) → (split reading (bytes ++ c ∷ [])).rest ≡ rest_of reading ((split reading bytes).rest ++ c ∷ [])
unfolding split
rest-push reading bytes c = grind (arith, split_on-push)

pub items-is : (reading : Reading) (bytes : List ℕ) → items reading bytes ≡ flat_map (given reading) (split reading bytes).units ++ given reading (split reading bytes).rest
unfolding items
items-is reading bytes = refl

pub items-push : (reading : Reading) (bytes : List ℕ) (c : ℕ)
    → items reading (bytes ++ c ∷ []) ≡ flat_map (given reading) (split reading bytes).units ++ given reading ((split reading bytes).rest ++ c ∷ [])
unfolding items split given
items-push reading bytes c = grind (arith, split_on-push, flat_map-append, append-nil)

fault_rest : (reading : Reading) (front : List ℕ) → fault_in reading (rest_of reading front) ≡ fault_in reading front
unfolding fault_in
fault_rest reading front = by_open (is_unfinished reading front) refl
  where
    by_open : (o : Bool) → is_unfinished reading front ≡ o → fault_in reading (cond o front []) ≡ fault_in reading front
    by_open true e = refl
    by_open false e = sym (closed_sound reading front e)

fault-push : (reading : Reading) (bytes : List ℕ) (c : ℕ) → fault_of reading (bytes ++ c ∷ []) ≡ fault_in reading ((split reading bytes).rest ++ c ∷ [])
unfolding fault_of
fault-push reading bytes c = ap (fault_in reading) (rest-push reading bytes c) ∙ fault_rest reading ((split reading bytes).rest ++ c ∷ [])

-- what comes of a byte, behind other items
gives_behind : (result : Result (Option EscItem) Fault) (us before after : List EscItem) (fault : Option Fault)
    → Gives result before after fault → Gives result (us ++ before) (us ++ after) fault
gives_behind (Ok item) us before after fault g = (g.0, ap (λ xs. us ++ xs) g.1 ∙ sym (append_assoc us before (option_to_list item)))
gives_behind (Err f) us before after fault g = g

-- a step by the rest is a step by the bytes
pub gives-from_advances : (reading : Reading) (result : Result (Option EscItem) Fault) (bytes : List ℕ) (c : ℕ) (new : EscReader)
    → Advances reading result (split reading bytes).rest c new → Gives result (items reading bytes) (items reading (bytes ++ c ∷ [])) (fault_of reading (bytes ++ c ∷ []))
gives-from_advances reading result bytes c new a =
    rw (items-is reading bytes, items-push reading bytes c, fault-push reading bytes c)
    (gives_behind result (flat_map (given reading) (split reading bytes).units) _ _ _ a.gives)

-- a reader that reads so
pub reads_so : {reading other : Reading} {result : Result (Option EscItem) Fault} {rest : List ℕ} {c : ℕ} {new : EscReader} → other ≡ reading
    → Advances other result rest c new → Advances reading result rest c new
reads_so {reading} {other} {result} {rest} {c} {new} e a = subst (λ q. Advances q result rest c new) e a

pub stands-from_advances : (reading : Reading) (result : Result (Option EscItem) Fault) (bytes : List ℕ) (c : ℕ) (new : EscReader)
    → Advances reading result (split reading bytes).rest c new → Stands reading new (bytes ++ c ∷ [])
unfolding Stands
stands-from_advances reading result bytes c new a = (a.reads, rw rest-push a.stands)

-- a fault is answered again
pub sticks-from_advances : (reading : Reading) (result : Result (Option EscItem) Fault) (bytes : List ℕ) (c : ℕ) (new : EscReader) (f : Fault)
    → Advances reading result (split reading bytes).rest c new → fault_of reading bytes ≡ Some f → result ≡ Err f
unfolding fault_of
sticks-from_advances reading result bytes c new f a e = grind (arith, stuck)
