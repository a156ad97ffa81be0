-- How a stream divides into units, by their fronts alone.
use Rattle.std.proofs.Common.{◌≡◌, ◌≢◌, ℕ, Bool, true, false, List, [], ◌∷◌, ◌++◌, refl, sym, ap, ◌∙◌, append_assoc, arith}
use Rattle.std.proofs.lemmas.List.Concat.{flat_map-append}
use Rattle.std.specs.List.{AllByRecursion}
use Rattle.std.proofs.lemmas.List.{append-nil}
use Rattle.vp_esc.specs.declared.reading.Reading.{Reading}
use Rattle.vp_esc.specs.Units.{is_unfinished}
use Rattle.vp_esc.specs.Split.{Split, with_rest, with_byte, split_on, split}
use Rattle.vp_esc.specs.Laws.{IsUnit, IsRest, HasUnfinishedFronts, Splits, all_bytes}

empty : Split
empty = record { units = []; rest = [] }

pub open_nil : (reading : Reading) → is_unfinished reading [] ≡ true
unfolding is_unfinished
open_nil reading = refl

pub split_on-append : (reading : Reading) (s : Split) (xs ys : List ℕ) → split_on reading s (xs ++ ys) ≡ split_on reading (split_on reading s xs) ys
unfolding split_on
split_on-append reading s [] ys = refl
split_on-append reading s (x ∷ xs) ys = split_on-append reading (with_byte reading s x) xs ys

-- along bytes whose fronts are open
along : (reading : Reading) (us : List (List ℕ)) (r : List ℕ) (x : ℕ) (xs : List ℕ)
    → ((a b : List ℕ) → x ∷ xs ≡ a ++ b → a ≢ [] → b ≢ [] → is_unfinished reading (r ++ a) ≡ true)
    → split_on reading (record { units = us; rest = r }) (x ∷ xs) ≡ with_rest us (r ++ x ∷ xs) (is_unfinished reading (r ++ x ∷ xs))
unfolding split_on
along reading us r x [] each = refl
along reading us r x (y ∷ ys) each =
    rw (each (x ∷ []) (y ∷ ys) refl (λ e. cc e) (λ e. cc e)) (along reading us (r ++ x ∷ []) y ys (λ a b e na nb. rw append_assoc (each (x ∷ a) b (ap (λ z. x ∷ z) e) (λ e. cc e) nb)) ∙ rw append_assoc refl)

-- what was read before doesn't matter
shifted : List (List ℕ) → Split → Split
shifted us s = record { units = us ++ s.units; rest = s.rest }

shift : (reading : Reading) (us vs : List (List ℕ)) (r : List ℕ) (bytes : List ℕ)
    → split_on reading (record { units = us ++ vs; rest = r }) bytes ≡ shifted us (split_on reading (record { units = vs; rest = r }) bytes)
unfolding split_on shifted
shift reading us vs r [] = refl
shift reading us vs r (b ∷ bytes) = grind (arith, shifted, append_assoc, shift reading us vs (r ++ b ∷ []) bytes, shift reading us (vs ++ (r ++ b ∷ []) ∷ []) [] bytes)

read_unit : (reading : Reading) (unit : List ℕ) → IsUnit reading unit → split_on reading empty unit ≡ record { units = unit ∷ []; rest = [] }
unfolding empty
read_unit reading [] u = let o : is_unfinished reading [] ≡ true = open_nil reading in let w : is_unfinished reading [] ≡ false = u.whole in cc
read_unit reading (x ∷ xs) u = along reading [] [] x xs (λ a b e na nb. u.shortest a b e nb) ∙ rw u.whole refl

read_rest : (reading : Reading) (rest : List ℕ) → IsRest reading rest → split_on reading empty rest ≡ record { units = []; rest = rest }
unfolding empty split_on
read_rest reading [] r = refl
read_rest reading (x ∷ xs) r = along reading [] [] x xs (λ a b e na nb. r.shortest a b e nb) ∙ rw r.opens refl

unit_first_eq : (reading : Reading) (unit bytes : List ℕ) → IsUnit reading unit → split reading (unit ++ bytes) ≡ shifted (unit ∷ []) (split reading bytes)
unfolding split empty
unit_first_eq reading unit bytes u =
    split_on-append reading empty unit bytes ∙ ap (λ s. split_on reading s bytes) (read_unit reading unit u) ∙ shift reading (unit ∷ []) [] [] bytes

pub unit_first_lem : (reading : Reading) (unit bytes : List ℕ) → IsUnit reading unit
    → (split reading (unit ++ bytes)).units ≡ unit ∷ (split reading bytes).units × ((split reading (unit ++ bytes)).rest ≡ (split reading bytes).rest)
unfolding shifted
unit_first_lem reading unit bytes u = grind (arith, shifted, unit_first_eq)

pub front_of_push : (rest front more : List ℕ) (x : ℕ) → rest ++ x ∷ [] ≡ front ++ more → more ≢ [] → (z : List ℕ) × (rest ≡ front ++ z)
front_of_push rest [] more x e n = (rest, refl)
front_of_push [] (f ∷ []) more x e n = absurd (n (let t : [] ≡ more = cc in sym t))
front_of_push [] (f ∷ g ∷ front) more x e n = cc
front_of_push (r ∷ rest) (f ∷ front) more x e n = grind (arith, front_of_push rest front more x (cc) n)

pub fronts_push : (reading : Reading) (rest : List ℕ) (x : ℕ) → IsRest reading rest → HasUnfinishedFronts reading (rest ++ x ∷ [])
fronts_push reading rest x r front more e n = grind (arith, front_of_push, append-nil)

all_push : (reading : Reading) (units : List (List ℕ)) (unit : List ℕ) → AllByRecursion (IsUnit reading) units → IsUnit reading unit → AllByRecursion (IsUnit reading) (units ++ unit ∷ [])
all_push reading [] unit a u = (u, tt)
all_push reading (v ∷ units) unit a u = (a.0, all_push reading units unit a.1 u)

rest_nil : (reading : Reading) → IsRest reading []
rest_nil reading = record { opens = open_nil reading; shortest = λ front more e n. by_front front more e n }
  where
    by_front : (front more : List ℕ) → [] ≡ front ++ more → more ≢ [] → is_unfinished reading front ≡ true
    by_front [] more e n = open_nil reading
    by_front (f ∷ front) more e n = cc

splits_by : (reading : Reading) (units : List (List ℕ)) (rest bytes : List ℕ) (x : ℕ) (o : Bool) → Splits reading bytes units rest → is_unfinished reading (rest ++ x ∷ []) ≡ o
    → Splits reading (bytes ++ x ∷ []) (with_rest units (rest ++ x ∷ []) o).units (with_rest units (rest ++ x ∷ []) o).rest
splits_by reading units rest bytes x true s o' =
    record {
      spelling = ap (λ z. z ++ x ∷ []) s.spelling ∙ append_assoc (all_bytes units) rest (x ∷ []);
      each = s.each;
      end = record { opens = o'; shortest = fronts_push reading rest x s.end };
    }
splits_by reading units rest bytes x false s o' =
    record {
      spelling = ap (λ z. z ++ x ∷ []) s.spelling ∙ append_assoc (all_bytes units) rest (x ∷ []) ∙ sym (last_unit units (rest ++ x ∷ []));
      each = all_push reading units (rest ++ x ∷ []) s.each (record { whole = o'; shortest = fronts_push reading rest x s.end });
      end = rest_nil reading;
    }
  where
    last_unit : (units : List (List ℕ)) (unit : List ℕ) → all_bytes (units ++ unit ∷ []) ++ [] ≡ all_bytes units ++ unit
    last_unit units unit = grind (arith, flat_map-append, append-nil)

splits_on : (reading : Reading) (s : Split) (bytes xs : List ℕ) → Splits reading bytes s.units s.rest → Splits reading (bytes ++ xs) (split_on reading s xs).units (split_on reading s xs).rest
unfolding split_on
splits_on reading s bytes [] h = rw append-nil h
splits_on reading s bytes (x ∷ xs) h = grind (arith, splits_by, append_assoc, splits_on reading (with_byte reading s x) (bytes ++ x ∷ []) xs (splits_by reading s.units s.rest bytes x (is_unfinished reading (s.rest ++ x ∷ [])) h refl))

-- the reading is one
pub splits : (reading : Reading) (bytes : List ℕ) → Splits reading bytes (split reading bytes).units (split reading bytes).rest
unfolding split
splits reading bytes = splits_on reading (record { units = []; rest = [] }) [] bytes (record { spelling = refl; each = tt; end = rest_nil reading })

divided : (reading : Reading) (units : List (List ℕ)) (rest : List ℕ) → AllByRecursion (IsUnit reading) units → IsRest reading rest
    → split reading (all_bytes units ++ rest) ≡ record { units = units; rest = rest }
unfolding split shifted empty
divided reading [] rest a r = read_rest reading rest r
divided reading (u ∷ units) rest a r = grind (arith, append_assoc, unit_first_eq, shifted, divided reading units rest a.1 r)

-- and the only one
pub splits_only : (reading : Reading) (bytes : List ℕ) (units : List (List ℕ)) (rest : List ℕ) → Splits reading bytes units rest
    → (units ≡ (split reading bytes).units) × (rest ≡ (split reading bytes).rest)
splits_only reading bytes units rest s = grind (arith, divided)
