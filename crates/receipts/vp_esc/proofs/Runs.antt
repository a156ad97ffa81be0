-- Bytes of data, one after another.
use Rattle.std.proofs.Common.{◌≡◌, ℕ, ◌-◌, ◌<◌, ◌≤◌, eqb, false, List, [], ◌∷◌, ◌++◌, length, take, None, Ok, sym, ap, subst, ◌∙◌, append_assoc, arith}
use Rattle.std.proofs.lemmas.Bool.Decides.{nat_tests}
use Rattle.std.proofs.lemmas.List.{append-nil, length-take-le}
use Rattle.vp_esc.specs.declared.reading.Reading.{Reading}
use Rattle.vp_esc.specs.declared.item.EscItem.{EscItem}
use Rattle.vp_esc.specs.declared.reader.EscReader.{EscReader}
use Rattle.vp_esc.specs.declared.reader.Data.{Data}
use Rattle.vp_esc.specs.declared.reader.Phase.{Phase}
use Rattle.vp_esc.specs.declared.reader.Phase.TheVariants.{Bytes}
use Rattle.vp_esc.specs.Split.{split, items, fault_of}
use Rattle.vp_esc.specs.Reader.{Stands, Gives, data_item, data_items}
use Rattle.vp_esc.proofs.Bytes.{bytes_step}
use Rattle.vp_esc.proofs.Splits.{gives-from_advances, stands-from_advances, reads_so}
use Rattle.vp_esc.proofs.Texts.{known_on}

-- a reader before so many bytes of data
abbrev pub before_bytes : EscReader → Data → ℕ → EscReader
before_bytes r kind left = record r { phase = Bytes kind left }

-- one byte more than bytes
record IsNext (reading : Reading) (r : EscReader) (kind : Data) (left : ℕ) (bytes : List ℕ) (b : ℕ) : Type 0 where
  gives : items reading (bytes ++ b ∷ []) ≡ items reading bytes ++ data_items kind (b ∷ [])
  known : fault_of reading (bytes ++ b ∷ []) ≡ None
  stands : Stands reading (before_bytes r kind (left - 1)) (bytes ++ b ∷ [])

next : (reading : Reading) (r : EscReader) (kind : Data) (left : ℕ) (bytes : List ℕ) (b : ℕ) → Stands reading (before_bytes r kind left) bytes → 1 < left
    → IsNext reading r kind left bytes b
unfolding Stands
next reading r kind left bytes b s h =
    let a = reads_so s.0 (bytes_step (before_bytes r kind left) kind left b (split reading bytes).rest s.1) in
    let g : Gives (Ok (data_item kind b)) (items reading bytes) (items reading (bytes ++ b ∷ [])) (fault_of reading (bytes ++ b ∷ [])) = gives-from_advances reading _ bytes b _ a in
    let z : eqb (left - 1) 0 ≡ false = grind (arith, nat_tests) in
    record {
      gives = g.1 ∙ ap (λ (given : List EscItem). items reading bytes ++ given) (sym (grind arith));
      known = g.0;
      stands = stands-from_advances reading _ bytes b _ (rw z at a);
    }

-- bytes that leave some
pub record Runs (reading : Reading) (r : EscReader) (kind : Data) (left : ℕ) (bytes xs : List ℕ) : Type 0 where
  pub gives : items reading (bytes ++ xs) ≡ items reading bytes ++ data_items kind xs
  pub known : 0 < length xs → fault_of reading (bytes ++ xs) ≡ None
  pub stands : Stands reading (before_bytes r kind (left - length xs)) (bytes ++ xs)

pub runs : (reading : Reading) (r : EscReader) (kind : Data) (left : ℕ) (bytes xs : List ℕ) → Stands reading (before_bytes r kind left) bytes → length xs ≤ left - 1
    → Runs reading r kind left bytes xs
runs reading r kind left bytes [] s h = grind (arith, append-nil)
runs reading r kind left bytes (b ∷ xs) s h =
    let one = next reading r kind left bytes b s (omega arith) in
    let more = runs reading r kind (left - 1) (bytes ++ b ∷ []) xs one.stands (omega arith) in
    let all : (bytes ++ b ∷ []) ++ xs ≡ bytes ++ b ∷ xs = append_assoc bytes (b ∷ []) xs in
    record {
      gives = grind (arith, append_assoc);
      known = λ some. ap (fault_of reading) (sym all) ∙ known_on reading (bytes ++ b ∷ []) xs one.known more.known;
      stands = grind (arith, before_bytes);
    }

-- the bytes at the front of an input
pub front : (reading : Reading) (r : EscReader) (kind : Data) (left : ℕ) (bytes input : List ℕ) (n : ℕ) → r.phase ≡ Bytes kind left → Stands reading r bytes
    → n ≤ length input → n ≤ left - 1 → Runs reading r kind left bytes (take n input)
front reading r kind left bytes input n phase s short few =
    let long : length (take n input) ≡ n = length-take-le n input short in
    runs reading r kind left bytes (take n input) (subst (λ (p : Phase). Stands reading (record r { phase = p }) bytes) phase s) (omega arith)
