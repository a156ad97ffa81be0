-- What bytes say as a whole, and where the machine stands in them.
use Rattle.std.specs.Prelude.{◌≡◌, ℕ, ◌+◌, ◌*◌, ◌<◌, ◌≤◌, List, ◌∷◌, ◌++◌, length, reverse, Result, Ok, Err, Option, Some, None}
use Rattle.vp_inflate.specs.declared.fault.Stop.{Stop}
use Rattle.vp_inflate.specs.declared.fault.Stop.TheVariants.{Short, Ended}
use Rattle.vp_inflate.specs.declared.inflate.Inflate.{Inflate}
use Rattle.vp_inflate.specs.Bits.{bits, bits_of}
use Rattle.vp_inflate.specs.Unpacking.{Stand, start, element, after}
use Rattle.vp_inflate.specs.Fronts.{run}
use Rattle.vp_inflate.specs.Standing.{stand}

-- some elements of these bytes lead to a place, behind which these bits are left
abbrev pub Leads : List ℕ → Stand → List ℕ → Type 0
Leads bytes s rest = (n : ℕ) × (after n start (bits_of bytes) ≡ Ok (s, rest))

-- bytes unpack to others, and then reading stops
pub record Unpacks (bytes out : List ℕ) (stop : Stop) : Type 0 where
  pub place : Stand
  pub rest : List ℕ
  pub out_is : reverse place.out ≡ out
  pub leads : Leads bytes place rest
  pub stops : element place rest ≡ Err stop

-- and they end with the stream: no byte is left
pub record Ends (bytes out : List ℕ) : Type 0 where
  pub unpacks : Unpacks bytes out Ended
  pub none_left : length unpacks.rest < 8

-- held bits are no whole byte, or the last byte of them was needed
abbrev pub IsNeeded : Stand → List ℕ → Type 0
IsNeeded s held = 8 ≤ length held →
    (before : List ℕ) × (byte : ℕ) × (held ≡ before ++ bits 8 byte) × (element s before ≡ Err Short)

-- the machine took these bytes and put out others: it stands where so many elements lead, no more than there
-- were bits and bytes, whatever follows them; so what these bytes begin with is what was put out
pub record Stands (machine : Inflate) (taken put : List ℕ) : Type 0 where
  pub steps : ℕ
  pub few : steps + length machine.reader.held ≤ 8 * length taken + length put
  pub leads : (more : List ℕ) → after steps start (bits_of (taken ++ more))
      ≡ Ok (stand machine.reader (reverse put), machine.reader.held ++ bits_of more)
  pub needed : IsNeeded (stand machine.reader (reverse put)) machine.reader.held
  pub runs : (more : List ℕ) (n room : ℕ) → length put < room
      → run (steps + n) room start (bits_of (taken ++ more))
      ≡ run n room (stand machine.reader (reverse put)) (machine.reader.held ++ bits_of more)
  pub fills : (more : List ℕ) (n : ℕ)
      → run (steps + n) (length put) start (bits_of (taken ++ more)) ≡ Ok (reverse put)

-- the bytes with one more, or none
abbrev pub with : Option ℕ → List ℕ → List ℕ
with None out = out
with (Some byte) out = byte ∷ out

-- as many bytes more
abbrev pub one : Option ℕ → ℕ
one None = 0
one (Some byte) = 1

-- what one element more does to the machine, by the bytes that it put out before, or why there is none
abbrev pub AdvancesOr : Inflate → Result (Option ℕ) Stop → Inflate → List ℕ → Type 0
AdvancesOr old (Ok byte) new out = element (stand old.reader out) old.reader.held
    ≡ Ok (stand new.reader (with byte out), new.reader.held)
AdvancesOr old (Err stop) new out = element (stand old.reader out) old.reader.held ≡ Err stop
