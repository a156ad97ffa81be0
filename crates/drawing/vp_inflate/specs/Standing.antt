-- Where a reader stands, by the bytes that it read.
use Rattle.std.specs.Prelude.{◌≡◌, ℕ, List, ◌∷◌, Result, Ok, Err}
use Rattle.vp_inflate.specs.declared.fault.Stop.{Stop}
use Rattle.vp_inflate.specs.declared.reader.Reader.{Reader}
use Rattle.vp_inflate.specs.Bits.{Read}
use Rattle.vp_inflate.specs.Unpacking.{Stand}

-- the reader's place in a stream
abbrev pub stand : Reader → List ℕ → Stand
stand reader out = record {
  phase = reader.phase;
  last = reader.last;
  lengths = reader.lengths.items;
  code = reader.code;
  distance = reader.distance;
  out = out;
}

-- what was done is what is said: the new place and what is left, or why there is none
abbrev pub Moves : {X : Type 0} → Read Stand → Result X Stop → Stand → List ℕ → Type 0
Moves said (Ok x) new rest = said ≡ Ok (new, rest)
Moves said (Err stop) new rest = said ≡ Err stop

-- a byte is put out, or why there is none
abbrev pub Puts : Read Stand → Result ℕ Stop → Reader → List ℕ → Type 0
Puts said (Ok byte) new out = said ≡ Ok (stand new (byte ∷ out), new.held)
Puts said (Err stop) new out = said ≡ Err stop
