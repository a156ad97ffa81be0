-- The first of the bytes that packed bytes stand for: what lies behind the last one isn't read.
use Rattle.std.specs.Prelude.{ℕ, zero, suc, ◌+◌, ◌*◌, nat_le, List, length, reverse, Result, Ok, Err, if◌then◌else◌}
use Rattle.vp_inflate.specs.declared.fault.Stop.{Stop}
use Rattle.vp_inflate.specs.declared.fault.Stop.TheVariants.{Ended}
use Rattle.vp_inflate.specs.Bits.{Read, ◌>>=◌, bits_of}
use Rattle.vp_inflate.specs.Unpacking.{Stand, start, element}

-- what is there where reading stops: all of it at the end, and else nothing
abbrev pub stopped : Stop → List ℕ → Result (List ℕ) Stop
stopped Ended out = Ok out
stopped stop out = Err stop

abbrev pub goes_on : Read Stand → List ℕ → (Stand → List ℕ → Result (List ℕ) Stop) → Result (List ℕ) Stop
goes_on (Ok read) out k = k read.0 read.1
goes_on (Err stop) out k = stopped stop out

-- up to n elements further: the bytes, the newest first, once there are so many as there is room for
unfoldable pub run : ℕ → ℕ → Stand → List ℕ → Result (List ℕ) Stop
run zero room s from = Ok s.out
run (suc n) room s from = if nat_le room (length s.out) then Ok s.out
    else goes_on (element s from) s.out (λ t rest. run n room t rest)

-- the first bytes, at most so many, or why they can't be had: there are no more elements than bits and bytes
abbrev pub front : ℕ → List ℕ → Result (List ℕ) Stop
front room bytes = run (8 * length bytes + room + 1) room start (bits_of bytes)
    >>= λ out. Ok (reverse out)
