-- Bits as they are written: as many as the largest symbol holds, or that there are more.
use Rattle.std.specs.Prelude.{ℕ, ◌+◌, nat_le, length, Bool, List, [], ◌∷◌, ◌++◌, Option, Some, None, if◌then◌else◌}
use Rattle.vp_aztec.specs.Stuffing.{number}

-- after one more code
abbrev pub pushed : Option (List Bool) → ℕ × ℕ → Option (List Bool)
pushed None code = None
pushed (Some bits) code =
    if nat_le (length bits + code.0) 19968 then Some (bits ++ number code.0 code.1) else None

-- after all of these
abbrev pub written : Option (List Bool) → List (ℕ × ℕ) → Option (List Bool)
written bits [] = bits
written bits (code ∷ codes) = written (pushed bits code) codes
