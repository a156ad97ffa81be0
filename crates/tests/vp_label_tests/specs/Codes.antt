-- What a byte of a picture's codes is, told apart from the type that the reader of codes has for it.
use Rattle.std.specs.Prelude.{ℕ, Bool, true, false, Option, Some, None}
use Rattle.vp_format.specs.declared.codes.Code.{Code}
use Rattle.vp_format.specs.declared.codes.Code.TheVariants.{Digit, Count, Fill, Above, Other}

-- a count, else a digit, else a digit up to the row's end, else whether it is the row before once more
abbrev pub told : Option ℕ → Option ℕ → Option ℕ → Bool → Code
told (Some n) digit filled is_above = Count n
told None (Some v) filled is_above = Digit v
told None None (Some v) is_above = Fill v
told None None None true = Above
told None None None false = Other
