use Rattle.std.proofs.Common.{◌≡◌, ◌≢◌, ℕ, List, [], ◌∷◌, length, Err, refl, ap, arith}
use Rattle.std.proofs.lemmas.Bool.{ne_eqb}
use Rattle.vp_dots.specs.declared.fault.Fault.TheVariants.{Symbol}
use Rattle.vp_dots.specs.declared.fault.Why.TheVariants.{Empty}
use Rattle.vp_qr_field.specs.Fronts.{front_of}
use Rattle.vp_closing.specs.Symbols.{qr_of}
use Rattle.vp_field.specs.Contents.{bytes_of}
use Rattle.vp_closing.proofs.laws.no_front.Goals as goal

none_fronted : (model : ℕ) (bytes : List ℕ) → model ≢ 1 → length bytes ≡ 0
    → front_of model bytes ≡ Err (Symbol Empty)
none_fronted model [] other none = rw (ne_eqb model 1 other) refl
none_fronted model (b ∷ bytes) other none = absurd (omega arith)

pub returns : goal.returns
returns c stored s p model dots bytes other none =
    ap (qr_of stored dots bytes) (none_fronted model (bytes_of stored bytes) other none)
