-- One byte more: what is given, by the units of all bytes.
use Rattle.std.proofs.Common.{◌≡◌, ℕ, Option, None, Some, List, ◌∷◌, ◌++◌, sym, ap, subst, ◌∙◌}
use Rattle.std.specs.Prelude.{option_to_list}
use Rattle.vp_code_tables.specs.declared.begun.Begun.{Begun}
use Rattle.vp_code_tables.specs.declared.begun.Begun.TheVariants.{Nothing}
use Rattle.vp_code_tables.specs.declared.begun.Step.{Step}
use Rattle.vp_code_tables.specs.declared.encoding.Encoding.{Encoding}
use Rattle.vp_code_tables.specs.declared.unit.Decoded.{Decoded}
use Rattle.vp_code_tables.specs.declared.unit.Given.{Given}
use Rattle.vp_code_tables.specs.Begun.{Steps, IsBegun, begun_bytes}
use Rattle.vp_code_tables.specs.Units.{units}

-- bytes that are no character
abbrev pub wrong : ℕ → Decoded
wrong len = record { character = None; len = len }

abbrev pub written : ℕ → ℕ → Decoded
written code len = record { character = Some code; len = len }

abbrev pub one : Decoded → Given
one unit = record { cut = None; unit = Some unit }

-- a unit ends with the byte
pub ended : (encoding : Encoding) (begun : Begun) (byte : ℕ) (unit : Decoded) → IsBegun encoding Nothing
    → ((more : List ℕ) → units encoding (begun_bytes begun ++ byte ∷ more) ≡ unit ∷ units encoding more)
    → Steps encoding begun byte Nothing (one unit)
ended encoding begun byte unit nothing all = record { same = all; goes_on = nothing }

-- what is begun is cut, or a part of it, and the byte stands behind what is left
pub cut_before : (encoding : Encoding) (begun left new : Begun) (byte len : ℕ) (given : Given)
    → Steps encoding left byte new given → given.cut ≡ None
    → ((more : List ℕ) → units encoding (begun_bytes begun ++ byte ∷ more)
    ≡ wrong len ∷ units encoding (begun_bytes left ++ byte ∷ more))
    → Steps encoding begun byte new (record { cut = Some (wrong len); unit = given.unit })
cut_before encoding begun left new byte len given steps none all = record {
  same = λ more. all more ∙ ap (λ (us : List Decoded). wrong len ∷ us) (steps.same more)
      ∙ ap (λ (cut : Option Decoded). wrong len ∷ ((option_to_list cut ++ option_to_list given.unit)
      ++ units encoding (begun_bytes new ++ more))) none;
  goes_on = steps.goes_on;
}

-- steps by what a call returned
pub ended_as : (encoding : Encoding) (begun : Begun) (byte : ℕ) (step : Step) (unit known : Decoded)
    → step ≡ record { begun = Nothing; given = one unit } → unit ≡ known → Steps encoding begun byte Nothing (one known)
    → Steps encoding begun byte step.begun step.given
ended_as encoding begun byte step unit known s u steps =
    subst (λ (x : Step). Steps encoding begun byte x.begun x.given) (sym s)
    (subst (λ (x : Decoded). Steps encoding begun byte Nothing (one x)) (sym u) steps)

pub cut_as : (encoding : Encoding) (begun new : Begun) (byte : ℕ) (step : Step) (given : Given)
    → step ≡ record { begun = new; given = given } → Steps encoding begun byte new given
    → Steps encoding begun byte step.begun step.given
cut_as encoding begun new byte step given s steps =
    subst (λ (x : Step). Steps encoding begun byte x.begun x.given) (sym s) steps
