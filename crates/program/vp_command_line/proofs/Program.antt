-- The program's words.
use Rattle.std.proofs.Common.{◌≡◌, Bool, true, false, not, ◌&&◌, [], ◌∷◌, refl, ap, ap₂, ◌∙◌, codes, subst, sym, inl, List, Result, Ok, Err, IfOk, IsErrAnd}
use Rattle.clap.specs.Faults.{fault_of, is_simple_and_free}
use Rattle.clap.specs.Words.{App, HasKind, Text, kind_of, AddsSubcommand, Shape, app_of, is_simple, with_subcommand}
use Rattle.clap.specs.declared.builder.command.Command.{Command}
use Rattle.clap.proofs.OnLiterals.{clap_on_literals}
use Rattle.clap.specs.declared.error.Error.{Error}
use Rattle.vp_command_line.specs.Asked.{IsAnswer}
use Rattle.vp_command_line.specs.declared.order.Order.{Order}
use Rattle.clap.specs.declared.error.kind.ErrorKind.TheVariants.{OutOfMemory}
use Rattle.vp_command_line.specs.Described.{IsCommand}
use Rattle.vp_command_line.specs.Words.{Choices, program}

pub simple : (choices : Choices) → is_simple (program choices) ≡ true
unfolding clap_on_literals
simple choices = refl

pub free : (choices : Choices) → is_simple_and_free (program choices) ≡ true
unfolding clap_on_literals
free choices = refl

-- what holds of a value holds of the one that was given
pub of_ok : {T E : Type 0} (P : T → Type 0) (r : Result T E) (x : T) → IfOk r P → r ≡ Ok x → P x
of_ok {T} {E} P r x h e = subst (λ (r : Result T E). IfOk r P) e h

third : (a b x rest : Bool) → (a && (not b && (not x && rest))) ≡ true → x ≡ false
third true false false rest e = refl
third true false true rest e = cc
third true true x rest e = cc
third false b x rest e = cc

-- a command with a subcommand more, of which no argument is the program's
pub with_shape : (old sub new : Command) (app : App) (shape : Shape) → app_of old ≡ app → IsCommand shape sub → shape.is_plain ≡ true
    → AddsSubcommand old sub new → app_of new ≡ with_subcommand app shape
with_shape old sub new app shape is_old is_sub plain added =
    added.shape (third _ _ _ _ (ap (λ (a : App). a.top.is_plain) is_sub ∙ plain))
    ∙ ap₂ with_subcommand is_old (ap (λ (a : App). a.top) is_sub)

-- an error that was passed on
pub passed_on : (choices : Choices) (words : List Text) (e : Error) (r : Result Order Error) → HasKind (fault_of (program choices) words) e
    → IsErrAnd r (λ x. x ≡ e) → IsAnswer choices words r
passed_on choices words e (Ok order) has is = absurd is
passed_on choices words e (Err x) has is = inl (subst (λ (y : Error). HasKind (fault_of (program choices) words) y) (sym is) has)

-- an error of want of memory
pub without_memory : (choices : Choices) (words : List Text) (r : Result Order Error) → IsErrAnd r (λ x. kind_of x ≡ OutOfMemory)
    → IsAnswer choices words r
without_memory choices words (Ok order) is = absurd is
without_memory choices words (Err x) is = inl (inl is)

-- some choices
pub any_choices : Choices
any_choices = record {
  widths = record { ref_ptr = (0, 0); now = record { ref_ptr = (0, 0); now = codes "576" } ∷ record { ref_ptr = (0, 0); now = codes "384" } ∷ [] };
  languages = record { ref_ptr = (0, 0); now = record { ref_ptr = (0, 0); now = codes "receipt" } ∷ record { ref_ptr = (0, 0); now = codes "label" } ∷ [] };
  widths_are = refl;
  languages_are = refl;
}
