-- Whether a command has to be ended, by the phase.
use Rattle.std.proofs.Common.{◌≡◌, ℕ, Bool, true, false, ◌&&◌, ◌||◌, not, List, ◌∷◌, refl, arith, nat_lt}
use Rattle.std.proofs.lemmas.Bool.Decides.{nat_tests}
use Rattle.vp_zpl.specs.declared.reading.Reading.{Reading}
use Rattle.vp_zpl.specs.declared.name.Kind.{Kind}
use Rattle.vp_zpl.specs.declared.name.Kind.TheVariants as kinds
use Rattle.vp_zpl.specs.declared.reader.ZplReader.{ZplReader}
use Rattle.vp_zpl.specs.declared.reader.Phase.{Phase}
use Rattle.vp_zpl.specs.declared.reader.Phase.TheVariants.{Skipping, Parameters, Text, AfterIndicator, AfterDigit, Codes, Binary}
use Rattle.vp_zpl.specs.Commands.{wants_binary, is_short, is_whole, is_b, head, in_format}
use Rattle.vp_zpl.specs.Items.{is_within_one, goes_on_named}
use Rattle.vp_zpl.specs.Reader.{Named, StandsIn, in_phase, rests_in, is_alone, has_parameters}
use Rattle.vp_zpl.proofs.Named.{wants_in, wants-is}
use Rattle.vp_zpl.proofs.Phases.{at_phase}

-- a command whose name is known
within_is : {reading : Reading} {r : ZplReader} {k : Kind} {args command : List ℕ} (n : Named reading r k args command) (opened wants : Bool) → wants_binary reading command ≡ wants
    → is_within_one reading opened command ≡ (wants || (opened && goes_on_named k args))
unfolding is_within_one
within_is {k = k} {args = args} n opened wants w = grind arith

alone_stays : (k : Kind) (args : List ℕ) → is_alone k ≡ true → goes_on_named k args ≡ false
alone_stays k args e = grind arith

parameters_go_on : (k : Kind) (args : List ℕ) → has_parameters k ≡ true → (k ≡ kinds.Graphic → is_whole args ≡ false) → goes_on_named k args ≡ true
parameters_go_on k args t w = grind arith

binary_on : (args : List ℕ) → is_whole args ≡ true → is_b (head args) ≡ true → goes_on_named kinds.Graphic args ≡ is_short args
binary_on args w b = rw (w, b) refl

-- by cases of the phase
within_in : (reading : Reading) (q : Phase) (r : ZplReader) (command : List ℕ) (opened : Bool) → in_phase reading q r command → rests_in q opened ≡ not (is_within_one reading opened command)
unfolding is_within_one
within_in reading Skipping r command opened h =
    let on = alone_stays h.kind h.args h.alone in
    grind (arith, on, within_is h.named opened false (wants_in reading Skipping r command h))
within_in reading (Parameters k) r command opened h =
    let on = parameters_go_on k h.args h.takes h.not_whole in
    grind (arith, on, within_is h.named opened false (wants_in reading (Parameters k) r command h))
within_in reading Text r command opened h = grind (arith, within_is h.named opened false (wants_in reading Text r command h))
within_in reading (AfterIndicator x) r command opened h =
    grind (arith, within_is h.1.named opened false (wants_in reading (AfterIndicator x) r command h))
within_in reading (AfterDigit x d) r command opened h =
    grind (arith, within_is h.1.named opened false (wants_in reading (AfterDigit x d) r command h))
within_in reading Codes r command opened h =
    grind (arith, within_is h.named opened false (wants_in reading Codes r command h))
within_in reading (Binary left) r command opened h =
    let w = wants_in reading (Binary left) r command h in let i = within_is h.named opened (nat_lt 0 left) w in
    grind (arith, nat_tests, i, binary_on h.args h.whole h.binary, wants-is h.named, w)
within_in reading _ r command opened e = grind arith

pub rests_is : {reading : Reading} (q : Phase) (r : ZplReader) (before : List (List ℕ)) (command : List ℕ) → StandsIn reading r before command → r.phase ≡ q
    → rests_in q r.in_format ≡ not (is_within_one reading (in_format reading (command ∷ before)) command)
rests_is q r before command stands p = grind (arith, within_in, at_phase, not)
