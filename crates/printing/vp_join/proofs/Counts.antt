-- Counts of calls, and answers that say nothing of them.
use Rattle.std.proofs.Common.{◌≡◌, ℕ, ◌+◌, ◌<◌, false, List, Some, Err, refl, arith}
use Rattle.std.proofs.lemmas.Bool.{ne_eqb}
use Rattle.std.proofs.lemmas.List.{append-nil}
use Rattle.vp_streams.specs.Count.{grown}
use Rattle.vp_join.specs.Told.{told}
use Rattle.vp_join.specs.Passes.{after_calls, fault_of, is_read_fault, IsFound, IsMeasure}
use Rattle.vp_join.specs.declared.fault.JoinFault.TheVariants.{TooManyTurns}
use Rattle.vp_join.specs.declared.fault.Offence.{Offence}
use Rattle.vp_join.specs.declared.passes.Measured.{Measured}

some_calls : (start n : ℕ) → 0 < n → after_calls start n ≡ grown start n
some_calls start n h = rw (ne_eqb n 0 (λ e. omega (arith, e, h))) refl

-- one call more
pub calls_more : (start now next n : ℕ) → now ≡ after_calls start n → next ≡ grown now 1 → next ≡ after_calls start (n + 1)
calls_more start now next n e f = grind (arith, some_calls)

pub no_turns : (o : Offence) → fault_of o ≡ TooManyTurns → ⊥
no_turns o e = grind arith

pub no_read_fault : (o : Offence) → is_read_fault {A = Measured} (Err (fault_of o)) ≡ false
no_read_fault o = grind arith

-- an offence that was found is the answer
pub found_is : (o : Offence) (bytes : List ℕ) (end : Type 0) → IsFound o bytes end → IsMeasure (Err (fault_of o)) bytes end
found_is o bytes end h = grind arith

pub found_at_end : (o : Offence) (bytes : List ℕ) (end : Type 0) → end → (told bytes).offence ≡ Some o → IsFound o bytes end
found_at_end o bytes end e h = λ more f. rw (f e, append-nil bytes) h
