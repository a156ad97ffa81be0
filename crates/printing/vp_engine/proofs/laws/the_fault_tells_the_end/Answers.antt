use Rattle.std.proofs.Common.{◌≡◌, ℕ, Bool, true, false, List, Some, subst, arith}
use Rattle.vp_dots.specs.declared.fault.Fault.{Fault}
use Rattle.vp_dots.specs.declared.fault.Fault.TheVariants.{Truncated, Unprinted}
use Rattle.vp_engine.specs.Paper.{Rules, IsOfEnd, history, missing, ending, fault}
use Rattle.vp_engine.specs.Setups.{Setup, rules_of}
use Rattle.vp_engine.specs.Setups.{Receipts, Labels, ListingIn, EscPos, Zpl}
use Rattle.vp_engine.proofs.OfBytes.{SomeOfByte, some_is, fault_of_byte, esc_of_byte, receipts_of_byte, labels_of_byte}
use Rattle.vp_engine.proofs.laws.the_fault_tells_the_end.Goals as goal

of_byte : (setup : Setup) (bytes : List ℕ) → SomeOfByte (fault (rules_of setup) bytes)
of_byte (Receipts by receipt) = fault_of_byte (rules_of (Receipts by receipt)) (esc_of_byte by) (receipts_of_byte receipt)
of_byte (Labels by sheets) = fault_of_byte (rules_of (Labels by sheets)) (λ bytes. tt) (labels_of_byte sheets)
of_byte (ListingIn w (EscPos by)) = fault_of_byte (rules_of (ListingIn w (EscPos by))) (esc_of_byte by) (λ before item. tt)
of_byte (ListingIn w (Zpl by)) = fault_of_byte (rules_of (ListingIn w (Zpl by))) (λ bytes. tt) (λ before item. tt)

of_end : (is_between at_rest : Bool) (f : Fault) → missing is_between at_rest ≡ Some f → IsOfEnd f
of_end true true f e = cc
of_end true false f e = let same : Unprinted ≡ f = cc in subst IsOfEnd same (omega arith)
of_end false at_rest f e = let same : Truncated ≡ f = cc in subst IsOfEnd same (omega arith)

ending_of_end : {Item : Type 0} (rules : Rules Item) (bytes : List ℕ) (f : Fault) → ending rules bytes ≡ Some f → IsOfEnd f
unfolding ending
ending_of_end rules bytes f e = of_end (rules.reading.is_between bytes) (rules.is_at_rest (history rules bytes)) f e

pub returns-clause-byte : goal.returns-clause-byte
returns-clause-byte c setup bytes f e = some_is _ f (of_byte setup bytes) e

pub returns-clause-end : goal.returns-clause-end
returns-clause-end c setup bytes f e = ending_of_end (rules_of setup) bytes f e
