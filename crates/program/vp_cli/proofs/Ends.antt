-- What was passed on, and what was read and written of what was counted.
use Rattle.std.proofs.Common.{◌≡◌, ◌++◌, ℕ, List, [], refl, take, Option, Some, None, option_map, Result, Ok, Err}
use Rattle.std.specs.Prelude.{IfSome, IsErrAnd}
use Rattle.vp_engine.specs.Setups.{Setup}
use Rattle.vp_join.specs.declared.fault.JoinFault.{JoinFault}
use Rattle.vp_command_line.specs.declared.order.Form.{Form}
use Rattle.vp_command_line.specs.declared.order.Order.{Order}
use Rattle.vp_exit_status.specs.declared.stop.Stop.{Stop}
use Rattle.vp_cli.specs.Orders.{AreJoined, Does, IsObeyed}

-- an error that was passed on
pub err_is : {T E : Type 0} (r : Result T E) (e : E) → IsErrAnd r (λ x. x ≡ e) → r ≡ Err e
err_is (Ok x) e is = absurd is
err_is (Err x) e is = rw is refl

-- what was read of a file up to a limit
pub bytes_to_limit : (held known : Option (List ℕ)) (limit : ℕ) (old new : List ℕ) → held ≡ known → limit ≡ 1048576 → old ≡ []
    → IfSome (option_map (take limit) held) (λ xs. new ≡ old ++ xs) → IfSome known (λ text. new ≡ take 1048576 text)
bytes_to_limit None None limit old new same is none has = tt
bytes_to_limit None (Some text) limit old new same is none has = cc
bytes_to_limit (Some text) None limit old new same is none has = cc
bytes_to_limit (Some held) (Some text) limit old new same is none has =
    let text_is : held ≡ text = cc in
    rw (has, none, is, text_is) refl

-- the same bytes, however they are told
pub does_with : (held holds : Option (List ℕ)) (setup : Setup) (first told last : Option (List ℕ)) (ended : Result (Unit {0}) Stop)
    → first ≡ told → Does held holds setup first last ended → Does held holds setup told last ended
does_with held holds setup first told last ended same done = rw (← same) done

pub joined_with : (form : Form) (a b c d told_a told_b held holds : Option (List ℕ)) (answer : Result ℕ JoinFault)
    → a ≡ told_a → b ≡ told_b → AreJoined form a c b d held holds answer → AreJoined form told_a c told_b d held holds answer
joined_with form a b c d told_a told_b held holds answer same_a same_b joined = rw (← same_a, ← same_b) joined

pub obeyed_with : {File Input : Type 0} (names : List ℕ → File → Type 0) (remaining : File → Option (List ℕ)) (before after : Input)
    (left : Input → Option (List ℕ)) (held holds told_held told_holds : Option (List ℕ)) (order : Order) (ended : Result (Unit {0}) Stop)
    → held ≡ told_held → holds ≡ told_holds → IsObeyed names remaining before after left held holds order ended
    → IsObeyed names remaining before after left told_held told_holds order ended
obeyed_with names remaining before after left held holds told_held told_holds order ended same_held same_holds obeyed =
    rw (← same_held, ← same_holds) obeyed
