-- Rows of the table of real-time requests.
use Rattle.std.proofs.Common.{◌≡◌, ℕ, ◌<◌, ◌≤◌, Bool, true, false, if◌then◌else◌, ◌==◌, List, [], ◌∷◌, length, drop, length-drop, refl, arith}
use Rattle.std.proofs.lemmas.List.{drop_more, nil_from_length}
use Rattle.vp_requests.specs.declared.real_time.Part.{Part}
use Rattle.vp_requests.specs.declared.real_time.Part.TheVariants.{Begun, Neither}
use Rattle.vp_requests.specs.RealTime.{row_part, part_of, part_behind, action_part, pulse_part, state_part, buzzer_part, status_part, recover_part, power_off, clear}

drop_end : (xs : List ℕ) (i : ℕ) → length xs ≤ i → drop i xs ≡ []
drop_end xs i le = nil_from_length (drop i xs) (omega (arith, length-drop i xs))

-- all of these bytes are its first, and it has more
pub row_ends : (row args : List ℕ) (i : ℕ) → i < length row → length args ≤ i → row_part (drop i row) (drop i args) ≡ Begun
row_ends row args i lt le = rw (drop_more row i 0 lt, drop_end args i le) refl

pub row_few : (row args : List ℕ) → row_part row args ≡ Begun → length args < length row
row_few [] args e = grind arith
row_few (b ∷ row) [] e = omega arith
row_few (b ∷ row) (a ∷ args) e = grind (arith, row_few row args)

pulse_few : (args : List ℕ) → pulse_part args ≡ Begun → length args ≤ 6
pulse_few [] e = omega arith
pulse_few (m ∷ []) e = omega arith
pulse_few (m ∷ t ∷ args) e = grind arith

state_few : (args : List ℕ) → state_part args ≡ Begun → length args ≤ 6
state_few [] e = omega arith
state_few (m ∷ args) e = grind arith

buzzer_few : (args : List ℕ) → buzzer_part args ≡ Begun → length args ≤ 6
buzzer_few args e = grind arith

status_few : (args : List ℕ) → status_part args ≡ Begun → length args ≤ 7
status_few [] e = omega arith
status_few (n ∷ []) e = omega arith
status_few (n ∷ a ∷ args) e = grind arith

recover_few : (args : List ℕ) → recover_part args ≡ Begun → length args ≤ 7
recover_few [] e = omega arith
recover_few (n ∷ args) e = grind arith

either : (so : Bool) (x y : Part) {P : Type 0} → (x ≡ Begun → P) → (y ≡ Begun → P) → (if so then x else y) ≡ Begun → P
either true x y f g e = f e
either false x y f g e = g e

none : (n : ℕ) → Neither ≡ Begun → n ≤ 6
none n e = grind arith

action_few : (args : List ℕ) → action_part args ≡ Begun → length args ≤ 7
action_few [] e = omega arith
action_few (n ∷ args) e =
    let h : length args ≤ 6 = either (n == 0x01) _ _ (λ h. omega (arith, pulse_few args h)) (either (n == 0x02) _ _ (λ h. omega (arith, row_few power_off args h))
    (either (n == 0x03) _ _ (buzzer_few args) (either (n == 0x07) _ _ (state_few args) (either (n == 0x08) _ _ (λ h. omega (arith, row_few clear args h)) (none (length args)))))) e in
    omega (arith, h)

behind_few : (bytes : List ℕ) → part_behind bytes ≡ Begun → length bytes ≤ 8
behind_few [] e = omega arith
behind_few (n ∷ args) e =
    let h : length args ≤ 7 = either (n == 0x04) _ _ (status_few args) (either (n == 0x05) _ _ (recover_few args)
    (either (n == 0x14) _ _ (action_few args) (λ h. omega (arith, none (length args) h)))) e in
    omega (arith, h)

-- a request that is begun has at most nine bytes
pub few : (bytes : List ℕ) → part_of bytes ≡ Begun → length bytes ≤ 9
unfolding part_of
few [] e = omega arith
few (b ∷ bytes) e =
    let h : length bytes ≤ 8 = either (b == 0x10) _ _ (behind_few bytes) (λ h. omega (arith, none (length bytes) h)) e in
    omega (arith, h)
