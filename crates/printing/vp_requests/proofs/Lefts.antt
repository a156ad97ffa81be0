-- Requests are found from the left.
use Rattle.std.proofs.Common.{◌≡◌, ℕ, ◌+◌, ◌==◌, suc, Bool, true, false, if◌then◌else◌, List, [], ◌∷◌, ◌++◌, length, nat_lt, refl, sym, ap, subst, ◌∙◌, append_assoc, length-append, arith}
use Rattle.std.proofs.lemmas.List.{append-nil}
use Rattle.vp_language.specs.declared.language.Language.{Language}
use Rattle.vp_streams.specs.Count.{counted}
use Rattle.vp_requests.specs.declared.real_time.Part.{Part}
use Rattle.vp_requests.specs.declared.real_time.Part.TheVariants.{Whole, Begun, Neither}
use Rattle.vp_requests.specs.declared.request.Request.{Request}
use Rattle.vp_requests.specs.Request.{request_of, ending_at}
use Rattle.vp_requests.specs.RealTime.{part_of, part_behind, action_part, status_part, recover_part, pulse_part, buzzer_part, state_part, row_part, power_off, clear, whole_if, ask_of, begun, begun_on, begun_by, if_whole, real_time_request}
use Rattle.vp_requests.specs.Labels.{label_request}
use Rattle.vp_requests.specs.Requests.{behind, requests, receipt_request, receipt_requests, label_requests, real_time_requests, is_label}
use Rattle.vp_requests.specs.Laws.{Front, front_behind, found_in, passed, from_left}
use Rattle.vp_requests.specs.Laws.Front.{Row, Open, NoRow}
use Rattle.vp_requests.specs.Standing.{IsFront}
use Rattle.vp_requests.proofs.RealTimes.{begun-push, part_nil, part_dle}

behind-append : (known : List ℕ → ℕ → List Request) (before bytes more : List ℕ)
    → behind known before (bytes ++ more) ≡ behind known before bytes ++ behind known (before ++ bytes) more
behind-append known before [] more = ap (λ (xs : List ℕ). behind known xs more) (sym (append-nil before))
behind-append known before (b ∷ bytes) more =
    ap (λ (xs : List Request). known before b ++ xs) (behind-append known (before ++ b ∷ []) bytes more
    ∙ ap (λ (xs : List ℕ). behind known (before ++ b ∷ []) bytes ++ behind known xs more) (append_assoc before (b ∷ []) bytes))
    ∙ sym (append_assoc (known before b) (behind known (before ++ b ∷ []) bytes) (behind known (before ++ b ∷ bytes) more))

pub only_more : (language : Language) (bytes more : List ℕ) → IsFront (requests language bytes) (requests language (bytes ++ more))
unfolding receipt_requests label_requests
only_more language bytes more = by_label (is_label language) refl
  where
    by_label : (so : Bool) → is_label language ≡ so → IsFront (requests language bytes) (requests language (bytes ++ more))
    by_label true e = rw e (record { more = behind label_request bytes more; is = behind-append label_request [] bytes more })
    by_label false e = rw e (record { more = behind receipt_request bytes more; is = behind-append receipt_request [] bytes more })

-- bytes that are no DLE
abbrev Others : List ℕ → Type 0
Others [] = Unit {0}
Others (b ∷ bytes) = ((b == 0x10) ≡ false) × Others bytes

not_begun : Whole ≡ Begun → ⊥
not_begun e = cc

neither_begun : Neither ≡ Begun → ⊥
neither_begun e = cc

pick : (so : Bool) (x y : Part) {P : Type 0} → (so ≡ true → x ≡ Begun → P) → (so ≡ false → y ≡ Begun → P) → (if so then x else y) ≡ Begun → P
pick true x y f g e = f refl e
pick false x y f g e = g refl e

no_whole : (so : Bool) {P : Type 0} → whole_if so ≡ Begun → P
no_whole true e = absurd (not_begun e)
no_whole false e = absurd (neither_begun e)

row_others : (row args : List ℕ) → Others row → row_part row args ≡ Begun → Others args
row_others [] args o e = absurd (not_begun e)
row_others (b ∷ row) [] o e = tt
row_others (b ∷ row) (a ∷ args) o e =
    pick (a == b) _ _ (λ q h. (grind (arith, q, o.0), row_others row args o.1 h)) (λ q h. absurd (neither_begun h)) e

status_others : (args : List ℕ) → status_part args ≡ Begun → Others args
status_others [] e = tt
status_others (n ∷ []) e = (grind (arith, e), tt)
status_others (n ∷ a ∷ args) e = no_whole _ e

recover_others : (args : List ℕ) → recover_part args ≡ Begun → Others args
recover_others [] e = tt
recover_others (n ∷ args) e = no_whole _ e

pulse_others : (args : List ℕ) → pulse_part args ≡ Begun → Others args
pulse_others [] e = tt
pulse_others (m ∷ []) e = (grind (arith, e), tt)
pulse_others (m ∷ t ∷ args) e = no_whole _ e

state_others : (args : List ℕ) → state_part args ≡ Begun → Others args
state_others [] e = tt
state_others (m ∷ args) e = no_whole _ e

no_neither : Whole ≡ Neither → ⊥
no_neither e = cc

any_goes : (args : List ℕ) {P : Type 0} → buzzer_part args ≡ Neither → P
any_goes args e = by_test (nat_lt (length args) 5) e
  where
    by_test : (so : Bool) {P : Type 0} → (if so then Begun else Whole) ≡ Neither → P
    by_test true e = absurd (neither_begun (sym e))
    by_test false e = absurd (no_neither e)

equal : (n m : ℕ) → (n == m) ≡ true → n ≡ m
equal n m e = grind (arith, e)

action_others : (args : List ℕ) (c : ℕ) → action_part args ≡ Begun → action_part (args ++ c ∷ []) ≡ Neither → Others args
action_others [] c e n = tt
action_others (m ∷ args) c e n =
    pick (m == 0x01) _ _ (λ q h. (rw (equal m _ q) refl, pulse_others args h)) (λ q1.
    pick (m == 0x02) _ _ (λ q h. (rw (equal m _ q) refl, row_others power_off args (refl, (refl, tt)) h)) (λ q2.
    pick (m == 0x03) _ _ (λ q h. any_goes (args ++ c ∷ []) (subst (λ (k : ℕ). action_part (k ∷ (args ++ c ∷ [])) ≡ Neither) (equal m _ q) n)) (λ q3.
    pick (m == 0x07) _ _ (λ q h. (rw (equal m _ q) refl, state_others args h)) (λ q7.
    pick (m == 0x08) _ _ (λ q h. (rw (equal m _ q) refl, row_others clear args (refl, (refl, (refl, (refl, (refl, (refl, (refl, tt))))))) h))
    (λ q8 h. absurd (neither_begun h)))))) e

behind_others : (r : List ℕ) (c : ℕ) → part_behind r ≡ Begun → part_behind (r ++ c ∷ []) ≡ Neither → Others r
behind_others [] c e n = tt
behind_others (m ∷ args) c e n =
    pick (m == 0x04) _ _ (λ q h. (rw (equal m _ q) refl, status_others args h)) (λ q4.
    pick (m == 0x05) _ _ (λ q h. (rw (equal m _ q) refl, recover_others args h)) (λ q5.
    pick (m == 0x14) _ _ (λ q h. (rw (equal m _ q) refl, action_others args c h (subst (λ (k : ℕ). part_behind (k ∷ (args ++ c ∷ [])) ≡ Neither) (equal m _ q) n)))
    (λ q14 h. absurd (neither_begun h)))) e

-- a request that is begun, and that the next byte ends, has no DLE but its first
ended : (b : ℕ) (r : List ℕ) (c : ℕ) → part_of (b ∷ r) ≡ Begun → part_of (b ∷ (r ++ c ∷ [])) ≡ Neither → Others r
unfolding part_of
ended b r c e n =
    pick (b == 0x10) _ _ (λ q h. behind_others r c h (subst (λ (so : Bool). (if so then part_behind (r ++ c ∷ []) else Neither) ≡ Neither) q n))
    (λ q h. absurd (neither_begun h)) e

part_other : (c : ℕ) → (c == 0x10) ≡ false → part_of (c ∷ []) ≡ Neither
unfolding part_of
part_other c e = rw e refl

begun_nil : begun [] ≡ []
unfolding begun begun_on
begun_nil = refl

step : (place b : ℕ) (bytes : List ℕ) (front : Front) → front_behind [] (b ∷ bytes) ≡ front
    → from_left 0 place (b ∷ bytes) ≡ found_in front place ++ from_left (passed front bytes) (suc place) bytes
unfolding from_left
step place b bytes front e = rw e refl

pass : (xs bytes : List ℕ) (place : ℕ) → from_left (length xs) place (xs ++ bytes) ≡ from_left 0 (place + length xs) bytes
unfolding from_left
pass [] bytes place = ap (λ (n : ℕ). from_left 0 n bytes) (omega arith)
pass (x ∷ xs) bytes place = pass xs bytes (suc place) ∙ ap (λ (n : ℕ). from_left 0 n bytes) (omega arith)

pass_all : (xs : List ℕ) (place : ℕ) → from_left (length xs) place xs ≡ []
unfolding from_left
pass_all [] place = refl
pass_all (x ∷ xs) place = pass_all xs (suc place)

other : (place c : ℕ) (bytes : List ℕ) → (c == 0x10) ≡ false → from_left 0 place (c ∷ bytes) ≡ from_left 0 (suc place) bytes
other place c bytes e = step place c bytes NoRow (rw (part_other c e) refl)

others : (xs bytes : List ℕ) (place : ℕ) → Others xs → from_left 0 place (xs ++ bytes) ≡ from_left 0 (place + length xs) bytes
others [] bytes place o = ap (λ (n : ℕ). from_left 0 n bytes) (omega arith)
others (x ∷ xs) bytes place o = other place x (xs ++ bytes) o.0 ∙ others xs bytes (suc place) o.1 ∙ ap (λ (n : ℕ). from_left 0 n bytes) (omega arith)

-- these bytes are read as a front of a row
abbrev IsRead : List ℕ → Type 0
IsRead r = (bytes : List ℕ) → front_behind [] (r ++ bytes) ≡ front_behind r bytes

read_more : (r : List ℕ) (c : ℕ) → IsRead r → part_of (r ++ c ∷ []) ≡ Begun → IsRead (r ++ c ∷ [])
read_more r c h e = λ bytes. ap (front_behind []) (append_assoc r (c ∷ []) bytes) ∙ h (c ∷ bytes) ∙ rw e refl

known_by : (before r : List ℕ) (c : ℕ) (part : Part) → begun before ≡ r → part_of (r ++ c ∷ []) ≡ part
    → real_time_request before c ≡ if_whole part (r ++ c ∷ []) (suc (length before))
known_by before r c part b e = rw (b, e) refl

begun_is : (before r : List ℕ) (c : ℕ) (part : Part) → begun before ≡ r → part_of (r ++ c ∷ []) ≡ part → begun (before ++ c ∷ []) ≡ begun_by part r c
begun_is before r c part b e = begun-push before c ∙ rw (b, e) refl

-- what follows where the bytes so far and one more are no row
after : (place : ℕ) (r : List ℕ) (c : ℕ) (bytes : List ℕ) → IsRead r → part_of r ≡ Begun → part_of (r ++ c ∷ []) ≡ Neither
    → from_left 0 place (r ++ c ∷ bytes) ≡ from_left 0 (place + length r) (c ∷ bytes)
after place [] c bytes h e n = ap (λ (k : ℕ). from_left 0 k (c ∷ bytes)) (omega arith)
after place (x ∷ xs) c bytes h e n =
    step place x (xs ++ c ∷ bytes) NoRow (h (c ∷ bytes) ∙ rw n refl) ∙ others xs (c ∷ bytes) (suc place) (ended x xs c e n)
    ∙ ap (λ (k : ℕ). from_left 0 k (c ∷ bytes)) (omega arith)

row_at : (place : ℕ) (r : List ℕ) (c : ℕ) (bytes : List ℕ) → IsRead r → part_of (r ++ c ∷ []) ≡ Whole
    → from_left 0 place (r ++ c ∷ bytes) ≡ found_in (Row (r ++ c ∷ [])) place ++ from_left 0 (place + length r + 1) bytes
row_at place [] c bytes h w = step place c bytes (Row (c ∷ [])) (h (c ∷ bytes) ∙ rw w refl)
    ∙ ap (λ (k : ℕ). found_in (Row (c ∷ [])) place ++ from_left 0 k bytes) (omega arith)
row_at place (x ∷ xs) c bytes h w =
    let long : passed (Row (x ∷ (xs ++ c ∷ []))) (xs ++ c ∷ bytes) ≡ length (xs ++ c ∷ []) = omega arith in
    let found = found_in (Row (x ∷ (xs ++ c ∷ []))) place in
    step place x (xs ++ c ∷ bytes) (Row (x ∷ (xs ++ c ∷ []))) (h (c ∷ bytes) ∙ rw w refl)
    ∙ ap (λ (k : ℕ). found ++ from_left k (suc place) (xs ++ c ∷ bytes)) long
    ∙ ap (λ (ys : List ℕ). found ++ from_left (length (xs ++ c ∷ [])) (suc place) ys) (sym (append_assoc xs (c ∷ []) bytes))
    ∙ ap (λ (ys : List Request). found ++ ys) (pass (xs ++ c ∷ []) bytes (suc place))
    ∙ ap (λ (k : ℕ). found ++ from_left 0 k bytes) (omega (arith, length-append xs (c ∷ [])))

nothing : (place : ℕ) → from_left 0 place [] ≡ []
unfolding from_left
nothing place = refl

open_end : (place : ℕ) (r : List ℕ) → IsRead r → from_left 0 place (r ++ []) ≡ []
open_end place r h = ap (from_left 0 place) (append-nil r) ∙ of r (sym (ap (front_behind []) (append-nil r)) ∙ h [])
  where
    of : (r : List ℕ) → front_behind [] r ≡ Open → from_left 0 place r ≡ []
    of [] e = nothing place
    of (x ∷ xs) e = step place x xs Open e ∙ pass_all xs (suc place)

-- what the bytes behind one more ask
abbrev Next : List ℕ → List ℕ → Type 0
Next before bytes =
    (r : List ℕ) (place : ℕ) → begun before ≡ r → part_of r ≡ Begun → IsRead r → place + length r ≡ length before
    → behind real_time_request before bytes ≡ from_left 0 place (r ++ bytes)

one_more : (c : ℕ) (bytes before r : List ℕ) (place : ℕ) → begun before ≡ r → part_of r ≡ Begun → IsRead r → place + length r ≡ length before
    → Next (before ++ c ∷ []) bytes → behind real_time_request before (c ∷ bytes) ≡ from_left 0 place (r ++ c ∷ bytes)
one_more c bytes before r place b e h p next = by_part (part_of (r ++ c ∷ [])) refl
  where
    long : length (r ++ c ∷ []) ≡ length r + 1
    long = length-append r (c ∷ [])

    longer : length (before ++ c ∷ []) ≡ length before + 1
    longer = length-append before (c ∷ [])

    rest : List Request
    rest = behind real_time_request (before ++ c ∷ []) bytes

    row : List ℕ
    row = r ++ c ∷ []

    same : ending_at (suc (length before)) (ask_of row) 2 row ≡ request_of (ask_of row) 2 row (counted place) (counted (place + length row))
    same = ap (λ (n : ℕ). request_of (ask_of row) 2 row (counted n) (counted (suc (length before)))) (omega (arith, long, p))
        ∙ ap (λ (n : ℕ). request_of (ask_of row) 2 row (counted place) (counted n)) (omega (arith, long, p))

    by_dle : (so : Bool) → (c == 0x10) ≡ so → part_of (r ++ c ∷ []) ≡ Neither → rest ≡ from_left 0 place (r ++ c ∷ bytes)
    by_dle true q n =
        next (c ∷ []) (place + length r) (begun_is before r c Neither b n ∙ rw q refl) (part_dle c q) (λ bs. rw (part_dle c q) refl) (omega (arith, longer, p))
        ∙ sym (after place r c bytes h e n)
    by_dle false q n =
        next [] (suc (place + length r)) (begun_is before r c Neither b n ∙ rw q refl) part_nil (λ bs. refl) (omega (arith, longer, p))
        ∙ sym (other (place + length r) c bytes q) ∙ sym (after place r c bytes h e n)

    by_part : (part : Part) → part_of (r ++ c ∷ []) ≡ part → real_time_request before c ++ rest ≡ from_left 0 place (r ++ c ∷ bytes)
    by_part Whole w =
        ap (λ (xs : List Request). xs ++ rest) (known_by before r c Whole b w ∙ ap (λ (request : Request). request ∷ []) same)
        ∙ ap (λ (xs : List Request). found_in (Row row) place ++ xs) (next [] (place + length r + 1) (begun_is before r c Whole b w) part_nil (λ bs. refl) (omega (arith, longer, p)))
        ∙ sym (row_at place r c bytes h w)
    by_part Begun w =
        ap (λ (xs : List Request). xs ++ rest) (known_by before r c Begun b w)
        ∙ next row place (begun_is before r c Begun b w) w (read_more r c h w) (omega (arith, long, longer, p))
        ∙ ap (from_left 0 place) (append_assoc r (c ∷ []) bytes)
    by_part Neither w = ap (λ (xs : List Request). xs ++ rest) (known_by before r c Neither b w) ∙ by_dle (c == 0x10) refl w

goes : (bytes before : List ℕ) → Next before bytes
goes [] before = λ r place b e h p. sym (open_end place r h)
goes (c ∷ bytes) before = λ r place b e h p. one_more c bytes before r place b e h p (goes bytes (before ++ c ∷ []))

pub from_the_left : (bytes : List ℕ) → real_time_requests bytes ≡ from_left 0 0 bytes
unfolding real_time_requests
from_the_left bytes = goes bytes [] [] 0 begun_nil part_nil (λ bs. refl) refl
