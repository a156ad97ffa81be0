-- Codes that are passed by where their symbols end, and what passing all rows answers.
use Rattle.std.proofs.lemmas.List.{drop_more}
use Rattle.std.proofs.Common.{◌≡◌, ℕ, zero, suc, ◌+◌, ◌-◌, ◌*◌, ◌/◌, ◌%◌, ◌<◌, ◌≤◌, true, false, Ok, Err, cond, List, ◌∷◌, drop, length, get_or, Some, subst, ap, ◌∙◌, refl, arith}
use Rattle.std.proofs.Math.Seq.{drop-length}
use Rattle.std.proofs.Math.Nat.{lt-div-mul-add, div-mul-le_self, div-lt_iff_lt-mul, mul-le-mul_left, mul_comm}
use Rattle.std.proofs.lemmas.Bool.{lt-ltb, ne_eqb}
use Rattle.vp_dots.specs.declared.fault.Fault.TheVariants.{Graphic}
use Rattle.vp_format.specs.declared.codes.Symbol.{Symbol}
use Rattle.vp_format.specs.declared.codes.Symbol.TheVariants.{Digits, Again, Refused}
use Rattle.vp_format.specs.declared.reading.Codes.{Codes}
use Rattle.vp_format.specs.Codes.{code_of, Spelled, spelled, joined, symbols, symbols_behind}
use Rattle.vp_format.specs.Pictures.{AsAbove, Unreadable, shows, end_of, is_unreadable, Picture, width_of, place_of, is_refused, passing}
use Rattle.vp_format.specs.Cursors.{digit_value, symbols_from, InHand, IsReading, Passed, PassesOn}
use Rattle.vp_format.proofs.Reached.{shown_in}
use Rattle.vp_format.proofs.Quick.{plain_symbol}
use Rattle.vp_format.proofs.Skipped.{first_read, rows_read, read_to}

-- the same symbols, the same place
pub passed_at : (w : ℕ) (all : List Spelled) (x y : ℕ) (ss left : List Spelled) → x ≡ y → ss ≡ left → Passed w all x ss → Passed w all y left
passed_at w all x y ss left d e r = subst (λ q. Passed w all q left) d (subst (λ p. Passed w all x p) e r)

pub digits_passed : (w : ℕ) (all : List Spelled) (x n v k : ℕ) (left : List Spelled) → Passed w all x (spelled (Digits n v) k ∷ left) → Passed w all (x + n) left
digits_passed w all x n v k left r = grind arith

-- so many plain digits
pub plain_passed : (w : ℕ) (all : List Spelled) (x : ℕ) (codes : List ℕ) (at k : ℕ) → at + k ≤ length codes → ((i : ℕ) → i < k → digit_value (code_of (get_or codes (at + i) 0)) < 16)
    → Passed w all x (symbols_from codes at) → Passed w all (x + k) (symbols_from codes (at + k))
plain_passed w all x codes at zero inside digit r = grind arith
plain_passed w all x codes at (suc k) inside digit r = grind (arith, passed_at, plain_symbol, digits_passed, plain_passed w all x codes at k (omega (arith, inside)) (λ i l. digit i (omega (arith, l))) r)

pub plain_on : (codes : List ℕ) (x at k : ℕ) → at + k ≤ length codes → ((i : ℕ) → i < k → digit_value (code_of (get_or codes (at + i) 0)) < 16) → PassesOn codes x at (x + k) (at + k)
plain_on codes x at k inside digit = grind (arith, plain_passed)

-- one part after the other
pub passes_on : (codes : List ℕ) (x at y to z last : ℕ) → PassesOn codes x at y to → PassesOn codes y to z last → PassesOn codes x at z last
passes_on codes x at y to z last a b = record { behind = omega arith; inside = b.inside; passed = λ w all r. b.passed w all (a.passed w all r) }

-- none of the rows is refused
pub all_taken : (p : Picture) → ((y : ℕ) → y < p.rows → is_refused p y ≡ false) → passing p 0 p.rows ≡ Ok tt
all_taken p taken = grind (arith, read_to p 0 p.rows)

-- a row's last place
last_before : (w y n : ℕ) → 0 < w → y < n → w * y + (w - 1) < w * n
last_before w y n some l = let m : w * (y + 1) ≤ w * n = mul-le-mul_left w (omega (arith, l)) in omega (arith, m, some)

-- all rows are passed
pub end_passed : (p : Picture) (x : ℕ) (left : List Spelled) → 0 < width_of p → width_of p * p.rows ≤ x → Passed (width_of p) (symbols p.coding p.codes) x left → passing p 0 p.rows ≡ Ok tt
unfolding is_refused place_of
end_passed p x left some ends r = all_taken p (λ y l. r.taken (width_of p * y + (width_of p - 1)) (omega (arith, last_before (width_of p) y p.rows some l, ends)))

-- or no code is left for the others
pub codes_passed : (p : Picture) (x at : ℕ) → 0 < width_of p → at ≡ length p.codes → Passed (width_of p) (symbols p.coding p.codes) x (symbols_from p.codes at) → passing p 0 p.rows ≡ Ok tt
unfolding is_refused place_of
codes_passed p x at some ends r = grind (arith, all_taken, drop-length)

-- a refused symbol starts in one of the rows
refused_passed : (p : Picture) (x k : ℕ) (s : Symbol) (left : List Spelled) → 0 < width_of p → x < width_of p * p.rows → end_of (width_of p) x s ≡ (x / width_of p + 1) * width_of p → shows (width_of p) x s ≡ Unreadable
    → Passed (width_of p) (symbols p.coding p.codes) x (spelled s k ∷ left) → passing p 0 p.rows ≡ Err Graphic
unfolding is_refused place_of
refused_passed p x k s left some inside ends nothing r =
    let w = width_of p in let y = x / w in let j = w * y + (w - 1) in let turn = mul_comm w y in
    let below : y < p.rows = (div-lt_iff_lt-mul {k = w} some).1 (omega (arith, inside, mul_comm w p.rows)) in
    let from : x ≤ j = omega (arith, lt-div-mul-add {a = x} {b = w} some, turn, some) in
    let refused : is_refused p y ≡ true = ap is_unreadable (r.ahead j from ∙ shown_in w x (spelled s k) left j (omega (arith, ends, turn, some)) ∙ nothing) in
    let before : (z : ℕ) → 0 ≤ z → z < 0 + y → is_refused p z ≡ false = λ z _ l. r.taken (w * z + (w - 1)) (omega (arith, last_before w z y some (omega (arith, l)), turn, div-mul-le_self x w)) in
    grind (arith, rows_read p 0 p.rows y (omega (arith, below)) (omega (arith, below)) before, first_read p y (p.rows - y) (omega (arith, below)), lt-ltb)

pub other_passed : (p : Picture) (x k : ℕ) (left : List Spelled) → 0 < width_of p → x < width_of p * p.rows → Passed (width_of p) (symbols p.coding p.codes) x (spelled Refused k ∷ left) → passing p 0 p.rows ≡ Err Graphic
other_passed p x k left some inside r = refused_passed p x k Refused left some inside refl refl r

-- `:` inside a row
pub inside_passed : (p : Picture) (x k : ℕ) (left : List Spelled) → 0 < width_of p → x < width_of p * p.rows → 0 < x % width_of p → Passed (width_of p) (symbols p.coding p.codes) x (spelled Again k ∷ left) → passing p 0 p.rows ≡ Err Graphic
inside_passed p x k left some inside within r = refused_passed p x k Again left some inside refl (ap (λ b. cond b AsAbove Unreadable) (ne_eqb (x % width_of p) 0 (λ e. omega (arith, e, within)))) r

-- the symbol that begins with the byte in hand
pub hand_passed : (w : ℕ) (all : List Spelled) (x : ℕ) (codes : List ℕ) (old c e : Codes) (b k : ℕ) (s : Symbol) → c.bytes.now ≡ codes → e.bytes.now ≡ codes → c.at ≡ old.at + 1 → InHand c (Some b) → IsReading c
    → joined (code_of b) 0 0 (symbols_behind (drop c.at c.bytes.now)) ≡ spelled s k ∷ symbols_from e.bytes.now e.at → Passed w all x (symbols_from codes old.at) → Passed w all x (spelled s k ∷ symbols_from codes e.at)
hand_passed w all x codes old c e b k s same kept next hand reading is r = grind (arith, passed_at, drop_more)
