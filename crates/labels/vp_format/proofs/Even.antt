-- Rows of one value that no code spells.
use Rattle.std.proofs.Math.Seq.{drop-length}
use Rattle.std.proofs.Common.{◌≡◌, ℕ, zero, suc, ◌+◌, ◌-◌, ◌*◌, ◌<◌, ◌≤◌, ◌⊎◌, true, false, cond, List, drop, replicate, length, ap, sym, ◌∙◌, refl, arith, rules}
use Rattle.std.proofs.Math.Nat.{mul-le-mul_left}
use Rattle.std.proofs.lemmas.Bool.Decides.{nat_tests}
use Rattle.vp_format.specs.declared.rows.Coding.{Coding}
use Rattle.vp_format.specs.declared.rows.Spot.{Spot}
use Rattle.vp_format.specs.declared.rows.RunMark.{RunMark}
use Rattle.vp_format.specs.declared.rows.RunRows.TheInside.{Inside}
use Rattle.vp_format.specs.Codes.{Spelled, symbols}
use Rattle.vp_format.specs.Pictures.{Value, shown_at, bytes_before, value_of, is_above, Picture, width_of, place_of, is_refused, is_repeat, start_of, above_from, nibble}
use Rattle.vp_format.specs.Cursors.{symbols_at, above, picture_of, is_white, white_rest, IsSpot, IsWhole, IsMark, IsCursor, Even, spot_behind}
use Rattle.vp_format.proofs.Nibbles.{nibble_twice}
use Rattle.vp_format.proofs.Reached.{shown_in, shown_past, bytes_none, shown_later, bytes_later}
use Rattle.vp_format.proofs.Marks.{value-at}

-- rows further on, the symbols show the same
rows_later : (w k p : ℕ) (ss : List Spelled) (j : ℕ) → 0 < w → shown_at w (w * k + p) ss (w * k + j) ≡ shown_at w p ss j
rows_later w zero p ss j h = let e : w * 0 + p ≡ p = omega arith in let f : w * 0 + j ≡ j = omega arith in rw (e, f) refl
rows_later w (suc k) p ss j h =
    let e : w * suc k + p ≡ w + (w * k + p) = omega arith in let f : w * suc k + j ≡ w + (w * k + j) = omega arith in rw (e, f) (shown_later w (w * k + p) ss (w * k + j) h ∙ rows_later w k p ss j h)

rows_spelled : (w k p : ℕ) (ss : List Spelled) (j : ℕ) → 0 < w → bytes_before w (w * k + p) ss (w * k + j) ≡ bytes_before w p ss j
rows_spelled w zero p ss j h = let e : w * 0 + p ≡ p = omega arith in let f : w * 0 + j ≡ j = omega arith in rw (e, f) refl
rows_spelled w (suc k) p ss j h =
    let e : w * suc k + p ≡ w + (w * k + p) = omega arith in let f : w * suc k + j ≡ w + (w * k + j) = omega arith in rw (e, f) (bytes_later w (w * k + p) ss (w * k + j) h ∙ rows_spelled w k p ss j h)

-- rows that a run covers whole
pub run_even : (w : ℕ) (coding : Coding) (codes : List ℕ) (s : Spot) (k : ℕ) → 0 < w → IsSpot codes s → IsWhole coding s → w * k ≤ s.left → Even w coding codes s k s.digit (spot_behind w s k)
run_even w coding codes s k some spot whole h =
    let ss = symbols coding (drop s.at codes) in let n = s.left - w * k in let split : s.left ≡ w * k + n = omega arith in
    let shown : (j : ℕ) → shown_at w s.left ss (w * k + j) ≡ shown_at w n ss j = λ j. ap (λ q. shown_at w q ss (w * k + j)) split ∙ rows_later w k n ss j some in
    let bytes : (j : ℕ) → bytes_before w s.left ss (w * k + j) ≡ bytes_before w n ss j = λ j. ap (λ q. bytes_before w q ss (w * k + j)) split ∙ rows_spelled w k n ss j some in
    grind (arith, shown, bytes, bytes_none)

-- where white is all that comes
abbrev pub IsWhite : ℕ → Spot → Type 0
IsWhite codes s = (s.at ≡ codes) × ((s.left ≡ 0) ⊎ (s.digit ≡ 0))

-- behind the last code white comes, once the run has ended
pub ends_white : (w : ℕ) (coding : Coding) (codes : List ℕ) (s : Spot) (j : ℕ) → s.at ≡ length codes → ((s.left ≤ j) ⊎ (s.digit ≡ 0)) → shown_at w 0 (symbols_at coding codes s) j ≡ Value 0
ends_white w coding codes s j ends rest = grind (arith, drop-length, shown_in, shown_past)

-- a test for it
pub white_is : (n : ℕ) (s : Spot) → IsWhite n s → is_white n s ≡ true
white_is n s h3 = grind (arith, nat_tests)

-- it stays so behind rows
white_stays : (n w : ℕ) (s : Spot) (k : ℕ) → white_rest n s ≤ white_rest n (spot_behind w s k)
white_stays n w s k = grind (arith, white_is)

-- such rows are not refused
pub even_taken : (p : Picture) (m : RunMark) (k v : ℕ) (after : Spot) (y : ℕ) → 0 < p.row_bytes → IsMark p m → Even (width_of p) p.coding p.codes m.here k v after → m.next ≤ y → y < m.next + k → is_refused p y ≡ false
unfolding is_refused place_of
even_taken p m k v after y some mark even from to =
    let w = width_of p in let i = y - m.next in let room : w * (i + 1) ≤ w * k = mul-le-mul_left w (omega arith) in let split : y ≡ m.next + i = omega arith in
    let place : w * y + (w - 1) ≡ w * m.next + (w * i + (w - 1)) = ap (λ q. w * q + (w - 1)) split ∙ omega arith in
    grind (arith, place, room, mark.shown_is (w * i + (w - 1)), even.shows (w * i + (w - 1)))

-- the last of some rows
last_row : (w k : ℕ) → 0 < k → w * (k - 1) + w ≡ w * k
last_row w k h = let f : k ≡ (k - 1) + 1 = omega arith in sym (ap (λ q. w * q) f ∙ omega arith)

-- the mark behind them
pub even_mark : (p : Picture) (m n : RunMark) (k v : ℕ) → 0 < p.row_bytes → 0 < k → IsMark p m → Even (width_of p) p.coding p.codes m.here (k - 1) v n.before → Even (width_of p) p.coding p.codes m.here k v n.here → n.next ≡ m.next + k → IsMark p n
unfolding place_of above_from is_repeat start_of
even_mark p m n k v some rows h b e next =
    let w = width_of p in let ss = symbols p.coding p.codes in let y = m.next + (k - 1) in let behind : n.next ≡ suc y = omega arith in
    let last : w * (k - 1) + w ≡ w * k = last_row w k rows in
    let shown : (j : ℕ) → shown_at w 0 ss (w * n.next + j) ≡ shown_at w 0 (symbols_at p.coding p.codes n.here) j = λ j. ap (shown_at w 0 ss) (ap (λ y. w * y + j) next ∙ omega arith) ∙ h.shown_is (w * k + j) ∙ e.next j in
    let bytes : (j : ℕ) → bytes_before w 0 ss (w * n.next + j) ≡ n.here.at + bytes_before w 0 (symbols_at p.coding p.codes n.here) j = λ j. ap (bytes_before w 0 ss) (ap (λ y. w * y + j) next ∙ omega arith)
    ∙ h.bytes_is (w * k + j) ∙ ap (λ q. m.here.at + q) (e.bytes j) ∙ ap (λ q. q + bytes_before w 0 (symbols_at p.coding p.codes n.here) j) (sym e.at) in
    let place : (j : ℕ) → j < w → place_of p y j ≡ Value v = λ j l. ap (shown_at w 0 ss) (omega arith) ∙ h.shown_is (w * (k - 1) + j) ∙ e.shows (w * (k - 1) + j) (omega (arith, last)) in
    let start : n.before.at ≡ above_from p n.next = b.at ∙ sym (ap (above_from p) behind ∙ ap (λ b. cond b (above_from p y) (start_of p y)) (ap is_above (place 0 (omega arith)))
    ∙ ap (bytes_before w 0 ss) (let f : w * y ≡ w * m.next + w * (k - 1) = omega arith in f) ∙ h.bytes_is (w * (k - 1)) ∙ ap (λ q. m.here.at + q) (e.none (w * (k - 1)) (omega (arith, last))) ∙ omega arith) in
    let over : (j : ℕ) → j < w → shown_at w 0 (symbols_at p.coding p.codes n.before) j ≡ Value (above p n.next j) = λ j l.
    sym (b.next j) ∙ e.shows (w * (k - 1) + j) (omega (arith, last)) ∙ ap Value (sym (ap (λ y. above p y j) behind ∙ value-at p y j ∙ ap (λ c. value_of c (above p y j)) (place j l))) in
    let none : bytes_before w 0 (symbols_at p.coding p.codes n.before) w ≤ n.here.at - n.before.at = (let z = sym (b.bytes w) ∙ e.none (w * (k - 1) + w) (omega (arith, last)) in omega (arith, z)) in
    search (rules, shown, bytes, start, over, none)

-- the cursor behind them
pub even_cursor : (c n : Inside) (k v : ℕ) → IsCursor c → 0 < k → v < 16 → Even (2 * c.row_bytes) c.coding c.codes.bytes.now c.mark.here (k - 1) v n.mark.before → Even (2 * c.row_bytes) c.coding c.codes.bytes.now c.mark.here k v n.mark.here
    → n.mark.next ≡ c.mark.next + k → n.codes ≡ c.codes → n.coding ≡ c.coding → n.row_bytes ≡ c.row_bytes → n.rows ≡ c.rows → n.first ≡ c.first → n.refused ≡ c.refused → n.row ≡ replicate 1024 (v * 16 + v) → n.mark.here ≡ spot_behind (2 * c.row_bytes) c.mark.here k → n.passed ≡ c.passed → IsCursor n
even_cursor c n k v i rows small b e next codes coding row_bytes all first refused row behind passed =
    let p = picture_of c in let same : picture_of n ≡ p = rw (coding, row_bytes, all, codes) refl in
    let mark = even_mark p c.mark n.mark k v i.some rows i.mark b e next in let there : IsMark (picture_of n) n.mark = rw (coding, row_bytes, all, codes) mark in
    let going : c.refused ≡ true → true ≡ false = λ r. sym (i.stopped r) ∙ even_taken p c.mark k v n.mark.here c.mark.next i.some i.mark e (omega arith) (omega arith) in
    let last : 2 * c.row_bytes * (k - 1) + 2 * c.row_bytes ≡ 2 * c.row_bytes * k = last_row (2 * c.row_bytes) k rows in
    let kept : (j : ℕ) → j < 2 * c.row_bytes → nibble n.row j ≡ above (picture_of n) n.mark.next j = λ j m. ap (λ r. nibble r j) row ∙ nibble_twice 1024 v j small (omega (arith, i.short))
    ∙ sym (ap (λ q. above q n.mark.next j) same ∙ ap (λ q. value_of q 0) (sym (mark.above_is j m) ∙ sym (b.next j) ∙ e.shows (2 * c.row_bytes * (k - 1) + j) (omega (arith, last)))) in
    grind (arith, there, kept, going, white_stays)
