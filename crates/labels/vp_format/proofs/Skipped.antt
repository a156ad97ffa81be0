-- So many readings, one after the other.
use Rattle.std.proofs.Common.{◌≡◌, ℕ, zero, suc, ◌+◌, ◌-◌, ◌<◌, ◌≤◌, true, false, Ok, Err, refl, arith}
use Rattle.std.proofs.lemmas.Bool.{lt-ltb, le-ltb}
use Rattle.vp_dots.specs.declared.fault.Fault.{Fault}
use Rattle.vp_format.specs.Pictures.{Picture, Cursor, is_refused, answer, row_after, unless_fault, passing, rows_after}

-- one reading, and those behind it
pub first_read : (p : Picture) (y n : ℕ) → 0 < n → (passing p y n ≡ unless_fault (answer p y) (passing p (row_after p y) (n - 1))) × (rows_after p y n ≡ rows_after p (row_after p y) (n - 1))
unfolding passing rows_after
first_read p y n h = grind arith

-- behind the last row nothing more is read
pub none_read : (p : Picture) (y n : ℕ) → p.rows ≤ y → (passing p y n ≡ Ok tt) × (rows_after p y n ≡ y)
unfolding passing rows_after
none_read p y zero h = (refl, refl)
none_read p y (suc n) h = rw (le-ltb y p.rows h) (none_read p y n h)

-- nor at a refused row
stopped_at : (p : Picture) (y n : ℕ) → y < p.rows → is_refused p y ≡ true → rows_after p y n ≡ y
unfolding rows_after
stopped_at p y zero h e = refl
stopped_at p y (suc n) h e = rw (lt-ltb y p.rows h, e) (stopped_at p y n h e)

-- rows of which none is refused
pub rows_read : (p : Picture) (y n k : ℕ) → k ≤ n → y + k ≤ p.rows → ((z : ℕ) → y ≤ z → z < y + k → is_refused p z ≡ false) → (passing p y n ≡ passing p (y + k) (n - k)) × (rows_after p y n ≡ rows_after p (y + k) (n - k))
unfolding passing rows_after
rows_read p y n zero few room taken = let e : y + 0 ≡ y = omega arith in let f : n - 0 ≡ n = omega arith in rw (e, f) (refl, refl)
rows_read p y zero (suc k) few room taken = absurd (omega arith)
rows_read p y (suc n) (suc k) few room taken = grind (arith, lt-ltb, rows_read p (y + 1) n k (omega arith) (omega arith) (λ z l m. taken z (omega arith) (omega arith)))

-- up to a row
pub read_to : (p : Picture) (y to : ℕ) → y ≤ to → to ≤ p.rows → ((z : ℕ) → y ≤ z → z < to → is_refused p z ≡ false) → (passing p y (to - y) ≡ Ok tt) × (rows_after p y (to - y) ≡ to)
unfolding passing rows_after
read_to p y to order room taken = grind (arith, rows_read p y (to - y) (to - y) (omega arith) (omega arith) (λ z l m. taken z l (omega arith)))

-- one cursor is on its way to where so many readings bring another: as many as are left
pub record OnWay (a b : Cursor) (rows left : ℕ) : Type 0 where
  pub same : b ≡ record { picture = a.picture; first = a.first; next = b.next }
  pub answer : passing a.picture a.next rows ≡ passing a.picture b.next left
  pub row : rows_after a.picture a.next rows ≡ rows_after a.picture b.next left

-- it is there
pub way_done : (a b : Cursor) (rows left : ℕ) → OnWay a b rows left → left ≡ 0 → (Ok tt ≡ passing a.picture a.next rows) × (b ≡ record { picture = a.picture; first = a.first; next = rows_after a.picture a.next rows })
unfolding passing rows_after
way_done a b rows left w none = grind arith

-- it is behind the last row
pub way_ended : (a b : Cursor) (rows left : ℕ) → OnWay a b rows left → b.picture.rows ≤ b.next → (Ok tt ≡ passing a.picture a.next rows) × (b ≡ record { picture = a.picture; first = a.first; next = rows_after a.picture a.next rows })
way_ended a b rows left w ends = grind (arith, none_read)

-- rows are passed of which none is refused
pub way_even : (a b d : Cursor) (rows left k : ℕ) → OnWay a b rows left → k ≤ left → b.next + k ≤ b.picture.rows → d ≡ record { picture = b.picture; first = b.first; next = b.next + k }
    → ((z : ℕ) → b.next ≤ z → z < b.next + k → is_refused b.picture z ≡ false) → OnWay a d rows (left - k)
way_even a b d rows left k w few room is taken = grind (arith, rows_read b.picture b.next left k few room taken)

pub way_stopped : (a b d : Cursor) (rows left : ℕ) (why : Fault) → OnWay a b rows left → 0 < left → Err why ≡ answer b.picture b.next → d ≡ record { picture = b.picture; first = b.first; next = row_after b.picture b.next }
    → (Err why ≡ passing a.picture a.next rows) × (d ≡ record { picture = a.picture; first = a.first; next = rows_after a.picture a.next rows })
way_stopped a b d rows left why w some read is = grind (arith, first_read, lt-ltb, stopped_at, le-ltb)
