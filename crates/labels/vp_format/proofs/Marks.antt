-- Cursors before rows.
use Rattle.std.proofs.Common.{◌≡◌, ℕ, ◌+◌, ◌-◌, ◌*◌, ◌<◌, ◌≤◌, min, true, false, cond, add-one, Result, Ok, Err, List, ◌++◌, take, replicate, length, ap, sym, ◌∙◌, refl, subst, arith}
use Rattle.std.proofs.Math.Seq.{drop-length}
use Rattle.std.proofs.lemmas.List.{length-take}
use Rattle.std.proofs.lemmas.Bool.{lt-ltb, true≢false}
use Rattle.vp_dots.specs.declared.fault.Fault.{Fault}
use Rattle.vp_dots.specs.declared.fault.Fault.TheVariants.{Graphic}
use Rattle.vp_format.specs.declared.row.RowEnd.{RowEnd}
use Rattle.vp_format.specs.declared.rows.Coding.{Coding}
use Rattle.vp_format.specs.declared.rows.Coding.TheVariants.{Binary}
use Rattle.vp_format.specs.declared.rows.Spot.{Spot}
use Rattle.vp_format.specs.declared.rows.RunMark.{RunMark}
use Rattle.vp_format.specs.Codes.{symbols}
use Rattle.vp_format.specs.Pictures.{shown_at, bytes_before, value_of, Picture, width_of, place_of, value, is_refused, is_repeat, is_above, is_unreadable, start_of, above_from, bound_of, nibble, answer, row_after}
use Rattle.vp_format.specs.declared.rows.RunRows.TheInside.{Inside}
use Rattle.vp_format.specs.Cursors.{symbols_at, above, picture_of, Advanced, IsWhole, IsMark, ArePassed, IsCursor, Decoded, RowRead}
use Rattle.vp_format.proofs.Nibbles.{nibble_append, nibble_front, nibble_zero}
use Rattle.vp_format.proofs.Reached.{bytes_none}

-- a row in the first bytes of a longer one
pub front_decoded : (coding : Coding) (codes row new rest : List ℕ) (s after : Spot) (end : RowEnd) (n : ℕ) → n ≤ length row → length new ≡ length (take n row) → Decoded (2 * length (take n row)) coding codes s end after (take n row) new
    → Decoded (2 * n) coding codes s end after row (new ++ rest)
front_decoded coding codes row new rest s after end n room long d = grind (arith, length-take, nibble_append, nibble_front)

pub front_read : (coding : Coding) (codes row new rest : List ℕ) (s : Spot) (at : ℕ) (r : Result RowEnd Fault) (n : ℕ) → n ≤ length row → length new ≡ length (take n row) → RowRead (2 * length (take n row)) coding codes s r at (take n row) new
    → RowRead (2 * n) coding codes s r at row (new ++ rest)
front_read coding codes row new rest s at (Ok end) n room long d = front_decoded coding codes row new rest s _ end n room long d
front_read coding codes row new rest s at (Err why) n room long refused = grind (arith, length-take)

-- no symbol of a decoded row is refused
pub decoded_taken : (w : ℕ) (coding : Coding) (codes old new : List ℕ) (s after : Spot) (end : RowEnd) → 0 < w → Decoded w coding codes s end after old new → is_unreadable (shown_at w 0 (symbols_at coding codes s) (w - 1)) ≡ false
decoded_taken w coding codes old new s after end some d = grind arith

-- bytes as they are, whose rows start without a run
pub whole_decoded : (coding : Coding) (codes row new : List ℕ) (s : Spot) (end : RowEnd) (n at to : ℕ) → coding ≡ Binary → IsWhole coding s → at ≡ s.at → end ≡ record { left = 0; digit = 0; repeats = false }
    → Decoded (2 * n) Binary codes (record { left = 0; digit = 0; at = at }) end (record { left = 0; digit = 0; at = to }) row new → Decoded (2 * n) coding codes s end (record { left = end.left; digit = end.digit; at = to }) row new
whole_decoded coding codes row new s end n at to is whole here ends d = grind arith

-- a value, by the one above it
pub value-at : (p : Picture) (y j : ℕ) → value p y j ≡ value_of (place_of p y j) (above p y j)
unfolding value
value-at p y j = grind arith

-- what a marked row shows
pub marked_place : (p : Picture) (m : RunMark) (j : ℕ) → IsMark p m → place_of p m.next j ≡ shown_at (width_of p) 0 (symbols_at p.coding p.codes m.here) j
unfolding place_of
marked_place p m j h = h.shown_is j

pub marked_refusal : (p : Picture) (m : RunMark) → IsMark p m → is_refused p m.next ≡ is_unreadable (shown_at (width_of p) 0 (symbols_at p.coding p.codes m.here) (width_of p - 1))
unfolding is_refused
marked_refusal p m h = ap is_unreadable (marked_place p m (width_of p - 1) h)

-- where a marked row starts
pub marked_start : (p : Picture) (m : RunMark) → IsMark p m → start_of p m.next ≡ m.here.at
unfolding start_of
marked_start p m h = grind (arith, bytes_none)

-- a row that repeats, and one that doesn't
pub marked_repeat : (p : Picture) (m : RunMark) → IsMark p m → is_repeat p m.next ≡ is_above (shown_at (width_of p) 0 (symbols_at p.coding p.codes m.here) 0)
unfolding is_repeat
marked_repeat p m h = ap is_above (marked_place p m 0 h)

-- the mark before the first row
pub first_mark : (p : Picture) → IsMark p (record { next = 0; here = record { left = 0; digit = 0; at = 0 }; before = record { left = 0; digit = 0; at = length p.codes } })
unfolding above_from
first_mark p = grind (arith, bytes_none, drop-length)

-- the row that was read
pub read_value : (p : Picture) (m : RunMark) (end : RowEnd) (after : Spot) (old new : List ℕ) (j : ℕ) → IsMark p m → Decoded (width_of p) p.coding p.codes m.here end after old new → j < width_of p → nibble old j ≡ above p m.next j → nibble new j ≡ value p m.next j
read_value p m end after old new j h d l e = d.row j l ∙ ap (value_of (shown_at (width_of p) 0 (symbols_at p.coding p.codes m.here) j)) e ∙ ap (λ c. value_of c (above p m.next j)) (sym (marked_place p m j h)) ∙ sym (value-at p m.next j)

-- it is above the next one
pub above_next : (p : Picture) (m n : RunMark) (j : ℕ) → n.next ≡ m.next + 1 → above p n.next j ≡ value p m.next j
above_next p m n j next = ap (λ y. above p y j) (next ∙ add-one m.next)

-- where the last row starts that isn't a repeat
pub start_next : (p : Picture) (y : ℕ) → above_from p (y + 1) ≡ cond (is_repeat p y) (above_from p y) (start_of p y)
unfolding above_from
start_next p y = ap (above_from p) (add-one y)

-- the mark behind it
pub next_mark : (p : Picture) (m n : RunMark) (end : RowEnd) (after : Spot) (old new : List ℕ) → 0 < p.row_bytes → IsMark p m → Decoded (width_of p) p.coding p.codes m.here end after old new → ((j : ℕ) → j < width_of p → nibble old j ≡ above p m.next j)
    → n.next ≡ m.next + 1 → n.here ≡ after → n.before ≡ cond end.repeats m.before m.here → IsMark p n
next_mark p m n end after old new some h d kept next here before =
    let w = width_of p in let ss = symbols p.coding p.codes in
    let there : (j : ℕ) → w * n.next + j ≡ w * m.next + (w + j) = λ j. ap (λ y. w * y + j) next ∙ omega arith in
    let shown : (j : ℕ) → shown_at w 0 ss (w * n.next + j) ≡ shown_at w 0 (symbols_at p.coding p.codes after) j = λ j. ap (shown_at w 0 ss) (there j) ∙ h.shown_is (w + j) ∙ d.next j in
    let bytes : (j : ℕ) → bytes_before w 0 ss (w * n.next + j) ≡ after.at + bytes_before w 0 (symbols_at p.coding p.codes after) j = λ j. ap (bytes_before w 0 ss) (there j) ∙ h.bytes_is (w + j) ∙ d.bytes j in
    grind (arith, shown, bytes, start_next, marked_repeat, marked_start, value-at, marked_place, read_value, above_next, d.bytes 0, bytes_none)

-- what reading a row answers
pub answer_refused : (p : Picture) (y : ℕ) → y < p.rows → is_refused p y ≡ true → (Err Graphic ≡ answer p y) × (y ≡ row_after p y)
answer_refused p y h e = rw (lt-ltb y p.rows h, e) (refl, refl)

pub answer_row : (p : Picture) (y : ℕ) → y < p.rows → is_refused p y ≡ false → (Ok true ≡ answer p y) × (y + 1 ≡ row_after p y)
answer_row p y h e = rw (lt-ltb y p.rows h, e) (refl, refl)

-- reading the row at the place before gives the row above
pub above_read : (p : Picture) (m : RunMark) (r : Result RowEnd Fault) (at : ℕ) (old new : List ℕ) (j : ℕ) → IsMark p m → RowRead (width_of p) p.coding p.codes m.before r at old new → j < width_of p → nibble new j ≡ above p m.next j
above_read p m r at old new j h d l = grind (arith, true≢false)

-- no byte stands before the bound of the first row
pub first_bound : (p : Picture) → bound_of p 0 ≡ 0
unfolding bound_of above_from start_of
first_bound p = grind (arith, bytes_none)

-- and reads as many bytes as its symbols have
pub above_reads : (p : Picture) (m : RunMark) (r : Result RowEnd Fault) (at : ℕ) (old new : List ℕ) → 0 < p.row_bytes → IsMark p m → RowRead (width_of p) p.coding p.codes m.before r at old new
    → m.before.at + bytes_before (width_of p) 0 (symbols_at p.coding p.codes m.before) (width_of p) ≡ at
above_reads p m (Ok end) at old new some h d = grind (arith, bytes_none, d.bytes 0)
above_reads p m (Err f) at old new some h e = absurd (true≢false (sym e ∙ ap is_unreadable (h.above_is (width_of p - 1) (omega arith))))

-- the bound of a marked row
pub marked_bound : (p : Picture) (m : RunMark) → IsMark p m → bound_of p m.next ≡ min m.before.at m.here.at
unfolding bound_of
marked_bound p m h = ap (λ k. min k (start_of p m.next)) (sym h.before_is) ∙ ap (λ k. min m.before.at k) (marked_start p m h)

pub start_first : (p : Picture) → start_of p 0 ≡ 0
unfolding start_of
start_first p = let e : width_of p * 0 ≡ 0 = omega arith in ap (bytes_before (width_of p) 0 (symbols p.coding p.codes)) e ∙ bytes_none (width_of p) 0 (symbols p.coding p.codes) 0 (omega arith)

-- a cursor before the first row
pub first_cursor : (c : Inside) → 0 < c.row_bytes → c.row_bytes ≤ 1024 → c.codes.at ≡ 0 → c.codes.read ≡ 0 → c.first ≡ 0 → c.refused ≡ false → c.row ≡ replicate 1024 0
    → c.mark ≡ record { next = 0; here = record { left = 0; digit = 0; at = 0 }; before = record { left = 0; digit = 0; at = length c.codes.bytes.now } } → c.passed ≡ 0 → IsCursor c
first_cursor c some short at read first going white mark passed =
    let p = picture_of c in let m = subst (IsMark p) (sym mark) (first_mark p) in
    let kept : (j : ℕ) → j < 2 * c.row_bytes → nibble c.row j ≡ above p c.mark.next j = λ j l.
    ap (λ row. nibble row j) white ∙ nibble_zero 1024 j (omega arith) ∙ ap (λ y. above p y j) (sym (ap (λ (m : RunMark). m.next) mark)) in
    grind (arith, m, kept, ap (bound_of p) first ∙ first_bound p, ap (start_of p) first ∙ start_first p)

-- a cursor that goes on at a mark, behind the row above
pub resumed_cursor : (c : Inside) (bytes from : List ℕ) (r : Result RowEnd Fault) (at : ℕ) (old : List ℕ) → c.codes.bytes.now ≡ bytes → from ≡ bytes → 0 < c.row_bytes → c.row_bytes ≤ 1024
    → IsMark (record { coding = c.coding; codes = bytes; row_bytes = c.row_bytes; rows = c.rows }) c.mark
    → RowRead (2 * c.row_bytes) c.coding from c.mark.before r at old c.row
    → c.codes.read + c.mark.before.at ≡ at → c.codes.at ≡ c.mark.here.at → c.first ≡ c.mark.next → c.refused ≡ false → c.passed ≡ 1 → IsCursor c
resumed_cursor c bytes from r at old same also some short mark above read here first going passed =
    let p = picture_of c in let m : IsMark p c.mark = rw same mark in
    let d : RowRead (2 * c.row_bytes) c.coding c.codes.bytes.now c.mark.before r at old c.row = rw (also ∙ sym same) at above in
    grind (arith, above_reads p c.mark r at old c.row some m d, marked_start, marked_bound, above_read)

-- the cursor behind a row
pub next_cursor : (c n : Inside) (end : RowEnd) → IsCursor c → c.refused ≡ false → n.refused ≡ false → Advanced c.codes n.codes
    → Decoded (2 * c.row_bytes) c.coding c.codes.bytes.now c.mark.here end (record { left = end.left; digit = end.digit; at = n.codes.at }) c.row n.row
    → n.coding ≡ c.coding → n.row_bytes ≡ c.row_bytes → n.rows ≡ c.rows → n.first ≡ c.first
    → n.mark.next ≡ c.mark.next + 1 → n.mark.here ≡ record { left = end.left; digit = end.digit; at = n.codes.at } → n.mark.before ≡ cond end.repeats c.mark.before c.mark.here → ArePassed n → IsCursor n
next_cursor c n end i going goes a d coding row_bytes rows first next here before passed =
    let m : IsMark (picture_of n) n.mark = rw (coding, row_bytes, rows, a.bytes) (next_mark (picture_of c) c.mark n.mark end _ c.row n.row i.some i.mark d (i.kept going) next here before) in
    grind (arith, read_value, above_next)

-- the cursor behind a refused row
pub stopped_cursor : (c n : Inside) → IsCursor c → c.refused ≡ false → n.refused ≡ true → Advanced c.codes n.codes → is_unreadable (shown_at (2 * c.row_bytes) 0 (symbols_at c.coding c.codes.bytes.now c.mark.here) (2 * c.row_bytes - 1)) ≡ true
    → n.coding ≡ c.coding → n.row_bytes ≡ c.row_bytes → n.rows ≡ c.rows → n.first ≡ c.first → n.mark ≡ c.mark → n.passed ≡ c.passed → IsCursor n
stopped_cursor c n i going stops a refused coding row_bytes rows first mark passed = grind (arith, true≢false, marked_refusal)
