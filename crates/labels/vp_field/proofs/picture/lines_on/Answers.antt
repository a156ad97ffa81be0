use Rattle.std.proofs.Common.{◌≡◌, ℕ, ◌+◌, ◌<◌, ◌≤◌, true, false, inl, inr, ℤ, rules, arith, w64, pos, ◌+ℤ◌, ◌≤ℤ◌, ◌<ℤ◌, int_lt}
use mir.Val.{SFits}
use Rattle.std.proofs.lemmas.Bool.{cases_Bool, cases_lt}
use Rattle.std.proofs.lemmas.Int.{ints, to_z-of_z}
use Rattle.vp_label_size.specs.declared.TheConstants.{BAND_ROWS}
use Rattle.vp_field.proofs.picture.lines_on.Goals as goal

pub returns-clause-from : goal.returns-clause-from
returns-clause-from c k v l m e =
    let line = c.first_line-line in
    let fits : SFits w64 line.result = search (rules, line.ensures.low, line.ensures.high) in
    c.clamped.ensures.above v (rw (to_z-of_z w64 line.result fits) (line.ensures.from k v l e))

pub returns-clause-to : goal.returns-clause-to
returns-clause-to c k v l m e =
    let line = c.first_line-line in
    let fits : SFits w64 line.result = search (rules, line.ensures.low, line.ensures.high) in
    let behind : SFits w64 (line.result +ℤ pos BAND_ROWS) = search (rules, line.ensures.low, line.ensures.high) in
    c.clamped-2.ensures.below v m (rw (to_z-of_z w64 line.result fits, to_z-of_z w64 (line.result +ℤ pos BAND_ROWS) behind) (line.ensures.to k v l e))

above : (n : ℕ) (z : ℤ) → int_lt (pos n) z ≡ true → pos n <ℤ z
above n z e = grind (arith, ints)

none_above : (n : ℕ) (z : ℤ) → int_lt (pos n) z ≡ false → (z +ℤ pos BAND_ROWS) ≤ℤ pos (n + BAND_ROWS)
none_above n z e = grind (arith, ints)

-- the nearest lines to two that are the rows of a band apart are no farther apart
few_lines : (z : ℤ) (height one two : ℕ) → ((v : ℕ) → v < height → pos v <ℤ z → v < one) → ((v : ℕ) → (z +ℤ pos BAND_ROWS) ≤ℤ pos v → two ≤ v) → two ≤ height → two ≤ one + BAND_ROWS
few_lines z height one two below from most = elim (cases_lt one height) [
  | inr past ↦ omega arith
  | inl within ↦ elim (cases_Bool (int_lt (pos one) z)) [
    | inl more ↦ absurd (let no = below one within (above one z more) in omega (arith, no))
    | inr none ↦ from (one + BAND_ROWS) (none_above one z none)
  ]
]

pub returns-clause-few : goal.returns-clause-few
returns-clause-few c =
    let line = c.first_line-line in
    let fits : SFits w64 line.result = search (rules, line.ensures.low, line.ensures.high) in
    let behind : SFits w64 (line.result +ℤ pos BAND_ROWS) = search (rules, line.ensures.low, line.ensures.high) in
    few_lines line.result c.args.height c.clamped.result c.clamped-2.result (rw (to_z-of_z w64 line.result fits) at c.clamped.ensures.below)
    (rw (to_z-of_z w64 line.result fits, to_z-of_z w64 (line.result +ℤ pos BAND_ROWS) behind) at c.clamped-2.ensures.above) c.clamped-2.ensures.most
