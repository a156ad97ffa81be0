-- The bands that a box meets, and the looks of a copy.
use Rattle.std.proofs.Common.{◌≡◌, ℕ, ◌+◌, ◌-◌, ◌*◌, ◌/◌, ◌<◌, true, arith, ℤ, pos, ◌+ℤ◌, ◌≤ℤ◌, ◌<ℤ◌}
use Rattle.std.proofs.lemmas.Int.{ints}
use Rattle.std.proofs.lemmas.Bool.{and_parts, ltb-true}
use Rattle.vp_field.specs.declared.view.View.{View}
use Rattle.vp_field.specs.Views.{seen_y}
use Rattle.vp_bands.specs.Meeting.{shows_row, box_meets, pairs, bands_of}
use Rattle.vp_bands.specs.Laws.{BandsMet, LooksBounded}
use Rattle.vp_bands.proofs.Spans.{any_row, row_any}
use Rattle.vp_bands.proofs.Painted.{pairs_more, shown, grows}

met_row : (view : View) (top : ℤ) (rows b : ℕ) → box_meets view top rows b ≡ true
    → (y : ℕ) × (y / 32 ≡ b) × (y < view.height) × (top ≤ℤ seen_y view (pos y)) × (seen_y view (pos y) <ℤ (top +ℤ pos rows))
unfolding box_meets
met_row view top rows b e =
    let r = any_row (shows_row view top rows) (32 * b) 32 e in
    let p = and_parts _ _ r.3 in
    (r.0, omega (arith, r.1, r.2), ltb-true _ _ p.0, grind (arith, ints, p.1), grind (arith, ints, p.1))

row_met : (view : View) (top : ℤ) (rows b y : ℕ) → y / 32 ≡ b → y < view.height → top ≤ℤ seen_y view (pos y) → seen_y view (pos y) <ℤ (top +ℤ pos rows) → box_meets view top rows b ≡ true
unfolding box_meets
row_met view top rows b y at low lo hi = row_any (shows_row view top rows) (32 * b) 32 y (omega (arith, at)) (omega (arith, at)) (shown y view.height top (seen_y view (pos y)) rows low lo hi)

pub bands_met : BandsMet
bands_met = grind (arith, met_row, row_met)

pub looks_bounded : LooksBounded
looks_bounded = record {
  at_most = λ sheets held view b t before le.
      let all : b + (bands_of view - b) ≡ bands_of view = omega arith in
      omega (arith, before.at_most, rw all at (grows (pairs sheets held.stored view held.fields) (λ k. omega (arith, pairs_more sheets held.stored view held.fields k)) b (bands_of view - b)));
  at_least = λ sheets held view t before. omega (arith, before.at_least);
}
