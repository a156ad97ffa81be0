-- Boxes turned and turned back.
use Rattle.std.proofs.Common.{◌≡◌, ℕ, Bool, refl, arith, ℤ, pos, ◌+ℤ◌, ◌-ℤ◌}
use Rattle.std.proofs.lemmas.Int.{ints}
use Rattle.vp_zpl.specs.declared.item.Orientation.{Orientation}
use Rattle.vp_zpl.specs.declared.item.Orientation.TheVariants.{Normal, Rotated, Inverted, BottomUp}
use Rattle.vp_field.specs.declared.axis.Axis.{Axis}
use Rattle.vp_field.specs.declared.axis.Axis.TheVariants.{Forward, Back}
use Rattle.vp_field.specs.declared.axis.Lines.{Lines}
use Rattle.vp_field.specs.declared.axis.Lines.TheVariants.{Along, Across}
use Rattle.vp_field.specs.Axes.{dot_on, laid}
use Rattle.vp_field.specs.Places.{at_place}
use Rattle.vp_field.specs.Turning.{falls_x, falls_y, from_x, from_y, turned, DotsFall}
use Rattle.vp_field.proofs.Places.{at_true}

falls : (o : Orientation) (w h x y u v : ℤ) → from_x o w h x y ≡ u → from_y o w h x y ≡ v → (x ≡ falls_x o w h u v) × (y ≡ falls_y o w h u v)
falls Normal w h x y u v p q = (p, q)
falls Rotated w h x y u v p q = (omega (arith, ints), p)
falls Inverted w h x y u v p q = (omega (arith, ints), omega (arith, ints))
falls BottomUp w h x y u v p q = (q, omega (arith, ints))

back : (o : Orientation) (w h x y u v : ℤ) → x ≡ falls_x o w h u v → y ≡ falls_y o w h u v → (from_x o w h x y ≡ u) × (from_y o w h x y ≡ v)
back Normal w h x y u v p q = (p, q)
back Rotated w h x y u v p q = (q, omega (arith, ints))
back Inverted w h x y u v p q = (omega (arith, ints), omega (arith, ints))
back BottomUp w h x y u v p q = (omega (arith, ints), p)

pub dots_fall : DotsFall
dots_fall o w h ink x y = (
  (λ e.
      let row = at_true (λ v. at_place (λ u. ink u v) (from_x o (pos w) (pos h) x y)) (from_y o (pos w) (pos h) x y) e in
      let column = at_true (λ u. ink u row.0) (from_x o (pos w) (pos h) x y) row.1 in
      let f = falls o (pos w) (pos h) x y (pos column.0) (pos row.0) column.2 row.2 in
      (column.0, row.0, column.1, f.0, f.1)),
  (λ d.
      let b = back o (pos w) (pos h) x y (pos d.0) (pos d.1) d.3 d.4 in
      rw (b.0, b.1) d.2),
)

-- how turned boxes lie
pub rotated : (w h : ℕ) (left top l t : ℤ) → l ≡ left +ℤ pos h -ℤ pos 1 → t ≡ top → (ink : ℕ → ℕ → Bool) (x y : ℤ)
    → laid Across (Back l) (Forward t) ink x y ≡ turned Rotated w h ink (x -ℤ left) (y -ℤ top)
rotated w h left top l t p q ink x y =
    let e : l -ℤ x ≡ pos h -ℤ pos 1 -ℤ (x -ℤ left) = omega (arith, ints) in
    rw (q, e) refl

pub inverted : (w h : ℕ) (left top l t : ℤ) → l ≡ left +ℤ pos w -ℤ pos 1 → t ≡ top +ℤ pos h -ℤ pos 1 → (ink : ℕ → ℕ → Bool) (x y : ℤ)
    → laid Along (Back l) (Back t) ink x y ≡ turned Inverted w h ink (x -ℤ left) (y -ℤ top)
inverted w h left top l t p q ink x y =
    let e : l -ℤ x ≡ pos w -ℤ pos 1 -ℤ (x -ℤ left) = omega (arith, ints) in
    let f : t -ℤ y ≡ pos h -ℤ pos 1 -ℤ (y -ℤ top) = omega (arith, ints) in
    rw (e, f) refl

pub bottom_up : (w h : ℕ) (left top l t : ℤ) → l ≡ left → t ≡ top +ℤ pos w -ℤ pos 1 → (ink : ℕ → ℕ → Bool) (x y : ℤ)
    → laid Across (Forward l) (Back t) ink x y ≡ turned BottomUp w h ink (x -ℤ left) (y -ℤ top)
bottom_up w h left top l t p q ink x y =
    let e : t -ℤ y ≡ pos w -ℤ pos 1 -ℤ (y -ℤ top) = omega (arith, ints) in
    rw (p, e) refl

-- lines on other places
pub laid_by : (lines : Lines) (c c' r r' : Axis) (x x' y y' : ℤ) → dot_on c x ≡ dot_on c' x' → dot_on r y ≡ dot_on r' y' → (ink : ℕ → ℕ → Bool)
    → laid lines c r ink x y ≡ laid lines c' r' ink x' y'
laid_by lines c c' r r' x x' y y' h1 h2 ink = grind arith
