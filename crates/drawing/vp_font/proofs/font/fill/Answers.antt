use Rattle.std.proofs.Common.{arith, sym, ◌∙◌, refl}
use Rattle.vp_font.proofs.Reading.{count_more, read_err, read_end, read_more, read_none, room_for, letters_counted, bytes_counted}
use Rattle.vp_font.proofs.Ordered.{rising_more, none_rising, none_below}
use Rattle.vp_font.proofs.font.fill.Goals as goal

pub returns-in-Err-clause-font : goal.returns-in-Err-clause-font
returns-in-Err-clause-font g c = sym c.loop-line.invariant.font ∙ read_err _ _ _ _ _ c.in-Some.ensures.lines _ _ _ (sym c.in-Err.ensures.value)

pub returns-then-ends-clause-font : goal.returns-then-ends-clause-font
returns-then-ends-clause-font g c =
    sym c.loop-line.invariant.font ∙ read_end _ _ _ _ _ c.in-Some.ensures.lines _ _ _ _ (sym c.in-Ok.ensures.value) (sym c.if-ends.ensures)

pub keep-requires-clause-letters_fit : goal.keep-requires-clause-letters_fit
keep-requires-clause-letters_fit g c =
    (room_for _ _ _ _ _ c.in-Some.ensures.lines _ _ _ _ (sym c.in-Ok.ensures.value) (sym c.if-ends.ensures) _ c.loop-line.invariant.counts).0

pub keep-requires-clause-bytes_fit : goal.keep-requires-clause-bytes_fit
keep-requires-clause-bytes_fit g c =
    (room_for _ _ _ _ _ c.in-Some.ensures.lines _ _ _ _ (sym c.in-Ok.ensures.value) (sym c.if-ends.ensures) _ c.loop-line.invariant.counts).1

pub loop-line-preserved : goal.loop-line-preserved
loop-line-preserved g c = record {
  font = rw (c.keep.ensures.letters, c.keep.ensures.raster)
      (sym (read_more _ _ _ _ _ c.in-Some.ensures.lines _ _ _ _ (sym c.in-Ok.ensures.value) (sym c.if-ends.ensures)) ∙ c.loop-line.invariant.font);
  counts = rw (
    c.keep.ensures.letters,
    c.keep.ensures.raster,
    c.keep.ensures.letters_room,
    c.keep.ensures.raster_room,
    letters_counted c.in-Ok.told.1 c.loop-line.letters.items c.loop-line.raster.items,
    bytes_counted c.in-Ok.told.1 c.in-Some.line.now c.loop-line.raster.items,
  )
      (sym (count_more _ _ _ _ _ c.in-Some.ensures.lines _ _ _ _ (sym c.in-Ok.ensures.value) (sym c.if-ends.ensures)) ∙ c.loop-line.invariant.counts);
  ordered = c.in-Ok.ensures.ordered;
  rising = rw c.keep.ensures.letters (rising_more _ _ _ _ c.loop-line.raster.items c.in-Ok.ensures.follows c.loop-line.invariant.rising c.loop-line.invariant.below).0;
  below = rw c.keep.ensures.letters (rising_more _ _ _ _ c.loop-line.raster.items c.in-Ok.ensures.follows c.loop-line.invariant.rising c.loop-line.invariant.below).1;
  numbered = omega (arith, c.loop-line.invariant.numbered, c.in-Some.ensures.shorter);
  letters_room = c.keep.ensures.letters_room ∙ c.loop-line.invariant.letters_room;
  raster_room = c.keep.ensures.raster_room ∙ c.loop-line.invariant.raster_room;
}

pub returns-clause-font : goal.returns-clause-font
returns-clause-font g c = sym c.loop-line.invariant.font ∙ read_none _ _ _ _ _ c.in_default.ensures.lines

pub loop-line-init : goal.loop-line-init
loop-line-init g c = record {
  font = rw (c.requires.letters, c.requires.raster, c.start-state.ensures) refl;
  counts = rw (c.requires.letters, c.requires.raster, c.start-state.ensures) c.requires.room;
  ordered = rw c.start-state.ensures refl;
  rising = none_rising _ c.requires.letters;
  below = none_below _ _ c.requires.letters;
  numbered = omega arith;
  letters_room = refl;
  raster_room = refl;
}
