use Rattle.std.proofs.Common.{◌∙◌, inr, inl, refl}
use Rattle.vp_font.proofs.Reading.{refused, taken, rooms}
use Rattle.vp_font.proofs.font.Font.read.Goals as goal

pub returns-in-Err : goal.returns-in-Err
returns-in-Err g c = inl (refused _ _ c.in-Err.ensures)

pub returns-in-Err-with_capacity : goal.returns-in-Err-with_capacity
returns-in-Err-with_capacity g c = inr (refl, taken _ _ c.in-Ok.ensures)

pub returns-in-Err-with_capacity-2 : goal.returns-in-Err-with_capacity-2
returns-in-Err-with_capacity-2 g c = inr (refl, taken _ _ c.in-Ok.ensures)

pub invariant_of-result : goal.invariant_of-result
invariant_of-result g c = let p = rooms _ c.in-Ok.counts _ c.in-Ok.ensures c.in-Ok-fill.ensures.font in record {
  letters_room = c.fill.ensures.letters_room ∙ c.in-Ok-with_capacity.ensures.exact ∙ p.0;
  rising = c.in-Ok-fill.ensures.rising;
  raster_room = c.fill.ensures.raster_room ∙ c.in-Ok-with_capacity-2.ensures.exact ∙ p.1;
}
