use Rattle.std.proofs.Common.{arith, ◌∙◌, List, take, subst, sym}
use Rattle.vp_data_matrix.specs.declared.grid.Place.{Place}
use Rattle.vp_data_matrix.specs.Grids.{IsLaid}
use Rattle.vp_data_matrix.specs.Placement.{laid_on}
use Rattle.vp_data_matrix.proofs.Laid.{laid_front}
use Rattle.vp_data_matrix.proofs.grid.Grid.lay_all.Goals as goal

pub loop-place-preserved : goal.loop-place-preserved
loop-place-preserved c = record {
  matrix = c.lay.ensures.matrix ∙ c.loop-place.invariant.matrix;
  count = omega (arith, c.lay.ensures.count, c.loop-place.invariant.count);
  laid = λ (laid : List Place) h.
      subst (λ (l : List Place). IsLaid c.args.codewords.now l c.lay.new.self) (sym (laid_front c.args.places.now c.loop-place.place-index _ laid (omega arith)))
      (c.lay.ensures.laid (laid_on (take c.loop-place.place-index c.args.places.now) laid) (c.loop-place.invariant.laid laid h));
}
