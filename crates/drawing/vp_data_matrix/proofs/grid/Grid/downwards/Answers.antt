use Rattle.std.proofs.Common.{arith, refl, ◌∙◌, ◌+◌, ◌-◌, ◌*◌, List, subst, sym}
use Rattle.vp_data_matrix.specs.declared.grid.Place.{Place}
use Rattle.vp_data_matrix.specs.declared.grid.Matrix.{Matrix}
use Rattle.vp_data_matrix.specs.Grids.{IsLaid}
use Rattle.vp_data_matrix.specs.Placement.{step, downwards}
use Rattle.vp_data_matrix.proofs.Laid.{downwards_none, downwards_more}
use Rattle.vp_data_matrix.proofs.grid.Grid.downwards.Goals as goal

pub loop-n-init : goal.loop-n-init
loop-n-init c = record {
  matrix = refl;
  count = omega arith;
  laid = λ (laid : List Place) h. subst (λ (l : List Place). IsLaid c.args.codewords.now l c.args.self.now) (sym (downwards_none c.args.self.now.matrix c.args.diagonal laid)) h;
}

pub loop-n-preserved : goal.loop-n-preserved
loop-n-preserved c = record {
  matrix = c.step.ensures.matrix ∙ c.loop-n.invariant.matrix;
  count = omega (arith, c.step.ensures.count, c.loop-n.invariant.count);
  laid = λ (laid : List Place) h.
      let before : List Place = downwards c.args.self.now.matrix c.args.diagonal c.loop-n.n laid in
      subst (λ (l : List Place). IsLaid c.args.codewords.now l c.step.new.self) (sym (downwards_more c.args.self.now.matrix c.args.diagonal c.loop-n.n laid))
      (subst (λ (m : Matrix). IsLaid c.args.codewords.now (step m (2 * c.loop-n.n + 1) (c.args.diagonal - (2 * c.loop-n.n + 1)) before) c.step.new.self) c.loop-n.invariant.matrix
      (c.step.ensures.laid before (c.loop-n.invariant.laid laid h)));
}
