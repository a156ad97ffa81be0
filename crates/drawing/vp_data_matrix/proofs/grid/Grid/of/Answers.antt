use Rattle.std.proofs.Common.{ℕ, arith, ◌∙◌, ◌+◌, ◌*◌, ◌/◌, ◌≡◌, List, subst, sym}
use Rattle.vp_data_matrix.specs.declared.grid.Place.{Place}
use Rattle.vp_data_matrix.specs.declared.grid.Matrix.{Matrix}
use Rattle.vp_data_matrix.specs.Grids.{IsLaid}
use Rattle.vp_data_matrix.specs.Placement.{corner, laid_on, upwards, downwards, diagonals}
use Rattle.vp_data_matrix.proofs.Laid.{diagonals_none, diagonals_more}
use Rattle.vp_data_matrix.proofs.grid.Grid.of.Goals as goal

pub loop-n-init : goal.loop-n-init
loop-n-init c = record {
  matrix = c.new-grid.ensures.matrix;
  count = omega (arith, (c.new-grid.ensures.laid c.args.codewords.now).count);
  laid = subst (λ (l : List Place). IsLaid c.args.codewords.now l c.new-grid.result) (sym (diagonals_none c.args.matrix)) (c.new-grid.ensures.laid c.args.codewords.now);
}

pub loop-n-preserved : goal.loop-n-preserved
loop-n-preserved c =
    let n = c.loop-n.n in
    let m = c.args.matrix in
    let words = c.args.codewords.now in
    let e : c.corner.new.self.matrix ≡ m = c.corner.ensures.matrix ∙ c.loop-n.invariant.matrix in
    let f : c.upwards.new.self.matrix ≡ m = c.upwards.ensures.matrix ∙ e in
    let before : List Place = laid_on (corner m (8 * n + 4)) (diagonals m n) in
    let one : IsLaid words before c.corner.new.self =
    subst (λ (k : Matrix). IsLaid words (laid_on (corner k (8 * n + 4)) (diagonals m n)) c.corner.new.self) c.loop-n.invariant.matrix (c.corner.ensures.laid (diagonals m n) c.loop-n.invariant.laid) in
    let two : IsLaid words (upwards m (8 * n + 4) (4 * n + 3) before) c.upwards.new.self =
    subst (λ (k : Matrix). IsLaid words (upwards k (8 * n + 4) (4 * n + 3) before) c.upwards.new.self) e (c.upwards.ensures.laid before one) in
    let three : IsLaid words (downwards m (8 * n + 8) (4 * n + 4) (upwards m (8 * n + 4) (4 * n + 3) before)) c.downwards.new.self =
    subst (λ (k : Matrix). IsLaid words (downwards k (8 * n + 8) (4 * n + 4) (upwards m (8 * n + 4) (4 * n + 3) before)) c.downwards.new.self) f
    (c.downwards.ensures.laid (upwards m (8 * n + 4) (4 * n + 3) before) two) in
    record {
      matrix = c.downwards.ensures.matrix ∙ f;
      count = omega (arith, c.corner.ensures.count, c.upwards.ensures.count, c.downwards.ensures.count, c.loop-n.invariant.count);
      laid = subst (λ (l : List Place). IsLaid words l c.downwards.new.self) (sym (diagonals_more m n)) three;
    }

pub returns-clause-laid : goal.returns-clause-laid
returns-clause-laid c =
    let all : c.loop-n.n ≡ (c.args.matrix.rows + c.args.matrix.columns) / 8 + 1 = omega arith in
    subst (λ (n : ℕ). IsLaid c.args.codewords.now (diagonals c.args.matrix n) c.loop-n.grid) all c.loop-n.invariant.laid
