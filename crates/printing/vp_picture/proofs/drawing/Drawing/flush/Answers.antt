use Rattle.std.proofs.Common.{arith, ◌∙◌, ◌*◌, [], take, ap, refl}
use Rattle.vp_png.specs.Kept.{waiting_bytes}
use Rattle.vp_picture.proofs.Draws.{draws_more, put_out}
use Rattle.vp_picture.proofs.drawing.Drawing.flush.Goals as goal

pub writes-preserved : goal.writes-preserved
writes-preserved g c =
    let k = c.hand_out.ensures in
    record {
      draws = draws_more _ _ _ _ _ _ [] [] c.writes.invariant.draws
          (put_out _ _ _ _ (take c.in-Ok.n (waiting_bytes c.writes.self.png)) (rw c.waiting.ensures at c.in-Ok.ensures.bytes) k.size.0 k.size.1 refl k.stands);
      part = c.writes.invariant.part;
      to_come = ap (λ n. n * c.writes.self.across) k.left ∙ c.writes.invariant.to_come;
      failed = grind arith;
    }
