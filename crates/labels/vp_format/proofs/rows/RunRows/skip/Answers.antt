use Rattle.std.proofs.Common.{ap, arith}
use Rattle.vp_format.specs.Pictures.{Cursor}
use Rattle.vp_format.proofs.Skipped.{first_read, way_done, way_ended, way_even, way_stopped}
use Rattle.vp_format.proofs.rows.RunRows.skip.Goals as goal

pub returns-then-self : goal.returns-then-self
returns-then-self c = grind (arith, way_ended)

pub returns : goal.returns
returns c = let e = way_done _ _ _ _ c.loop-left.invariant (omega arith) in record { answer = e.0; next = e.1 }

pub loop-left-preserved : goal.loop-left-preserved
loop-left-preserved c =
    let some = c.in_ok-passed.ensures.some in
    way_even _ _ _ _ _ _ c.loop-left.invariant (omega (arith, some.1, c.min.ensures)) (omega (arith, some.1, c.min.ensures, c.if-self.false, ap (λ (v : Cursor). v.next) c.self.view_is, ap (λ (v : Cursor). v.picture.rows) c.self.view_is, ap (λ (v : Cursor). v.next) c.pass.view_is, ap (λ (v : Cursor). v.picture.rows) c.pass.view_is)) c.in_ok-passed.ensures.next c.in_ok-passed.ensures.taken

pub returns-in_err-passed : goal.returns-in_err-passed
returns-in_err-passed c = grind (arith, way_stopped, first_read)
