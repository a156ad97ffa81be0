use Rattle.std.proofs.Common.{arith, ◌≡◌, ◌+◌, ◌-◌, suc, length}
use Rattle.vp_join.proofs.Ends.{rows_run, rows_end}
use Rattle.vp_join.proofs.reading.Reading.take_rows.Goals as goal

pub returns-then-n-behind-clause-next : goal.returns-then-n-behind-clause-next
returns-then-n-behind-clause-next c = λ r bytes text e. rw c.requires.rows (rows_end c.args.self.now.width c.args.self.now.height r bytes text c.args.behind (let k : suc c.args.behind ≡ length bytes = omega (arith, e) in k))

pub returns-clause-next : goal.returns-clause-next
returns-clause-next c = λ r bytes text e. rw c.requires.rows (rows_run c.args.self.now.width c.args.self.now.height r bytes text c.args.behind (c.args.behind - c.args.n) (let k : c.args.behind ≡ length bytes + (c.args.behind - c.args.n) = omega (arith, e) in k))
