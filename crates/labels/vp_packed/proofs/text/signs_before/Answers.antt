use Rattle.std.proofs.Common.{◌≡◌, ℕ, ◌+◌, drop, sym, ◌∙◌, arith}
use Rattle.vp_packed.specs.Texts.{signs_before}
use Rattle.vp_packed.proofs.Signs.{before_here, before_on, before_none}
use Rattle.vp_packed.proofs.text.signs_before.Goals as goal

pub returns-then-sign-eq58-clause-value : goal.returns-then-sign-eq58-clause-value
returns-then-sign-eq58-clause-value c =
    let l = c.loop-n in
    omega (arith, l.invariant, before_here c.args.text.now l.n (omega arith) (omega arith))

pub loop-n-preserved : goal.loop-n-preserved
loop-n-preserved c =
    let l = c.loop-n in
    omega (arith, l.invariant, before_on c.args.text.now l.n (omega arith) (grind arith))

pub returns-clause-value : goal.returns-clause-value
returns-clause-value c =
    let l = c.loop-n in
    omega (arith, l.invariant, before_none c.args.text.now l.n (omega arith))
