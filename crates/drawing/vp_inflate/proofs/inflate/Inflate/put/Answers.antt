use Rattle.std.proofs.Common.{◌∙◌, ap, reverse}
use Rattle.vp_inflate.specs.declared.phase.Phase.{Phase}
use Rattle.vp_inflate.specs.Unpacking.{after_phase}
use Rattle.vp_inflate.specs.Standing.{stand}
use Rattle.vp_inflate.proofs.inflate.Inflate.put.Goals as goal

pub returns-in-Literal-clause-gives : goal.returns-in-Literal-clause-gives
returns-in-Literal-clause-gives c =
    let reader = c.args.self.now.reader in
    let out = reverse c.args.done.now in
    ap (λ (p : Phase). after_phase p (stand reader out) reader.held) c.in-Literal.is ∙ c.put_literal.ensures.gives out
