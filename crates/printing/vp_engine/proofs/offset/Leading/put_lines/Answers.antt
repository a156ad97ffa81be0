use Rattle.std.proofs.Common.{◌≡◌, ◌+◌, ◌*◌, ◌++◌, length, drop, sym, ap, ◌∙◌}
use Rattle.std.proofs.lemmas.List.{take-take, length-take-le}
use Rattle.vp_engine.specs.Lines.{leading, lines_behind}
use Rattle.vp_engine.proofs.OffsetLines.{length_behind}
use Rattle.vp_engine.proofs.offset.Leading.put_lines.Goals as goal

pub returns-then-self-le8-clause-put : goal.returns-then-self-le8-clause-put
returns-then-self-le8-clause-put c =
    let digits = leading c.args.self.now in
    let long : length digits ≡ c.self.inside.count =
    sym (ap length (c.self.invariant.digits ∙ ap leading c.self.view_is)) ∙ length-take-le c.self.inside.count c.self.inside.digits c.self.invariant.within in
    c.put_lines_behind.ensures.put ∙ ap (λ n. (n + 10) * length c.args.bytes.now) (sym long) ∙ sym (length_behind digits c.args.last c.args.bytes.now)

pub returns-then-self-le8-clause-bytes : goal.returns-then-self-le8-clause-bytes
returns-then-self-le8-clause-bytes c =
    c.put_lines_behind.ensures.bytes
    ∙ ap (λ d. lines_behind d c.args.last c.args.bytes.now ++ drop c.put_lines_behind.result c.args.output.now)
    (take-take c.self.inside.count 8 c.self.inside.digits c.if-self-le8.true ∙ c.self.invariant.digits ∙ ap leading c.self.view_is)
