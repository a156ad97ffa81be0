use Rattle.std.proofs.Common.{◌≡◌, ◌-◌, ◌++◌, length, take, subst, arith}
use Rattle.std.proofs.lemmas.List.{length-take-le}
use Rattle.vp_esc.specs.Reader.{Stands}
use Rattle.vp_esc.proofs.Runs.{front, before_bytes}
use Rattle.vp_esc.proofs.reader.EscReader.take_bytes.Goals as goal

pub returns-clause-gives : goal.returns-clause-gives
returns-clause-gives c reading bytes n s h =
    (front reading c.args.self.now c.args.kind c.args.left bytes c.args.input.now n c.requires s (omega arith) (omega arith)).gives

pub returns-clause-known : goal.returns-clause-known
returns-clause-known c reading bytes n s some h =
    let long : length (take n c.args.input.now) ≡ n = length-take-le n c.args.input.now (omega arith) in
    (front reading c.args.self.now c.args.kind c.args.left bytes c.args.input.now n c.requires s (omega arith) (omega arith)).known (omega arith)

pub returns-clause-stands : goal.returns-clause-stands
returns-clause-stands c reading bytes s =
    let n = c.min-taken.result in
    subst (λ k. Stands reading (before_bytes c.args.self.now c.args.kind (c.args.left - k)) (bytes ++ take n c.args.input.now)) (length-take-le n c.args.input.now (omega arith))
    (front reading c.args.self.now c.args.kind c.args.left bytes c.args.input.now n c.requires s (omega arith) (omega arith)).stands
