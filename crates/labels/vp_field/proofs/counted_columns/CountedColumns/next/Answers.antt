use Rattle.std.proofs.Common.{◌-◌, arith, ap, sym, ◌∙◌, length, length-drop, drop, refl}
use Rattle.std.proofs.lemmas.List.{length-take-le, take_all, take-append-drop}
use Rattle.vp_field.proofs.counted_columns.CountedColumns.next.Goals as goal

pub invariant_of-self-clause-whole : goal.invariant_of-self-clause-whole
invariant_of-self-clause-whole c =
    let rest = length-drop 64 c.args.self.now.left.now in
    let left = length-take-le (length c.args.self.now.left.now - 64) (drop 64 c.args.self.now.left.now) (omega (arith, rest)) in
    omega (arith, c.in_ok-columns.ensures.cases.enough, left, c.args.self.now.whole)

pub invariant_of-self-clause-few : goal.invariant_of-self-clause-few
invariant_of-self-clause-few c =
    let rest = length-drop 64 c.args.self.now.left.now in
    let left = length-take-le (length c.args.self.now.left.now - 64) (drop 64 c.args.self.now.left.now) (omega (arith, rest)) in
    omega (arith, left, c.args.self.now.few)

pub invariant_of-self-clause-near : goal.invariant_of-self-clause-near
invariant_of-self-clause-near c =
    let rest = length-drop 64 c.args.self.now.left.now in
    let left = length-take-le (length c.args.self.now.left.now - 64) (drop 64 c.args.self.now.left.now) (omega (arith, rest)) in
    omega (arith, c.in_ok-columns.ensures.cases.enough, left, c.args.self.now.near)

pub invariant_of-self-clause-all : goal.invariant_of-self-clause-all
invariant_of-self-clause-all c =
    let rest = length-drop 64 c.args.self.now.left.now in
    let left = length-take-le (length c.args.self.now.left.now - 64) (drop 64 c.args.self.now.left.now) (omega (arith, rest)) in
    omega (arith, c.in_ok-columns.ensures.cases.enough, left, c.args.self.now.all)

pub invariant_of-self-clause-each : goal.invariant_of-self-clause-each
invariant_of-self-clause-each c = omega (arith, c.args.self.now.each, c.min.ensures, c.saturating_sub.ensures)

pub returns-clause-handed : goal.returns-clause-handed
returns-clause-handed c =
    let old = c.args.self.now.left.now in
    let first = c.in_ok-columns.ensures.cases in
    let rest = take_all (length old - 64) (drop 64 old) (let left = length-drop 64 old in omega (arith, left)) in
    (refl, ap length first.same ∙ length-take-le 64 old first.enough, sym (take-append-drop 64 old) ∙ rw (rest, first.same) refl, refl)
