use Rattle.std.proofs.Common.{arith, ◌∙◌, ◌≡◌, ◌<◌, ℕ, length, replicate, get_or, subst, sym, List, ap}
use Rattle.vp_reed_solomon.specs.Fields.{order}
use Rattle.vp_reed_solomon.proofs.FieldLaws.{order_some}
use Rattle.vp_reed_solomon.proofs.Division.{Registers, registers_none, registers_more, registers_all, elements_zeros}
use Rattle.vp_reed_solomon.proofs.remainder.check.Goals as goal

pub loop-word-init : goal.loop-word-init
loop-word-init c =
    let zeros : c.fill.new.self ≡ replicate (length c.args.low.now) 0 = c.fill.ensures.after (λ (y : ℕ) e. e) ∙ ap (λ (n : ℕ). replicate {A = ℕ} n 0) c.requires.room in
    let some : 0 < order c.args.field = omega (arith, order_some c.args.field) in
    record {
      registers = subst (λ (r : List ℕ). Registers c.args.field c.args.low.now c.args.words.now (length c.args.low.now) c.args.words.now r) (sym zeros)
          (registers_none c.args.field c.args.low.now c.args.words.now (length c.args.low.now) some c.requires.words);
      elements = λ (k : ℕ). subst (λ (r : List ℕ). get_or r k 0 < order c.args.field) (sym zeros) (elements_zeros c.args.field (length c.args.low.now) k some);
    }

pub loop-word-preserved : goal.loop-word-preserved
loop-word-preserved c = record {
  registers = registers_more c.args.field c.args.low.now c.args.words.now (length c.args.low.now) c.loop-word.word-index c.loop-word.check c.take.new.register
      (omega arith) c.requires.some c.loop-word-test.true (omega (arith, c.take.auto.register, c.loop-word.invariant.registers.size)) c.loop-word.invariant.registers c.take.ensures.terms;
  elements = c.take.ensures.elements;
}

pub returns-clause-check : goal.returns-clause-check
returns-clause-check c =
    registers_all c.args.field c.args.low.now c.args.words.now (length c.args.low.now) c.loop-word.word-index c.loop-word.check c.loop-left.check
    c.loop-word-test.false c.loop-word.invariant.registers c.loop-word.invariant.elements (omega arith) (λ (k : ℕ) lt. c.loop-left.invariant.made k (omega arith))
