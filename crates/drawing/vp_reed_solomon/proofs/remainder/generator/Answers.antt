use Rattle.std.proofs.Common.{arith, ◌∙◌, ◌≡◌, ◌+◌, ◌++◌, ◌∷◌, [], ◌<◌, ℕ, List, length, take, drop, set, ap, sym, subst, length-set}
use Rattle.std.proofs.lemmas.List.{take_more_set, take_at, length-take-le, get_or_append_left}
use Rattle.vp_reed_solomon.specs.Fields.{order, power, times}
use Rattle.vp_reed_solomon.specs.Polynomials.{generator}
use Rattle.vp_reed_solomon.proofs.FieldLaws.{order_some}
use Rattle.vp_reed_solomon.proofs.Division.{generator_none, generator_more, power_none, power_more}
use Rattle.vp_reed_solomon.proofs.remainder.generator.Goals as goal

pub loop-init : goal.loop-init
loop-init c = record { root = power_none c.args.field; element = order_some c.args.field }

pub loop-preserved : goal.loop-preserved
loop-preserved c = record {
  root = c.product-root.ensures.product ∙ ap (λ p. times c.args.field p c.loop.root) c.primitive.ensures.primitive ∙ power_more c.args.field c.loop.counter c.loop.root c.loop.invariant.root;
  element = c.product-root.ensures.element;
}

pub loop-n-init : goal.loop-n-init
loop-n-init c =
    let all : c.loop.counter ≡ c.args.first + 0 = omega arith in
    record {
      made = generator_none c.args.field c.args.first;
      root = c.loop.invariant.root ∙ ap (power c.args.field) all;
      element = c.loop.invariant.element;
      elements = λ j h. absurd (omega arith);
    }

pub loop-n-preserved : goal.loop-n-preserved
loop-n-preserved c =
    let n : ℕ = c.loop-n.n in
    let new : List ℕ = c.with_root.new.low in
    let rest : List ℕ = drop (n + 1) (set c.loop-n.low n 0) in
    let old : take (n + 1) (set c.loop-n.low n 0) ≡ take n c.loop-n.low ++ 0 ∷ [] = take_more_set c.loop-n.low n 0 (omega arith) in
    let long : length new ≡ n + 1 = omega (arith, c.with_root.auto.low, length-take-le (n + 1) (set c.loop-n.low n 0), length-set c.loop-n.low n 0) in
    let made : 1 ∷ new ≡ generator c.args.field c.args.first (n + 1) =
    generator_more c.args.field c.args.first n c.loop-n.root (take n c.loop-n.low) (take (n + 1) (set c.loop-n.low n 0)) new
    c.loop-n.invariant.made c.loop-n.invariant.root old c.with_root.auto.low c.with_root.ensures.terms in
    let next : c.args.first + n + 1 ≡ c.args.first + (n + 1) = omega arith in
    record {
      made = ap (λ (l : List ℕ). 1 ∷ l) (take_at new rest (n + 1) long) ∙ made;
      root = c.product-root-in-loop-n.ensures.product ∙ ap (λ p. times c.args.field p c.loop-n.root) c.primitive-in-loop-n.ensures.primitive
          ∙ power_more c.args.field (c.args.first + n) c.loop-n.root c.loop-n.invariant.root ∙ ap (power c.args.field) next;
      element = c.product-root-in-loop-n.ensures.element;
      elements = λ (j : ℕ) (lt : j < n + 1).
          subst (λ (a : ℕ). a < order c.args.field) (sym (get_or_append_left new rest 0 j (omega arith))) (c.with_root.ensures.elements j);
    }
