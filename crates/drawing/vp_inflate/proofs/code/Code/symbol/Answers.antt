use Rattle.std.proofs.Common.{◌≡◌, ℕ, ◌+◌, ◌*◌, ◌-◌, ◌^◌, List, Ok, Err, length, drop, get_or, arith, sym, ap, ◌∙◌, lit<, add-one}
use Rattle.std.proofs.Math.Nat.{pow-suc}
use Rattle.std.proofs.lemmas.Result.{err_from_is_err_and}
use Rattle.vp_inflate.specs.declared.fault.Stop.{Stop}
use Rattle.vp_inflate.specs.Codes.{counts, ordered, symbol_in, symbol_of}
use Rattle.vp_inflate.proofs.SymbolWords.{symbol_short, symbol_here, symbol_on, symbol_none}
use Rattle.vp_inflate.proofs.code.Code.symbol.Goals as goal

pub loop-n-init : goal.loop-n-init
unfolding symbol_of
loop-n-init c = record {
  read = ap (symbol_in (counts 15 c.args.self.now) (ordered 15 c.args.self.now) 0 0) c.same-left.ensures;
  small = lit< tt;
  few = omega arith;
  less = omega (arith, ap {A = List ℕ} length c.same-left.ensures);
}

pub returns-in_err-bit-clause-value : goal.returns-in_err-bit-clause-value
returns-in_err-bit-clause-value c =
    let cs = counts 15 c.args.self.now in
    let long : length c.as_slice-n-items.result.now ≡ length cs = ap {A = List ℕ} length (c.as_slice-n-items.ensures.value ∙ c.self.invariant.numbers_are ∙ ap (counts 15) c.self.view_is) in
    let p = err_from_is_err_and c.from_residual.result c.from_residual.ensures.1 in
    p.1 ∙ ap (λ (e : Stop). Err e) p.2
    ∙ sym (symbol_short cs c.loop-n.n-index (ordered 15 c.args.self.now) c.loop-n.before c.loop-n.beyond c.loop-n.left c.in_err-bit.field-0.0 (omega arith) c.in_err-bit.ensures.value)
    ∙ c.loop-n.invariant.read

pub returns-then-beyond-from-clause-value : goal.returns-then-beyond-from-clause-value
returns-then-beyond-from-clause-value c =
    let cs = counts 15 c.args.self.now in
    let ss = ordered 15 c.args.self.now in
    let same : c.as_slice-n-items.result.now ≡ cs = c.as_slice-n-items.ensures.value ∙ c.self.invariant.numbers_are ∙ ap (counts 15) c.self.view_is in
    let symbols : c.as_slice-symbols.result.now ≡ ss = c.as_slice-symbols.ensures.value ∙ c.self.invariant.symbols_are ∙ ap (ordered 15) c.self.view_is in
    let long : length c.as_slice-n-items.result.now ≡ length cs = ap {A = List ℕ} length same in
    let n : c.from-in-loop-n.result ≡ get_or cs c.loop-n.n-index 0 = c.from-in-loop-n.ensures ∙ ap (λ (l : List ℕ). get_or l c.loop-n.n-index 0) same in
    ap (λ (k : ℕ). Ok (k, c.in_ok-bit.rest)) (c.at.ensures ∙ ap (λ (l : List ℕ). get_or l (c.loop-n.before + (2 * c.loop-n.beyond + c.from.result)) 0) symbols
    ∙ ap (λ (b : ℕ). get_or ss (c.loop-n.before + (2 * c.loop-n.beyond + b)) 0) c.from.ensures)
    ∙ sym (symbol_here cs c.loop-n.n-index ss c.loop-n.before c.loop-n.beyond c.loop-n.left c.in_ok-bit.bit c.in_ok-bit.rest (omega arith) c.in_ok-bit.ensures.value (omega (arith, n, c.from.ensures)))
    ∙ c.loop-n.invariant.read

pub loop-n-preserved : goal.loop-n-preserved
loop-n-preserved c =
    let cs = counts 15 c.args.self.now in
    let ss = ordered 15 c.args.self.now in
    let i = c.loop-n.n-index in
    let before = c.loop-n.before in
    let beyond = c.loop-n.beyond in
    let rest = c.in_ok-bit.rest in
    let same : c.as_slice-n-items.result.now ≡ cs = c.as_slice-n-items.ensures.value ∙ c.self.invariant.numbers_are ∙ ap (counts 15) c.self.view_is in
    let long : length c.as_slice-n-items.result.now ≡ length cs = ap {A = List ℕ} length same in
    let here : get_or c.as_slice-n-items.result.now i 0 ≡ get_or cs i 0 = ap (λ (l : List ℕ). get_or l i 0) same in
    let n : c.from-in-loop-n.result ≡ get_or cs i 0 = c.from-in-loop-n.ensures ∙ here in
    let p = pow-suc 2 i in
    let q : 2 ^ (i + 1) ≡ 2 ^ i * 2 = rw add-one p in
    record {
      read = ap (λ (k : ℕ). symbol_in (drop (i + 1) cs) ss (before + k) (2 * beyond + c.from.result - c.from-beyond.result) rest) (c.from-before.ensures ∙ here)
          ∙ ap (λ (k : ℕ). symbol_in (drop (i + 1) cs) ss (before + get_or cs i 0) (2 * beyond + c.from.result - k) rest) (c.from-beyond.ensures ∙ here)
          ∙ ap (λ (k : ℕ). symbol_in (drop (i + 1) cs) ss (before + get_or cs i 0) (2 * beyond + k - get_or cs i 0) rest) c.from.ensures
          ∙ sym (symbol_on cs i ss before beyond c.loop-n.left c.in_ok-bit.bit rest (omega arith) c.in_ok-bit.ensures.value (omega (arith, n, c.from.ensures, c.if-beyond-from.false)))
          ∙ c.loop-n.invariant.read;
      small = omega (arith, q, c.from.ensures, c.in_ok-bit.ensures.small, c.loop-n.invariant.small);
      few = omega (arith, c.from-before.ensures, c.type_inv.n-items i, c.loop-n.invariant.few);
      less = omega (arith, c.in_ok-bit.ensures.used, c.loop-n.invariant.less);
    }

pub returns-clause-value : goal.returns-clause-value
returns-clause-value c =
    let cs = counts 15 c.args.self.now in
    let long : length c.as_slice-n-items.result.now ≡ length cs = ap {A = List ℕ} length (c.as_slice-n-items.ensures.value ∙ c.self.invariant.numbers_are ∙ ap (counts 15) c.self.view_is) in
    sym (symbol_none cs c.loop-n.n-index (ordered 15 c.args.self.now) c.loop-n.before c.loop-n.beyond c.loop-n.left (omega arith)) ∙ c.loop-n.invariant.read
