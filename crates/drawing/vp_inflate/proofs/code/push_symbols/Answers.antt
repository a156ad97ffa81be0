use Rattle.std.proofs.Common.{ℕ, ◌+◌, ◌++◌, ◌∷◌, [], List, drop, get_or, ◌≢◌, arith, sym, ap, ◌∙◌, append_assoc}
use Rattle.std.proofs.lemmas.List.{append-nil}
use Rattle.vp_inflate.specs.Codes.{symbols_from}
use Rattle.vp_inflate.proofs.CodeWords.{count_yes, count_no, count_none, symbols_yes, symbols_no, symbols_none}
use Rattle.vp_inflate.proofs.code.push_symbols.Goals as goal

pub push-requires : goal.push-requires
push-requires c =
    let i = c.loop-symbol.symbol in
    let e = count_yes c.args.bits c.args.lengths.now i (omega arith) (omega arith) in
    (omega arith, omega (arith, e, c.loop-symbol.invariant.count, c.loop-symbol.invariant.long, c.requires.room))

pub loop-symbol-preserved : goal.loop-symbol-preserved
loop-symbol-preserved c =
    let i = c.loop-symbol.symbol in
    let ls = c.args.lengths.now in
    let e = count_yes c.args.bits ls i (omega arith) (omega arith) in
    let s = symbols_yes c.args.bits ls i (omega arith) (omega arith) in
    record {
      symbols = ap (λ (l : List ℕ). l ++ symbols_from (i + 1) c.args.bits (drop (i + 1) ls)) c.push.ensures.items
          ∙ append_assoc c.loop-symbol.symbols.items (i ∷ []) (symbols_from (i + 1) c.args.bits (drop (i + 1) ls))
          ∙ ap (λ (l : List ℕ). c.loop-symbol.symbols.items ++ l) (sym s) ∙ c.loop-symbol.invariant.symbols;
      count = omega (arith, e, c.loop-symbol.invariant.count);
      long = omega (arith, c.push.ensures.len, c.loop-symbol.invariant.long);
    }

pub returns-clause-symbols : goal.returns-clause-symbols
returns-clause-symbols c =
    sym (append-nil c.loop-symbol.symbols.items)
    ∙ ap (λ (l : List ℕ). c.loop-symbol.symbols.items ++ l) (sym (symbols_none c.loop-symbol.symbol c.args.bits c.args.lengths.now c.loop-symbol.symbol (omega arith)))
    ∙ c.loop-symbol.invariant.symbols

pub returns-clause-count : goal.returns-clause-count
returns-clause-count c = omega (arith, c.loop-symbol.invariant.count, count_none c.args.bits c.args.lengths.now c.loop-symbol.symbol (omega arith))

pub loop-symbol-preserved-then-length-bits : goal.loop-symbol-preserved-then-length-bits
loop-symbol-preserved-then-length-bits c =
    let i = c.loop-symbol.symbol in
    let ls = c.args.lengths.now in
    let differs : get_or ls i 0 ≢ c.args.bits = grind arith in
    record {
      symbols = ap (λ (l : List ℕ). c.loop-symbol.symbols.items ++ l) (sym (symbols_no c.args.bits ls i (omega arith) differs)) ∙ c.loop-symbol.invariant.symbols;
      count = omega (arith, count_no c.args.bits ls i (omega arith) differs, c.loop-symbol.invariant.count);
      long = c.loop-symbol.invariant.long;
    }
