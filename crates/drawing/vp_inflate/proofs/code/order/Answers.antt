use Rattle.std.proofs.Common.{ℕ, ◌+◌, ◌++◌, ◌∷◌, [], List, length, arith, sym, ap, ◌∙◌}
use Rattle.vp_inflate.specs.Codes.{counts, symbols_from}
use Rattle.vp_inflate.proofs.CodeWords.{room_for, ordered_more, counts_more, ordered_none, counts_none}
use Rattle.vp_inflate.proofs.code.order.Goals as goal

pub loop-n-init : goal.loop-n-init
loop-n-init c = record {
  counts = c.clear.ensures ∙ sym (counts_none c.args.lengths.now);
  symbols = c.clear-2.ensures ∙ sym (ordered_none c.args.lengths.now);
  long = ap {A = List ℕ} length c.clear.ensures;
}

pub push_symbols-requires-clause-room : goal.push_symbols-requires-clause-room
push_symbols-requires-clause-room c =
    let e = room_for c.loop-n.n c.args.lengths.now in
    omega (arith, e, ap {A = List ℕ} length c.loop-n.invariant.symbols, c.requires)

pub loop-n-preserved : goal.loop-n-preserved
loop-n-preserved c =
    let ls = c.args.lengths.now in
    let n = c.loop-n.n in
    record {
      counts = c.push.ensures.items ∙ ap (λ (l : List ℕ). l ++ c.push_symbols.result ∷ []) c.loop-n.invariant.counts
          ∙ ap (λ (k : ℕ). counts n ls ++ k ∷ []) c.push_symbols.ensures.count ∙ sym (counts_more n ls);
      symbols = c.push_symbols.ensures.symbols ∙ ap (λ (l : List ℕ). l ++ symbols_from 0 (n + 1) ls) c.loop-n.invariant.symbols ∙ sym (ordered_more n ls);
      long = omega (arith, c.push.ensures.len, c.loop-n.invariant.long);
    }
