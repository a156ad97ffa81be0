use Rattle.std.proofs.Common.{inl, inr, ◌≡◌, ℕ, ◌≤◌, max, false, cond, sym, ap, ◌∙◌, arith, List, [], length, get_or, replicate}
use Rattle.std.proofs.lemmas.List.{ext_get_or, get_or-replicate, length-replicate}
use Rattle.std.proofs.lemmas.Bool.{cases_Bool}
use Rattle.std.proofs.lemmas.Bool.Decides.{nat_tests}
use Rattle.vp_dots.specs.Dots.{span}
use Rattle.vp_dots.proofs.band.Band.clear_rows.Goals as goal

no_more : (from to end k : ℕ) → to ≤ end → span from end k ≡ false → span from to k ≡ false
no_more from to end k h e = grind (arith, nat_tests)

same_rows : (from to end k : ℕ) → to ≤ end → end ≤ max from to → span from end k ≡ span from to k
same_rows from to end k h b = grind (arith, nat_tests)

pub returns-clause-white : goal.returns-clause-white
returns-clause-white g c = λ k.
    c.loop-y.invariant.white k ∙ ap (λ b. cond b (replicate {A = ℕ} g.row.B 0) (get_or c.self.inside.rows.items k [])) (same_rows c.args.from c.args.to c.loop-y.y k c.loop-y-test.false c.loop-y.invariant.bound)
    ∙ ap (λ (rows : List (List ℕ)). cond (span c.args.from c.args.to k) (replicate {A = ℕ} g.row.B 0) (get_or rows k [])) c.self.view_is

pub returns-clause-all : goal.returns-clause-all
returns-clause-all g c = λ others.
    let count : length c.loop-y.self-inside.rows.items ≡ g.row.H = c.loop-y.invariant.len ∙ c.self.invariant.count in
    ext_get_or [] _ _ (count ∙ sym (length-replicate g.row.H (replicate g.row.B 0))) (λ k l. c.loop-y.invariant.white k ∙ elim (cases_Bool (span c.args.from c.loop-y.y k)) [
      | inl t ↦ ap (λ b. cond b (replicate {A = ℕ} g.row.B 0) (get_or c.self.inside.rows.items k [])) t ∙ sym (get_or-replicate g.row.H k (replicate g.row.B 0) [] (omega arith))
      | inr f ↦ ap (λ b. cond b (replicate {A = ℕ} g.row.B 0) (get_or c.self.inside.rows.items k [])) f
          ∙ ap (λ (rows : List (List ℕ)). get_or rows k []) c.self.view_is ∙ others k (omega arith) (no_more c.args.from c.args.to c.loop-y.y k c.loop-y-test.false f)
          ∙ sym (get_or-replicate g.row.H k (replicate g.row.B 0) [] (omega arith))
    ])
