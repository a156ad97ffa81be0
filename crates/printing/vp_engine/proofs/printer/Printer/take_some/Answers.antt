use Rattle.std.proofs.Common.{◌≡◌, ◌≤◌, ◌<◌, ◌+◌, ◌-◌, ◌∷◌, [], ◌++◌, take, get_or, length, sym, ap, subst₂, append_assoc, ◌∙◌, arith}
use Rattle.std.proofs.lemmas.List.{take_more}
use borrow.Rule.Slice.PartMut.{put_mid}
use Rattle.vp_engine.specs.Stands.{Stands}
use Rattle.vp_engine.proofs.Cuts.{cut_take, cut_drop, rest_same}
use Rattle.vp_engine.proofs.printer.Printer.take_some.Goals as goal

pub returns-clause-rest : goal.returns-clause-rest
returns-clause-rest g c = grind (arith, cut_drop, rest_same)

pub returns-clause-stands : goal.returns-clause-stands
returns-clause-stands g c = λ setup t o s.
    let run = c.take_run-run in let n = run.result.taken in let i = c.args.input.now in let a = run.result.put in
    let xs = run.new.output in let m = c.put-put.result in let ys = c.put-put.new.output in
    let less : n < length i = omega (arith, run.ensures.taken, c.if-run-input.false) in
    let within : a ≤ length xs = omega (arith, run.ensures.put, run.auto.output) in
    let t_is : (t ++ take n i) ++ get_or i n 0 ∷ [] ≡ t ++ take (n + 1) i = append_assoc t (take n i) _ ∙ ap (λ x. t ++ x) (sym (take_more i n 0 less)) in
    let o_is : (o ++ take a xs) ++ take m ys ≡ o ++ take (a + m) (put_mid a (length xs - a) xs ys) = append_assoc o (take a xs) _ ∙ ap (λ x. o ++ x) (sym (cut_take a m xs ys within)) in
    subst₂ (Stands setup c.put-put.new.self) t_is o_is (c.put-put.ensures.stands setup _ _ (c.take.ensures.stands setup (t ++ take n i) (o ++ take a xs) (run.ensures.stands setup t o s)))
