-- `into_box` makes the box of the pointer again, with what the handle owns.
use Rattle.std.proofs.Common.{◌≡◌, List, [], ◌∷◌, ◌++◌, refl, sym, ap, subst, ◌∙◌}
use mir.Syntax.{a_type, dnil}
use mir.Val.{Val, vptr}
use mir.MapTy.{inst_fn}
use base.Fraction.{full_share}
use base.Logic.{SProp, emp, id⊢}
use base.Fml.{ftrue, flft}
use contract.BorrowLft.{◌⊑◌, ⊑_refl}
use contract.Monad.{fact, fact_i}
use contract.Running.{tables, tables_of}
use prog.Wp.{WpFn}
use types.Kit.{‵, raw, ◌⊛◌, some, later, prop, at_ret, ◌$◌, ◌∵◌, !, qed, drop, keep, move, use0, use1, pick, split, split3, fsplit, fjoin, feq_i, join, regoal, rewrite, await, by}
use types.Run.{enter, of_opd, stop, fld, no_more, and_then, first, blocks, exec, returns}
use types.ByLocal.{alloc_all, pass_all, free_all, look_at, get, get_in, sets, lands_last, env}
use types.Part.{sub, whole}
use denote.Exit.{yes, no}
use denote.Param.{bounded}
use denote.RattleType.{RattleType, owns}
use denote.RawPtr.{block_ptr}
use denote.Signature.{plain, types_at, type_at}
use denote.Steps.{nothing, heard, only}
use denote.Triple.Call.{calls_at_last}
use denote.Triple.Clauses.{Lasts, lasts}
use denote.Triple.Spec.{triple_of}
use denote.Triple.Walked.{Stays, stay_dropped, walk_of}
use Rattle.core.proofs.alloc.Calls.{Goes-blank}
use Rattle.core.proofs.alloc.Shapes.{after}
use Rattle.core.proofs.atomic.Steps.{fm}
use Rattle.std.proofs.raw_atomic.Walks.{proved_at, leaves}
use Rattle.std.specs.contracts.boxed.Box.from_raw as FR
use Rattle.std.proofs.boxed.Box.from_raw.Met.{met}
use Rattle.std.proofs.impls.GlobalAllocator.TheImpl.Met.{passed}
use Rattle.std.specs.contracts.impls.GlobalAllocator.TheImpl.{ghosts, dict}
use denote.Param.NoDrop.{glues}
use Rattle.vp_pointed.proofs.Destruct++none.drop.Code as none
use Rattle.vp_pointed.proofs.Pointers.{Good, P, Heap, Heap-laws, Heap', Heap'-laws, Boxed, Boxed-laws, word, no_drop, tells, pointed_out, in_block}
use Rattle.vp_pointed.specs.contracts.pointed.Pointed.{the_row}
use Rattle.vp_pointed.specs.contracts.pointed.Pointed.into_box.{ended, clauses}
use Rattle.vp_pointed.specs.contracts.pointed.Pointed.into_box.Key.{name as #self}
use Rattle.vp_pointed.proofs.pointed.Pointed.into_box.Statement.{statement}
use Rattle.vp_pointed.proofs.pointed.Pointed.into_box.Code as code

pub into_box_spec : {M : Type 1} → statement M
unfolding tables_of code.code none.code
into_box_spec {M} 𝓤 𝓛 𝓜 𝓡 wired T L =
    let H = 𝓛.H in let 𝓣 = tables 𝓤 H 𝓜 𝓡 𝓡.env in let En = ended T in let c = clauses T 𝓛 𝓜.mem 𝓡.returns in
    let args = bounded (a_type ∷ []) (T, tt) dnil in let fn = inst_fn args code.function in
    let stayed : Stays En.signature.params En.kept = (stay_dropped (plain (λ _. the_row (P T L))) no, (stay_dropped (plain (λ _. Heap)) yes, tt)) in
    proved_at 𝓛 En stayed c 𝓜 𝓡 (Goes-blank 𝓛 1 (plain (λ _. the_row (P T L))) no (λ κs x w. tt), (Goes-blank 𝓛 1 (plain (λ _. Heap)) yes (λ κs x w. tt), tt)) (#self args) fn (code.unfolded 𝓤 H 𝓜 𝓡 wired (T, tt)) (λ z are.
    let κs = z.0.0 in let qs = z.0.1 in let h = z.0.3.0 in let a = z.0.3.1.0 in let Post : Val → SProp 𝓤 = (walk_of 𝓛 En stayed c).post z in
    let Out : RattleType = type_at En.signature.result κs in let B : RattleType = Boxed T L in
    let known = met 𝓤 𝓛 𝓜 𝓡 (code.calls-std_alloc::boxed::Box::from_raw 𝓡.env wired) T Heap' L Heap'-laws ghosts dict no_drop
    (passed 𝓡.env (code.calls-std_heap::GlobalAllocator::allocate 𝓡.env wired) (code.calls-std_heap::GlobalAllocator::deallocate 𝓡.env wired) (code.calls-std_heap::GlobalAllocator::grow 𝓡.env wired) (code.calls-std_heap::GlobalAllocator::shrink 𝓡.env wired) M 𝓤 𝓛 𝓜 𝓡)
    (glues "vp_pointed::Destruct++none::drop" 𝓡.env (code.calls-vp_pointed::Destruct++none::drop 𝓡.env wired) Heap' Heap'-laws M 𝓤 𝓛 𝓜 𝓡) in
    let k = triple_of 𝓛 (FR.signature T Heap' ghosts dict no_drop) (FR.spec T Heap' ghosts dict no_drop 𝓛 𝓜.mem 𝓡.returns) in
    let toks = ‵ (flft κs.0 qs.0) ⊛ ‵ ftrue in let asked = raw (fact 𝓤 (κs.0 ⊑ T.lives)) ⊛ ‵ ftrue in
    qed 𝓛 ((toks ⊛ ‵ (owns (types_at En.signature.params κs) z.0.3 z.0.4)) ∷ asked ∷ []) ∵
    move ! (1 ∷ []) $ split ! $ heard ! (κs.0 ⊑ T.lives) (λ le. drop ! $ split ! $ split ! $ move ! (1 ∷ []) $ drop ! $ move ! (1 ∷ []) $ fsplit ! $ move ! (1 ∷ []) $ fsplit ! $ tells ! Heap Heap-laws a z.0.4.1.0 (λ u is good. move ! (1 ∷ []) $ drop ! $ move ! (1 ∷ []) $
    pointed_out (P T L) ! h z.0.4.0 (λ ish. in_block (P T L) ! h.at h.value (λ b o at.
    regoal ! (λ (us : List Val). prop (WpFn 𝓤 H 𝓣.C 𝓣.Λ fn (us ++ (z.0.4.1.0 ++ [])) Post)) (ish ∙ ap (λ p. word p ∷ []) at) refl $
    regoal ! (λ (us : List Val). prop (WpFn 𝓤 H 𝓣.C 𝓣.Λ fn (word (block_ptr b o) ∷ (us ++ [])) Post)) is refl $
    enter ! 𝓣.C 𝓣.Λ fn (word (block_ptr b o) ∷ u ∷ []) Post $ alloc_all ! (λ l. pass_all ! refl ((tt, (tt, tt)), (good, tt)) $ let Ev = env fn.locals l in
    sets ! (of_opd ! (get_in ! (fld ! refl (stop !)) (sub ! 0 refl (whole !)))) refl (tt, tt) $
    first ! $ blocks ! $
    let y : k.Ghost = (((κs.0, ([], tt)), (qs.0, (full_share, tt)), tt, (a, (block_ptr b o, tt)), (u ∷ [], (vptr b o ∷ [], tt))), h.value) in
    use0 𝓛 (raw (fact 𝓤 ([] ⊑ []))) (fact_i 𝓤 ([] ⊑ []) (emp 𝓤) (⊑_refl [])) $ join ! $ use0 𝓛 (raw (fact 𝓤 (κs.0 ⊑ T.lives))) (fact_i 𝓤 (κs.0 ⊑ T.lives) (emp 𝓤) le) $ join ! $
    nothing ! $ feq_i ! (List Val) (vptr b o ∷ []) (vptr b o ∷ []) refl $ fjoin ! $ move ! (2 ∷ 0 ∷ []) $ fjoin ! $
    nothing ! $ use0 𝓛 (‵ (flft [] full_share)) (𝓛.lfts.lft-nil full_share) $ join ! $ move ! (3 ∷ 0 ∷ []) $ join ! $ join ! $ join ! $
    use1 𝓛 (raw (k.pre y)) (id⊢ 𝓤 _) $
    calls_at_last ! (fm 𝓛 𝓜 𝓡) k known y (and_then ! (get ! refl) (and_then ! (get ! refl) (no_more !))) (λ v.
    use1 𝓛 (later (some (λ (r : B.Denot). ((‵ (flft κs.0 qs.0) ⊛ ‵ (flft [] full_share) ⊛ ‵ ftrue) ⊛ ‵ (B.own_val r (v ∷ [])))
    ⊛ some (λ (ws : Lasts (FR.ended T Heap' ghosts dict no_drop) (κs.0, ([], tt)) (a, (block_ptr b o, tt))). ‵ (lasts (FR.ended T Heap' ghosts dict no_drop) (κs.0, ([], tt)) (a, (block_ptr b o, tt)) ws) ⊛ (raw (fact 𝓤 (r.value ≡ h.value)) ⊛ raw (fact 𝓤 (r.alloc ≡ a))))))) (id⊢ 𝓤 (k.post y v)) $ await ! tt $ pick ! (λ r.
    split ! $ move ! (1 ∷ []) $ pick ! (λ ws. split3 ! $ drop ! $ move ! (1 ∷ []) $ drop ! $ move ! (1 ∷ []) $ split ! $ split ! $ move ! (1 ∷ []) $ drop ! $ move ! (1 ∷ []) $
    tells ! B (Boxed-laws T L) r (v ∷ []) (λ w isw fine.
    let ok : Good B v = subst (Good B) (sym (ap only isw)) fine in
    rewrite ! 0 (λ (j : Val). ‵ (B.own_val r (j ∷ []))) (sym (ap only isw)) refl $
    lands_last ! refl ok $ exec ! 𝓣.C 𝓣.Λ Ev (after 2 fn.body) (at_ret Ev Post) $ sets ! (of_opd ! (get ! refl)) refl ok $
    returns ! (look_at ! 0 refl) $ free_all ! refl $
    move ! (2 ∷ 0 ∷ 1 ∷ []) $ nothing ! $ nothing ! $ fjoin ! $ nothing ! $ fjoin ! $ nothing ! $ move ! (4 ∷ 0 ∷ []) $ join ! $ keep ! (0 ∷ 1 ∷ 3 ∷ 2 ∷ []) $
    by ! (leaves 𝓛 En stayed c z v r (tt, (tt, tt)) (tt, (tt, tt)))))))))))))
