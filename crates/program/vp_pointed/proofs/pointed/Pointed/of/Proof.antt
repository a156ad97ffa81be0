-- `of` takes the box's pointer, with what it owns.
use Rattle.std.proofs.Common.{◌≡◌, List, [], ◌∷◌, ◌++◌, refl, ap, ◌∙◌}
use mir.Syntax.{a_type, dcons, dnil}
use mir.Val.{Val}
use mir.MapTy.{inst_fn}
use base.Fraction.{full_share}
use base.Logic.{SProp, emp, id⊢}
use base.Fml.{ftrue, flft}
use contract.BorrowLft.{◌⊑◌, ⊑_refl}
use contract.Monad.{fact, fact_i}
use contract.Running.{tables, tables_of}
use prog.Wp.{WpFn}
use types.Kit.{‵, raw, ◌⊛◌, some, later, prop, ◌$◌, ◌∵◌, !, qed, drop, move, keep, use0, use1, pick, split, fsplit, fjoin, feq_l, join, regoal, await, by}
use types.Run.{enter, of_opd, no_more, and_then, returns}
use types.ByLocal.{alloc_all, pass_all, free_all, look_at, get, sets, lands_as}
use types.Part.{agg}
use denote.Exit.{no}
use denote.Param.{bounded}
use denote.RattleType.{owns}
use denote.RawPtr.{Ptr, RawPtr, block_ptr, ptr_val}
use denote.Signature.{plain, types_at}
use denote.Steps.{nothing, heard, only}
use denote.Triple.Call.{calls_at}
use denote.Triple.Clauses.{Lasts, lasts}
use denote.Triple.Spec.{triple_of}
use denote.Triple.Walked.{Stays, stay_dropped, walk_of}
use Rattle.core.proofs.alloc.Calls.{Goes-blank}
use Rattle.core.proofs.atomic.Steps.{fm}
use Rattle.std.proofs.raw_atomic.Walks.{proved_at, leaves}
use Rattle.std.specs.contracts.boxed.Box.into_raw as IR
use Rattle.std.proofs.boxed.Box.into_raw.Met.{met}
use Rattle.std.proofs.impls.GlobalAllocator.TheImpl.Met.{passed}
use Rattle.std.specs.contracts.impls.GlobalAllocator.TheImpl.{ghosts, dict}
use denote.Param.NoDrop.{glues}
use Rattle.vp_pointed.proofs.Destruct++none.drop.Code as none
use Rattle.vp_pointed.proofs.Pointers.{P, Heap', Heap'-laws, Boxed, Boxed-laws, word, no_drop, tells, pointed_in, in_block}
use Rattle.vp_pointed.specs.Pointers.{owned_at}
use Rattle.vp_pointed.specs.contracts.pointed.Pointed.{the_row}
use Rattle.vp_pointed.specs.contracts.pointed.Pointed.of.{ended, clauses}
use Rattle.vp_pointed.specs.contracts.pointed.Pointed.of.Key.{name as #self}
use Rattle.vp_pointed.proofs.pointed.Pointed.of.Statement.{statement}
use Rattle.vp_pointed.proofs.pointed.Pointed.of.Code as code

pub of_spec : {M : Type 1} → statement M
unfolding tables_of code.code none.code
of_spec {M} 𝓤 𝓛 𝓜 𝓡 wired T L dx glue =
    let H = 𝓛.H in let 𝓣 = tables 𝓤 H 𝓜 𝓡 𝓡.env in let En = ended T dx in let c = clauses T dx 𝓛 𝓜.mem 𝓡.returns in
    let args = bounded (a_type ∷ []) (T, tt) (dcons dx dnil) in let fn = inst_fn args code.function in
    let stayed : Stays En.signature.params En.kept = (stay_dropped (plain (λ _. Boxed T L)) no, tt) in
    proved_at 𝓛 En stayed c 𝓜 𝓡 (Goes-blank 𝓛 1 (plain (λ _. Boxed T L)) no (λ κs x w. tt), tt) (#self args) fn (code.unfolded 𝓤 H 𝓜 𝓡 wired (T, tt) dx) (λ z are.
    let κs = z.0.0 in let qs = z.0.1 in let d = z.0.3.0 in let Post : Val → SProp 𝓤 = (walk_of 𝓛 En stayed c).post z in
    let known = met 𝓤 𝓛 𝓜 𝓡 (code.calls-std_alloc::boxed::Box::into_raw 𝓡.env wired) T Heap' L Heap'-laws ghosts dict no_drop dx
    (passed 𝓡.env (code.calls-std_heap::GlobalAllocator::allocate 𝓡.env wired) (code.calls-std_heap::GlobalAllocator::deallocate 𝓡.env wired) (code.calls-std_heap::GlobalAllocator::grow 𝓡.env wired) (code.calls-std_heap::GlobalAllocator::shrink 𝓡.env wired) M 𝓤 𝓛 𝓜 𝓡)
    (glues "vp_pointed::Destruct++none::drop" 𝓡.env (code.calls-vp_pointed::Destruct++none::drop 𝓡.env wired) Heap' Heap'-laws M 𝓤 𝓛 𝓜 𝓡) glue in
    let k = triple_of 𝓛 (IR.signature T Heap' ghosts dict no_drop dx) (IR.spec T Heap' ghosts dict no_drop dx 𝓛 𝓜.mem 𝓡.returns) in
    let toks = ‵ (flft κs.0 qs.0) ⊛ ‵ ftrue in let asked = raw (fact 𝓤 (κs.0 ⊑ T.lives)) ⊛ ‵ ftrue in
    qed 𝓛 ((toks ⊛ ‵ (owns (types_at En.signature.params κs) z.0.3 z.0.4)) ∷ asked ∷ []) ∵
    move ! (1 ∷ []) $ split ! $ heard ! (κs.0 ⊑ T.lives) (λ le. drop ! $ split ! $ split ! $ move ! (1 ∷ []) $ drop ! $ move ! (1 ∷ []) $ fsplit ! $ tells ! (Boxed T L) (Boxed-laws T L) d z.0.4.0 (λ u is good. move ! (1 ∷ []) $ drop ! $
    regoal ! (λ (us : List Val). prop (WpFn 𝓤 H 𝓣.C 𝓣.Λ fn (us ++ []) Post)) is refl $
    enter ! 𝓣.C 𝓣.Λ fn (u ∷ []) Post $ alloc_all ! (λ l. pass_all ! refl (good, tt) $
    sets ! (of_opd ! (get ! refl)) refl good $
    let y : k.Ghost = (((κs.0, ([], tt)), (qs.0, (full_share, tt)), tt, (d, tt), (u ∷ [], tt)), tt) in
    nothing ! $ use0 𝓛 (raw (fact 𝓤 ([] ⊑ []))) (fact_i 𝓤 ([] ⊑ []) (emp 𝓤) (⊑_refl [])) $ join ! $ use0 𝓛 (raw (fact 𝓤 (κs.0 ⊑ T.lives))) (fact_i 𝓤 (κs.0 ⊑ T.lives) (emp 𝓤) le) $ join ! $
    nothing ! $ move ! (2 ∷ 0 ∷ []) $ fjoin ! $ nothing ! $ use0 𝓛 (‵ (flft [] full_share)) (𝓛.lfts.lft-nil full_share) $ join ! $ move ! (3 ∷ 0 ∷ []) $ join ! $ join ! $ join ! $
    use1 𝓛 (raw (k.pre y)) (id⊢ 𝓤 _) $
    calls_at ! (fm 𝓛 𝓜 𝓡) k known y (and_then ! (get ! refl) (no_more !)) (λ v.
    use1 𝓛 (later (some (λ (r : Ptr). ((‵ (flft κs.0 qs.0) ⊛ ‵ (flft [] full_share) ⊛ ‵ ftrue) ⊛ ‵ (RawPtr.own_val r (v ∷ [])))
    ⊛ some (λ (ws : Lasts (IR.ended T Heap' ghosts dict no_drop dx) (κs.0, ([], tt)) (d, tt)). ‵ (lasts (IR.ended T Heap' ghosts dict no_drop dx) (κs.0, ([], tt)) (d, tt) ws) ⊛ ‵ (owned_at (P T L) r d.value))))) (id⊢ 𝓤 (k.post y v)) $ await ! tt $ pick ! (λ p.
    split ! $ move ! (1 ∷ []) $ pick ! (λ ws. split ! $ drop ! $ move ! (1 ∷ []) $ split ! $ split ! $ move ! (1 ∷ []) $ drop ! $ move ! (1 ∷ []) $ feq_l ! (λ e. move ! (1 ∷ []) $
    in_block (P T L) ! p d.value (λ b o at.
    let h : (the_row (P T L)).Denot = record { at = block_ptr b o; value = d.value } in
    lands_as ! (ap only e ∙ ap ptr_val at) refl (tt, tt) $
    sets ! (agg ! (and_then ! (get ! refl) (no_more !))) refl (tt, (tt, tt)) $
    pointed_in (P T L) ! h $ returns ! (look_at ! 0 refl) $ free_all ! refl $
    use0 𝓛 (raw (fact 𝓤 (h.value ≡ d.value))) (fact_i 𝓤 (h.value ≡ d.value) (emp 𝓤) refl) $ nothing ! $ nothing ! $ fjoin ! $ nothing ! $ move ! (4 ∷ 0 ∷ []) $ join ! $ keep ! (0 ∷ 1 ∷ 3 ∷ 2 ∷ []) $
    by ! (leaves 𝓛 En stayed c z (word (block_ptr b o)) h (tt, tt) (tt, tt)))))))))))
