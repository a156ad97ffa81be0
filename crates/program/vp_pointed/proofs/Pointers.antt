-- The machine values of a pointer, and a box at a call. Assumes `Logic`.
use Rattle.std.proofs.Common.{◌≡◌, ℕ, List, [], ◌∷◌, refl, ap, ◌∙◌}
use lib.Dec.{T}
use seplogic.Ra.Ura.{Ura}
use mir.Syntax.{Dict, given as dict_at, impl, tcons, tnil, dnil}
use mir.Val.{Val, vstruct, vcons, vnil, has_ty, WT}
use base.Logic.{fst∗, never, via, snd∗, guard_i, never_e}
use base.Fml.{ftrue}
use contract.Monad.{fact_use}
use types.Logic.{Logic, sem}
use types.Kit.{Goal, Seq, Step, step, Item, ‵, ◌$◌, given, drop, use1, learn, fsplit, fjoin, fpick, fpack, feq_l, feq_i}
use denote.RattleType.{RattleType, Valss}
use denote.Param.{layout, arg, param}
use denote.Param.Laws.{Laws, arg_laws, param_laws}
use denote.RawPtr.{Ptr, RawPtr, block_ptr, null_ptr, ptr_val, lies_at, Testable, in_a_block}
use denote.Steps.{nothing}
use denote.Struct.Struct.{within}
use denote.Struct.Owning.{shape}
use denote.Memory.{lone}
use denote.Exit.{no}
use mir.Raw.{raw as bare}
use base.Fraction.{full_share}
use Rattle.std.specs.Prelude.{Option, None, Some}
use Rattle.std.specs.contracts.alloc.Global as heap
use Rattle.std.proofs.alloc.Global.TheLaws as heap_laws
use Rattle.std.specs.contracts.impls.GlobalAllocator.TheImpl.{ghosts}
use Rattle.std.proofs.GlobalToken.{dealloc_token-Testable}
use Rattle.std.specs.contracts.boxed.Box as box
use Rattle.std.proofs.boxed.Box.TheLaws as box_laws
use Rattle.core.proofs.alloc.Calls.{handle_tells}
use Rattle.vp_pointed.specs.Pointers.{holds, owned_at, freeable}
use Rattle.vp_pointed.specs.contracts.pointed.Pointed as pointed

abbrev pub Good : RattleType → Val → Type 0
Good R v = T (has_ty (layout R) v) × WT v

abbrev pub Heap : RattleType
Heap = heap.the_row

abbrev pub Heap-laws : Laws Heap
Heap-laws = heap_laws.the_row_laws

-- the same as a call passes it
abbrev pub Heap' : RattleType
Heap' = arg (bare (layout Heap)) no Heap

abbrev pub Heap'-laws : Laws Heap'
Heap'-laws = arg_laws (bare (layout Heap)) no Heap Heap-laws refl

-- the dictionary that a call of a box's function passes: a heap's handle needs no drop
abbrev pub no_drop : Dict
no_drop = impl ("vp_pointed::Destruct++none::drop" ∷ []) (tcons (layout Heap') tnil) dnil

-- a struct of a pointer alone
abbrev pub word : Ptr → Val
word p = vstruct (vcons (ptr_val p) vnil)

module _ (R : RattleType) (L : Laws R) where
  abbrev pub P : RattleType
  P = param 0 R

  abbrev pub Boxed : RattleType
  Boxed = box.the_row P Heap ghosts

  abbrev pub Boxed-laws : Laws Boxed
  Boxed-laws = box_laws.the_row_laws P Heap ghosts (param_laws 0 R L) Heap-laws

abbrev pub Row : RattleType → RattleType
Row R = pointed.the_row R

module _ {M : Type 1} {𝓤 : Ura M} {𝓛 : Logic 𝓤} {K : Type 0} {Γ : List (Item 𝓤)} {G : Goal 𝓤 𝓛.H} where
  -- what is owned is one machine value, of its type
  pub tells : K → (S : RattleType) → Laws S → (x : S.Denot) (vs : List Val) → ((v : Val) → vs ≡ v ∷ [] → Good S v → Seq K 𝓛 (‵ (S.own_val x (v ∷ [])) ∷ Γ) G) → Seq K 𝓛 (‵ (S.own_val x vs) ∷ Γ) G
  tells t S L = handle_tells (record { row = S; laws = L; g = record { dealloc_token = λ a τ p. ftrue }; d = dict_at 0; drops = dict_at 0 }) t

  module _ (R : RattleType) where
    pub pointed_in : K → (h : (Row R).Denot) → Step K 𝓛 (‵ ((Row R).own_val h (word h.at ∷ [])) ∷ Γ) G (‵ (owned_at R h.at h.value) ∷ Γ) G
    pointed_in t h = step (λ s.
        nothing t $ feq_i t (List Val) (ptr_val h.at ∷ []) (ptr_val h.at ∷ []) refl $ fjoin t $ feq_i t (List Val) (word h.at ∷ []) (word h.at ∷ []) refl $ fjoin t $
        fpack t (Valss (RawPtr ∷ [])) (within (shape (pointed.the_type R)) (h.at, tt) (word h.at ∷ [])) (ptr_val h.at ∷ [], tt) $ fjoin t $ s)

    pub pointed_out : K → (h : (Row R).Denot) (vs : List Val) → (vs ≡ word h.at ∷ [] → Seq K 𝓛 (‵ (owned_at R h.at h.value) ∷ Γ) G) → Seq K 𝓛 (‵ ((Row R).own_val h vs) ∷ Γ) G
    pointed_out t h vs k =
        fsplit t $ fpick t (λ vss. fsplit t $ feq_l t (λ ev. fsplit t $ feq_l t (λ ep. drop t $ k (ev ∙ ap (λ (ps : List Val). vstruct (mir.Val.of_list (mathlib.Core.List.◌++◌ ps [])) ∷ []) ep))))

    -- a value has a block
    pub in_block : K → (p : Ptr) (x : R.Denot) → ((b o : ℕ) → p ≡ block_ptr b o → Seq K 𝓛 (‵ (owned_at R (block_ptr b o) x) ∷ Γ) G) → Seq K 𝓛 (‵ (owned_at R p x) ∷ Γ) G
    in_block t p x k = in_a_block t p (λ q. owned_at R q x) (fst∗ 𝓤 (never 𝓤) (sem 𝓛 (freeable (bare (lone R.mir)) null_ptr))) (λ b o at. k b o at)

    -- null, or a value, whose pointer may be compared with null
    pub either : K → (p : Ptr) (x : Option R.Denot) → (p ≡ null_ptr → x ≡ None → Seq K 𝓛 Γ G)
        → ((b o : ℕ) (y : R.Denot) → p ≡ block_ptr b o → x ≡ Some y → Testable (block_ptr b o) → Seq K 𝓛 (‵ (owned_at R (block_ptr b o) y) ∷ Γ) G) → Seq K 𝓛 (‵ (holds R p x) ∷ Γ) G
    either t null_ptr None nil one = drop t $ nil refl refl
    either t null_ptr (Some y) nil one = use1 𝓛 (given ⊥ (‵ ftrue)) (never_e 𝓤 _) $ learn t (λ z. absurd z)
    either t (block_ptr b o) None nil one = use1 𝓛 (given ⊥ (‵ ftrue)) (never_e 𝓤 _) $ learn t (λ z. absurd z)
    either t (block_ptr b o) (Some y) nil one =
        use1 𝓛 (given (Testable (block_ptr b o)) (‵ (owned_at R (block_ptr b o) y)))
        (fact_use 𝓤 (Testable (block_ptr b o)) (via 𝓤 _ (snd∗ 𝓤 (sem 𝓛 (lies_at R full_share (block_ptr b o) y)) (sem 𝓛 (freeable (bare (lone R.mir)) (block_ptr b o)))) (dealloc_token-Testable 𝓛 (record { memory = record { seal = tt } }) (bare (lone R.mir)) (block_ptr b o))) (guard_i 𝓤 (Testable (block_ptr b o)) (sem 𝓛 (owned_at R (block_ptr b o) y)))) $
        learn t (λ e. one b o y refl refl e)
