-- The machine values of a handle. Assumes `Logic`.
use Rattle.std.proofs.Common.{◌≡◌, List, [], ◌∷◌, refl, ap, ◌∙◌}
use seplogic.Ra.Ura.{Ura}
use mir.Val.{Val, vstruct}
use types.Logic.{Logic}
use types.Kit.{Goal, Seq, Step, step, Item, ‵, ◌$◌, drop, fsplit, fjoin, fpick, fpack, feq_l, feq_i}
use denote.RattleType.{RattleType, Valss}
use denote.RawPtr.{RawPtr, ptr_val}
use denote.Steps.{nothing}
use denote.Struct.Struct.{within}
use denote.Struct.Owning.{shape}
use Rattle.vp_pointed.specs.Pointers.{holds}
use Rattle.vp_pointed.proofs.Pointers.{word}
use Rattle.vp_asking.specs.contracts.asker.Asker as asker
use Rattle.vp_asking.specs.contracts.handle.AskerHandle as handle

abbrev pub P : RattleType
P = asker.the_row

abbrev pub Held : RattleType
Held = handle.the_row

module _ {M : Type 1} {𝓤 : Ura M} {𝓛 : Logic 𝓤} {K : Type 0} {Γ : List (Item 𝓤)} {G : Goal 𝓤 𝓛.H} where
  pub handle_in : K → (h : Held.Denot) → Step K 𝓛 (‵ (Held.own_val h (word h.at ∷ [])) ∷ Γ) G (‵ (holds P h.at h.asker) ∷ Γ) G
  handle_in t h = step (λ s.
      nothing t $ feq_i t (List Val) (ptr_val h.at ∷ []) (ptr_val h.at ∷ []) refl $ fjoin t $ feq_i t (List Val) (word h.at ∷ []) (word h.at ∷ []) refl $ fjoin t $
      fpack t (Valss (RawPtr ∷ [])) (within (shape handle.the_type) (h.at, tt) (word h.at ∷ [])) (ptr_val h.at ∷ [], tt) $ fjoin t $ s)

  pub handle_out : K → (h : Held.Denot) (vs : List Val) → (vs ≡ word h.at ∷ [] → Seq K 𝓛 (‵ (holds P h.at h.asker) ∷ Γ) G) → Seq K 𝓛 (‵ (Held.own_val h vs) ∷ Γ) G
  handle_out t h vs k =
      fsplit t $ fpick t (λ vss. fsplit t $ feq_l t (λ ev. fsplit t $ feq_l t (λ ep. drop t $ k (ev ∙ ap (λ (ps : List Val). vstruct (mir.Val.of_list (mathlib.Core.List.◌++◌ ps [])) ∷ []) ep))))
