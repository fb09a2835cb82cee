-- The machine values of a handle, and how it is made and taken apart. Assumes `Logic`.
use Rattle.std.proofs.Common.{◌≡◌, List, [], ◌∷◌, ◌++◌, refl, subst, lit<}
use Rattle.std.specs.Prelude.{Option, Bool}
use seplogic.Ra.Ura.{Ura}
use mir.Val.{Val, vbool, vstruct, vcons, of_list}
use types.Logic.{Logic}
use types.Kit.{Item, Goal, Seq, Step, step, ‵, ◌$◌, drop, fsplit, fjoin, fpick, fpack, feq_i, feq_l}
use denote.RattleType.{RattleType, Valss}
use denote.Builtin.{bool, RawPtr}
use denote.RawPtr.{Ptr, block_ptr, null_ptr, ptr_val}
use denote.Param.{layout}
use Rattle.core.proofs.cell.Inside.{Good}
use denote.Steps.{nothing}
use denote.Struct.Struct.{within}
use denote.Struct.Owning.{shape}
use Rattle.scram_c.specs.contracts.exchange.Exchange as kept
use Rattle.c_handles.specs.Slot.{slot_owns}
use Rattle.scram_c.specs.contracts.scram_handle.VmScram as handle

abbrev pub W : RattleType
W = kept.the_row

abbrev pub H : RattleType
H = handle.the_row

abbrev pub word : Bool → Ptr → Val
word f p = vstruct (vcons (vbool f) (of_list (ptr_val p ∷ [])))

abbrev pub made : Bool → Ptr → Option W.Denot → H.Denot
made f p v = record { full = f; at = p; value = v }

module _ {M : Type 1} {𝓤 : Ura M} {𝓛 : Logic 𝓤} {K : Type 0} {Γ : List (Item 𝓤)} {G : Goal 𝓤 𝓛.H} where
  pub slot_in : K → (f : Bool) (p : Ptr) (v : Option W.Denot)
      → Step K 𝓛 (‵ (H.own_val (made f p v) (word f p ∷ [])) ∷ Γ) G (‵ (slot_owns W f p v) ∷ Γ) G
  slot_in t f p v = step (λ s.
      nothing t $ feq_i t (List Val) (ptr_val p ∷ []) (ptr_val p ∷ []) refl $ fjoin t $ feq_i t (List Val) (vbool f ∷ []) (vbool f ∷ []) refl $ fjoin t $
      feq_i t (List Val) (word f p ∷ []) (word f p ∷ []) refl $ fjoin t $
      fpack t (Valss (bool ∷ RawPtr ∷ [])) (within (shape handle.the_type) (f, (p, tt)) (word f p ∷ [])) (vbool f ∷ [], (ptr_val p ∷ [], tt)) $ fjoin t $ s)

  pub slot_out : K → (d : H.Denot) (vs : List Val)
      → (vs ≡ word d.full d.at ∷ [] → Seq K 𝓛 (‵ (slot_owns W d.full d.at d.value) ∷ Γ) G)
      → Seq K 𝓛 (‵ (H.own_val d vs) ∷ Γ) G
  slot_out t d vs k =
      fsplit t $ fpick t (λ vss. fsplit t $ feq_l t (λ ev. fsplit t $ feq_l t (λ eb. fsplit t $ feq_l t (λ ep. drop t $
      k (subst (λ (bs : List Val). vs ≡ vstruct (of_list (bs ++ (ptr_val d.at ∷ []))) ∷ []) eb
      (subst (λ (ps : List Val). vs ≡ vstruct (of_list (vss.0 ++ (ps ++ []))) ∷ []) ep ev))))))

-- a handle's machine value has its type
pub word_good : (f : Bool) (p : Ptr) → Good (layout H) (word f p)
word_good f (block_ptr b o) = (tt, (tt, (tt, tt)))
word_good f null_ptr = (tt, (tt, (record { fits = lit< tt }, tt)))
