-- A parked box has the fields of a box, in its order, and owns the same: so the steps that take a
-- box apart and put it together serve for both. Assumes `Logic`.
use Rattle.std.proofs.Common.{◌≡◌, ℕ, List, [], ◌∷◌, ◌++◌, ap, ◌∙◌}
use seplogic.Ra.Ura.{Ura}
use mir.Syntax.{Dict, Args, a_type, dcons, dnil}
use mir.Val.{Val, vstruct, of_list}
use types.Logic.{Logic}
use types.Kit.{Item, Goal, Seq, ‵, ◌$◌, move, drop, fsplit, fpick, feq_l}
use denote.RattleType.{RattleType}
use denote.Builtin.{RawPtr}
use denote.RawPtr.{block_ptr}
use denote.Param.{bounded}
use denote.Param.Laws.{Laws}
use denote.Steps.{only}
use denote.Struct.Tuple.{Tuple}
use Rattle.core.specs.declared.alloc.Allocator.{Ghosts}
use Rattle.core.proofs.alloc.Calls.{Fits, handle_tells}
use Rattle.std_alloc.proofs.BoxSteps.Form.{Bx, P, word, handle}

-- a box of a `T` by an allocator `A`, whose methods and drop are given
abbrev pub boxed : (T A : RattleType) → Laws T → Laws A → Ghosts A.Denot → Dict → Dict → Bx
boxed T A L LA g methods drops = record {
  row = T;
  laws = L;
  al = record { row = A; laws = LA; g = g; d = methods; drops = drops };
}

-- what each of the two functions is an instance at
abbrev pub at_types : (T A : RattleType) → Dict → Dict → Dict → Args
at_types T A methods drops_t drops_a = bounded
    (a_type ∷ a_type ∷ []) (T, (A, tt)) (dcons methods (dcons drops_t (dcons drops_a dnil)))

module _ (E : Bx) {M : Type 1} {𝓤 : Ura M} {𝓛 : Logic 𝓤} {K : Type 0} {Γ : List (Item 𝓤)} {G : Goal 𝓤 𝓛.H} where
  -- a pointer beside an allocator is stored as a box is
  pub pair_out : K → (a : E.al.row.Denot) (b o : ℕ) (u : Val)
      → ((h : Val) → u ≡ word E h b o → Fits E.al h → Seq K 𝓛 (‵ (handle E a h) ∷ Γ) G)
      → Seq K 𝓛 (‵ ((Tuple (RawPtr ∷ P E ∷ [])).own_val (block_ptr b o, a) (u ∷ [])) ∷ Γ) G
  pair_out t a b o u k =
      fpick t (λ vss. fsplit t $ feq_l t (λ whole. fsplit t $ feq_l t (λ first. fsplit t $
      handle_tells E.al t a vss.1.0 (λ h second fits. move t (1 ∷ []) $ drop t $
      k h (ap only (whole ∙ (λ i. vstruct (of_list (first i ++ (second i ++ []))) ∷ []))) fits))))
