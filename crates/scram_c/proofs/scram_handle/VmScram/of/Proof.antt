-- `of` keeps the pointer of a box, and the box with it.
use Rattle.std.proofs.Common.{◌≡◌, List, [], ◌∷◌, ◌++◌, refl, sym, subst}
use Rattle.std.specs.Prelude.{Some, Bool, true}
use mir.Val.{Val, vptr}
use base.Logic.{SProp, ent, emp, id⊢}
use contract.Monad.{fact, fact_i}
use prog.Wp.{WpFn}
use contract.Running.{tables}
use types.Kit.{‵, raw, ◌⊛◌, ◌$◌, ◌∵◌, !, qed, by, move, keep, drop, split, fsplit, fjoin, feq_i, use0, suffices}
use types.Part.{agg, sub, whole}
use types.Run.{stop, fld, of_opd, true_lit, no_more, and_then, returns, enter}
use types.ByLocal.{alloc_all, pass_all, free_all, look_at, get, get_in, sets}
use denote.RattleType.{owns}
use denote.RawPtr.{block_ptr}
use denote.Signature.{types_at, plain}
use denote.Exit.{yes}
use denote.Steps.{nothing}
use denote.Triple.Entry.{alive}
use denote.Triple.Walked.{Stays, stay_dropped, walk_of}
use Rattle.core.proofs.alloc.Calls.{Goes-blank}
use Rattle.std.proofs.raw_atomic.Walks.{proved_at, leaves}
use Rattle.std.specs.contracts.alloc.Global as heap
use Rattle.std.proofs.alloc.Global.TheLaws as heap_laws
use Rattle.std.specs.contracts.impls.GlobalAllocator.TheImpl.{ghosts}
use Rattle.c_handles.proofs.Parts.{both, Parked, parked_good, parked_out}
use Rattle.scram_c.proofs.ScramSlots.{W, word, made, slot_in}
use Rattle.c_handles.specs.Slot.{slot_owns}
use Rattle.scram_c.specs.contracts.scram_handle.VmScram.of.{ended, clauses}
use Rattle.scram_c.specs.contracts.scram_handle.VmScram.of.Key.{name as #self}
use Rattle.scram_c.proofs.scram_handle.VmScram.of.Statement.{statement}
use Rattle.scram_c.proofs.scram_handle.VmScram.of.Code as code

pub of_spec : {M : Type 1} → statement M
unfolding slot_owns
of_spec 𝓤 𝓛 𝓜 𝓡 wired =
    let 𝓣 = tables 𝓤 𝓛.H 𝓜 𝓡 𝓡.env in let c = clauses 𝓛 𝓜.mem 𝓡.returns in let Z = heap.the_row in let LZ = heap_laws.the_row_laws in
    let hs : Stays ended.signature.params ended.kept = (stay_dropped _ yes, tt) in
    proved_at 𝓛 ended hs c 𝓜 𝓡 (Goes-blank 𝓛 0 (plain (λ _. Parked W Z LZ ghosts)) yes (λ κs x f. tt), tt) #self code.function (code.unfolded 𝓤 𝓛.H 𝓜 𝓡 wired) (λ z are.
    let Post : Val → SProp 𝓤 = (walk_of 𝓛 ended hs c).post z in let v = z.0.3.0 in let Run : List Val → SProp 𝓤 = λ ws. WpFn 𝓤 𝓛.H 𝓣.C 𝓣.Λ code.function ws Post in
    qed 𝓛 ((raw (alive 𝓛 ended.signature z.0.0 z.0.1) ⊛ ‵ (owns (types_at ended.signature.params z.0.0) z.0.3 z.0.4)) ∷ raw ((c z.0.0 z.0.3).requires z.1) ∷ []) ∵ move ! (1 ∷ []) $ drop ! $ split ! $ move ! (1 ∷ []) $ fsplit ! $
    parked_out W Z LZ ghosts ! v z.0.4.0 (λ b o h e ws fits.
    -- [the box; the handle of the heap; no more parameters; what lives]
    let w : Val = both (vptr b o) h in let p = block_ptr b o in
    suffices ! (Run (w ∷ [])) (subst (λ (us : List Val). ent 𝓤 (Run (w ∷ [])) (Run us)) (sym (λ i. ws i ++ [])) (id⊢ 𝓤 (Run (w ∷ [])))) $
    enter ! 𝓣.C 𝓣.Λ code.function (w ∷ []) Post $ alloc_all ! (λ l. pass_all ! refl (parked_good W Z LZ ghosts b o h fits, tt) $
    sets ! (of_opd ! (get_in ! (fld ! refl (stop !)) (sub ! 0 refl (whole !)))) refl (tt, tt) $
    sets ! (of_opd ! (get ! refl)) refl (tt, tt) $
    sets ! (agg ! (and_then ! (true_lit !) (and_then ! (get ! refl) (no_more !)))) refl (tt, (tt, (tt, tt))) $
    feq_i ! Bool true true refl $ fjoin ! $ slot_in ! true p (Some v.value) $
    use0 𝓛 (raw (fact 𝓤 (Some v.value ≡ Some v.value))) (fact_i 𝓤 (Some v.value ≡ Some v.value) (emp 𝓤) refl) $
    nothing ! $ nothing ! $ fjoin ! $
    returns ! (look_at ! 0 refl) $ free_all ! refl $ keep ! (5 ∷ 0 ∷ 2 ∷ 1 ∷ []) $
    by ! (leaves 𝓛 ended hs c z (word true p) (made true p (Some v.value)) (tt, tt) (tt, tt)))))
