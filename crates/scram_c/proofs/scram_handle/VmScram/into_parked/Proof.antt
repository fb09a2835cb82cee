-- `into_parked` takes the handle apart: its box, where it has one.
use Rattle.std.proofs.Common.{◌≡◌, List, [], ◌∷◌, ◌++◌, refl, sym, subst, lit<}
use Rattle.std.specs.Prelude.{Option, Some, None, Bool, true, false, T, option_map}
use mir.Val.{Val, vptr, vcons, vnil}
use base.Logic.{SProp, ent, sep, emp, id⊢, never, fst∗}
use types.Logic.{sem}
use types.Match.{live}
use seplogic.Ra.Ura.{Ura}
use types.Logic.{Logic}
use prog.Model.{Model}
use contract.Running.{Running, MachineTables}
use denote.Triple.Clauses.{Clauses}
use mir.Syntax.{impl, tnil, dnil}
use denote.RattleType.{RattleType}
use denote.Param.{layout}
use Rattle.core.proofs.cell.Inside.{Good}
use Rattle.core.proofs.alloc.Calls.{Al, handle_tells}
use Rattle.core.specs.contracts.option.Option as OP
use Rattle.std_alloc.proofs.ResultValues.{and_tt}
use Rattle.std.specs.Box.Ownership.{box_owns}
use Rattle.c_handles.specs.Slot.{may_free}
use mir.Raw.{raw as bare}
use contract.Monad.{fact, fact_i}
use prog.Wp.{WpFn}
use contract.Running.{tables}
use types.Kit.{‵, raw, prop, at_ret, ◌⊛◌, ◌$◌, ◌∵◌, !, qed, by, move, keep, drop, split, fsplit, fjoin, feq_l, use0, use1, suffices, regoal}
use types.Part.{agg, sub, whole}
use types.Run.{stop, fld, lit, of_opd, no_more, and_then, first, branches, exec, returns, enter}
use types.ByLocal.{alloc_all, pass_all, free_all, look_at, get, get_in, sets, sets_last, env}
use denote.RattleType.{owns}
use denote.RawPtr.{Ptr, block_ptr, null_ptr, in_a_block}
use denote.Memory.{lone}
use denote.Signature.{types_at, plain}
use denote.Exit.{yes}
use denote.Steps.{nothing}
use denote.Triple.Entry.{alive}
use denote.Triple.Walked.{Stays, stay_dropped, walk_of}
use Rattle.core.proofs.alloc.Calls.{Goes-blank}
use Rattle.core.proofs.alloc.Shapes.{after}
use Rattle.core.proofs.atomic.Steps.{Ptr-Good}
use Rattle.core.proofs.option.Made.{Some-of, none_of}
use Rattle.std.proofs.raw_atomic.Walks.{proved_at, leaves}
use Rattle.std.specs.contracts.alloc.Global as heap
use Rattle.std.proofs.alloc.Global.TheLaws as heap_laws
use Rattle.std.specs.contracts.impls.GlobalAllocator.TheImpl.{ghosts}
use Rattle.c_handles.proofs.Parts.{both, Parked, parked_good, parked_in}
use Rattle.scram_c.proofs.ScramSlots.{W, word, made, slot_out, word_good}
use Rattle.c_handles.specs.Slot.{slot_owns}
use Rattle.scram_c.specs.contracts.scram_handle.VmScram.{the_row as H}
use Rattle.scram_c.specs.contracts.scram_handle.VmScram.into_parked.{ended, clauses}
use Rattle.scram_c.specs.contracts.scram_handle.VmScram.into_parked.Key.{name as #self}
use Rattle.scram_c.proofs.scram_handle.VmScram.into_parked.Statement.{statement}
use Rattle.scram_c.proofs.scram_handle.VmScram.into_parked.Code as code

abbrev Z : RattleType
Z = heap.the_row

abbrev Lr : RattleType
Lr = Parked W Z heap_laws.the_row_laws ghosts

abbrev al : Al
al = record { row = Z; laws = heap_laws.the_row_laws; g = ghosts; d = impl [] tnil dnil; drops = impl [] tnil dnil }

abbrev hs : Stays ended.signature.params ended.kept
hs = (stay_dropped _ yes, (stay_dropped _ yes, tt))

module _ {M : Type 1} {𝓤 : Ura M} (𝓛 : Logic 𝓤) (𝓜 : Model 𝓤 𝓛.H) (𝓡 : Running 𝓤 𝓛.H 𝓜) where
  abbrev 𝓣 : MachineTables 𝓤 𝓛.H 𝓜
  𝓣 = tables 𝓤 𝓛.H 𝓜 𝓡 𝓡.env

  abbrev c : Clauses 𝓤 ended
  c = clauses 𝓛 𝓜.mem 𝓡.returns

  abbrev Ghost : Type 0
  Ghost = (walk_of 𝓛 ended hs c).Ghost

  abbrev by_parts : Ghost → Bool → Ptr → Option W.Denot → Ghost
  by_parts z f p v = ((z.0.0, z.0.1, z.0.2, (made f p v, z.0.3.1), z.0.4), z.1)

  abbrev Runs : Ghost → Val → Bool → Ptr → Option W.Denot → SProp 𝓤
  Runs z h f p v = WpFn 𝓤 𝓛.H 𝓣.C 𝓣.Λ code.function (word f p ∷ h ∷ []) ((walk_of 𝓛 ended hs c).post (by_parts z f p v))

  abbrev Held : Ghost → Val → Bool → Ptr → Option W.Denot → SProp 𝓤
  Held z h f p v = sep 𝓤 (sem 𝓛 (slot_owns W f p v)) (sep 𝓤 (sem 𝓛 (Z.own_val z.0.3.1.0 (h ∷ []))) (alive 𝓛 ended.signature z.0.0 z.0.1))

  each : (z : Ghost) (h : Val) → Good (layout Z) h → (f : Bool) (p : Ptr) (v : Option W.Denot) → ent 𝓤 (Held z h f p v) (Runs z h f p v)
  unfolding slot_owns
  each z h fits true p (Some x) =
      qed 𝓛 (‵ (slot_owns W true p (Some x)) ∷ ‵ (Z.own_val z.0.3.1.0 (h ∷ [])) ∷ raw (alive 𝓛 ended.signature z.0.0 z.0.1) ∷ []) ∵ fsplit ! $ feq_l ! (λ _.
      in_a_block ! p (λ q. box_owns may_free W q x) (fst∗ 𝓤 (never 𝓤) (sem 𝓛 (may_free (bare (lone W.mir)) null_ptr))) (λ b o e.
      regoal ! (λ (q : Ptr). prop (Runs z h true q (Some x))) e refl $
      let Post : Val → SProp 𝓤 = (walk_of 𝓛 ended hs c).post (by_parts z true (block_ptr b o) (Some x)) in let a = z.0.3.1.0 in let fn = code.function in
      let held : Val = both (vptr b o) h in let typed = parked_good W Z heap_laws.the_row_laws ghosts b o h fits in let out : Val = live 1 (vcons held vnil) in
      let d : Lr.Denot = record { at = block_ptr b o; alloc = a; value = x } in
      let good : Good (layout ((OP.the_row Lr))) out = (and_tt _ typed.0, (record { fits = lit< tt }, (typed.1, tt))) in
      enter ! 𝓣.C 𝓣.Λ fn (word true (block_ptr b o) ∷ h ∷ []) Post $ alloc_all ! (λ l. pass_all ! refl (word_good true (block_ptr b o), (fits, tt)) $ let Ev = env fn.locals l in
      sets ! (of_opd ! (get_in ! (fld ! refl (stop !)) (sub ! 0 refl (whole !)))) refl (tt, tt) $
      sets ! (of_opd ! (get_in ! (fld ! refl (stop !)) (sub ! 1 refl (whole !)))) refl (tt, tt) $
      sets ! (of_opd ! (get ! refl)) refl (tt, tt) $ first ! $ branches ! (get ! refl) (λ _.
      sets ! (of_opd ! (get ! refl)) refl (tt, tt) $
      sets ! (agg ! (and_then ! (get ! refl) (and_then ! (get ! refl) (no_more !)))) refl typed $
      sets_last ! (agg ! (and_then ! (lit ! tt) (and_then ! (get ! refl) (no_more !)))) refl good $
      exec ! 𝓣.C 𝓣.Λ Ev (after 4 fn.body) (at_ret Ev Post) $ sets ! (of_opd ! (get ! refl)) refl good $
      parked_in W Z heap_laws.the_row_laws ghosts ! b o h a x $
      use1 𝓛 (‵ ((OP.the_row Lr).own_val (Some d) (out ∷ []))) (Some-of 𝓛 Lr d held) $
      use0 𝓛 (raw (fact 𝓤 (option_map (λ (l : Lr.Denot). l.value) (Some d) ≡ Some x))) (fact_i 𝓤 _ (emp 𝓤) refl) $
      nothing ! $ nothing ! $ fjoin ! $ nothing ! $ fjoin ! $
      returns ! (look_at ! 0 refl) $ free_all ! refl $ keep ! (3 ∷ 0 ∷ 2 ∷ 1 ∷ []) $
      by ! (leaves 𝓛 ended hs c (by_parts z true (block_ptr b o) (Some x)) out (Some d) (tt, (tt, tt)) (tt, (tt, tt)))) (λ wrong. absurd wrong))))
  each z h fits false p (Some x) =
      qed 𝓛 (‵ (slot_owns W false p (Some x)) ∷ ‵ (Z.own_val z.0.3.1.0 (h ∷ [])) ∷ raw (alive 𝓛 ended.signature z.0.0 z.0.1) ∷ []) ∵ fsplit ! $ feq_l ! (λ e. absurd (subst T (sym e) tt))
  each z h fits true p None =
      qed 𝓛 (‵ (slot_owns W true p None) ∷ ‵ (Z.own_val z.0.3.1.0 (h ∷ [])) ∷ raw (alive 𝓛 ended.signature z.0.0 z.0.1) ∷ []) ∵ feq_l ! (λ e. absurd (subst T e tt))
  each z h fits false p None =
      qed 𝓛 (‵ (slot_owns W false p None) ∷ ‵ (Z.own_val z.0.3.1.0 (h ∷ [])) ∷ raw (alive 𝓛 ended.signature z.0.0 z.0.1) ∷ []) ∵ feq_l ! (λ _.
      let Post : Val → SProp 𝓤 = (walk_of 𝓛 ended hs c).post (by_parts z false p None) in let fn = code.function in let none : Option W.Denot = None in
      enter ! 𝓣.C 𝓣.Λ fn (word false p ∷ h ∷ []) Post $ alloc_all ! (λ l. pass_all ! refl (word_good false p, (fits, tt)) $ let Ev = env fn.locals l in
      sets ! (of_opd ! (get_in ! (fld ! refl (stop !)) (sub ! 0 refl (whole !)))) refl (tt, tt) $
      sets ! (of_opd ! (get_in ! (fld ! refl (stop !)) (sub ! 1 refl (whole !)))) refl (Ptr-Good p) $
      sets ! (of_opd ! (get ! refl)) refl (tt, tt) $ first ! $ branches ! (get ! refl) (λ wrong. absurd wrong) (λ _.
      sets_last ! (agg ! (and_then ! (lit ! tt) (no_more !))) refl (tt, (record { fits = lit< tt }, tt)) $
      exec ! 𝓣.C 𝓣.Λ Ev (after 4 fn.body) (at_ret Ev Post) $ sets ! (of_opd ! (get ! refl)) refl (tt, (record { fits = lit< tt }, tt)) $
      use0 𝓛 (‵ ((OP.the_row Lr).own_val None (live 0 vnil ∷ []))) (none_of 𝓛 Lr) $
      use0 𝓛 (raw (fact 𝓤 (none ≡ none))) (fact_i 𝓤 (none ≡ none) (emp 𝓤) refl) $
      nothing ! $ nothing ! $ fjoin ! $ nothing ! $ fjoin ! $
      returns ! (look_at ! 0 refl) $ free_all ! refl $ keep ! (4 ∷ 0 ∷ 2 ∷ 1 ∷ []) $
      by ! (leaves 𝓛 ended hs c (by_parts z false p None) (live 0 vnil) None (tt, (tt, tt)) (tt, (tt, tt))))))

pub into_parked_spec : {M : Type 1} → statement M
into_parked_spec 𝓤 𝓛 𝓜 𝓡 wired =
    proved_at 𝓛 ended hs (c 𝓛 𝓜 𝓡) 𝓜 𝓡 (Goes-blank 𝓛 0 (plain (λ _. H)) yes (λ κs x f. tt), (Goes-blank 𝓛 0 (plain (λ _. Z)) yes (λ κs x f. tt), tt)) #self code.function (code.unfolded 𝓤 𝓛.H 𝓜 𝓡 wired) (λ z are.
    let d = z.0.3.0 in let Run : List Val → SProp 𝓤 = λ ws. WpFn 𝓤 𝓛.H (𝓣 𝓛 𝓜 𝓡).C (𝓣 𝓛 𝓜 𝓡).Λ code.function ws ((walk_of 𝓛 ended hs (c 𝓛 𝓜 𝓡)).post z) in
    qed 𝓛 ((raw (alive 𝓛 ended.signature z.0.0 z.0.1) ⊛ ‵ (owns (types_at ended.signature.params z.0.0) z.0.3 z.0.4)) ∷ raw ((c 𝓛 𝓜 𝓡 z.0.0 z.0.3).requires z.1) ∷ []) ∵ move ! (1 ∷ []) $ drop ! $ split ! $ move ! (1 ∷ []) $ fsplit ! $
    slot_out ! d z.0.4.0 (λ ws. move ! (1 ∷ []) $ fsplit ! $ handle_tells al ! z.0.3.1.0 z.0.4.1.0 (λ h eh fits. move ! (1 ∷ []) $ drop ! $ move ! (1 ∷ []) $
    suffices ! (Run (word d.full d.at ∷ h ∷ [])) (subst (λ (us : List Val). ent 𝓤 (Run (word d.full d.at ∷ h ∷ [])) (Run us)) (sym (λ i. ws i ++ (eh i ++ []))) (id⊢ 𝓤 (Run (word d.full d.at ∷ h ∷ [])))) $
    by ! (each 𝓛 𝓜 𝓡 z h fits d.full d.at d.value))))
