-- An initiator that waits for the signature, or has finished by SCRAM, has handed its proof out.
use Rattle.std.proofs.Common.{◌≡◌, ◌≢◌, ◌⊎◌, inl, inr, ℕ, refl, sym, ◌∙◌, ap, subst, List, ◌++◌, slice_get, slice_set, Some, None}
use Rattle.std.proofs.lemmas.Option.{none-some, same_Some}
use Rattle.gss_base.specs.declared.mech.MechKind.TheVariants as kinds
use Rattle.krb_derive.specs.Making.{Kind, Proof, Sealed, Check}
use Rattle.scram_mech.specs.Initiator.{WaitModel}
use Rattle.scram_mech.specs.MechMaking.{MechMaking, AmongMakings}
use Rattle.spnego_core.specs.declared.outcome.Outcome.{Outcome}
use Rattle.spnego_core.specs.Ends.{PlainSetup, EndSays}
use Rattle.spnego_core.specs.Ends as ends
use Rattle.spnego_core.specs.EndSteps.{StepSays}
use Rattle.spnego_core.specs.InitLaws.{own_of, chosen_of, finished_of, finished_in, answers_next, InitLaw}
use Rattle.spnego_core.specs.Initiating.{Initiated}
use Rattle.spnego_core.proofs.Makings.{among_back}
use Rattle.gss_client.specs.Session.{SessionState}
use Rattle.rpc_program.specs.Programs.{Serving}
use Rattle.world_laws.specs.declared.event.WorldEvent.{WorldEvent}
use Rattle.world_laws.specs.Stages.{StageSays}
use Rattle.world_laws.specs.Stages as stages
use Rattle.world_laws.specs.Deeds.{Deed}
use Rattle.world_laws.specs.State.{World}
use Rattle.world_laws.specs.Initiators.{Moved, starts, takes}
use Rattle.world_laws.specs.Events.{Moves, Happens, Begins}
use Rattle.world_laws.specs.Premises.{session_in, Completed}
use Rattle.world_laws.proofs.Invariants.{Below, Known, MadeProof}
use Rattle.world_laws.proofs.Slices.{set-cases}
use Rattle.world_laws.proofs.Growing.{Grows, grows, makings-grow}
use Rattle.world_laws.proofs.Happening.{Move, Starting, Taking, Calling, Leaving, Came, Idling, Moving, Laning, came}
use Rattle.world_laws.proofs.Moving.{starts-by, takes-by}
use Rattle.world_laws.proofs.Owning.{proof-made, taken-law}
use Rattle.world_laws.proofs.OriginSteps.{waits_of, waits_in, HasProof, Proving, ReadyBy, step-proving, start-waits}

pub record HandedProof (w : World) (own : PlainSetup) : Type 0 where
  pub making : MechMaking
  pub among : AmongMakings w.makings making
  pub made : MadeProof own making

-- what a stage says of the proof
abbrev pub StageProof : World → PlainSetup → StageSays → Type 0
StageProof w own (stages.Ready other) = Unit {0}
StageProof w own (stages.Asks xid end) = ((wait : WaitModel) → waits_of end ≡ Some wait → HandedProof w own) × ((outcome : Outcome) → finished_of end ≡ Some outcome → outcome.mech ≡ kinds.Scram → HandedProof w own)
StageProof w own (stages.Stands s) = s.outcome.mech ≡ kinds.Scram → HandedProof w own
StageProof w own (stages.Left s) = s.outcome.mech ≡ kinds.Scram → HandedProof w own
StageProof w own stages.Over = Unit {0}

pub record Proofs (w : World) : Type 0 where
  pub handed : (i : ℕ) (own : PlainSetup) (stage : StageSays) → slice_get w.facts i ≡ Some own → slice_get w.stages i ≡ Some stage → StageProof w own stage

pub proofs-start : (w : World) → Begins w → Proofs w
proofs-start w b = record { handed = λ i own stage there stands. (let k = b.known i stage stands in subst (StageProof w own) (sym k.2) tt) }

-- ---- over an event

handed-on : (old new : World) (own : PlainSetup) → Grows old new → HandedProof old own → HandedProof new own
handed-on old new own g h = record { making = h.making; among = makings-grow old new h.making g h.among; made = h.made }

stage-on : (old new : World) (own : PlainSetup) (stage : StageSays) → Grows old new → StageProof old own stage → StageProof new own stage
stage-on old new own (stages.Ready other) g s = tt
stage-on old new own (stages.Asks xid end) g s = (λ wait e. handed-on old new own g (s.0 wait e), λ outcome e scram. handed-on old new own g (s.1 outcome e scram))
stage-on old new own (stages.Stands x) g s = λ scram. handed-on old new own g (s scram)
stage-on old new own (stages.Left x) g s = λ scram. handed-on old new own g (s scram)
stage-on old new own stages.Over g s = tt

-- the stages are as they were
proofs-same : (old new : World) → Grows old new → new.stages ≡ old.stages → Proofs old → Proofs new
proofs-same old new g same p = record {
  handed = λ i own stage there stands. stage-on old new own stage g (p.handed i own stage (subst (λ fs. slice_get fs i ≡ Some own) g.facts there) (subst (λ ss. slice_get ss i ≡ Some stage) same stands));
}

-- one stage is another
proofs-set : (old new : World) (i : ℕ) (stage : StageSays) → Grows old new → new.stages ≡ slice_set old.stages i stage → ((own : PlainSetup) → slice_get old.facts i ≡ Some own → StageProof new own stage) → Proofs old → Proofs new
proofs-set old new i stage g same now p = record {
  handed = λ j own next there stands. by j own next (subst (λ fs. slice_get fs j ≡ Some own) g.facts there) (set-cases old.stages i j stage next (subst (λ ss. slice_get ss j ≡ Some next) same stands));
}
  where
    by : (j : ℕ) (own : PlainSetup) (next : StageSays) → slice_get old.facts j ≡ Some own → ((i ≡ j) × (next ≡ stage)) ⊎ ((i ≢ j) × (slice_get old.stages j ≡ Some next)) → StageProof new own next
    by j own next there (inl here) = subst (StageProof new own) (sym here.1) (now own (subst (λ (k : ℕ). slice_get old.facts k ≡ Some own) (sym here.0) there))
    by j own next there (inr other) = stage-on old new own next g (p.handed j own next there other.1)

-- ---- a step

no-request : (kind : Kind) → kind ≡ Sealed → kind ≡ Proof → ⊥
no-request kind e f = absurd (clash (sym e ∙ f))
  where
    clash : Sealed ≡ Proof → ⊥
    clash g = cc

no-mic : (kind : Kind) → kind ≡ Check → kind ≡ Proof → ⊥
no-mic kind e f = absurd (clash (sym e ∙ f))
  where
    clash : Check ≡ Proof → ⊥
    clash g = cc

-- a proof among what a step handed out is the initiator's
step-proof : (end : EndSays) (taken : Initiated) (h : HasProof taken.makes) → InitLaw end taken → MadeProof (own_of end) h.making
step-proof end taken h law = elim (law.made h.making h.among) [
  | inl r ↦ absurd (no-request h.making.kind (ap (λ (m : MechMaking). m.kind) r.made) h.is_proof)
  | inr more ↦ elim more [
    | inl p ↦ proof-made (own_of end) (answers_next end) taken.chosen h.making p
    | inr m ↦ absurd (no-mic h.making.kind (ap (λ (k : MechMaking). k.kind) m.made) h.is_proof)
  ]
]

ready-handed : (old : World) (own : PlainSetup) (xid : ℕ) (end : EndSays) (outcome : Outcome) → StageProof old own (stages.Asks xid end) → outcome.mech ≡ kinds.Scram → ReadyBy end outcome → HandedProof old own
ready-handed old own xid (ends.Opens opening) outcome s scram r = s.0 r.0 r.1
ready-handed old own xid (ends.Talks talking) outcome s scram r = s.0 r.0 r.1
ready-handed old own xid (ends.Signed signed) outcome s scram r = s.1 outcome (ap Some r) scram

-- what the step's end says of the proof
step-stage : (old new : World) (own : PlainSetup) (xid : ℕ) (end : EndSays) (taken : Initiated) (step : StepSays) → Grows old new → (own_of end ≡ own) → ((m : MechMaking) → AmongMakings taken.makes m → AmongMakings new.makings m) → InitLaw end taken
    → Proving (ReadyBy end) taken → StageProof old own (stages.Asks xid end) → taken.step ≡ step
    → ((wait : WaitModel) → waits_in step ≡ Some wait → HandedProof new own) × ((outcome : Outcome) → finished_in step ≡ Some outcome → outcome.mech ≡ kinds.Scram → HandedProof new own)
step-stage old new own xid end taken step g same among law p s is = (
  λ wait e. (let h = p.proves wait (ap waits_in is ∙ e) in record { making = h.making; among = among h.making h.among; made = subst (λ (o : PlainSetup). MadeProof o h.making) same (step-proof end taken h law) }),
  λ outcome e scram. handed-on old new own g (ready-handed old own xid end outcome s scram (p.finishes outcome (ap finished_in is ∙ e) scram)),
)

unchosen-unfinished : (end : EndSays) → chosen_of end ≡ None → finished_of end ≡ None
unchosen-unfinished (ends.Opens opening) e = refl
unchosen-unfinished (ends.Talks talking) e = refl
unchosen-unfinished (ends.Signed signed) e = absurd (none-some signed.talk.chosen (sym e))

-- ---- a move

starting : (laws : Below) (serves : Serving) (w : World) (own next : PlainSetup) → StageProof w next (starts serves own).stage × StageProof w next (starts serves own).lost
starting laws serves w own next = elim (starts-by serves own) [
  | inl e ↦ (subst (λ (m : Moved). StageProof w next m.stage) (sym e) tt, subst (λ (m : Moved). StageProof w next m.lost) (sym e) tt)
  | inr by ↦ (
    subst (StageProof w next) (sym by.stage) (
      λ wait e. absurd (none-some wait (sym (start-waits own by.started by.is) ∙ e)),
      λ outcome e scram. absurd (none-some outcome (sym (unchosen-unfinished by.started.end (laws.init.starts own by.started by.is).unchosen) ∙ e)),
    ),
    subst (StageProof w next) (sym by.lost) tt,
  )
]

same-own : (w : World) (i : ℕ) (a b : PlainSetup) → slice_get w.facts i ≡ Some a → slice_get w.facts i ≡ Some b → a ≡ b
same-own w i a b e f = same_Some a b (sym e ∙ f)

-- what the move handed out is there
moved-among : (old new : World) (moved : Moved) (makes : List MechMaking) → new.makings ≡ old.makings ++ moved.makes → moved.makes ≡ makes → (m : MechMaking) → AmongMakings makes m → AmongMakings new.makings m
moved-among old new moved makes e f m a =
    subst (λ (ms : List MechMaking). AmongMakings ms m) (sym e) (among_back old.makings moved.makes m (subst (λ (ms : List MechMaking). AmongMakings ms m) (sym f) a))

taking : (laws : Below) (old new : World) (i first xid : ℕ) (end : EndSays) (octets : List ℕ) (own : PlainSetup) → Known old → Proofs old → Grows old new → slice_get old.stages i ≡ Some (stages.Asks xid end) → slice_get old.facts i ≡ Some own
    → new.makings ≡ old.makings ++ (takes old.serves first xid end octets).makes → StageProof new own (takes old.serves first xid end octets).stage
taking laws old new i first xid end octets own k p g stands there makes = elim (takes-by old.serves first xid end octets) [
  | inl e ↦ subst (λ (m : Moved). StageProof new own m.stage) (sym e) tt
  | inr more ↦ elim more [
    | inl by ↦ subst (StageProof new own) (sym by.stage)
        (step-stage old new own xid end by.by.taken _ g (same-own old i (own_of end) own (k.asks i xid end stands).0 there) (moved-among old new (takes old.serves first xid end octets) by.by.taken.makes makes by.makes)
        (taken-law laws old i xid end by.by.granted.result.token by.by.taken k stands by.by.step_is)
        (step-proving laws.scram end by.by.granted.result.token by.by.taken by.by.step_is) (p.handed i own (stages.Asks xid end) there stands) by.by.leads)
    | inr by ↦ subst (StageProof new own) (sym by.stage)
        ((step-stage old new own xid end by.by.taken _ g (same-own old i (own_of end) own (k.asks i xid end stands).0 there) (moved-among old new (takes old.serves first xid end octets) by.by.taken.makes makes by.makes)
        (taken-law laws old i xid end by.by.granted.result.token by.by.taken k stands by.by.step_is)
        (step-proving laws.scram end by.by.granted.result.token by.by.taken by.by.step_is) (p.handed i own (stages.Asks xid end) there stands) by.by.leads).1 by.outcome refl)
  ]
]

over : (laws : Below) (serves : Serving) (w : World) (first xid : ℕ) (end : EndSays) (octets : List ℕ) (own : PlainSetup) → StageProof w own (takes serves first xid end octets).lost
over laws serves w first xid end octets own = elim (takes-by serves first xid end octets) [
  | inl e ↦ subst (λ (m : Moved). StageProof w own m.lost) (sym e) tt
  | inr more ↦ elim more [ inl by ↦ subst (StageProof w own) (sym by.lost) tt | inr by ↦ subst (StageProof w own) (sym by.lost) tt ]
]

moves-proofs : (laws : Below) (old : World) (i : ℕ) (moved : Moved) (deed : Deed) (new : World) → Known old → Grows old new → Move old i moved → Moves old i moved deed new → Proofs old → Proofs new
moves-proofs laws old i moved deed new k g (Starting own stands is) (inl m) p =
    proofs-set old new i moved.stage g (ap (λ (w : World). w.stages) m.1) (λ next there. subst (λ (v : Moved). StageProof new next v.stage) (sym is) (starting laws old.serves new own next).0) p
moves-proofs laws old i moved deed new k g (Starting own stands is) (inr m) p =
    proofs-set old new i moved.lost g (ap (λ (w : World). w.stages) m.1) (λ next there. subst (λ (v : Moved). StageProof new next v.lost) (sym is) (starting laws old.serves new own next).1) p
moves-proofs laws old i moved deed new k g (Taking first xid end octets stands is) (inl m) p =
    proofs-set old new i moved.stage g (ap (λ (w : World). w.stages) m.1)
    (λ own there. subst (λ (v : Moved). StageProof new own v.stage) (sym is) (taking laws old new i first xid end octets own k p g stands there (ap (λ (w : World). w.makings) m.1 ∙ ap (λ (v : Moved). old.makings ++ v.makes) is))) p
moves-proofs laws old i moved deed new k g (Taking first xid end octets stands is) (inr m) p =
    proofs-set old new i moved.lost g (ap (λ (w : World). w.stages) m.1) (λ own there. subst (λ (v : Moved). StageProof new own v.lost) (sym is) (over laws old.serves new first xid end octets own)) p
moves-proofs laws old i moved deed new k g (Calling s procedure args stands left served proper is) (inl m) p =
    proofs-set old new i moved.stage g (ap (λ (w : World). w.stages) m.1)
    (λ own there. subst (λ (v : Moved). StageProof new own v.stage) (sym is) (λ scram. handed-on old new own g (p.handed i own (stages.Stands s) there stands scram))) p
moves-proofs laws old i moved deed new k g (Calling s procedure args stands left served proper is) (inr m) p =
    proofs-set old new i moved.lost g (ap (λ (w : World). w.stages) m.1)
    (λ own there. subst (λ (v : Moved). StageProof new own v.lost) (sym is) (λ scram. handed-on old new own g (p.handed i own (stages.Stands s) there stands scram))) p
moves-proofs laws old i moved deed new k g (Leaving s procedure args stands left last served proper is) (inl m) p =
    proofs-set old new i moved.stage g (ap (λ (w : World). w.stages) m.1)
    (λ own there. subst (λ (v : Moved). StageProof new own v.stage) (sym is) (λ scram. handed-on old new own g (p.handed i own (stages.Stands s) there stands scram))) p
moves-proofs laws old i moved deed new k g (Leaving s procedure args stands left last served proper is) (inr m) p =
    proofs-set old new i moved.lost g (ap (λ (w : World). w.stages) m.1)
    (λ own there. subst (λ (v : Moved). StageProof new own v.lost) (sym is) (λ scram. handed-on old new own g (p.handed i own (stages.Stands s) there stands scram))) p

came-proofs : (laws : Below) (old : World) (deed : Deed) (new : World) → Known old → Grows old new → Came old deed new → Proofs old → Proofs new
came-proofs laws old deed new k g (Idling i) p = proofs-same old new g (ap (λ (w : World). w.stages) i.1) p
came-proofs laws old deed new k g (Moving i moved move m) p = moves-proofs laws old i moved deed new k g move m p
came-proofs laws old deed new k g (Laning lane hand octets now draws there (inl a)) p = proofs-same old new g (ap (λ (w : World). w.stages) a.new_is) p
came-proofs laws old deed new k g (Laning lane hand octets now draws there (inr a)) p = proofs-same old new g (ap (λ (w : World). w.stages) a.new_is) p

pub proofs-step : (laws : Below) (old : World) (event : WorldEvent) (deed : Deed) (new : World) → Known old → Happens old event deed new → Proofs old → Proofs new
proofs-step laws old event deed new k h p = came-proofs laws old deed new k (grows old event deed new h) (came old event deed new h) p

-- ---- who completed

done-stage : (w : World) (own : PlainSetup) (stage : StageSays) (session : SessionState) → session_in stage ≡ Some session → StageProof w own stage → session.outcome.mech ≡ kinds.Scram → HandedProof w own
done-stage w own (stages.Ready other) session e s scram = absurd (none-some session e)
done-stage w own (stages.Asks xid end) session e s scram = absurd (none-some session e)
done-stage w own (stages.Stands x) session e s scram = s (ap (λ (y : SessionState). y.outcome.mech) (same_Some x session e) ∙ scram)
done-stage w own (stages.Left x) session e s scram = s (ap (λ (y : SessionState). y.outcome.mech) (same_Some x session e) ∙ scram)
done-stage w own stages.Over session e s scram = absurd (none-some session e)

pub completed-proof : (w : World) (i : ℕ) (own : PlainSetup) (outcome : Outcome) → Proofs w → Completed w i own outcome → outcome.mech ≡ kinds.Scram → HandedProof w own
completed-proof w i own outcome p c scram =
    done-stage w own c.stage c.session c.in_session (p.handed i own c.stage c.there c.stands) (ap (λ (o : Outcome). o.mech) c.outcome_is ∙ scram)
