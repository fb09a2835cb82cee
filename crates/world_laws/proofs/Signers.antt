-- Who handed out a MIC of an initiator: one whose mechanism is done, over its own list, or one that completed, for a call.
use Rattle.std.proofs.Common.{◌≡◌, ◌⊎◌, inl, inr, ℕ, sym, ap, ◌∙◌, subst, arith, List, [], ◌++◌, slice_get, Some}
use Rattle.scram_mech.specs.MechMaking.{MechMaking, AmongMakings}
use Rattle.krb_tokens.specs.declared.end.Side.TheVariants.{Initiator}
use Rattle.spnego_core.specs.declared.outcome.Outcome.{Outcome}
use Rattle.spnego_core.specs.Ends.{PlainSetup, EndSays}
use Rattle.spnego_core.specs.EndSteps.{StepSays}
use Rattle.spnego_core.specs.EndSteps as steps
use Rattle.spnego_core.specs.InitLaws.{own_of, answers_next, finished_in, IsOwnMic, InitLaw}
use Rattle.spnego_core.specs.Initiating.{Initiated, own_list}
use Rattle.spnego_core.specs.ListMic.{mic_making}
use Rattle.spnego_core.proofs.Makings.{among_front, among_split}
use Rattle.gss_client.specs.Session.{xid_after}
use Rattle.world_laws.specs.declared.event.WorldEvent.{WorldEvent}
use Rattle.world_laws.specs.Stages.{StageSays}
use Rattle.world_laws.specs.Stages as stages
use Rattle.world_laws.specs.Deeds.{Deed}
use Rattle.world_laws.specs.State.{World, moved_to}
use Rattle.world_laws.specs.Initiators.{Moved, refused}
use Rattle.world_laws.specs.Events.{Happens, Begins}
use Rattle.world_laws.specs.KnownList.{outcome_in, Finished}
use Rattle.world_laws.specs.Premises.{Marking, BuiltKey, OnGuarded, Unforged}
use Rattle.world_laws.proofs.Invariants.{Below, Known, Held, MadeCall, MechFinished, ByContext, Found}
use Rattle.world_laws.proofs.FoundKept.{Stays, Founds, finished-grows, of-found}
use Rattle.world_laws.proofs.FoundSteps.{Verified, Built, StepFound, step-found}
use Rattle.world_laws.proofs.Growing.{Grows, grows, was-made-grows, completed-stays}
use Rattle.world_laws.proofs.Happening.{Move, Starting, Taking, Calling, Leaving, Came, Idling, Moving, Laning, came}
use Rattle.world_laws.proofs.Makers.{tag, tag-request, tag-proof, not-context}
use Rattle.world_laws.proofs.Moving.{StartedBy, Went, Stood, starts-by, takes-by}
use Rattle.world_laws.proofs.Owning.{proof-made, request-made, call-made, leave-among, taken-law}
use Rattle.world_laws.proofs.OwningStep.{asks-owned}
use Rattle.world_laws.proofs.Slices.{set-same}

-- ---- who

-- an initiator whose mechanism is done made it, over its own list; with the key of a context that is built on a guarded key it is on a guarded key
pub record Signer (marking : Marking) (last w : World) (making : MechMaking) : Type 0 where
  pub i : ℕ
  pub own : PlainSetup
  pub outcome : Outcome
  pub there : slice_get w.facts i ≡ Some own
  pub made : making ≡ mic_making outcome Initiator (own_list own)
  pub done : MechFinished marking w own outcome
  pub guarded : BuiltKey marking last.fixed outcome.key → OnGuarded marking own outcome.mech

pub record Caller (w : World) (making : MechMaking) : Type 0 where
  pub i : ℕ
  pub own : PlainSetup
  pub there : slice_get w.facts i ≡ Some own
  pub made : MadeCall w i own making

abbrev pub SignedBy : Marking → World → World → MechMaking → Type 0
SignedBy marking last w making = Signer marking last w making ⊎ Caller w making

-- each MIC of an initiator, which is what has this kind and usage
pub record Signed (marking : Marking) (last w : World) : Type 0 where
  pub by : (making : MechMaking) → AmongMakings w.makings making → tag making ≡ 100 → SignedBy marking last w making

among-none : (makes : List MechMaking) (making : MechMaking) → makes ≡ [] → AmongMakings makes making → ⊥
among-none makes making e a = subst (λ (ms : List MechMaking). AmongMakings ms making) e a

pub signed-start : (marking : Marking) (last w : World) → Begins w → Signed marking last w
signed-start marking last w begins = record { by = λ making a t. absurd (among-none w.makings making begins.unmade a) }

-- ---- it stays

pub kept-by : (old new : World) → Grows old new → Stays old new
kept-by old new g = record { facts = g.facts; setup = g.setup; made = λ making made. was-made-grows old new making g made }

there-on : (old new : World) (i : ℕ) (own : PlainSetup) → Grows old new → slice_get old.facts i ≡ Some own → slice_get new.facts i ≡ Some own
there-on old new i own g there = ap (λ (facts : List PlainSetup). slice_get facts i) g.facts ∙ there

signer-on : (marking : Marking) (last old new : World) (making : MechMaking) → Grows old new → Signer marking last old making → Signer marking last new making
signer-on marking last old new making g s = record {
  i = s.i;
  own = s.own;
  outcome = s.outcome;
  there = there-on old new s.i s.own g s.there;
  made = s.made;
  done = finished-grows marking old new s.own s.outcome (kept-by old new g) s.done;
  guarded = s.guarded;
}

caller-on : (old new : World) (making : MechMaking) → Grows old new → Caller old making → Caller new making
caller-on old new making g c = record {
  i = c.i;
  own = c.own;
  there = there-on old new c.i c.own g c.there;
  made = record {
    session = c.made.session;
    completed = completed-stays old new c.i c.own c.made.session.outcome g c.made.completed;
    procedure = c.made.procedure;
    args = c.made.args;
    made = c.made.made;
  };
}

signed-on : (marking : Marking) (last old new : World) (making : MechMaking) → Grows old new → SignedBy marking last old making → SignedBy marking last new making
signed-on marking last old new making g (inl s) = inl (signer-on marking last old new making g s)
signed-on marking last old new making g (inr c) = inr (caller-on old new making g c)

-- what was handed out before, and what is now
signed-more : (marking : Marking) (last old new : World) (makes : List MechMaking) → Grows old new → new.makings ≡ old.makings ++ makes → Signed marking last old
    → ((making : MechMaking) → AmongMakings makes making → tag making ≡ 100 → SignedBy marking last new making) → Signed marking last new
signed-more marking last old new makes g e signed more = record {
  by = λ making a t. elim (among_split old.makings makes making (subst (λ (ms : List MechMaking). AmongMakings ms making) e a)) [
    | inl before ↦ signed-on marking last old new making g (signed.by making before t)
    | inr now ↦ more making now t
  ];
}

-- ---- an initiator moves

abbrev Untold : Marking → World → World → Type 0
Untold marking last new = (i : ℕ) (own : PlainSetup) (outcome : Outcome) → Finished new i own outcome → BuiltKey marking last.fixed outcome.key → OnGuarded marking own outcome.mech

-- what a step leads to has the outcome of the mechanism that is done
leads-more : (step : StepSays) (end : EndSays) (token : List ℕ) (outcome : Outcome) (xid : ℕ) → step ≡ steps.More end token → finished_in step ≡ Some outcome → outcome_in (stages.Asks xid end) ≡ Some outcome
leads-more step end token outcome xid is e = sym (ap finished_in is) ∙ e

leads-done : (step : StepSays) (last outcome : Outcome) → step ≡ steps.Done last → finished_in step ≡ Some outcome → Some last ≡ Some outcome
leads-done step last outcome is e = sym (ap finished_in is) ∙ e

-- where the initiator of a move is finishes
moved-there : (old new : World) (i : ℕ) (stage was : StageSays) (makes : List MechMaking) → new ≡ moved_to old i stage makes → slice_get old.stages i ≡ Some was → slice_get new.stages i ≡ Some stage
moved-there old new i stage was makes is there = ap (λ (w : World). slice_get w.stages i) is ∙ set-same old.stages i stage was there

finished-then : (old new : World) (i : ℕ) (own : PlainSetup) (stage was : StageSays) (makes : List MechMaking) (outcome : Outcome) → Grows old new → new ≡ moved_to old i stage makes → slice_get old.stages i ≡ Some was → slice_get old.facts i ≡ Some own
    → outcome_in stage ≡ Some outcome → Finished new i own outcome
finished-then old new i own stage was makes outcome g is there facts e = record { there = there-on old new i own g facts; stage = stage; stands = moved-there old new i stage was makes is there; finished = e }

-- the MIC over the own list, handed out by a step
mic-signer : (marking : Marking) (last old new : World) (i : ℕ) (end : EndSays) (taken : Initiated) (making : MechMaking) → Grows old new → slice_get old.facts i ≡ Some (own_of end) → StepFound marking old (own_of end) taken.step taken.listed
    → ((outcome : Outcome) → finished_in taken.step ≡ Some outcome → Finished new i (own_of end) outcome) → Untold marking last new → IsOwnMic (own_of end) taken.step making → Signer marking last new making
mic-signer marking last old new i end taken making g there f finishes untold m = record {
  i = i;
  own = own_of end;
  outcome = m.outcome;
  there = there-on old new i (own_of end) g there;
  made = m.made;
  done = finished-grows marking old new (own_of end) m.outcome (kept-by old new g) (f.finished m.outcome m.finished);
  guarded = λ built. untold i (own_of end) m.outcome (finishes m.outcome m.finished) built;
}

step-signed : (laws : Below) (marking : Marking) (last old new : World) (i : ℕ) (end : EndSays) (taken : Initiated) (making : MechMaking) → Grows old new → slice_get old.facts i ≡ Some (own_of end) → InitLaw end taken
    → StepFound marking old (own_of end) taken.step taken.listed → ((outcome : Outcome) → finished_in taken.step ≡ Some outcome → Finished new i (own_of end) outcome) → Untold marking last new
    → AmongMakings taken.makes making → tag making ≡ 100 → SignedBy marking last new making
step-signed laws marking last old new i end taken making g there law f finishes untold a t = elim (law.made making a) [
  | inl r ↦ absurd (omega (arith, t, tag-request (own_of end) making (request-made (own_of end) taken.chosen making r)))
  | inr more ↦ elim more [
    | inl p ↦ absurd (omega (arith, t, tag-proof laws.scram (own_of end) making (proof-made (own_of end) (answers_next end) taken.chosen making p)))
    | inr m ↦ inl (mic-signer marking last old new i end taken making g there f finishes untold m)
  ]
]

start-signed : (laws : Below) (own : PlainSetup) (moved : Moved) (making : MechMaking) → StartedBy own moved → AmongMakings moved.makes making → tag making ≡ 100 → ⊥
start-signed laws own moved making by a t =
    let m = (laws.init.starts own by.started by.is).made making (subst (λ (ms : List MechMaking). AmongMakings ms making) by.makes a) in
    omega (arith, t, tag-request own making (record { credential = m.0; is_own = m.1; made = m.2 }))

refused-signed : (moved : Moved) (making : MechMaking) → moved ≡ refused → AmongMakings moved.makes making → ⊥
refused-signed moved making e a = among-none moved.makes making (ap (λ (m : Moved). m.makes) e) a

-- what a step found is among what its move found
verified-front : (marking : Marking) (w : World) (found front back : List MechMaking) → found ≡ front ++ back → Verified marking w found → Verified marking w front
verified-front marking w found front back e f = λ making a guarded. f making (subst (λ (ms : List MechMaking). AmongMakings ms making) (sym e) (among_front front back making a)) guarded

went-signed : (laws : Below) (marking : Marking) (last old new : World) (i xid : ℕ) (end : EndSays) (octets : List ℕ) (moved : Moved) (making : MechMaking) → Grows old new → Known old → Founds marking old → Built marking old
    → slice_get old.stages i ≡ Some (stages.Asks xid end) → Verified marking old moved.found → new ≡ moved_to old i moved.stage moved.makes → Untold marking last new → Went xid end octets moved
    → AmongMakings moved.makes making → tag making ≡ 100 → SignedBy marking last new making
went-signed laws marking last old new i xid end octets moved making g known f built there verified is untold by a t =
    let taken : Initiated = by.by.taken in
    let facts : slice_get old.facts i ≡ Some (own_of end) = (known.asks i xid end there).0 in
    let law : InitLaw end taken = taken-law laws old i xid end by.by.granted.result.token taken known there by.by.step_is in
    let seen : Verified marking old taken.found = subst (Verified marking old) by.found verified in
    let s : StepFound marking old (own_of end) taken.step taken.listed = step-found laws marking old i end taken built facts (f.asks i xid end there) law seen in
    step-signed laws marking last old new i end taken making g facts law s
    (λ outcome e. finished-then old new i (own_of end) (stages.Asks (xid_after xid) by.offer.end) (stages.Asks xid end) moved.makes outcome g
    (is ∙ ap (λ (stage : StageSays). moved_to old i stage moved.makes) by.stage) there facts (leads-more taken.step by.offer.end by.offer.token outcome (xid_after xid) by.by.leads e))
    untold (subst (λ (ms : List MechMaking). AmongMakings ms making) by.makes a) t

stood-signed : (laws : Below) (marking : Marking) (last old new : World) (i xid : ℕ) (end : EndSays) (octets : List ℕ) (moved : Moved) (making : MechMaking) → Grows old new → Known old → Founds marking old → Built marking old
    → slice_get old.stages i ≡ Some (stages.Asks xid end) → Verified marking old moved.found → new ≡ moved_to old i moved.stage moved.makes → Untold marking last new → Stood xid end octets moved
    → AmongMakings moved.makes making → tag making ≡ 100 → SignedBy marking last new making
stood-signed laws marking last old new i xid end octets moved making g known f built there verified is untold by a t =
    let taken : Initiated = by.by.taken in
    let facts : slice_get old.facts i ≡ Some (own_of end) = (known.asks i xid end there).0 in
    let law : InitLaw end taken = taken-law laws old i xid end by.by.granted.result.token taken known there by.by.step_is in
    let seen : Verified marking old taken.found = verified-front marking old moved.found taken.found _ by.found verified in
    let s : StepFound marking old (own_of end) taken.step taken.listed = step-found laws marking old i end taken built facts (f.asks i xid end there) law seen in
    step-signed laws marking last old new i end taken making g facts law s
    (λ outcome e. finished-then old new i (own_of end) moved.stage (stages.Asks xid end) moved.makes outcome g is there facts
    (ap outcome_in by.stage ∙ leads-done taken.step by.outcome outcome by.by.leads e))
    untold (subst (λ (ms : List MechMaking). AmongMakings ms making) by.makes a) t

move-signed : (laws : Below) (marking : Marking) (last old new : World) (i : ℕ) (moved : Moved) (making : MechMaking) → Grows old new → Known old → Founds marking old → Built marking old → Verified marking old moved.found
    → new ≡ moved_to old i moved.stage moved.makes → Untold marking last new → Move old i moved → AmongMakings moved.makes making → tag making ≡ 100 → SignedBy marking last new making
move-signed laws marking last old new i moved making g known f built verified is untold (Starting own there e) a t = elim (starts-by old.serves own) [
  | inl r ↦ absurd (refused-signed moved making (e ∙ r) a)
  | inr by ↦ absurd (start-signed laws own moved making (subst (StartedBy own) (sym e) by) a t)
]
move-signed laws marking last old new i moved making g known f built verified is untold (Taking first xid end octets there e) a t = elim (takes-by old.serves first xid end octets) [
  | inl r ↦ absurd (refused-signed moved making (e ∙ r) a)
  | inr more ↦ elim more [
    | inl by ↦ went-signed laws marking last old new i xid end octets moved making g known f built there verified is untold (subst (Went xid end octets) (sym e) by) a t
    | inr by ↦ stood-signed laws marking last old new i xid end octets moved making g known f built there verified is untold (subst (Stood xid end octets) (sym e) by) a t
  ]
]
move-signed laws marking last old new i moved making g known f built verified is untold (Calling s procedure args there left served proper e) a t =
    let p = known.placed i (stages.Stands s) there in
    inr (caller-on old new making g (record {
      i = i;
      own = p.0;
      there = p.1;
      made = call-made old i p.0 s procedure args making p.1 there (subst (λ (m : Moved). AmongMakings m.makes making) e a);
    }))
move-signed laws marking last old new i moved making g known f built verified is untold (Leaving s procedure args there left ended served proper e) a t =
    let p = known.placed i (stages.Stands s) there in
    inr (caller-on old new making g (record {
      i = i;
      own = p.0;
      there = p.1;
      made = call-made old i p.0 s procedure args making p.1 there (leave-among s procedure args making (subst (λ (m : Moved). AmongMakings m.makes making) e a));
    }))

-- ---- an event

came-signed : (laws : Below) (marking : Marking) (last old : World) (deed : Deed) (new : World) → Grows old new → Known old → Held old → Founds marking old → Built marking old → Unforged marking old deed → Untold marking last new → Came old deed new
    → Signed marking last old → Signed marking last new
came-signed laws marking last old deed new g known held f built unforged untold (Idling idles) signed = subst (Signed marking last) (sym idles.1) signed
came-signed laws marking last old deed new g known held f built unforged untold (Moving i moved move (inl did)) signed =
    signed-more marking last old new moved.makes g (ap (λ (w : World). w.makings) did.1) signed
    (λ making a t. move-signed laws marking last old new i moved making g known f built (subst (λ (d : Deed). Verified marking old d.found) did.0 unforged.made) did.1 untold move a t)
came-signed laws marking last old deed new g known held f built unforged untold (Moving i moved move (inr lost)) signed =
    signed-more marking last old new [] g (ap (λ (w : World). w.makings) lost.1) signed (λ making a t. absurd a)
came-signed laws marking last old deed new g known held f built unforged untold (Laning lane hand octets now draws there (inl at_once)) signed =
    signed-more marking last old new [] g (ap (λ (w : World). w.makings) at_once.new_is) signed (λ making a t. absurd a)
came-signed laws marking last old deed new g known held f built unforged untold (Laning lane hand octets now draws there (inr b)) signed =
    signed-more marking last old new deed.makes g (ap (λ (w : World). w.makings) b.new_is) signed
    (λ making a t. absurd (in-context laws new making t (asks-owned laws old lane hand octets now draws deed new held g there b making a)))
  where
    in-context : (laws : Below) (new : World) (making : MechMaking) → tag making ≡ 100 → ByContext new making → ⊥
    in-context laws new making t c = not-context laws.scram c.context making 100 t (λ e. absurd (omega arith)) (λ e. absurd (omega arith)) (λ e. absurd (omega arith)) (λ e. absurd (omega arith)) c.made

pub signed-step : (laws : Below) (marking : Marking) (last old : World) (event : WorldEvent) (deed : Deed) (new : World) → Known old → Held old → Found marking old → Built marking old → Unforged marking old deed → Untold marking last new
    → Happens old event deed new → Signed marking last old → Signed marking last new
signed-step laws marking last old event deed new known held f built unforged untold happens signed =
    came-signed laws marking last old deed new (grows old event deed new happens) known held (of-found marking old f) built unforged untold (came old event deed new happens) signed
