-- What was found verified stays: what was handed out once is handed out, and the facts and the setup stay.
use Rattle.std.proofs.Common.{◌≡◌, ◌⊎◌, inl, inr, ℕ, zero, suc, true, false, refl, sym, ap, subst, ◌∙◌, List, ◌++◌, slice_get, slice_set, Option, Some, None}
use Rattle.std.specs.Prelude.{option_to_list, Ok}
use Rattle.std.proofs.lemmas.Option.{none-some}
use Rattle.gss_base.specs.declared.mech.MechKind.TheVariants as kinds
use Rattle.krb_derive.specs.Making.{sealed_making}
use Rattle.ap_exchange.specs.declared.judged.Judged.{Judged}
use Rattle.ap_exchange.specs.Answer.{answer_done}
use Rattle.ap_exchange.specs.Judging.{client_granted}
use Rattle.ap_exchange.specs.Keys.{authenticator_usage}
use Rattle.ap_exchange.specs.Laws.{JudgesBy}
use Rattle.scram_mech.specs.Acceptor.{AcceptModel, accept_finished}
use Rattle.scram_mech.specs.MechMaking.{MechMaking, typed}
use Rattle.spnego_core.specs.declared.outcome.Outcome.{Outcome}
use Rattle.spnego_core.specs.declared.setup.AcceptSetup.{AcceptSetup}
use Rattle.spnego_core.specs.Ends.{PlainSetup, EndSays}
use Rattle.spnego_core.specs.AcceptLaws.{IsOfLine}
use Rattle.spnego_core.specs.AcceptMech.{ByRequest, ByProof}
use Rattle.spnego_core.specs.InitLaws.{own_of, listed_of, finished_of, Covered}
use Rattle.spnego_core.specs.Outcome.{outcome_of}
use Rattle.gss_client.specs.Session.{SessionState}
use Rattle.accept_book.specs.Booking.{BookOf}
use Rattle.world_laws.specs.Stages.{StageSays}
use Rattle.world_laws.specs.Stages as stages
use Rattle.world_laws.specs.Deeds.{Deed}
use Rattle.world_laws.specs.State.{InHand, Context, World, moved_to}
use Rattle.world_laws.specs.Lanes.{with_lane}
use Rattle.world_laws.specs.Premises.{Marking, GuardedSession, WasMade, WasIssued, Completed, session_in}
use Rattle.world_laws.proofs.Invariants.{KrbFixed, ScramFixed, MechFinished, SawList, Found}
use Rattle.world_laws.proofs.Slices.{set-cases, get-split}

-- what an event keeps of a world
pub record Stays (old new : World) : Type 0 where
  pub facts : new.facts ≡ old.facts
  pub setup : new.book.setup ≡ old.book.setup
  pub made : (making : MechMaking) → WasMade old making → WasMade new making

-- ---- a context

-- a context on a request, of any setup and for anything that was handed out
record Krb (marking : Marking) (made : MechMaking → Type 0) (x : Context) (request : Judged) (setup : AcceptSetup) : Type 0 where
  draws : List ℕ
  outcome_is : x.fixed.outcome ≡ outcome_of kinds.Kerberos (answer_done request draws)
  token : List ℕ
  by : JudgesBy setup.keytab setup.own setup.bindings token request
  handed_out : GuardedSession marking request.session → made (typed (sealed_making request.session authenticator_usage by.x.octets))
  issued : WasIssued marking (record { service = by.x.service; client = client_granted by.x.part; session = by.x.session })

of-krb : (marking : Marking) (old new : World) (x : Context) (request : Judged) → Stays old new → KrbFixed marking old x request → Krb marking (WasMade new) x request old.book.setup
of-krb marking old new x request g f = record {
  draws = f.draws;
  outcome_is = f.outcome_is;
  token = f.token;
  by = f.by;
  handed_out = λ guarded. g.made _ (f.handed_out guarded);
  issued = f.issued;
}

to-krb : (marking : Marking) (w : World) (x : Context) (request : Judged) → Krb marking (WasMade w) x request w.book.setup → KrbFixed marking w x request
to-krb marking w x request f = record { draws = f.draws; outcome_is = f.outcome_is; token = f.token; by = f.by; handed_out = f.handed_out; issued = f.issued }

krb-grows : (marking : Marking) (old new : World) (x : Context) (request : Judged) → Stays old new → KrbFixed marking old x request → KrbFixed marking new x request
krb-grows marking old new x request g f = to-krb marking new x request (subst (Krb marking (WasMade new) x request) (sym g.setup) (of-krb marking old new x request g f))

scram-grows : (marking : Marking) (old new : World) (x : Context) (end : AcceptModel) (text : List ℕ) → Stays old new → ScramFixed marking old x end text → ScramFixed marking new x end text
scram-grows marking old new x end text g f = record {
  line = subst (λ (s : AcceptSetup). IsOfLine s.verifiers end) (sym g.setup) f.line;
  now = f.now;
  finished = f.finished;
  finishes = subst (λ (s : AcceptSetup). accept_finished end text s.bindings f.now ≡ Ok f.finished) (sym g.setup) f.finishes;
  outcome_is = f.outcome_is;
  handed_out = λ guarded making among. g.made making (f.handed_out guarded making among);
}

pub record ContextFound (marking : Marking) (w : World) (x : Context) : Type 0 where
  pub request : (request : Judged) → x.fixed.basis ≡ ByRequest request → KrbFixed marking w x request
  pub proof : (end : AcceptModel) (text : List ℕ) → x.fixed.basis ≡ ByProof end text → ScramFixed marking w x end text

pub context-grows : (marking : Marking) (old new : World) (x : Context) → Stays old new → ContextFound marking old x → ContextFound marking new x
context-grows marking old new x g f = record {
  request = λ request e. krb-grows marking old new x request g (f.request request e);
  proof = λ end text e. scram-grows marking old new x end text g (f.proof end text e);
}

-- ---- an initiator

pub finished-grows : (marking : Marking) (old new : World) (own : PlainSetup) (outcome : Outcome) → Stays old new → MechFinished marking old own outcome → MechFinished marking new own outcome
finished-grows marking old new own outcome g (inl f) = inl (record {
  end = f.end;
  waits = f.waits;
  token = f.token;
  done = f.done;
  takes = f.takes;
  outcome_is = f.outcome_is;
  handed_out = λ guarded making among. g.made making (f.handed_out guarded making among);
})
finished-grows marking old new own outcome g (inr f) = inr (record {
  end = f.end;
  proved = f.proved;
  token = f.token;
  finished = f.finished;
  takes = f.takes;
  outcome_is = f.outcome_is;
  handed_out = λ guarded making among. g.made making (f.handed_out guarded making among);
})

saw-grows : (marking : Marking) (old new : World) (own : PlainSetup) (outcome : Outcome) → Stays old new → SawList marking old own outcome → SawList marking new own outcome
saw-grows marking old new own outcome g f = record { mic = f.mic; right = f.right; handed_out = λ on. g.made _ (f.handed_out on) }

-- an end whose mechanism is done
pub record EndFound (marking : Marking) (w : World) (end : EndSays) : Type 0 where
  pub signed : (outcome : Outcome) → finished_of end ≡ Some outcome → MechFinished marking w (own_of end) outcome
  pub listed : (outcome : Outcome) → finished_of end ≡ Some outcome → listed_of end ≡ true → SawList marking w (own_of end) outcome

-- a context that stands
pub record OutcomeFound (marking : Marking) (w : World) (own : PlainSetup) (outcome : Outcome) : Type 0 where
  pub finished : MechFinished marking w own outcome
  pub covered : Covered own outcome.mech false ⊎ SawList marking w own outcome

pub end-grows : (marking : Marking) (old new : World) (end : EndSays) → Stays old new → EndFound marking old end → EndFound marking new end
end-grows marking old new end g f = record {
  signed = λ outcome e. finished-grows marking old new (own_of end) outcome g (f.signed outcome e);
  listed = λ outcome e l. saw-grows marking old new (own_of end) outcome g (f.listed outcome e l);
}

covered-grows : (marking : Marking) (old new : World) (own : PlainSetup) (outcome : Outcome) → Stays old new → Covered own outcome.mech false ⊎ SawList marking old own outcome → Covered own outcome.mech false ⊎ SawList marking new own outcome
covered-grows marking old new own outcome g (inl first) = inl first
covered-grows marking old new own outcome g (inr saw) = inr (saw-grows marking old new own outcome g saw)

pub outcome-grows : (marking : Marking) (old new : World) (own : PlainSetup) (outcome : Outcome) → Stays old new → OutcomeFound marking old own outcome → OutcomeFound marking new own outcome
outcome-grows marking old new own outcome g f = record {
  finished = finished-grows marking old new own outcome g f.finished;
  covered = covered-grows marking old new own outcome g f.covered;
}

-- ---- a world

pub record Founds (marking : Marking) (w : World) : Type 0 where
  pub contexts : (place : ℕ) (x : Context) → slice_get w.fixed place ≡ Some x → ContextFound marking w x
  pub asks : (i xid : ℕ) (end : EndSays) → slice_get w.stages i ≡ Some (stages.Asks xid end) → EndFound marking w end
  pub completed : (i : ℕ) (own : PlainSetup) (outcome : Outcome) → Completed w i own outcome → OutcomeFound marking w own outcome

pub of-found : (marking : Marking) (w : World) → Found marking w → Founds marking w
of-found marking w f = record {
  contexts = λ place x e. record { request = λ request b. f.requests place x request e b; proof = λ end text b. f.proofs place x end text e b };
  asks = λ i xid end e. record { signed = λ outcome d. f.signed i xid end outcome e d; listed = λ outcome d l. f.signed_list i xid end outcome e d l };
  completed = λ i own outcome c. record { finished = f.completed i own outcome c; covered = f.covered i own outcome c };
}

pub to-found : (marking : Marking) (w : World) → Founds marking w → Found marking w
to-found marking w f = record {
  requests = λ place x request e b. (f.contexts place x e).request request b;
  proofs = λ place x end text e b. (f.contexts place x e).proof end text b;
  signed = λ i xid end outcome e d. (f.asks i xid end e).signed outcome d;
  completed = λ i own outcome c. (f.completed i own outcome c).finished;
  signed_list = λ i xid end outcome e d l. (f.asks i xid end e).listed outcome d l;
  covered = λ i own outcome c. (f.completed i own outcome c).covered;
}

-- ---- an initiator is elsewhere

-- what is to be known of where it is
pub record StageFound (marking : Marking) (old : World) (i : ℕ) (stage : StageSays) : Type 0 where
  pub asks : (xid : ℕ) (end : EndSays) → stage ≡ stages.Asks xid end → EndFound marking old end
  pub stands : (own : PlainSetup) (s : SessionState) → slice_get old.facts i ≡ Some own → session_in stage ≡ Some s → OutcomeFound marking old own s.outcome

moved-asks : (marking : Marking) (old new : World) (i : ℕ) (stage : StageSays) → Stays old new → Founds marking old → StageFound marking old i stage
    → (j xid : ℕ) (end : EndSays) → slice_get (slice_set old.stages i stage) j ≡ Some (stages.Asks xid end) → EndFound marking new end
moved-asks marking old new i stage g f s j xid end e = elim (set-cases old.stages i j stage (stages.Asks xid end) e) [
  | inl own ↦ end-grows marking old new end g (s.asks xid end (sym own.1))
  | inr other ↦ end-grows marking old new end g (f.asks j xid end other.1)
]

moved-completed : (marking : Marking) (old new : World) (i : ℕ) (stage : StageSays) → Stays old new → Founds marking old → StageFound marking old i stage
    → (j : ℕ) (own : PlainSetup) (outcome : Outcome) (now : StageSays) (session : SessionState) → slice_get old.facts j ≡ Some own → slice_get (slice_set old.stages i stage) j ≡ Some now → session_in now ≡ Some session → session.outcome ≡ outcome
    → OutcomeFound marking new own outcome
moved-completed marking old new i stage g f s j own outcome now session facts e in_session is =
    subst (OutcomeFound marking new own) is (outcome-grows marking old new own session.outcome g (elim (set-cases old.stages i j stage now e) [
      | inl there ↦ s.stands own session (ap (slice_get old.facts) there.0 ∙ facts) (sym (ap session_in there.1) ∙ in_session)
      | inr other ↦ f.completed j own session.outcome (record { there = facts; stage = now; stands = other.1; session = session; in_session = in_session; outcome_is = refl })
    ]))

pub moved-found : (marking : Marking) (old new : World) (i : ℕ) (stage : StageSays) (makes : List MechMaking) → new ≡ moved_to old i stage makes → Stays old new → Founds marking old → StageFound marking old i stage → Founds marking new
moved-found marking old new i stage makes is g f s = record {
  contexts = λ place x e. context-grows marking old new x g (f.contexts place x (sym (ap (λ (w : World). slice_get w.fixed place) is) ∙ e));
  asks = λ j xid end e. moved-asks marking old new i stage g f s j xid end (sym (ap (λ (w : World). slice_get w.stages j) is) ∙ e);
  completed = λ j own outcome c.
      moved-completed marking old new i stage g f s j own outcome c.stage c.session (sym (ap (λ (l : List PlainSetup). slice_get l j) g.facts) ∙ c.there)
      (sym (ap (λ (w : World). slice_get w.stages j) is) ∙ c.stands) c.in_session c.outcome_is;
}

-- ---- a lane moves

added : (o : Option Context) (j : ℕ) (x : Context) → slice_get (option_to_list o) j ≡ Some x → o ≡ Some x
added None j x e = absurd (none-some x e)
added (Some y) zero x e = e
added (Some y) (suc j) x e = absurd (none-some x e)

lane-contexts : (marking : Marking) (old new : World) (deed : Deed) → Stays old new → Founds marking old → ((x : Context) → deed.fixes ≡ Some x → ContextFound marking old x)
    → (place : ℕ) (x : Context) → slice_get (old.fixed ++ option_to_list deed.fixes) place ≡ Some x → ContextFound marking new x
lane-contexts marking old new deed g f more place x e = context-grows marking old new x g (elim (get-split old.fixed (option_to_list deed.fixes) place x e) [
  | inl before ↦ f.contexts place x before
  | inr now ↦ more x (added deed.fixes now.0 x now.2)
])

pub lane-found : (marking : Marking) (old new : World) (lane : ℕ) (hand : Option InHand) (book : BookOf) (deed : Deed) → new ≡ with_lane old lane hand book deed → Stays old new → Founds marking old
    → ((x : Context) → deed.fixes ≡ Some x → ContextFound marking old x) → Founds marking new
lane-found marking old new lane hand book deed is g f more = record {
  contexts = λ place x e. lane-contexts marking old new deed g f more place x (sym (ap (λ (w : World). slice_get w.fixed place) is) ∙ e);
  asks = λ j xid end e. end-grows marking old new end g (f.asks j xid end (sym (ap (λ (w : World). slice_get w.stages j) is) ∙ e));
  completed = λ j own outcome c. outcome-grows marking old new own outcome g (f.completed j own outcome (record {
    there = sym (ap (λ (l : List PlainSetup). slice_get l j) g.facts) ∙ c.there;
    stage = c.stage;
    stands = sym (ap (λ (w : World). slice_get w.stages j) is) ∙ c.stands;
    session = c.session;
    in_session = c.in_session;
    outcome_is = c.outcome_is;
  }));
}
