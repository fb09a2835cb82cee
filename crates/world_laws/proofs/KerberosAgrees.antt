-- Agreement by Kerberos, assembled.
use Rattle.std.proofs.Common.{◌≡◌, inl, inr, ℕ, refl, sym, ap, ◌∙◌, subst, List, Some, slice_get}
use Rattle.gss_base.specs.declared.mech.MechKind.{MechKind}
use Rattle.gss_base.specs.declared.mech.MechKind.TheVariants as kinds
use Rattle.krb_derive.specs.declared.key.Key.{Key}
use Rattle.krb_files.specs.Granted.{Granted}
use Rattle.gss_base.specs.Mark.{mark_for}
use Rattle.ap_exchange.specs.declared.judged.Judged.{Judged}
use Rattle.ap_exchange.specs.Judging.{judged_mark}
use Rattle.ap_exchange.specs.Request.{label_of}
use Rattle.scram_mech.specs.Acceptor.{AcceptModel}
use Rattle.scram_mech.specs.MechMaking.{AmongMakings}
use Rattle.spnego_core.specs.declared.outcome.Outcome.{Outcome}
use Rattle.spnego_core.specs.Ends.{PlainSetup}
use Rattle.spnego_core.specs.AcceptMech.{Basis, ByRequest, ByProof}
use Rattle.world_laws.specs.State.{Context, World}
use Rattle.world_laws.specs.Premises.{Marking, GuardedSession, GuardedBasis, OnTicket, Fresh, HasTicket, Completed}
use Rattle.world_laws.specs.Agreement.{TookRequest, Partner, HandedOut, NamesBy, HasInitiator}
use Rattle.world_laws.specs.OneMechanism.{HasOneBy, AgreementBy}
use Rattle.world_laws.specs.Setups.{Proper}
use Rattle.world_laws.proofs.Invariants.{MadeRequest, KrbFixed, ScramFixed, KrbDone, MechFinished, Below, Kept}
use Rattle.world_laws.proofs.Kerberos.{same-own, same-cred, Asked, asked, Answers, krb-answers, one-request, asked-mark}

other-kind : {A : Type 0} → kinds.Kerberos ≡ kinds.Scram → A
other-kind e = absurd cc

pub scram-is : (marking : Marking) (w : World) (x : Context) (end : AcceptModel) (text : List ℕ) → ScramFixed marking w x end text → x.fixed.outcome.mech ≡ kinds.Scram
scram-is marking w x end text f = ap (λ (o : Outcome). o.mech) f.outcome_is

pub krb-done : (marking : Marking) (w : World) (own : PlainSetup) (outcome : Outcome) → MechFinished marking w own outcome → outcome.mech ≡ kinds.Kerberos → KrbDone marking w own outcome
krb-done marking w own outcome (inl d) e = d
krb-done marking w own outcome (inr d) e = other-kind (sym e ∙ ap (λ (o : Outcome). o.mech) d.outcome_is)

-- another context that took the initiator's request is the same
took-same : (laws : Below) (marking : Marking) (w : World) → Proper w → Fresh marking w → Kept marking w → (i : ℕ) (own : PlainSetup) (outcome : Outcome) → slice_get w.facts i ≡ Some own → (on : OnTicket marking own) → (a : Answers w own on.credential outcome)
    → (other : ℕ) (y : Context) → slice_get w.fixed other ≡ Some y → (request : Judged) → y.fixed.basis ≡ ByRequest request → TookRequest own request → other ≡ a.place
took-same laws marking w proper fresh kept i own outcome there on a other y on_it request basis took = one-request w kept.held other a.place y a.context request a.request on_it a.there basis a.basis (mine ∙ sym its)
  where
    has : HasTicket w i own on.credential
    has = record { there = there; is_own = on.is_own }

    session : request.session ≡ on.credential.session
    session = took.session ∙ ap (λ (c : Granted). c.session) (same-cred own took.credential on.credential took.is_own on.is_own)

    first : Asked w request
    first = asked laws.scram marking w proper fresh kept.owning y request (kept.found.requests other y request on_it basis) (subst (λ (k : Key). GuardedSession marking k) (sym session) on.guarded)

    second : Asked w a.request
    second = asked laws.scram marking w proper fresh kept.owning a.context a.request (kept.found.requests a.place a.context a.request a.there a.basis) (subst (λ (k : Key). GuardedSession marking k) (sym a.session) on.guarded)

    mine : judged_mark request ≡ mark_for (label_of on.credential.server) (label_of on.credential.client) own.stamp
    mine = asked-mark marking w fresh i own on.credential has request first session took.stamp

    its : judged_mark a.request ≡ mark_for (label_of on.credential.server) (label_of on.credential.client) own.stamp
    its = asked-mark marking w fresh i own on.credential has a.request second a.session a.stamp

pub krb-only : (laws : Below) (marking : Marking) (w : World) → Proper w → Fresh marking w → Kept marking w → (i : ℕ) (own : PlainSetup) (outcome : Outcome) → slice_get w.facts i ≡ Some own → (on : OnTicket marking own) → (a : Answers w own on.credential outcome)
    → (other : ℕ) (y : Context) → slice_get w.fixed other ≡ Some y → y.fixed.outcome.mech ≡ kinds.Kerberos → (b : Basis) → y.fixed.basis ≡ b → Partner w own b → other ≡ a.place
krb-only laws marking w proper fresh kept i own outcome there on a other y on_it mech (ByRequest request) basis took = took-same laws marking w proper fresh kept i own outcome there on a other y on_it request basis took
krb-only laws marking w proper fresh kept i own outcome there on a other y on_it mech (ByProof end text) basis took = other-kind (sym mech ∙ scram-is marking w y end text (kept.found.proofs other y end text on_it basis))

krb-has-one : (laws : Below) (marking : Marking) (w : World) → Proper w → Fresh marking w → Kept marking w → (i : ℕ) (own : PlainSetup) (outcome : Outcome) → slice_get w.facts i ≡ Some own → (on : OnTicket marking own) → outcome.mech ≡ kinds.Kerberos
    → Answers w own on.credential outcome → HasOneBy marking w own outcome
krb-has-one laws marking w proper fresh kept i own outcome there on mech a = record {
  has = record {
    place = a.place;
    context = a.context;
    there = a.there;
    partner = subst (λ (b : Basis). Partner w own b) (sym a.basis) (record { credential = on.credential; is_own = on.is_own; session = a.session; stamp = a.stamp });
    agree = a.agree;
  };
  only = λ other y on_it same took. krb-only laws marking w proper fresh kept i own outcome there on a other y on_it (same ∙ mech) y.fixed.basis refl took;
}

krb-initiators : (laws : Below) (marking : Marking) (w : World) → Proper w → Fresh marking w → Kept marking w → (i : ℕ) (own : PlainSetup) (outcome : Outcome) → Completed w i own outcome → outcome.mech ≡ kinds.Kerberos → OnTicket marking own → HasOneBy marking w own outcome
krb-initiators laws marking w proper fresh kept i own outcome completed mech on =
    krb-has-one laws marking w proper fresh kept i own outcome completed.there on mech
    (krb-answers laws.exchange laws.scram marking w proper fresh kept.owning kept.found i own outcome completed.there (krb-done marking w own outcome (kept.found.completed i own outcome completed) mech) on)

-- ---- a context's initiator

request-initiator : (marking : Marking) (w : World) → Fresh marking w → Kept marking w → (x : Context) (request : Judged) → KrbFixed marking w x request → x.fixed.basis ≡ ByRequest request → x.fixed.outcome.mech ≡ kinds.Kerberos → Asked w request → HasInitiator w x
request-initiator marking w fresh kept x request f basis mech a = record {
  initiator = a.i;
  own = a.own;
  there = a.has.there;
  ran = λ setup ready. kept.once.unasked a.i setup a.making ready a.among (subst (λ (z : PlainSetup). MadeRequest z a.making) (same-own w a.i a.own setup a.has.there (kept.known.ready a.i setup ready)) a.made);
  partner = subst (λ (b : Basis). Partner w a.own b) (sym basis) (record { credential = a.credential; is_own = a.has.is_own; session = a.session; stamp = a.stamp });
  handed_out = subst (λ (b : Basis). HandedOut w a.own b) (sym basis) (record { credential = a.made.credential; is_own = a.made.is_own; handed_out = subst (AmongMakings w.makings) a.made.made a.among });
  names = subst (λ (k : MechKind). NamesBy k a.own x.fixed.outcome) (sym mech) (record {
    credential = a.credential;
    is_own = a.has.is_own;
    initiator = ap (λ (o : Outcome). o.initiator) f.outcome_is ∙ a.initiator;
    acceptor = ap (λ (o : Outcome). o.acceptor) f.outcome_is ∙ a.acceptor;
  });
  hash = ap (λ (o : Outcome). o.hash) f.outcome_is ∙ a.hash;
  only = λ other next there took. only other next there (subst (λ (b : Basis). Partner w next b) basis took);
}
  where
    only : (other : ℕ) (next : PlainSetup) → slice_get w.facts other ≡ Some next → TookRequest next request → other ≡ a.i
    only other next there took =
        fresh.stamps other a.i next a.own took.credential a.credential (record { there = there; is_own = took.is_own }) a.has (sym took.session ∙ a.session) (sym took.stamp ∙ a.stamp)

pub krb-initiator : (laws : Below) (marking : Marking) (w : World) → Proper w → Fresh marking w → Kept marking w → (place : ℕ) (x : Context) → slice_get w.fixed place ≡ Some x → x.fixed.outcome.mech ≡ kinds.Kerberos
    → (b : Basis) → x.fixed.basis ≡ b → GuardedBasis marking b → HasInitiator w x
krb-initiator laws marking w proper fresh kept place x there mech (ByRequest request) basis guarded =
    let f : KrbFixed marking w x request = kept.found.requests place x request there basis in
    request-initiator marking w fresh kept x request f basis mech (asked laws.scram marking w proper fresh kept.owning x request f guarded)
krb-initiator laws marking w proper fresh kept place x there mech (ByProof end text) basis guarded = other-kind (sym mech ∙ scram-is marking w x end text (kept.found.proofs place x end text there basis))

pub agreement-kerberos : (laws : Below) (marking : Marking) (w : World) → Proper w → Fresh marking w → Kept marking w → AgreementBy kinds.Kerberos marking w
agreement-kerberos laws marking w proper fresh kept = record {
  initiators = λ i own outcome completed mech on. krb-initiators laws marking w proper fresh kept i own outcome completed mech on;
  contexts = λ place x there mech guarded. krb-initiator laws marking w proper fresh kept place x there mech x.fixed.basis refl guarded;
}
