-- What an acceptor knows of the initiator's list, after every run.
use Rattle.std.proofs.Common.{◌≡◌, ◌⊎◌, inl, inr, ℕ, true, refl, sym, ap, ◌∙◌, subst, List, [], ◌∷◌, slice_get, Some}
use Rattle.gss_base.specs.declared.mech.MechKind.{MechKind}
use Rattle.spnego_core.specs.declared.outcome.Outcome.{Outcome}
use Rattle.spnego_core.specs.Ends.{PlainSetup}
use Rattle.spnego_core.specs.AcceptMech.{Basis, ByRequest, ByProof}
use Rattle.spnego_core.specs.Choice.{is_first}
use Rattle.spnego_core.specs.Initiating.{own_list}
use Rattle.world_laws.specs.declared.event.WorldEvent.{WorldEvent}
use Rattle.world_laws.specs.State.{Context, World}
use Rattle.world_laws.specs.Agreement.{Partner, HasInitiator}
use Rattle.world_laws.specs.Events.{Run}
use Rattle.world_laws.specs.KnownList.{ProofKeysApart, NoForgedList, KnownListLaw}
use Rattle.world_laws.specs.Premises.{Marking, GuardedBasis, OnTicket, OnAccount, OnGuarded, OnProof, NoForgery, Fresh}
use Rattle.world_laws.specs.Setups.{Proper}
use Rattle.world_laws.proofs.Invariants.{MechFinished, Below, Kept}
use Rattle.world_laws.proofs.Built.{built}
use Rattle.world_laws.proofs.Freshness.{fresh-back}
use Rattle.world_laws.proofs.Growing.{Grows, same-grows, grows, grows-on, run-grows}
use Rattle.world_laws.proofs.Holders.{proper-on}
use Rattle.world_laws.proofs.Kerberos.{same-own, same-context, Answers, krb-answers}
use Rattle.world_laws.proofs.KnownLists.{Knows, AllKnow, know-start, know-step}
use Rattle.world_laws.proofs.Negotiated.{on-proof, not-mixed}
use Rattle.world_laws.proofs.OwedLists.{Lists, lists-start, lists-step}
use Rattle.world_laws.proofs.Running.{kept-start, kept-step}
use Rattle.world_laws.proofs.Scram.{ScramAnswers, scram-answers}
use Rattle.world_laws.proofs.Signers.{Signed, signed-start, signed-step}

-- ---- whose mechanism is done with the context's key is its partner

place-same : (w : World) (i j : ℕ) (x y : Context) → i ≡ j → slice_get w.fixed i ≡ Some x → slice_get w.fixed j ≡ Some y → x ≡ y
place-same w i j x y e there next = same-context w j x y (subst (λ (n : ℕ). slice_get w.fixed n ≡ Some x) e there) next

krb-partner : (laws : Below) (marking : Marking) (w : World) → Proper w → Fresh marking w → Kept marking w → (place : ℕ) (x : Context) → slice_get w.fixed place ≡ Some x → GuardedBasis marking x.fixed.basis → (own : PlainSetup) (outcome : Outcome)
    → outcome.key ≡ x.fixed.outcome.key → (on : OnTicket marking own) → Answers w own on.credential outcome → (b : Basis) → x.fixed.basis ≡ b → Partner w own x.fixed.basis
krb-partner laws marking w proper fresh kept place x there guarded own outcome key on a (ByRequest request) basis =
    let same : a.context ≡ x = place-same w a.place place a.context x (fresh.subkeys a.place place a.context x a.request request a.there there (record { basis = a.basis }) (record { basis = basis }) (sym (ap (λ (o : Outcome). o.key) a.agree) ∙ key)) a.there there in
    subst (λ (c : Basis). Partner w own c) (sym a.basis ∙ ap (λ (z : Context). z.fixed.basis) same) (record { credential = on.credential; is_own = on.is_own; session = a.session; stamp = a.stamp })
krb-partner laws marking w proper fresh kept place x there guarded own outcome key on a (ByProof end text) basis =
    not-mixed laws marking w proper fresh kept a.place place a.context x a.there there (inr guarded) a.request a.basis end text basis (sym (ap (λ (o : Outcome). o.key) a.agree) ∙ key)

scram-partner : (laws : Below) (marking : Marking) (w : World) → Proper w → Fresh marking w → Kept marking w → ProofKeysApart marking w → (place : ℕ) (x : Context) → slice_get w.fixed place ≡ Some x → GuardedBasis marking x.fixed.basis → (own : PlainSetup) (outcome : Outcome)
    → outcome.key ≡ x.fixed.outcome.key → ScramAnswers marking w own outcome → (b : Basis) → x.fixed.basis ≡ b → Partner w own x.fixed.basis
scram-partner laws marking w proper fresh kept apart place x there guarded own outcome key a (ByRequest request) basis =
    not-mixed laws marking w proper fresh kept place a.place x a.context there a.there (inl guarded) request basis a.end a.text a.basis (sym key ∙ ap (λ (o : Outcome). o.key) a.agree)
scram-partner laws marking w proper fresh kept apart place x there guarded own outcome key a (ByProof end text) basis =
    let p = on-proof laws marking w proper kept place x there end text basis in
    let q : OnProof a.context a.end a.auth = record { text = a.text; basis = a.basis; has_auth = a.taken } in
    let places : place ≡ a.place = apart place a.place x a.context end a.end p.0 a.auth there a.there p.1 q guarded (sym key ∙ ap (λ (o : Outcome). o.key) a.agree) in
    let same : a.context ≡ x = place-same w a.place place a.context x (sym places) a.there there in
    subst (λ (c : Basis). Partner w own c) (sym a.basis ∙ ap (λ (z : Context). z.fixed.basis) same) (record { auth = a.auth; taken = a.taken; proved = a.proved })

named-partner : (laws : Below) (marking : Marking) (w : World) → Proper w → Fresh marking w → Kept marking w → ProofKeysApart marking w → (place : ℕ) (x : Context) → slice_get w.fixed place ≡ Some x → GuardedBasis marking x.fixed.basis
    → (i : ℕ) (own : PlainSetup) (outcome : Outcome) → slice_get w.facts i ≡ Some own → MechFinished marking w own outcome → OnGuarded marking own outcome.mech → outcome.key ≡ x.fixed.outcome.key → Partner w own x.fixed.basis
named-partner laws marking w proper fresh kept apart place x there guarded i own outcome facts (inl d) on key =
    let ticket : OnTicket marking own = subst (λ (k : MechKind). OnGuarded marking own k) (ap (λ (o : Outcome). o.mech) d.outcome_is) on in
    krb-partner laws marking w proper fresh kept place x there guarded own outcome key ticket (krb-answers laws.exchange laws.scram marking w proper fresh kept.owning kept.found i own outcome facts d ticket) x.fixed.basis refl
named-partner laws marking w proper fresh kept apart place x there guarded i own outcome facts (inr d) on key =
    let account : OnAccount marking own = subst (λ (k : MechKind). OnGuarded marking own k) (ap (λ (o : Outcome). o.mech) d.outcome_is) on in
    scram-partner laws marking w proper fresh kept apart place x there guarded own outcome key (scram-answers laws.scram marking w proper fresh kept.owning kept.found i own outcome facts d account) x.fixed.basis refl

knows-partner : (laws : Below) (marking : Marking) (w : World) → Proper w → Fresh marking w → Kept marking w → ProofKeysApart marking w → (place : ℕ) (x : Context) → slice_get w.fixed place ≡ Some x → GuardedBasis marking x.fixed.basis → (has : HasInitiator w x)
    → Knows marking w x → (is_first w.book.setup.offer x.fixed.outcome.mech ≡ true) ⊎ (x.fixed.received ≡ own_list has.own)
knows-partner laws marking w proper fresh kept apart place x there guarded has (inl first) = inl first
knows-partner laws marking w proper fresh kept apart place x there guarded has (inr n) =
    let partner : Partner w n.own x.fixed.basis = named-partner laws marking w proper fresh kept apart place x there guarded n.i n.own n.outcome n.there n.done n.guarded n.key in
    let i : n.i ≡ has.initiator = has.only n.i n.own n.there partner in
    let own : n.own ≡ has.own = same-own w has.initiator n.own has.own (subst (λ (k : ℕ). slice_get w.facts k ≡ Some n.own) i n.there) has.there in
    inr (n.list ∙ ap own_list own)

-- ---- over a run

record AllOf (marking : Marking) (last w : World) : Type 0 where
  kept : Kept marking w
  signed : Signed marking last w
  lists : Lists w
  know : AllKnow marking w

all-run : (laws : Below) (marking : Marking) (last old : World) (events : List WorldEvent) (new : World) (run : Run old events new) → Proper old → AllOf marking last old → NoForgery marking old events new run → Fresh marking new
    → NoForgedList marking last old events new run → Grows new last → AllOf marking last new
all-run laws marking last old [] new run proper all none fresh lists more = subst (AllOf marking last) (sym run) all
all-run laws marking last old (event ∷ later) new run proper all none fresh lists more =
    let before : Fresh marking old = fresh-back marking old new (run-grows old (event ∷ later) new run) fresh in
    let next : World = run.0.world in
    let rest : Grows next last = grows-on next new last (run-grows next later new run.1) more in
    let kept : Kept marking next = kept-step laws marking old event run.0.deed next proper before all.kept none.0 run.0.happens in
    let signed : Signed marking last next =
    signed-step laws marking last old event run.0.deed next all.kept.known all.kept.held all.kept.found (built laws marking old proper before all.kept.owning all.kept.found) none.0 lists.0.untold run.0.happens all.signed in
    let owed : Lists next = lists-step laws.book old event run.0.deed next all.kept.held all.lists run.0.happens in
    let know : AllKnow marking next =
    know-step laws marking last old event run.0.deed next all.kept.known all.kept.held kept.held all.lists all.signed none.0 lists.0 rest run.0.happens all.know in
    all-run laws marking last next later new run.1 (proper-on old next (grows old event run.0.deed next run.0.happens) proper) (record { kept = kept; signed = signed; lists = owed; know = know }) none.1 fresh lists.1 more

apart-end : (marking : Marking) (last old : World) (events : List WorldEvent) (new : World) (run : Run old events new) → NoForgedList marking last old events new run → ProofKeysApart marking last
apart-end marking last old [] new run lists = lists
apart-end marking last old (event ∷ later) new run lists = apart-end marking last run.0.world later new run.1 lists.1

pub known-list : Below → KnownListLaw
known-list laws marking old events new run begins none fresh lists = λ place x there guarded settled has.
    knows-partner laws marking new (proper-on old new (run-grows old events new run) begins.proper) fresh all.kept (apart-end marking new old events new run lists) place x there guarded has (all.know.knows place x there guarded settled)
  where
    all : AllOf marking new new
    all = all-run laws marking new old events new run begins.proper
        (record { kept = kept-start marking old begins; signed = signed-start marking new old begins; lists = lists-start old begins; know = know-start marking old begins }) none fresh lists (same-grows new)
