-- That what is listed pairwise different is fresh.
use Rattle.std.proofs.Common.{◌≡◌, inl, inr, ℕ, zero, suc, true, false, refl, sym, ap, ◌∙◌, subst, List, [], ◌∷◌, map, slice_get, Option, Some}
use Rattle.std.specs.List.{AllByRecursion}
use Rattle.std.proofs.lemmas.Option.{none-some, same_Some}
use Rattle.gss_base.specs.declared.mech.MechKind.{MechKind}
use Rattle.gss_base.specs.declared.mech.MechKind.TheVariants as kinds
use Rattle.krb_derive.specs.declared.key.Key.{Key}
use Rattle.krb_files.specs.Granted.{Granted}
use Rattle.ap_exchange.specs.declared.judged.Judged.{Judged}
use Rattle.ap_exchange.specs.Draws.{drawn_nonce}
use Rattle.scram_mech.specs.Acceptor.{AcceptModel, auth_with}
use Rattle.scram_mech.specs.AuthParts.{AuthParts}
use Rattle.scram_mech.specs.MechMaking.{TagKey, OfType, OfPassword}
use Rattle.scram_mech.specs.ThirdText.{Third}
use Rattle.spnego_core.specs.declared.outcome.Outcome.{Outcome}
use Rattle.spnego_core.specs.declared.setup.MechCred.TheVariants as creds
use Rattle.spnego_core.specs.Ends.{PlainSetup}
use Rattle.spnego_core.specs.AcceptMech.{Basis, ByRequest, ByProof}
use Rattle.spnego_core.specs.InitMech.{ticket_for}
use Rattle.gss_client.specs.Session.{SessionState}
use Rattle.world_laws.specs.declared.event.WorldEvent.{WorldEvent}
use Rattle.world_laws.specs.Agreement.{Partner, HasPartner, TookRequest, TookProof}
use Rattle.world_laws.specs.Below.{Below}
use Rattle.world_laws.specs.Deeds.{Opened}
use Rattle.world_laws.specs.Events.{Run, Begins}
use Rattle.world_laws.specs.KnownList.{outcome_in, Finished, NoForgedList, IsNoCall, LeavesUntold}
use Rattle.world_laws.specs.Stages.{StageSays}
use Rattle.world_laws.specs.Stages as stages
use Rattle.world_laws.specs.Premises.{Marking, Ticket, Listed, GuardedSession, MarkedLine, GuardedBasis, Guarded, OnTicket, OnAccount, OnGuarded, WasIssued, NoForgery, OnRequest, OnProof, HasAuth, HasTicket, HasAccount, session_in, Completed, AtInitiator, Fresh}
use Rattle.world_laws.specs.Setups.{Proper}
use Rattle.world_laws.specs.State.{Context, World}
use Rattle.world_laws.proofs.Invariants.{Kept}
use Rattle.world_laws.proofs.Kerberos.{same-cred, not-both}
use Rattle.world_laws.proofs.Growing.{run-grows}
use Rattle.world_laws.proofs.Holders.{proper-on}
use Rattle.world_laws.proofs.ListsMet.{unforged-list}
use Rattle.world_laws.proofs.Running.{kept-end}
use Rattle.world_laws.proofs.ScramAgrees.{krb-is, other-kind, one-proof}
use Rattle.world_laws.proofs.TakenTexts.{Taken, taken, some-parts, same-third}
use Rattle.world_many.specs.Lists.{Apart, stamp_of, nonce_of, key_of, own_nonce_of, AreApart, AreMade, AllIssued, AreMatched, AreDone, FreshByListsLaw}

-- ---- lists

pub at-map : {A B : Type 0} (f : A → B) (xs : List A) (i : ℕ) (x : A) → slice_get xs i ≡ Some x → slice_get (map f xs) i ≡ Some (f x)
at-map f [] i x e = absurd (none-some x e)
at-map f (z ∷ zs) zero x e = ap (λ y. Some (f y)) (same_Some z x e)
at-map f (z ∷ zs) (suc i) x e = at-map f zs i x e

pub record FromMap {A B : Type 0} (f : A → B) (xs : List A) (i : ℕ) (y : B) : Type 0 where
  pub from : A
  pub there : slice_get xs i ≡ Some from
  pub is : f from ≡ y

pub from-map : {A B : Type 0} (f : A → B) (xs : List A) (i : ℕ) (y : B) → slice_get (map f xs) i ≡ Some y → FromMap f xs i y
from-map f [] i y e = absurd (none-some y e)
from-map f (z ∷ zs) zero y e = record { from = z; there = refl; is = same_Some (f z) y e }
from-map f (z ∷ zs) (suc i) y e = let r = from-map f zs i y e in record { from = r.from; there = r.there; is = r.is }

-- two places of a list whose values are one
pub apart-at : {A B : Type 0} (f : A → Option B) (xs : List A) (i j : ℕ) (x y : A) (value : B) → Apart (map f xs) → slice_get xs i ≡ Some x → slice_get xs j ≡ Some y → f x ≡ Some value → f y ≡ Some value → i ≡ j
apart-at f xs i j x y value apart there next is also = apart i j value (at-map f xs i x there ∙ ap Some is) (at-map f xs j y next ∙ ap Some also)

-- ---- a marking under which nothing is guarded

abbrev unmarked : Ticket → Ticket
unmarked t = record { client = t.client; server = t.server; service = t.service; session = t.session; marked = false }

abbrev none_of : Marking → Marking
none_of marking = record { tickets = map unmarked marking.tickets; accounts = [] }

not-true : {A : Type 0} → false ≡ true → A
not-true e = absurd cc

no-session : {A : Type 0} (marking : Marking) (key : Key) → GuardedSession (none_of marking) key → A
no-session marking key g =
    let r = from-map unmarked marking.tickets g.issued.place g.ticket g.issued.there in
    not-true (ap (λ (t : Ticket). t.marked) r.is ∙ g.marked)

no-basis : {A : Type 0} (marking : Marking) (basis : Basis) → GuardedBasis (none_of marking) basis → A
no-basis marking (ByRequest request) g = no-session marking request.session g
no-basis marking (ByProof end text) g = absurd (none-some g.account g.marked.there)

no-key : {A : Type 0} (marking : Marking) (fixed : List Context) (key : TagKey) → Guarded (none_of marking) fixed key → A
no-key marking fixed (OfType key) (inl g) = no-session marking key g
no-key marking fixed (OfType key) (inr g) = no-basis marking g.context.fixed.basis g.guarded
no-key marking fixed (OfPassword key) g = absurd (none-some g.account g.marked.there)

issued-so : (marking : Marking) (opened : Opened) → WasIssued marking opened → WasIssued (none_of marking) opened
issued-so marking opened was = record {
  ticket = unmarked was.ticket;
  issued = record { place = was.issued.place; there = at-map unmarked marking.tickets was.issued.place was.ticket was.issued.there };
  service = was.service;
  client = was.client;
  session = was.session;
}

none-forged : (marking : Marking) (old : World) (events : List WorldEvent) (new : World) (run : Run old events new) → AllIssued marking old events new run → NoForgery (none_of marking) old events new run
none-forged marking old [] new run issued = tt
none-forged marking old (event ∷ later) new run issued = (
  record {
    made = λ making among guarded. no-key marking old.fixed making.key guarded;
    issued = λ opened is. issued-so marking opened (issued.0 opened is);
  },
  none-forged marking run.0.world later new run.1 issued.1,
)

-- ---- initiators

stamp-at : (own : PlainSetup) (c : Granted) → ticket_for own.list ≡ Some c → stamp_of own ≡ Some (record { session = c.session; at = own.stamp })
stamp-at own c e = rw e refl

stamps-so : (w : World) → Apart (map stamp_of w.facts) → (i j : ℕ) (own other : PlainSetup) (c d : Granted) → HasTicket w i own c → HasTicket w j other d → c.session ≡ d.session → own.stamp ≡ other.stamp → i ≡ j
stamps-so w apart i j own other c d has next session stamp =
    let same : Some (record { session = d.session; at = other.stamp }) ≡ Some (record { session = c.session; at = own.stamp }) = λ k. Some (record { session = sym session k; at = sym stamp k }) in
    apart-at stamp_of w.facts i j own other (record { session = c.session; at = own.stamp }) apart has.there next.there (stamp-at own c has.is_own) (stamp-at other d next.is_own ∙ same)

nonce-at : (own : PlainSetup) (user password : List ℕ) (w : World) (i : ℕ) → HasAccount w i own user password → nonce_of own ≡ Some (drawn_nonce own.draws)
nonce-at own user password w i has = rw has.is_own refl

nonces-so : (w : World) → Apart (map nonce_of w.facts) → (i j : ℕ) (own other : PlainSetup) (a p b q : List ℕ) → HasAccount w i own a p → HasAccount w j other b q → drawn_nonce own.draws ≡ drawn_nonce other.draws → i ≡ j
nonces-so w apart i j own other a p b q has next nonce =
    apart-at nonce_of w.facts i j own other (drawn_nonce own.draws) apart has.there next.there (nonce-at own a p w i has) (nonce-at other b q w j next ∙ ap Some (sym nonce))

-- ---- contexts

keys-so : (w : World) → Apart (map key_of w.fixed) → (i j : ℕ) (x y : Context) → slice_get w.fixed i ≡ Some x → slice_get w.fixed j ≡ Some y → x.fixed.outcome.key ≡ y.fixed.outcome.key → i ≡ j
keys-so w apart i j x y there next key = apart-at key_of w.fixed i j x y x.fixed.outcome.key apart there next refl (ap Some (sym key))

one-at : (xs : List Context) (i j : ℕ) (x y : Context) → i ≡ j → slice_get xs i ≡ Some x → slice_get xs j ≡ Some y → x ≡ y
one-at xs i j x y same e f = same_Some x y (sym e ∙ (ap (λ (k : ℕ). slice_get xs k) same ∙ f))

-- contexts of one key are one
keyed : (w : World) → Apart (map key_of w.fixed) → (x y : Context) → Listed w.fixed x → Listed w.fixed y → x.fixed.outcome.key ≡ y.fixed.outcome.key → x ≡ y
keyed w apart x y a b key = one-at w.fixed a.place b.place x y (keys-so w apart a.place b.place x y a.there b.there key) a.there b.there

own-at : (x : Context) (end : AcceptModel) (auth : List ℕ) → OnProof x end auth → own_nonce_of x ≡ Some end.own
own-at x end auth on = rw on.basis refl

own-nonces-so : (w : World) → Apart (map own_nonce_of w.fixed) → (i j : ℕ) (x y : Context) (end next : AcceptModel) (auth last : List ℕ) → slice_get w.fixed i ≡ Some x → slice_get w.fixed j ≡ Some y → OnProof x end auth → OnProof y next last → end.own ≡ next.own → i ≡ j
own-nonces-so w apart i j x y end next auth last there other on also same =
    apart-at own_nonce_of w.fixed i j x y end.own apart there other (own-at x end auth on) (own-at y next last also ∙ ap Some (sym same))

-- an initiator's partner has its key, and is listed
matched-at : (w : World) (own : PlainSetup) (outcome : Outcome) (p : HasPartner w own outcome) → Listed w.fixed p.context
matched-at w own outcome p = record { place = p.place; there = p.there }

-- the partner of who completed with a context's key is that context
partner-is : (w : World) → Apart (map key_of w.fixed) → (own : PlainSetup) (outcome : Outcome) (p : HasPartner w own outcome) (x : Context) → Listed w.fixed x → outcome.key ≡ x.fixed.outcome.key → p.context ≡ x
partner-is w apart own outcome p x listed key = keyed w apart p.context x (matched-at w own outcome p) listed (ap (λ (o : Outcome). o.key) (sym p.agree) ∙ key)

-- ---- nothing is guarded, and all is fresh

fresh-none : (marking : Marking) (w : World) → AreMade marking w → AreApart w → Fresh (none_of marking) w
fresh-none marking w made apart = record {
  credential = λ i own c t has listed session.
      let r = from-map unmarked marking.tickets listed.place t listed.there in
      let was = made.credential i own c r.from has (record { place = listed.place; there = r.there }) (ap (λ (z : Ticket). z.session) r.is ∙ session) in
      (sym (ap (λ (z : Ticket). z.client) r.is) ∙ was.0, sym (ap (λ (z : Ticket). z.server) r.is) ∙ was.1);
  server = λ t number etype listed there.
      let r = from-map unmarked marking.tickets listed.place t listed.there in
      sym (ap (λ (z : Ticket). z.server) r.is) ∙ made.server r.from number etype (record { place = listed.place; there = r.there }) (there ∙ ap (λ (z : Ticket). Some z.service) (sym r.is));
  stamps = stamps-so w apart.stamps;
  subkeys = λ i j x y a b there next f g key. keys-so w apart.keys i j x y there next key;
  nonces = nonces-so w apart.nonces;
  own_nonces = own-nonces-so w apart.own_nonces;
  lines = λ account line listed. absurd (none-some account listed.there);
  proof_keys = λ x end auth last listed guarded. no-basis marking x.fixed.basis guarded;
  proof_subkeys = λ x y request end auth listed next on also either. elim either [
    | inl g ↦ no-basis marking x.fixed.basis g
    | inr g ↦ no-basis marking y.fixed.basis g
  ];
  own_proofs = λ x request last listed guarded. no-basis marking x.fixed.basis guarded;
  untold = λ i own c outcome has done mech b. no-basis marking b.context.fixed.basis b.guarded;
}

-- ---- all is fresh

-- the AuthMessage of an end and a text is one
one-auth : (end : AcceptModel) (text auth last : List ℕ) → HasAuth end text auth → HasAuth end text last → auth ≡ last
one-auth end text auth last a b = a.auth_is ∙ (ap (λ (t : Third). auth_with end t.bare) (same-third text a.third b.third a.read b.read) ∙ sym b.auth_is)

-- what an initiator's partner took, by what that is on
took-proof : (w : World) (own : PlainSetup) (basis : Basis) (end : AcceptModel) (text : List ℕ) → basis ≡ ByProof end text → Partner w own basis → TookProof w own end text
took-proof w own basis end text e p = subst (λ (b : Basis). Partner w own b) e p

took-request : (w : World) (own : PlainSetup) (basis : Basis) (request : Judged) → basis ≡ ByRequest request → Partner w own basis → TookRequest own request
took-request w own basis request e p = subst (λ (b : Basis). Partner w own b) e p

record Known (laws : Below) (marking : Marking) (w : World) : Type 0 where
  proper : Proper w
  none : Fresh (none_of marking) w
  kept : Kept (none_of marking) w
  made : AreMade marking w
  apart : AreApart w
  matched : AreMatched w

proofs-so : (laws : Below) (marking : Marking) (w : World) → Known laws marking w → (x : Context) (end : AcceptModel) (auth last : List ℕ) → Listed w.fixed x → OnProof x end auth → AtInitiator w x.fixed.outcome.key last → auth ≡ last
proofs-so laws marking w k x end auth last listed on at =
    let p = k.matched at.i at.own at.outcome at.completed in
    let is : p.context ≡ x = partner-is w k.apart.keys at.own at.outcome p x listed at.key_is in
    let took = took-proof w at.own p.context.fixed.basis end on.text (ap (λ (c : Context). c.fixed.basis) is ∙ on.basis) p.partner in
    one-auth end on.text auth took.auth on.has_auth took.taken
    ∙ one-proof laws (none_of marking) w k.proper k.none k.kept at.i at.own took.auth last at.completed.there took.proved at.proved

-- a context on a request is by Kerberos
by-request : (laws : Below) (marking : Marking) (w : World) → Known laws marking w → (x : Context) (request : Judged) → Listed w.fixed x → x.fixed.basis ≡ ByRequest request → x.fixed.outcome.mech ≡ kinds.Kerberos
by-request laws marking w k x request listed basis = krb-is (none_of marking) w x request (k.kept.found.requests listed.place x request listed.there basis)

-- and one on a proof by SCRAM
by-proof : (laws : Below) (marking : Marking) (w : World) → Known laws marking w → (x : Context) (end : AcceptModel) (text : List ℕ) → Listed w.fixed x → x.fixed.basis ≡ ByProof end text → x.fixed.outcome.mech ≡ kinds.Scram
by-proof laws marking w k x end text listed basis = ap (λ (o : Outcome). o.mech) (k.kept.found.proofs listed.place x end text listed.there basis).outcome_is

no-subkey : (laws : Below) (marking : Marking) (w : World) → Known laws marking w → (x : Context) (request : Judged) (last : List ℕ) → Listed w.fixed x → OnRequest x request → AtInitiator w x.fixed.outcome.key last → ⊥
no-subkey laws marking w k x request last listed on at =
    let p = k.matched at.i at.own at.outcome at.completed in
    let is : p.context ≡ x = partner-is w k.apart.keys at.own at.outcome p x listed at.key_is in
    other-kind (sym (by-request laws marking w k x request listed on.basis) ∙ (ap (λ (c : Context). c.fixed.outcome.mech) (sym is) ∙ (ap (λ (o : Outcome). o.mech) (sym p.agree) ∙ at.by_proof)))

untold-by : (laws : Below) (marking : Marking) (w : World) → Known laws marking w → (i : ℕ) (own : PlainSetup) (c : Granted) (outcome : Outcome) (x : Context) → HasTicket w i own c → Completed w i own outcome → outcome.mech ≡ kinds.Kerberos → Listed w.fixed x → x.fixed.outcome.key ≡ outcome.key
    → (basis : Basis) → x.fixed.basis ≡ basis → GuardedBasis marking basis → GuardedSession marking c.session
untold-by laws marking w k i own c outcome x has done mech listed key (ByRequest request) basis guarded =
    let p = k.matched i own outcome done in
    let is : p.context ≡ x = partner-is w k.apart.keys own outcome p x listed (sym key) in
    let took = took-request w own p.context.fixed.basis request (ap (λ (z : Context). z.fixed.basis) is ∙ basis) p.partner in
    subst (λ (s : Key). GuardedSession marking s) (took.session ∙ ap (λ (g : Granted). g.session) (same-cred own took.credential c took.is_own has.is_own)) guarded
untold-by laws marking w k i own c outcome x has done mech listed key (ByProof end text) basis guarded =
    let p = k.matched i own outcome done in
    let is : p.context ≡ x = partner-is w k.apart.keys own outcome p x listed (sym key) in
    other-kind (sym mech ∙ (ap (λ (o : Outcome). o.mech) p.agree ∙ (ap (λ (z : Context). z.fixed.outcome.mech) is ∙ by-proof laws marking w k x end text listed basis)))

fresh-known : (laws : Below) (marking : Marking) (w : World) → Known laws marking w → Fresh marking w
fresh-known laws marking w k = record {
  credential = k.made.credential;
  server = k.made.server;
  stamps = k.none.stamps;
  subkeys = k.none.subkeys;
  nonces = k.none.nonces;
  own_nonces = k.none.own_nonces;
  lines = k.made.lines;
  proof_keys = λ x end auth last listed guarded on at. proofs-so laws marking w k x end auth last listed on at;
  proof_subkeys = λ x y request end auth listed next on also either key.
      let is : x ≡ y = keyed w k.apart.keys x y listed next key in
      not-both request end also.text (sym on.basis ∙ (ap (λ (c : Context). c.fixed.basis) is ∙ also.basis));
  own_proofs = λ x request last listed guarded on at. no-subkey laws marking w k x request last listed on at;
  untold = λ i own c outcome has done mech built. untold-by laws marking w k i own c outcome built.context has done mech built.listed built.is_key built.context.fixed.basis refl built.guarded;
}

known-lists : (laws : Below) (marking : Marking) (old : World) (events : List WorldEvent) (new : World) (run : Run old events new) → Begins old → AllIssued marking old events new run → AreMade marking new → AreApart new → AreMatched new → Known laws marking new
known-lists laws marking old events new run begins issued made apart matched =
    let none = fresh-none marking new made apart in
    record {
      proper = proper-on old new (run-grows old events new run) begins.proper;
      none = none;
      kept = kept-end laws (none_of marking) old events new run begins (none-forged marking old events new run issued) none;
      made = made;
      apart = apart;
      matched = matched;
    }

pub fresh-by-lists : Below → FreshByListsLaw
fresh-by-lists laws marking old events new run begins issued made apart matched = fresh-known laws marking new (known-lists laws marking old events new run begins issued made apart matched)

-- ---- what an acceptor's list asks

-- whose context stands is done with its mechanism
done-in : (stage : StageSays) (s : SessionState) → session_in stage ≡ Some s → outcome_in stage ≡ Some s.outcome
done-in (stages.Ready own) s e = absurd (none-some s e)
done-in (stages.Asks xid end) s e = absurd (none-some s e)
done-in (stages.Stands t) s e = ap (λ (x : SessionState). Some x.outcome) (same_Some t s e)
done-in (stages.Left t) s e = ap (λ (x : SessionState). Some x.outcome) (same_Some t s e)
done-in stages.Over s e = absurd (none-some s e)

all-matched : (marking : Marking) (w : World) → AreDone marking w → AreMatched w
all-matched marking w d = λ i own outcome done. d.matched i own outcome (record { there = done.there; stage = done.stage; stands = done.stands; finished = done-in done.stage done.session done.in_session ∙ ap Some done.outcome_is })

-- the AuthMessage of the context that took an initiator's proof, and the marked user's name in it
user-is : (laws : Below) (marking : Marking) (w : World) → Known laws marking w → (own : PlainSetup) (x : Context) (end : AcceptModel) (text : List ℕ) → Listed w.fixed x → x.fixed.basis ≡ ByProof end text → (took : TookProof w own end text) (line : MarkedLine marking end.line)
    → line.account.user ≡ took.proved.user
user-is laws marking w k own x end text listed basis took line =
    let t : Taken w x end text = taken laws.scram (none_of marking) w k.proper x end text (k.kept.found.proofs listed.place x end text listed.there basis) in
    let same : auth_with end t.third.bare ≡ took.auth = one-auth end text (auth_with end t.third.bare) took.auth (record { third = t.third; read = t.read; auth_is = refl }) took.taken in
    let parts : t.parts ≡ took.proved.parts = some-parts (auth_with end t.third.bare) took.auth t.parts took.proved.parts same t.reads took.proved.reads in
    sym line.named ∙ (sym t.name ∙ (ap (λ (z : AuthParts). z.name) parts ∙ took.proved.name))

-- who is done with a guarded context's key is on what guards it
on-ticket : (marking : Marking) (own : PlainSetup) (request : Judged) → TookRequest own request → GuardedSession marking request.session → OnTicket marking own
on-ticket marking own request took guarded = record { credential = took.credential; is_own = took.is_own; guarded = subst (λ (s : Key). GuardedSession marking s) took.session guarded }

on-account : (marking : Marking) (w : World) (i : ℕ) (own : PlainSetup) (end : AcceptModel) (text : List ℕ) → AreDone marking w → slice_get w.facts i ≡ Some own → (took : TookProof w own end text) (line : MarkedLine marking end.line) → line.account.user ≡ took.proved.user → OnAccount marking own
on-account marking w i own end text d there took line user =
    let password : line.account.password ≡ took.proved.password = d.passwords i own took.proved.user took.proved.password line.account (record { there = there; is_own = took.proved.is_own }) line.marked user in
    record { account = line.account; marked = line.marked; is_own = took.proved.is_own ∙ (λ j. Some (creds.Scram (sym user j) (sym password j))) }

on-guarded : (laws : Below) (marking : Marking) (w : World) → Known laws marking w → AreDone marking w → (i : ℕ) (own : PlainSetup) (outcome : Outcome) → Finished w i own outcome → (x : Context) → Listed w.fixed x → x.fixed.outcome.key ≡ outcome.key
    → (basis : Basis) → x.fixed.basis ≡ basis → GuardedBasis marking basis → OnGuarded marking own outcome.mech
on-guarded laws marking w k d i own outcome f x listed key (ByRequest request) basis guarded =
    let p = d.matched i own outcome f in
    let is : p.context ≡ x = partner-is w k.apart.keys own outcome p x listed (sym key) in
    let took = took-request w own p.context.fixed.basis request (ap (λ (z : Context). z.fixed.basis) is ∙ basis) p.partner in
    let mech : kinds.Kerberos ≡ outcome.mech = sym (by-request laws marking w k x request listed basis) ∙ (ap (λ (z : Context). z.fixed.outcome.mech) (sym is) ∙ ap (λ (o : Outcome). o.mech) (sym p.agree)) in
    subst (λ (kind : MechKind). OnGuarded marking own kind) mech (on-ticket marking own request took guarded)
on-guarded laws marking w k d i own outcome f x listed key (ByProof end text) basis guarded =
    let p = d.matched i own outcome f in
    let is : p.context ≡ x = partner-is w k.apart.keys own outcome p x listed (sym key) in
    let took = took-proof w own p.context.fixed.basis end text (ap (λ (z : Context). z.fixed.basis) is ∙ basis) p.partner in
    let mech : kinds.Scram ≡ outcome.mech = sym (by-proof laws marking w k x end text listed basis) ∙ (ap (λ (z : Context). z.fixed.outcome.mech) (sym is) ∙ ap (λ (o : Outcome). o.mech) (sym p.agree)) in
    subst (λ (kind : MechKind). OnGuarded marking own kind) mech
    (on-account marking w i own end text d f.there took guarded (user-is laws marking w k own x end text listed basis took guarded))

leaves-untold : (laws : Below) (marking : Marking) (w : World) → Known laws marking w → AreDone marking w → LeavesUntold marking w
leaves-untold laws marking w k d = record {
  lasting = d.lasting;
  untold = λ i own outcome f built. on-guarded laws marking w k d i own outcome f built.context built.listed built.is_key built.context.fixed.basis refl built.guarded;
  apart = λ i j x y end next auth last there other on also guarded key. keys-so w k.apart.keys i j x y there other key;
}

pub lists-by-lists : (laws : Below) (marking : Marking) (old : World) (events : List WorldEvent) (new : World) (run : Run old events new) → Begins old → AllIssued marking old events new run → NoForgery marking old events new run
    → AllByRecursion IsNoCall events → AreMade marking new → AreApart new → AreDone marking new → NoForgedList marking new old events new run
lists-by-lists laws marking old events new run begins issued none calls made apart d =
    unforged-list laws marking old events new run begins none calls (leaves-untold laws marking new (known-lists laws marking old events new run begins issued made apart (all-matched marking new d)) d)
