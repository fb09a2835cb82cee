-- Agreement by Kerberos: who completed on a marked ticket has one partner, whose context is on its request; and a context on one has its initiator.
use Rattle.std.proofs.Common.{◌≡◌, inl, ℕ, ◌*◌, ◌<◌, refl, sym, ap, ◌∙◌, subst, List, [], ◌∷◌, map, Option, Some, slice_get}
use Rattle.gss_base.specs.Bindings.{hash_of}
use Rattle.gss_base.specs.declared.mark.Mark.{Mark}
use Rattle.gss_base.specs.Mark.{mark_for}
use Rattle.gss_base.specs.declared.mech.MechKind.TheVariants as kinds
use Rattle.krb_derive.specs.declared.key.Key.{Key}
use Rattle.krb_derive.specs.Making.{Making, sealed_making}
use Rattle.krb_files.specs.Granted.{Granted}
use Rattle.krb_tokens.specs.declared.done.MechDone.{MechDone}
use Rattle.ap_exchange.specs.declared.judged.Judged.{Judged}
use Rattle.ap_exchange.specs.declared.request.ApInit.{ApInit}
use Rattle.ap_exchange.specs.Keys.{authenticator_usage, reply_usage}
use Rattle.ap_exchange.specs.Request.{label_of, waiting, authenticator_octets}
use Rattle.ap_exchange.specs.Answer.{acceptor_subkey, answer_done, reply_octets}
use Rattle.ap_exchange.specs.Judging.{client_granted, judged_mark}
use Rattle.ap_exchange.specs.Reply.{reply_done, reply_found}
use Rattle.ap_exchange.specs.Laws.{TakesBy, Laws as ExchangeLaws}
use Rattle.scram_mech.specs.Acceptor.{AcceptModel}
use Rattle.scram_mech.specs.Laws.{Laws as ScramLaws}
use Rattle.scram_mech.specs.MechMaking.{OfType, MechMaking, AmongMakings, typed}
use Rattle.spnego_core.specs.declared.outcome.Outcome.{Outcome}
use Rattle.spnego_core.specs.Ends.{PlainSetup}
use Rattle.spnego_core.specs.AcceptMech.{Basis, ByRequest, ByProof}
use Rattle.spnego_core.specs.InitMech.{ticket_for}
use Rattle.spnego_core.specs.Outcome.{outcome_of}
use Rattle.accept_core.specs.declared.entry.Entry.{Entry}
use Rattle.accept_core.specs.declared.entry.Entry.TheVariants.{Auth}
use Rattle.accept_core.specs.History.{entry_at}
use Rattle.accept_core.proofs.Onces.{marks-once}
use Rattle.world_laws.specs.State.{Context, World}
use Rattle.world_laws.specs.Premises.{Marking, GuardedSession, GuardedBasis, BuiltKey, OnTicket, Fresh, HasTicket}
use Rattle.world_laws.specs.Agreement.{Partner, HasPartner}
use Rattle.world_laws.specs.Setups.{Proper}
use Rattle.world_laws.proofs.Invariants.{Held, MadeRequest, MadeAnswer, KrbFixed, KrbDone, Owning, Found}
use Rattle.world_laws.proofs.Makers.{RequestOf, AnswerOf, from-request, from-answer}
use Rattle.spnego_core.proofs.ReadBack.{Heard, Answered, heard, answered}

-- ---- small facts

pub same-cred : (own : PlainSetup) (c d : Granted) → ticket_for own.list ≡ Some c → ticket_for own.list ≡ Some d → c ≡ d
same-cred own c d e f = cc

pub same-own : (w : World) (i : ℕ) (a b : PlainSetup) → slice_get w.facts i ≡ Some a → slice_get w.facts i ≡ Some b → a ≡ b
same-own w i a b e f = cc

pub same-context : (w : World) (i : ℕ) (x y : Context) → slice_get w.fixed i ≡ Some x → slice_get w.fixed i ≡ Some y → x ≡ y
same-context w i x y e f = cc

pub same-type : (k l : Key) → OfType k ≡ OfType l → k ≡ l
same-type k l e = cc

pub request-is : (a b : Judged) → ByRequest a ≡ ByRequest b → a ≡ b
request-is a b e = cc

pub not-both : {A : Type 0} (a : Judged) (end : AcceptModel) (text : List ℕ) → ByRequest a ≡ ByProof end text → A
not-both a end text e = absurd cc

auth-id : (a b : ℕ) (m : Mark) (s t : ℕ) (h : List Entry) (p q : ℕ) → p ≡ q → entry_at p h ≡ Some (Auth a m s) → entry_at q h ≡ Some (Auth b m t) → a ≡ b
auth-id a b m s t h p q same e f = let g : entry_at p h ≡ Some (Auth b m t) = subst (λ (n : ℕ). entry_at n h ≡ Some (Auth b m t)) (sym same) f in cc

-- ---- the initiator whose request a context is on

pub record Asked (w : World) (request : Judged) : Type 0 where
  pub i : ℕ
  pub own : PlainSetup
  pub credential : Granted
  pub has : HasTicket w i own credential
  pub session : request.session ≡ credential.session
  pub stamp : request.stamp ≡ own.stamp
  pub initiator : request.initiator ≡ label_of credential.client
  pub acceptor : request.acceptor ≡ label_of credential.server
  pub hash : request.hash ≡ hash_of own.bindings
  pub small : request.stamp < 253402300800 * 1000000
  pub making : MechMaking
  pub made : MadeRequest own making
  pub among : AmongMakings w.makings making

asked-by : (scram : ScramLaws) (marking : Marking) (w : World) → Proper w → Fresh marking w → Owning w → (x : Context) (request : Judged) → (f : KrbFixed marking w x request)
    → RequestOf w (typed (sealed_making request.session authenticator_usage f.by.x.octets)) → Asked w request
asked-by scram marking w proper fresh owning x request f r =
    let made = r.made in
    let session : request.session ≡ made.credential.session = same-type _ _ (ap (λ (m : MechMaking). m.key) made.made) in
    let octets : f.by.x.octets ≡ authenticator_octets made.credential r.own.stamp r.own.draws r.own.bindings = ap (λ (m : MechMaking). m.octets) made.made in
    let h : Heard made.credential r.own.stamp r.own.bindings f.by.x.said request.hash =
    heard made.credential r.own.stamp r.own.draws r.own.bindings f.by.x.octets f.by.x.said request.hash ((proper.setups r.i r.own r.there).spelled made.credential made.is_own) octets f.by.says f.by.hash in
    let client : client_granted f.by.x.part ≡ made.credential.client = sym f.by.client ∙ h.client in
    let has : HasTicket w r.i r.own made.credential = record { there = r.there; is_own = made.is_own } in
    let stamp : request.stamp ≡ r.own.stamp = ap (λ (j : Judged). j.stamp) f.by.kept ∙ h.stamp_is in
    let kept : request.session ≡ f.by.x.session = ap (λ (j : Judged). j.session) f.by.kept in
    let named = fresh.credential r.i r.own made.credential f.issued.ticket has f.issued.issued (f.issued.session ∙ (sym kept ∙ session)) in
    let server : f.issued.ticket.server ≡ w.book.setup.own = fresh.server f.issued.ticket f.by.x.granted.enc_part.kvno f.by.etype f.issued.issued (f.by.service ∙ ap Some (sym f.issued.service)) in
    record {
      i = r.i;
      own = r.own;
      credential = made.credential;
      has = has;
      session = session;
      stamp = stamp;
      initiator = ap (λ (j : Judged). j.initiator) f.by.kept ∙ ap label_of client;
      acceptor = ap (λ (j : Judged). j.acceptor) f.by.kept ∙ ap label_of (sym server ∙ named.1);
      hash = h.hash_is;
      small = subst (λ (n : ℕ). n < 253402300800 * 1000000) (sym stamp) h.small;
      making = typed (sealed_making request.session authenticator_usage f.by.x.octets);
      made = made;
      among = r.among;
    }

pub asked : (scram : ScramLaws) (marking : Marking) (w : World) → Proper w → Fresh marking w → Owning w → (x : Context) (request : Judged) → KrbFixed marking w x request → GuardedSession marking request.session → Asked w request
asked scram marking w proper fresh owning x request f guarded =
    asked-by scram marking w proper fresh owning x request f (from-request scram w _ owning (f.handed_out guarded) refl)

-- ---- the context whose answer an initiator took

-- it is on a request with the initiator's session key and stamp, and has the initiator's outcome
pub record Answers (w : World) (own : PlainSetup) (credential : Granted) (outcome : Outcome) : Type 0 where
  pub place : ℕ
  pub context : Context
  pub there : slice_get w.fixed place ≡ Some context
  pub request : Judged
  pub basis : context.fixed.basis ≡ ByRequest request
  pub session : request.session ≡ credential.session
  pub stamp : request.stamp ≡ own.stamp
  pub agree : outcome ≡ context.fixed.outcome

among-found : (end : ApInit) (token : List ℕ) (m : Making) → reply_found end token ≡ m ∷ [] → AmongMakings (map typed (reply_found end token)) (typed m)
among-found end token m e = subst (λ (ms : List Making). AmongMakings (map typed ms) (typed m)) (sym e) (inl refl)

-- two outcomes with the same fields
same-outcome : (credential : Granted) (own : PlainSetup) (request : Judged) (draws : List ℕ) (subkey : Option Key) (number : Option ℕ) → subkey ≡ Some (acceptor_subkey request draws)
    → request.initiator ≡ label_of credential.client → request.acceptor ≡ label_of credential.server → request.hash ≡ hash_of own.bindings
    → outcome_of kinds.Kerberos (reply_done (waiting credential own.stamp own.draws own.bindings) subkey number) ≡ outcome_of kinds.Kerberos (answer_done request draws)
same-outcome credential own request draws subkey number s i a h = rw (s, i, a, h) refl

-- what its answer says, where the request's stamp has a spelling
answer-says : (end : ApInit) (token : List ℕ) (done : MechDone) (t : TakesBy end token done) (request : Judged) (draws : List ℕ) → request.stamp < 253402300800 * 1000000 → t.octets ≡ reply_octets request draws → Answered request draws end.stamp t.subkey
answer-says end token done t request draws small same = answered request draws t.octets t.said end.stamp t.subkey small same t.says t.stamp t.subkey_is

abbrev Waits : PlainSetup → Granted → ApInit → Type 0
Waits own credential end = end ≡ waiting credential own.stamp own.draws own.bindings

finished-by : (w : World) (i : ℕ) (own : PlainSetup) (credential : Granted) (end : ApInit) (token : List ℕ) (done : MechDone) (outcome : Outcome) (x : Context) (place : ℕ) (request : Judged) (draws : List ℕ)
    → Waits own credential end → (t : TakesBy end token done) → outcome ≡ outcome_of kinds.Kerberos done → slice_get w.fixed place ≡ Some x → x.fixed.basis ≡ ByRequest request
    → x.fixed.outcome ≡ outcome_of kinds.Kerberos (answer_done request draws) → end.session ≡ request.session → (a : Asked w request) → Answered request draws end.stamp t.subkey
    → a.own ≡ own → a.credential ≡ credential → Answers w own credential outcome
finished-by w i own credential end token done outcome x place request draws waits t is there basis fixed session a said same cred =
    let hash : request.hash ≡ hash_of own.bindings = a.hash ∙ ap (λ (o : PlainSetup). hash_of o.bindings) same in
    let initiator : request.initiator ≡ label_of credential.client = a.initiator ∙ ap (λ (c : Granted). label_of c.client) cred in
    let acceptor : request.acceptor ≡ label_of credential.server = a.acceptor ∙ ap (λ (c : Granted). label_of c.server) cred in
    let left : outcome ≡ outcome_of kinds.Kerberos (reply_done (waiting credential own.stamp own.draws own.bindings) t.subkey t.said.seq_number) =
    is ∙ ap (λ (d : MechDone). outcome_of kinds.Kerberos d) t.done_is ∙ ap (λ (e : ApInit). outcome_of kinds.Kerberos (reply_done e t.subkey t.said.seq_number)) waits in
    record {
      place = place;
      context = x;
      there = there;
      request = request;
      basis = basis;
      session = sym session ∙ ap (λ (e : ApInit). e.session) waits;
      stamp = said.stamp_is ∙ ap (λ (e : ApInit). e.stamp) waits;
      agree = left ∙ (same-outcome credential own request draws t.subkey t.said.seq_number said.subkey_is initiator acceptor hash ∙ sym fixed);
    }

-- the initiator of the request is this one
asker : (marking : Marking) (w : World) → Fresh marking w → (i : ℕ) (own : PlainSetup) (credential : Granted) → HasTicket w i own credential → (request : Judged) (a : Asked w request) → request.session ≡ credential.session → request.stamp ≡ own.stamp
    → a.i ≡ i
asker marking w fresh i own credential has request a session stamp = fresh.stamps a.i i a.own own a.credential credential a.has has (sym a.session ∙ session) (sym a.stamp ∙ stamp)

asker-own : (w : World) (i : ℕ) (own : PlainSetup) → slice_get w.facts i ≡ Some own → (request : Judged) (a : Asked w request) → a.i ≡ i → a.own ≡ own
asker-own w i own there request a same = same-own w i a.own own (subst (λ (k : ℕ). slice_get w.facts k ≡ Some a.own) same a.has.there) there

asker-cred : (w : World) (own : PlainSetup) (credential : Granted) → ticket_for own.list ≡ Some credential → (request : Judged) (a : Asked w request) → a.own ≡ own → a.credential ≡ credential
asker-cred w own credential is request a same = same-cred own a.credential credential (subst (λ (o : PlainSetup). ticket_for o.list ≡ Some a.credential) same a.has.is_own) is

answers-by : (marking : Marking) (w : World) → Fresh marking w → (i : ℕ) (own : PlainSetup) (credential : Granted) → HasTicket w i own credential → (end : ApInit) (token : List ℕ) (done : MechDone) (outcome : Outcome) → Waits own credential end
    → (t : TakesBy end token done) → outcome ≡ outcome_of kinds.Kerberos done → (place : ℕ) (x : Context) → slice_get w.fixed place ≡ Some x
    → (made : MadeAnswer x (typed (sealed_making end.session reply_usage t.octets))) → Asked w made.request → Answers w own credential outcome
answers-by marking w fresh i own credential has end token done outcome waits t is place x there made a =
    let session : end.session ≡ made.request.session = same-type _ _ (ap (λ (m : MechMaking). m.key) made.made) in
    let octets : t.octets ≡ reply_octets made.request made.draws = ap (λ (m : MechMaking). m.octets) made.made in
    let said : Answered made.request made.draws end.stamp t.subkey = answer-says end token done t made.request made.draws a.small octets in
    let k : a.i ≡ i = asker marking w fresh i own credential has made.request a (sym session ∙ ap (λ (e : ApInit). e.session) waits) (said.stamp_is ∙ ap (λ (e : ApInit). e.stamp) waits) in
    let same : a.own ≡ own = asker-own w i own has.there made.request a k in
    finished-by w i own credential end token done outcome x place made.request made.draws waits t is there made.basis made.outcome_is session a said same (asker-cred w own credential has.is_own made.request a same)

-- from an initiator whose mechanism is done by Kerberos, on a marked ticket
pub krb-answers : (exchange : ExchangeLaws) (scram : ScramLaws) (marking : Marking) (w : World) → Proper w → Fresh marking w → Owning w → Found marking w → (i : ℕ) (own : PlainSetup) (outcome : Outcome) → slice_get w.facts i ≡ Some own
    → (d : KrbDone marking w own outcome) → (on : OnTicket marking own) → Answers w own on.credential outcome
krb-answers exchange scram marking w proper fresh owning found i own outcome there d on = from (exchange.takes d.end d.token d.done d.takes)
  where
    same : d.waits.credential ≡ on.credential
    same = same-cred own d.waits.credential on.credential d.waits.is_own on.is_own

    waits : Waits own on.credential d.end
    waits = d.waits.waits ∙ ap (λ (c : Granted). waiting c own.stamp own.draws own.bindings) same

    guarded : GuardedSession marking d.end.session
    guarded = subst (λ (k : Key). GuardedSession marking k) (sym (ap (λ (e : ApInit). e.session) waits)) on.guarded

    by : (t : TakesBy d.end d.token d.done) → AnswerOf w (typed (sealed_making d.end.session reply_usage t.octets)) → Answers w own on.credential outcome
    by t a =
        answers-by marking w fresh i own on.credential (record { there = there; is_own = on.is_own }) d.end d.token d.done outcome waits t d.outcome_is a.place a.context a.there a.made
        (asked scram marking w proper fresh owning a.context a.made.request (found.requests a.place a.context a.made.request a.there a.made.basis)
        (subst (λ (k : Key). GuardedSession marking k) (same-type _ _ (ap (λ (m : MechMaking). m.key) a.made.made)) guarded))

    from : TakesBy d.end d.token d.done → Answers w own on.credential outcome
    from t = by t (from-answer scram w _ owning (d.handed_out guarded (typed (sealed_making d.end.session reply_usage t.octets)) (among-found d.end d.token _ t.finds)) refl)

-- the key is one of a context that is built on a guarded key
pub krb-built : (marking : Marking) (w : World) (own : PlainSetup) (outcome : Outcome) (on : OnTicket marking own) → Answers w own on.credential outcome → BuiltKey marking w.fixed outcome.key
krb-built marking w own outcome on a = record {
  context = a.context;
  listed = record { place = a.place; there = a.there };
  guarded = subst (λ (b : Basis). GuardedBasis marking b) (sym a.basis) (subst (λ (k : Key). GuardedSession marking k) (sym a.session) on.guarded);
  is_key = ap (λ (o : Outcome). o.key) (sym a.agree);
}

-- ---- a partner

pub krb-partner : (w : World) (own : PlainSetup) (credential : Granted) (outcome : Outcome) → ticket_for own.list ≡ Some credential → Answers w own credential outcome → HasPartner w own outcome
krb-partner w own credential outcome is a = record {
  place = a.place;
  context = a.context;
  there = a.there;
  partner = subst (λ (b : Basis). Partner w own b) (sym a.basis) (record { credential = credential; is_own = is; session = a.session; stamp = a.stamp });
  agree = a.agree;
}

-- what two contexts on requests of one initiator have in common is their mark, so they are one
same-mark : (a b : Judged) → a.acceptor ≡ b.acceptor → a.initiator ≡ b.initiator → a.stamp ≡ b.stamp → judged_mark a ≡ judged_mark b
same-mark a b f g h = rw (f, g, h) refl

pub one-request : (w : World) → Held w → (i j : ℕ) (x y : Context) (a b : Judged) → slice_get w.fixed i ≡ Some x → slice_get w.fixed j ≡ Some y → x.fixed.basis ≡ ByRequest a → y.fixed.basis ≡ ByRequest b → judged_mark a ≡ judged_mark b → i ≡ j
one-request w held i j x y a b e f on other same =
    let p = held.auths i x a e on in
    let q = held.auths j y b f other in
    let first : entry_at p.place w.book.core.history ≡ Some (Auth x.id (judged_mark b) p.at) = subst (λ (m : Mark). entry_at p.place w.book.core.history ≡ Some (Auth x.id m p.at)) same p.entry in
    let places : p.place ≡ q.place = marks-once w.book.core.width w.book.core.history p.place q.place x.id y.id (judged_mark b) p.at q.at held.book.legal first q.entry in
    held.ids i j x y e f (auth-id x.id y.id (judged_mark b) p.at q.at w.book.core.history p.place q.place places first q.entry)

-- the mark of a request that an initiator's context took
pub asked-mark : (marking : Marking) (w : World) → Fresh marking w → (i : ℕ) (own : PlainSetup) (credential : Granted) → HasTicket w i own credential → (request : Judged) → Asked w request → request.session ≡ credential.session → request.stamp ≡ own.stamp
    → judged_mark request ≡ mark_for (label_of credential.server) (label_of credential.client) own.stamp
asked-mark marking w fresh i own credential has request a session stamp =
    let k : a.i ≡ i = asker marking w fresh i own credential has request a session stamp in
    let same : a.credential ≡ credential = asker-cred w own credential has.is_own request a (asker-own w i own has.there request a k) in
    let initiator : request.initiator ≡ label_of credential.client = a.initiator ∙ ap (λ (c : Granted). label_of c.client) same in
    let acceptor : request.acceptor ≡ label_of credential.server = a.acceptor ∙ ap (λ (c : Granted). label_of c.server) same in
    rw (initiator, acceptor, stamp) refl
