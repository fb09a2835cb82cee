-- Agreement with the negotiation: one partner of whatever mechanism, and the mechanism is the best of the own list.
use Rattle.std.proofs.Common.{◌≡◌, ◌⊎◌, inl, inr, ℕ, true, false, refl, sym, ap, ◌∙◌, subst, List, Some, slice_get}
use Rattle.gss_base.specs.declared.mech.MechKind.{MechKind}
use Rattle.gss_base.specs.declared.mech.MechKind.TheVariants as kinds
use Rattle.krb_derive.specs.declared.key.Key.{Key}
use Rattle.ap_exchange.specs.declared.judged.Judged.{Judged}
use Rattle.scram_mech.specs.Acceptor.{AcceptModel, auth_with}
use Rattle.spnego_core.specs.declared.outcome.Outcome.{Outcome}
use Rattle.spnego_core.specs.Ends.{PlainSetup}
use Rattle.spnego_core.specs.AcceptMech.{Basis, ByRequest, ByProof}
use Rattle.spnego_core.specs.Choice.{is_among, best}
use Rattle.spnego_core.specs.InitLaws.{Covered}
use Rattle.spnego_core.specs.Initiating.{own_list}
use Rattle.context_table.specs.declared.slot.SlotState.TheVariants.{Complete}
use Rattle.world_laws.specs.State.{Context, World}
use Rattle.world_laws.specs.Premises.{Marking, GuardedSession, GuardedBasis, OnTicket, OnGuarded, Fresh, OnProof, Completed}
use Rattle.world_laws.specs.Agreement.{TookRequest, TookProof, Partner, HasInitiator, HasOne, Meets, Agreement}
use Rattle.world_laws.specs.Setups.{Proper}
use Rattle.world_laws.proofs.Invariants.{MadeRequest, KrbFixed, SawList, MayAsk, Below, Kept}
use Rattle.world_laws.proofs.Apart.{own-list}
use Rattle.world_laws.proofs.Booked.{books}
use Rattle.world_laws.proofs.Bests.{best-first, best-among}
use Rattle.world_laws.proofs.Kerberos.{same-own, same-context, Asked, asked, Answers, krb-answers}
use Rattle.world_laws.proofs.KerberosAgrees.{scram-is, krb-done, krb-only, krb-initiator}
use Rattle.world_laws.proofs.ListMics.{CameSo, came-so}
use Rattle.world_laws.proofs.Scram.{ScramAnswers, scram-answers}
use Rattle.world_laws.proofs.ScramAgrees.{other-kind, krb-is, scram-done, proved_making, proved-made, scram-only, scram-initiator}
use Rattle.world_laws.proofs.TakenTexts.{Taken, taken}

-- ---- contexts of one key have one mechanism

pub on-proof : (laws : Below) (marking : Marking) (w : World) → Proper w → Kept marking w → (i : ℕ) (x : Context) → slice_get w.fixed i ≡ Some x → (end : AcceptModel) (text : List ℕ) → x.fixed.basis ≡ ByProof end text → (auth : List ℕ) × OnProof x end auth
on-proof laws marking w proper kept i x there end text basis =
    let t : Taken w x end text = taken laws.scram marking w proper x end text (kept.found.proofs i x end text there basis) in
    (auth_with end t.third.bare, record { text = text; basis = basis; has_auth = record { third = t.third; read = t.read; auth_is = refl } })

pub not-mixed : {A : Type 0} (laws : Below) (marking : Marking) (w : World) → Proper w → Fresh marking w → Kept marking w → (i j : ℕ) (x y : Context) → slice_get w.fixed i ≡ Some x → slice_get w.fixed j ≡ Some y → GuardedBasis marking x.fixed.basis ⊎ GuardedBasis marking y.fixed.basis
    → (request : Judged) → x.fixed.basis ≡ ByRequest request → (end : AcceptModel) (text : List ℕ) → y.fixed.basis ≡ ByProof end text → x.fixed.outcome.key ≡ y.fixed.outcome.key → A
not-mixed laws marking w proper fresh kept i j x y there on_it guarded request basis end text also same =
    let p = on-proof laws marking w proper kept j y on_it end text also in
    absurd (fresh.proof_subkeys x y request end p.0 (record { place = i; there = there }) (record { place = j; there = on_it }) (record { basis = basis }) p.1 guarded same)

by-bases : (laws : Below) (marking : Marking) (w : World) → Proper w → Fresh marking w → Kept marking w → (i j : ℕ) (x y : Context) → slice_get w.fixed i ≡ Some x → slice_get w.fixed j ≡ Some y → GuardedBasis marking y.fixed.basis → x.fixed.outcome.key ≡ y.fixed.outcome.key
    → (b c : Basis) → x.fixed.basis ≡ b → y.fixed.basis ≡ c → x.fixed.outcome.mech ≡ y.fixed.outcome.mech
by-bases laws marking w proper fresh kept i j x y there on_it guarded same (ByRequest r) (ByRequest s) basis also =
    krb-is marking w x r (kept.found.requests i x r there basis) ∙ sym (krb-is marking w y s (kept.found.requests j y s on_it also))
by-bases laws marking w proper fresh kept i j x y there on_it guarded same (ByRequest r) (ByProof end text) basis also = not-mixed laws marking w proper fresh kept i j x y there on_it (inr guarded) r basis end text also same
by-bases laws marking w proper fresh kept i j x y there on_it guarded same (ByProof end text) (ByRequest s) basis also = not-mixed laws marking w proper fresh kept j i y x on_it there (inl guarded) s also end text basis (sym same)
by-bases laws marking w proper fresh kept i j x y there on_it guarded same (ByProof end text) (ByProof next other) basis also =
    scram-is marking w x end text (kept.found.proofs i x end text there basis) ∙ sym (scram-is marking w y next other (kept.found.proofs j y next other on_it also))

-- ---- the mechanism is the best of the own list

saw-best : (laws : Below) (marking : Marking) (w : World) → Proper w → Fresh marking w → Kept marking w → (own : PlainSetup) (outcome : Outcome) (place : ℕ) (x : Context) → slice_get w.fixed place ≡ Some x → GuardedBasis marking x.fixed.basis → outcome ≡ x.fixed.outcome
    → CameSo w (own_list own) outcome.key → best w.book.setup.offer (own_list own) ≡ Some outcome.mech
saw-best laws marking w proper fresh kept own outcome place x there guarded agree c =
    let mine : best w.book.setup.offer c.context.fixed.received ≡ Some c.context.fixed.outcome.mech = kept.held.best_is c.place c.context c.there in
    let key : c.context.fixed.outcome.key ≡ x.fixed.outcome.key = c.key_is ∙ ap (λ (o : Outcome). o.key) agree in
    let mech : c.context.fixed.outcome.mech ≡ outcome.mech =
    by-bases laws marking w proper fresh kept c.place place c.context x c.there there guarded key c.context.fixed.basis x.fixed.basis refl refl ∙ ap (λ (o : Outcome). o.mech) (sym agree) in
    ap (λ (list : List (List ℕ)). best w.book.setup.offer list) (sym c.received) ∙ (mine ∙ ap Some mech)

best-is : (laws : Below) (marking : Marking) (w : World) → Proper w → Fresh marking w → Kept marking w → (i : ℕ) (own : PlainSetup) (outcome : Outcome) → slice_get w.facts i ≡ Some own → OnGuarded marking own outcome.mech
    → (place : ℕ) (x : Context) → slice_get w.fixed place ≡ Some x → GuardedBasis marking x.fixed.basis → outcome ≡ x.fixed.outcome → Covered own outcome.mech false ⊎ SawList marking w own outcome → best w.book.setup.offer (own_list own) ≡ Some outcome.mech
best-is laws marking w proper fresh kept i own outcome there on place x on_it guarded agree (inl (inl first)) =
    best-first w.book.setup.offer own.list outcome.mech first (best-among w.book.setup.offer x.fixed.received outcome.mech (kept.held.best_is place x on_it ∙ ap (λ (o : Outcome). Some o.mech) (sym agree)))
best-is laws marking w proper fresh kept i own outcome there on place x on_it guarded agree (inl (inr never)) = absurd cc
best-is laws marking w proper fresh kept i own outcome there on place x on_it guarded agree (inr saw) =
    saw-best laws marking w proper fresh kept own outcome place x on_it guarded agree
    (came-so laws.tokens laws.scram w outcome (own_list own) saw.mic kept.owning (own-list own (kept.known.sized i own there)) saw.right (saw.handed_out on))

-- ---- a partner of the other mechanism

other-proof : {A : Type 0} (laws : Below) (marking : Marking) (w : World) → Proper w → Fresh marking w → Kept marking w → (i : ℕ) (own : PlainSetup) (outcome : Outcome) → Completed w i own outcome → outcome.mech ≡ kinds.Kerberos → (end : AcceptModel) (text : List ℕ) → TookProof w own end text → A
other-proof laws marking w proper fresh kept i own outcome completed mech end text took =
    let made = proved-made laws.scram marking w proper fresh kept.owning i own took.auth completed.there took.proved in
    other-kind (sym mech ∙ kept.once.done_proved i own outcome (proved_making took.proved.password took.proved.parts took.auth) completed took.proved.handed_out made)

pub krb-across : (laws : Below) (marking : Marking) (w : World) → Proper w → Fresh marking w → Kept marking w → (i : ℕ) (own : PlainSetup) (outcome : Outcome) → Completed w i own outcome → outcome.mech ≡ kinds.Kerberos → (on : OnTicket marking own) → (a : Answers w own on.credential outcome)
    → (other : ℕ) (y : Context) → slice_get w.fixed other ≡ Some y → (b : Basis) → y.fixed.basis ≡ b → Partner w own b → other ≡ a.place
krb-across laws marking w proper fresh kept i own outcome completed mech on a other y on_it (ByRequest request) basis took =
    krb-only laws marking w proper fresh kept i own outcome completed.there on a other y on_it (krb-is marking w y request (kept.found.requests other y request on_it basis)) (ByRequest request) basis took
krb-across laws marking w proper fresh kept i own outcome completed mech on a other y on_it (ByProof end text) basis took =
    other-proof laws marking w proper fresh kept i own outcome completed mech end text took

-- the request is its own
asked-own : (marking : Marking) (w : World) → Fresh marking w → (i : ℕ) (own : PlainSetup) → slice_get w.facts i ≡ Some own → (request : Judged) (a : Asked w request) → TookRequest own request → MadeRequest own a.making
asked-own marking w fresh i own there request a took =
    let k = fresh.stamps a.i i a.own own a.credential took.credential a.has (record { there = there; is_own = took.is_own }) (sym a.session ∙ took.session) (sym a.stamp ∙ took.stamp) in
    let mine : a.own ≡ own = same-own w i a.own own (subst (λ (n : ℕ). slice_get w.facts n ≡ Some a.own) k a.has.there) there in
    subst (λ (z : PlainSetup). MadeRequest z a.making) mine a.made

-- Kerberos would be the best
other-best : {A : Type 0} (w : World) (own : PlainSetup) (outcome : Outcome) → outcome.mech ≡ kinds.Scram → best w.book.setup.offer (own_list own) ≡ Some outcome.mech → is_among w.book.setup.offer kinds.Kerberos ≡ true → MayAsk own (Some outcome.mech) → A
other-best w own outcome mech is among (inl first) =
    let kerberos : best w.book.setup.offer (own_list own) ≡ Some kinds.Kerberos = best-first w.book.setup.offer own.list kinds.Kerberos first among in
    let scram : best w.book.setup.offer (own_list own) ≡ Some kinds.Scram = is ∙ ap Some mech in
    let clash : Some kinds.Kerberos ≡ Some kinds.Scram = sym kerberos ∙ scram in
    absurd cc
other-best w own outcome mech is among (inr chosen) =
    let clash : Some kinds.Scram ≡ Some kinds.Kerberos = ap Some (sym mech) ∙ chosen in
    absurd cc

other-request : {A : Type 0} (laws : Below) (marking : Marking) (w : World) → Proper w → Fresh marking w → Kept marking w → (i : ℕ) (own : PlainSetup) (outcome : Outcome) → Completed w i own outcome → outcome.mech ≡ kinds.Scram → best w.book.setup.offer (own_list own) ≡ Some outcome.mech
    → (other : ℕ) (y : Context) → slice_get w.fixed other ≡ Some y → (request : Judged) → y.fixed.basis ≡ ByRequest request → TookRequest own request → GuardedSession marking request.session → A
other-request laws marking w proper fresh kept i own outcome completed mech is other y on_it request basis took guarded =
    let f : KrbFixed marking w y request = kept.found.requests other y request on_it basis in
    let a : Asked w request = asked laws.scram marking w proper fresh kept.owning y request f guarded in
    let made : MadeRequest own a.making = asked-own marking w fresh i own completed.there request a took in
    other-best w own outcome mech is (best-among w.book.setup.offer y.fixed.received kinds.Kerberos (kept.held.best_is other y on_it ∙ ap Some (krb-is marking w y request f)))
    (kept.once.done_asked i own outcome a.making completed a.among made)

pub scram-across : (laws : Below) (marking : Marking) (w : World) → Proper w → Fresh marking w → Kept marking w → (i : ℕ) (own : PlainSetup) (outcome : Outcome) → Completed w i own outcome → outcome.mech ≡ kinds.Scram → best w.book.setup.offer (own_list own) ≡ Some outcome.mech → (a : ScramAnswers marking w own outcome)
    → (other : ℕ) (y : Context) → slice_get w.fixed other ≡ Some y → (b : Basis) → y.fixed.basis ≡ b → Partner w own b → GuardedBasis marking b → other ≡ a.place
scram-across laws marking w proper fresh kept i own outcome completed mech is a other y on_it (ByRequest request) basis took guarded =
    other-request laws marking w proper fresh kept i own outcome completed mech is other y on_it request basis took guarded
scram-across laws marking w proper fresh kept i own outcome completed mech is a other y on_it (ByProof end text) basis took guarded =
    scram-only laws marking w proper fresh kept i own outcome completed.there a other y on_it (scram-is marking w y end text (kept.found.proofs other y end text on_it basis)) (ByProof end text) basis took

-- ---- one partner

krb-guarded : (marking : Marking) (w : World) (own : PlainSetup) (outcome : Outcome) (on : OnTicket marking own) (a : Answers w own on.credential outcome) → GuardedBasis marking a.context.fixed.basis
krb-guarded marking w own outcome on a = subst (λ (b : Basis). GuardedBasis marking b) (sym a.basis) (subst (λ (k : Key). GuardedSession marking k) (sym a.session) on.guarded)

scram-guarded : (marking : Marking) (w : World) (own : PlainSetup) (outcome : Outcome) (a : ScramAnswers marking w own outcome) → GuardedBasis marking a.context.fixed.basis
scram-guarded marking w own outcome a = subst (λ (b : Basis). GuardedBasis marking b) (sym a.basis) a.marked

krb-one : (laws : Below) (marking : Marking) (w : World) → Proper w → Fresh marking w → Kept marking w → (i : ℕ) (own : PlainSetup) (outcome : Outcome) → Completed w i own outcome → OnGuarded marking own outcome.mech → outcome.mech ≡ kinds.Kerberos → (on : OnTicket marking own) → Answers w own on.credential outcome → HasOne marking w own outcome
krb-one laws marking w proper fresh kept i own outcome completed guarded mech on a = record {
  has = record {
    place = a.place;
    context = a.context;
    there = a.there;
    partner = subst (λ (b : Basis). Partner w own b) (sym a.basis) (record { credential = on.credential; is_own = on.is_own; session = a.session; stamp = a.stamp });
    agree = a.agree;
  };
  guarded = krb-guarded marking w own outcome on a;
  best_is = best-is laws marking w proper fresh kept i own outcome completed.there guarded a.place a.context a.there (krb-guarded marking w own outcome on a) a.agree (kept.found.covered i own outcome completed);
  only = λ other y on_it took built. krb-across laws marking w proper fresh kept i own outcome completed mech on a other y on_it y.fixed.basis refl took;
}

scram-one : (laws : Below) (marking : Marking) (w : World) → Proper w → Fresh marking w → Kept marking w → (i : ℕ) (own : PlainSetup) (outcome : Outcome) → Completed w i own outcome → outcome.mech ≡ kinds.Scram → best w.book.setup.offer (own_list own) ≡ Some outcome.mech → ScramAnswers marking w own outcome → HasOne marking w own outcome
scram-one laws marking w proper fresh kept i own outcome completed mech is a = record {
  has = record {
    place = a.place;
    context = a.context;
    there = a.there;
    partner = subst (λ (b : Basis). Partner w own b) (sym a.basis) (record { auth = a.auth; taken = a.taken; proved = a.proved });
    agree = a.agree;
  };
  guarded = scram-guarded marking w own outcome a;
  best_is = is;
  only = λ other y on_it took built. scram-across laws marking w proper fresh kept i own outcome completed mech is a other y on_it y.fixed.basis refl took built;
}

one-by : (laws : Below) (marking : Marking) (w : World) → Proper w → Fresh marking w → Kept marking w → (i : ℕ) (own : PlainSetup) (outcome : Outcome) → Completed w i own outcome → OnGuarded marking own outcome.mech → (kind : MechKind) → outcome.mech ≡ kind → OnGuarded marking own kind → HasOne marking w own outcome
one-by laws marking w proper fresh kept i own outcome completed guarded kinds.Kerberos mech on =
    krb-one laws marking w proper fresh kept i own outcome completed guarded mech on
    (krb-answers laws.exchange laws.scram marking w proper fresh kept.owning kept.found i own outcome completed.there (krb-done marking w own outcome (kept.found.completed i own outcome completed) mech) on)
one-by laws marking w proper fresh kept i own outcome completed guarded kinds.Scram mech on =
    let a : ScramAnswers marking w own outcome = scram-answers laws.scram marking w proper fresh kept.owning kept.found i own outcome completed.there (scram-done marking w own outcome (kept.found.completed i own outcome completed) mech) on in
    scram-one laws marking w proper fresh kept i own outcome completed mech
    (best-is laws marking w proper fresh kept i own outcome completed.there guarded a.place a.context a.there (scram-guarded marking w own outcome a) a.agree (kept.found.covered i own outcome completed)) a

pub has-one : (laws : Below) (marking : Marking) (w : World) → Proper w → Fresh marking w → Kept marking w → (i : ℕ) (own : PlainSetup) (outcome : Outcome) → Completed w i own outcome → OnGuarded marking own outcome.mech → HasOne marking w own outcome
has-one laws marking w proper fresh kept i own outcome completed guarded = one-by laws marking w proper fresh kept i own outcome completed guarded outcome.mech refl guarded

-- ---- a context and its initiator

initiator-by : (laws : Below) (marking : Marking) (w : World) → Proper w → Fresh marking w → Kept marking w → (place : ℕ) (x : Context) → slice_get w.fixed place ≡ Some x → GuardedBasis marking x.fixed.basis → (kind : MechKind) → x.fixed.outcome.mech ≡ kind → HasInitiator w x
initiator-by laws marking w proper fresh kept place x there guarded kinds.Kerberos mech = krb-initiator laws marking w proper fresh kept place x there mech x.fixed.basis refl guarded
initiator-by laws marking w proper fresh kept place x there guarded kinds.Scram mech = scram-initiator laws marking w proper fresh kept place x there mech x.fixed.basis refl guarded

pub has-initiator : (laws : Below) (marking : Marking) (w : World) → Proper w → Fresh marking w → Kept marking w → (place : ℕ) (x : Context) → slice_get w.fixed place ≡ Some x → GuardedBasis marking x.fixed.basis → HasInitiator w x
has-initiator laws marking w proper fresh kept place x there guarded = initiator-by laws marking w proper fresh kept place x there guarded x.fixed.outcome.mech refl

meets-by : (marking : Marking) (w : World) (place : ℕ) (x : Context) → slice_get w.fixed place ≡ Some x → GuardedBasis marking x.fixed.basis → (own : PlainSetup) (outcome : Outcome) → Partner w own x.fixed.basis → HasOne marking w own outcome → outcome ≡ x.fixed.outcome
meets-by marking w place x there guarded own outcome partner one =
    let same : place ≡ one.has.place = one.only place x there partner guarded in
    let context : one.has.context ≡ x = same-context w place one.has.context x (subst (λ (n : ℕ). slice_get w.fixed n ≡ Some one.has.context) (sym same) one.has.there) there in
    one.has.agree ∙ ap (λ (z : Context). z.fixed.outcome) context

meets : (laws : Below) (marking : Marking) (w : World) → Proper w → Fresh marking w → Kept marking w → (place : ℕ) (x : Context) → slice_get w.fixed place ≡ Some x → GuardedBasis marking x.fixed.basis → HasInitiator w x → Meets marking w x
meets laws marking w proper fresh kept place x there guarded h = record {
  has = h;
  agree = λ outcome completed on. meets-by marking w place x there guarded h.own outcome h.partner (has-one laws marking w proper fresh kept h.initiator h.own outcome completed on);
}

-- the partners of a context on a guarded key are one
apart-by : (w : World) (x : Context) (i j : ℕ) (own other : PlainSetup) → slice_get w.facts i ≡ Some own → slice_get w.facts j ≡ Some other → Partner w own x.fixed.basis → Partner w other x.fixed.basis → HasInitiator w x → i ≡ j
apart-by w x i j own other there next first second h = h.only i own there first ∙ sym (h.only j other next second)

pub agreement : (laws : Below) (marking : Marking) (w : World) → Proper w → Fresh marking w → Kept marking w → Agreement marking w
agreement laws marking w proper fresh kept = record {
  initiators = λ i own outcome completed guarded. has-one laws marking w proper fresh kept i own outcome completed guarded;
  apart = λ i j own other place x there next on_it guarded first second. apart-by w x i j own other there next first second (has-initiator laws marking w proper fresh kept place x on_it guarded);
  contexts = λ place x there guarded. meets laws marking w proper fresh kept place x there guarded (has-initiator laws marking w proper fresh kept place x there guarded);
  books = λ place x there. books laws marking w kept place x there;
  settled = kept.held.settled;
  complete = λ id outcome ends is. kept.held.slots id (record { state = Complete outcome; ends = ends }) (record { outcome = outcome; ends = ends }) is refl;
}
