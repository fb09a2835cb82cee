-- Agreement by SCRAM, assembled.
use Rattle.std.proofs.Common.{◌≡◌, inl, inr, ℕ, refl, sym, ap, ◌∙◌, subst, List, ◌++◌, length, Some, slice_get}
use Rattle.gss_base.specs.declared.mech.MechKind.{MechKind}
use Rattle.gss_base.specs.declared.mech.MechKind.TheVariants as kinds
use Rattle.ap_exchange.specs.declared.judged.Judged.{Judged}
use Rattle.ap_exchange.specs.Draws.{drawn_nonce}
use Rattle.scram_mech.specs.Acceptor.{AcceptModel, auth_with}
use Rattle.scram_mech.specs.AuthParts.{AuthParts}
use Rattle.scram_mech.specs.Base64.{encoded}
use Rattle.scram_mech.specs.Laws.{Laws as ScramLaws}
use Rattle.scram_mech.specs.MechMaking.{MechMaking, proof_making}
use Rattle.scram_mech.specs.Secrets.{Secret, stored_key, proof_of}
use Rattle.scram_mech.specs.ThirdText.{Third}
use Rattle.scram_mech.proofs.Masks.{length-proof}
use Rattle.spnego_core.specs.declared.outcome.Outcome.{Outcome}
use Rattle.spnego_core.specs.Ends.{PlainSetup}
use Rattle.spnego_core.specs.AcceptMech.{Basis, ByRequest, ByProof}
use Rattle.world_laws.specs.State.{Context, World}
use Rattle.world_laws.specs.Premises.{Marking, GuardedBasis, OnAccount, Fresh, HasAuth, Completed, Proved}
use Rattle.world_laws.specs.Agreement.{TookProof, Partner, HandedOut, NamesBy, HasInitiator}
use Rattle.world_laws.specs.OneMechanism.{HasOneBy, AgreementBy}
use Rattle.world_laws.specs.Setups.{Proper}
use Rattle.world_laws.proofs.Invariants.{MadeProof, KrbFixed, ScramFixed, ScramDone, MechFinished, Owning, Below, Kept}
use Rattle.world_laws.proofs.Apart.{split-front, split-back}
use Rattle.world_laws.proofs.Kerberos.{same-own}
use Rattle.world_laws.proofs.Makers.{ProofOf, from-proof}
use Rattle.world_laws.proofs.OwnTexts.{secret_with, Told, told}
use Rattle.world_laws.proofs.TakenTexts.{proof_by, made-is, Taken, taken, ScramAsked, scram-asked, some-parts, same-third}
use Rattle.world_laws.proofs.Scram.{one-nonce, ScramAnswers, scram-answers}

pub other-kind : {A : Type 0} → kinds.Kerberos ≡ kinds.Scram → A
other-kind e = absurd cc

pub krb-is : (marking : Marking) (w : World) (x : Context) (request : Judged) → KrbFixed marking w x request → x.fixed.outcome.mech ≡ kinds.Kerberos
krb-is marking w x request f = ap (λ (o : Outcome). o.mech) f.outcome_is

pub scram-done : (marking : Marking) (w : World) (own : PlainSetup) (outcome : Outcome) → MechFinished marking w own outcome → outcome.mech ≡ kinds.Scram → ScramDone marking w own outcome
scram-done marking w own outcome (inl d) e = other-kind (sym (ap (λ (o : Outcome). o.mech) d.outcome_is) ∙ e)
scram-done marking w own outcome (inr d) e = d

-- ---- a proof that an initiator handed out is of its own making

abbrev pub proved_making : List ℕ → AuthParts → List ℕ → MechMaking
proved_making password parts auth = proof_making (stored_key (secret_with password parts)) auth (proof_of (secret_with password parts) auth)

two-proofs : (a b : List ℕ) (s t : Secret) → a ++ proof_of s a ≡ b ++ proof_of t b → a ≡ b
two-proofs a b s t e = (split-back a (proof_of s a) b (proof_of t b) (length-proof s a ∙ sym (length-proof t b)) e).0

proved-by : (marking : Marking) (w : World) → Proper w → Fresh marking w → (i : ℕ) (own : PlainSetup) (auth : List ℕ) → slice_get w.facts i ≡ Some own → (p : Proved w own auth) → (q : ProofOf w (proved_making p.password p.parts auth)) → Told q.own q.made.answered → MadeProof own (proved_making p.password p.parts auth)
proved-by marking w proper fresh i own auth there p q o =
    let is : proved_making p.password p.parts auth ≡ proof_by o.password o.parts o.auth = made-is (proved_making p.password p.parts auth) q.own q.made o in
    let same : auth ≡ o.auth = two-proofs auth o.auth (secret_with p.password p.parts) (secret_with o.password o.parts) (ap (λ (z : MechMaking). z.octets) is) in
    let parts : p.parts ≡ o.parts = some-parts auth o.auth p.parts o.parts same p.reads o.reads in
    let nonce : encoded (drawn_nonce q.own.draws) ≡ encoded (drawn_nonce own.draws) = sym o.nonce ∙ (ap (λ (z : AuthParts). z.client) (sym parts) ∙ p.nonce) in
    let k : q.i ≡ i = one-nonce marking w proper fresh q.i i q.own own o.user o.password p.user p.password (record { there = q.there; is_own = o.is_own }) (record { there = there; is_own = p.is_own }) nonce in
    let mine : q.own ≡ own = same-own w i q.own own (subst (λ (n : ℕ). slice_get w.facts n ≡ Some q.own) k q.there) there in
    subst (λ (z : PlainSetup). MadeProof z (proved_making p.password p.parts auth)) mine q.made

pub proved-made : (scram : ScramLaws) (marking : Marking) (w : World) → Proper w → Fresh marking w → Owning w → (i : ℕ) (own : PlainSetup) (auth : List ℕ) → slice_get w.facts i ≡ Some own → (p : Proved w own auth) → MadeProof own (proved_making p.password p.parts auth)
proved-made scram marking w proper fresh owning i own auth there p = by (from-proof scram w (proved_making p.password p.parts auth) owning (inl p.handed_out) refl)
  where
    by : ProofOf w (proved_making p.password p.parts auth) → MadeProof own (proved_making p.password p.parts auth)
    by q = proved-by marking w proper fresh i own auth there p q (told scram q.own (proper.setups q.i q.own q.there) q.made.end q.made.first q.made.text q.made.answered q.made.answers)

-- it hands out one
pub one-proof : (laws : Below) (marking : Marking) (w : World) → Proper w → Fresh marking w → Kept marking w → (i : ℕ) (own : PlainSetup) (auth other : List ℕ) → slice_get w.facts i ≡ Some own → Proved w own auth → Proved w own other → auth ≡ other
one-proof laws marking w proper fresh kept i own auth other there p q =
    let same = kept.once.proofs i own (proved_making p.password p.parts auth) (proved_making q.password q.parts other) there p.handed_out q.handed_out
    (proved-made laws.scram marking w proper fresh kept.owning i own auth there p) (proved-made laws.scram marking w proper fresh kept.owning i own other there q) in
    two-proofs auth other (secret_with p.password p.parts) (secret_with q.password q.parts) (ap (λ (z : MechMaking). z.octets) same)

-- ---- two contexts on one AuthMessage are one

has-auth : (w : World) (x : Context) (end : AcceptModel) (text auth : List ℕ) (t : Taken w x end text) → HasAuth end text auth → auth ≡ auth_with end t.third.bare
has-auth w x end text auth t h = h.auth_is ∙ ap (λ (z : Third). auth_with end z.bare) (same-third text h.third t.third h.read t.read)

own-nonce : (w : World) (x y : Context) (end next : AcceptModel) (text other : List ℕ) (t : Taken w x end text) (u : Taken w y next other) → auth_with end t.third.bare ≡ auth_with next u.third.bare → end.own ≡ next.own
own-nonce w x y end next text other t u same =
    let parts : t.parts ≡ u.parts = some-parts (auth_with end t.third.bare) (auth_with next u.third.bare) t.parts u.parts same t.reads u.reads in
    let client : end.client ≡ next.client = sym t.client ∙ (ap (λ (z : AuthParts). z.client) parts ∙ u.client) in
    let whole : end.client ++ end.own ≡ next.client ++ next.own = sym t.nonce ∙ (ap (λ (z : AuthParts). z.nonce) parts ∙ u.nonce) in
    (split-front end.client end.own next.client next.own (ap length client) whole).1

pub one-context : (laws : Below) (marking : Marking) (w : World) → Proper w → Fresh marking w → Kept marking w → (i j : ℕ) (x y : Context) → slice_get w.fixed i ≡ Some x → slice_get w.fixed j ≡ Some y
    → (end next : AcceptModel) (text other auth : List ℕ) → x.fixed.basis ≡ ByProof end text → y.fixed.basis ≡ ByProof next other → HasAuth end text auth → HasAuth next other auth → i ≡ j
one-context laws marking w proper fresh kept i j x y there on_it end next text other auth basis also first second =
    let t : Taken w x end text = taken laws.scram marking w proper x end text (kept.found.proofs i x end text there basis) in
    let u : Taken w y next other = taken laws.scram marking w proper y next other (kept.found.proofs j y next other on_it also) in
    let same : auth_with end t.third.bare ≡ auth_with next u.third.bare = sym (has-auth w x end text auth t first) ∙ has-auth w y next other auth u second in
    fresh.own_nonces i j x y end next auth auth there on_it (record { text = text; basis = basis; has_auth = first }) (record { text = other; basis = also; has_auth = second }) (own-nonce w x y end next text other t u same)

-- ---- an initiator's one partner

took-same : (laws : Below) (marking : Marking) (w : World) → Proper w → Fresh marking w → Kept marking w → (i : ℕ) (own : PlainSetup) (outcome : Outcome) → slice_get w.facts i ≡ Some own → (a : ScramAnswers marking w own outcome)
    → (other : ℕ) (y : Context) → slice_get w.fixed other ≡ Some y → (end : AcceptModel) (text : List ℕ) → y.fixed.basis ≡ ByProof end text → TookProof w own end text → other ≡ a.place
took-same laws marking w proper fresh kept i own outcome there a other y on_it end text basis took =
    let same : took.auth ≡ a.auth = one-proof laws marking w proper fresh kept i own took.auth a.auth there took.proved a.proved in
    one-context laws marking w proper fresh kept other a.place y a.context on_it a.there end a.end text a.text a.auth basis a.basis (subst (λ (os : List ℕ). HasAuth end text os) same took.taken) a.taken

pub scram-only : (laws : Below) (marking : Marking) (w : World) → Proper w → Fresh marking w → Kept marking w → (i : ℕ) (own : PlainSetup) (outcome : Outcome) → slice_get w.facts i ≡ Some own → (a : ScramAnswers marking w own outcome)
    → (other : ℕ) (y : Context) → slice_get w.fixed other ≡ Some y → y.fixed.outcome.mech ≡ kinds.Scram → (b : Basis) → y.fixed.basis ≡ b → Partner w own b → other ≡ a.place
scram-only laws marking w proper fresh kept i own outcome there a other y on_it mech (ByRequest request) basis took = other-kind (sym (krb-is marking w y request (kept.found.requests other y request on_it basis)) ∙ mech)
scram-only laws marking w proper fresh kept i own outcome there a other y on_it mech (ByProof end text) basis took = took-same laws marking w proper fresh kept i own outcome there a other y on_it end text basis took

scram-has-one : (laws : Below) (marking : Marking) (w : World) → Proper w → Fresh marking w → Kept marking w → (i : ℕ) (own : PlainSetup) (outcome : Outcome) → slice_get w.facts i ≡ Some own → outcome.mech ≡ kinds.Scram → ScramAnswers marking w own outcome → HasOneBy marking w own outcome
scram-has-one laws marking w proper fresh kept i own outcome there mech a = record {
  has = record {
    place = a.place;
    context = a.context;
    there = a.there;
    partner = subst (λ (b : Basis). Partner w own b) (sym a.basis) (record { auth = a.auth; taken = a.taken; proved = a.proved });
    agree = a.agree;
  };
  only = λ other y on_it same took. scram-only laws marking w proper fresh kept i own outcome there a other y on_it (same ∙ mech) y.fixed.basis refl took;
}

scram-initiators : (laws : Below) (marking : Marking) (w : World) → Proper w → Fresh marking w → Kept marking w → (i : ℕ) (own : PlainSetup) (outcome : Outcome) → Completed w i own outcome → outcome.mech ≡ kinds.Scram → OnAccount marking own → HasOneBy marking w own outcome
scram-initiators laws marking w proper fresh kept i own outcome completed mech on =
    scram-has-one laws marking w proper fresh kept i own outcome completed.there mech
    (scram-answers laws.scram marking w proper fresh kept.owning kept.found i own outcome completed.there (scram-done marking w own outcome (kept.found.completed i own outcome completed) mech) on)

-- ---- a context's initiator

proof-initiator : (marking : Marking) (w : World) → Proper w → Fresh marking w → Kept marking w → (x : Context) (end : AcceptModel) (text : List ℕ) → x.fixed.basis ≡ ByProof end text → x.fixed.outcome.mech ≡ kinds.Scram → Taken w x end text → ScramAsked w x end text → HasInitiator w x
proof-initiator marking w proper fresh kept x end text basis mech t q = record {
  initiator = q.i;
  own = q.own;
  there = q.has.there;
  ran = λ setup ready. kept.once.unproved q.i setup q.making ready q.among (subst (λ (z : PlainSetup). MadeProof z q.making) (same-own w q.i q.own setup q.has.there (kept.known.ready q.i setup ready)) q.made);
  partner = subst (λ (b : Basis). Partner w q.own b) (sym basis) (record { auth = q.auth; taken = q.taken; proved = q.proved });
  handed_out = subst (λ (b : Basis). HandedOut w q.own b) (sym basis) (q.auth, q.proved);
  names = subst (λ (k : MechKind). NamesBy k q.own x.fixed.outcome) (sym mech) (record {
    user = q.user;
    password = q.password;
    is_own = q.has.is_own;
    initiator = ap (λ (o : Outcome). o.initiator) q.outcome_is;
    acceptor = ap (λ (o : Outcome). o.acceptor) q.outcome_is;
  });
  hash = ap (λ (o : Outcome). o.hash) q.outcome_is;
  only = λ other next there took. only other next there (subst (λ (b : Basis). Partner w next b) basis took);
}
  where
    only : (other : ℕ) (next : PlainSetup) → slice_get w.facts other ≡ Some next → TookProof w next end text → other ≡ q.i
    only other next there took =
        let same : took.auth ≡ q.auth = has-auth w x end text took.auth t took.taken ∙ sym (has-auth w x end text q.auth t q.taken) in
        let parts : took.proved.parts ≡ q.parts = some-parts took.auth q.auth took.proved.parts q.parts same took.proved.reads q.reads in
        let nonce : encoded (drawn_nonce next.draws) ≡ encoded (drawn_nonce q.own.draws) = sym took.proved.nonce ∙ (ap (λ (z : AuthParts). z.client) parts ∙ q.nonce) in
        one-nonce marking w proper fresh other q.i next q.own took.proved.user took.proved.password q.user q.password (record { there = there; is_own = took.proved.is_own }) q.has nonce

pub scram-initiator : (laws : Below) (marking : Marking) (w : World) → Proper w → Fresh marking w → Kept marking w → (place : ℕ) (x : Context) → slice_get w.fixed place ≡ Some x → x.fixed.outcome.mech ≡ kinds.Scram
    → (b : Basis) → x.fixed.basis ≡ b → GuardedBasis marking b → HasInitiator w x
scram-initiator laws marking w proper fresh kept place x there mech (ByRequest request) basis guarded = other-kind (sym (krb-is marking w x request (kept.found.requests place x request there basis)) ∙ mech)
scram-initiator laws marking w proper fresh kept place x there mech (ByProof end text) basis guarded =
    let f : ScramFixed marking w x end text = kept.found.proofs place x end text there basis in
    let t : Taken w x end text = taken laws.scram marking w proper x end text f in
    proof-initiator marking w proper fresh kept x end text basis mech t (scram-asked laws.scram marking w proper fresh kept.owning x end text f t guarded)

pub agreement-scram : (laws : Below) (marking : Marking) (w : World) → Proper w → Fresh marking w → Kept marking w → AgreementBy kinds.Scram marking w
agreement-scram laws marking w proper fresh kept = record {
  initiators = λ i own outcome completed mech on. scram-initiators laws marking w proper fresh kept i own outcome completed mech on;
  contexts = λ place x there mech guarded. scram-initiator laws marking w proper fresh kept place x there mech x.fixed.basis refl guarded;
}
