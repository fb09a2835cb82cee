-- Agreement by SCRAM: who completed as a marked user has one partner, whose context has its AuthMessage; and a context on a marked user's line has its initiator.
use Rattle.std.proofs.Common.{◌≡◌, inl, inr, ℕ, false, refl, sym, ap, ◌∙◌, subst, List, [], slice_get, Option, Some, Result, Ok}
use Rattle.sec_base.specs.Moment.{greatest_moment}
use Rattle.gss_base.specs.declared.mech.MechKind.TheVariants as kinds
use Rattle.krb_tokens.specs.declared.done.MechDone.{MechDone}
use Rattle.ap_exchange.specs.Draws.{drawn_nonce}
use Rattle.scram_mech.specs.declared.refusal.ScramRefusal.{ScramRefusal}
use Rattle.scram_mech.specs.declared.refusal.ScramRefusal.TheVariants as refusals
use Rattle.scram_mech.specs.Acceptor.{AcceptModel, AcceptFinished, auth_with}
use Rattle.scram_mech.specs.AuthParts.{AuthParts}
use Rattle.scram_mech.specs.Base64.{encoded, decoded}
use Rattle.scram_mech.specs.FinalText.{final_of}
use Rattle.scram_mech.specs.Judging.{demand, same}
use Rattle.scram_mech.specs.Laws.{Accepts, Completes, Laws as ScramLaws}
use Rattle.scram_mech.specs.MechMaking.{MechMaking, AmongMakings, signature_making}
use Rattle.scram_mech.specs.Initiator.{WaitModel, InitAnswered, InitFinished, init_finished}
use Rattle.scram_mech.specs.Secrets.{server_key, signature_of}
use Rattle.scram_mech.specs.ThirdText.{Third}
use Rattle.scram_mech.proofs.Pieces.{bind_ok}
use Rattle.scram_mech.proofs.Written.{decoded-encoded}
use Rattle.spnego_core.specs.declared.outcome.Outcome.{Outcome}
use Rattle.spnego_core.specs.declared.setup.MechCred.TheVariants as creds
use Rattle.spnego_core.specs.Ends.{PlainSetup}
use Rattle.spnego_core.specs.AcceptMech.{Basis, ByProof}
use Rattle.spnego_core.specs.InitMech.{cred_for}
use Rattle.spnego_core.specs.Outcome.{outcome_of}
use Rattle.world_laws.specs.State.{Context, World}
use Rattle.world_laws.specs.Premises.{Marking, MarkedLine, GuardedSecret, GuardedBasis, BuiltKey, OnAccount, Fresh, HasAuth, HasAccount, Proved}
use Rattle.world_laws.specs.Setups.{IsSetup, Proper}
use Rattle.world_laws.proofs.Invariants.{MadeSignature, ScramFixed, ScramDone, Owning, Found}
use Rattle.world_laws.proofs.Kerberos.{same-own}
use Rattle.world_laws.proofs.Makers.{only, SignatureOf, from-signature}
use Rattle.world_laws.proofs.OwnTexts.{secret_with, nonce-octets, Told, told}
use Rattle.world_laws.proofs.TakenTexts.{Taken, taken, scram_outcome, ScramAsked, scram-asked, some-parts, same-third}

-- ---- one nonce, one initiator

pub nonce-same : (a b : PlainSetup) → IsSetup a → IsSetup b → encoded (drawn_nonce a.draws) ≡ encoded (drawn_nonce b.draws) → drawn_nonce a.draws ≡ drawn_nonce b.draws
nonce-same a b s t e = sym (decoded-encoded (drawn_nonce a.draws) (nonce-octets a s)) ∙ (ap decoded e ∙ decoded-encoded (drawn_nonce b.draws) (nonce-octets b t))

pub one-nonce : (marking : Marking) (w : World) → Proper w → Fresh marking w → (i j : ℕ) (a b : PlainSetup) (u p v q : List ℕ) → HasAccount w i a u p → HasAccount w j b v q → encoded (drawn_nonce a.draws) ≡ encoded (drawn_nonce b.draws) → i ≡ j
one-nonce marking w proper fresh i j a b u p v q f g e = fresh.nonces i j a b u p v q f g (nonce-same a b (proper.setups i a f.there) (proper.setups j b g.there) e)

pub same-account : (own : PlainSetup) (u p v q : List ℕ) → cred_for own.list kinds.Scram ≡ Some (creds.Scram u p) → cred_for own.list kinds.Scram ≡ Some (creds.Scram v q) → (u ≡ v) × (p ≡ q)
same-account own u p v q e f = (cc, cc)

-- ---- an initiator that is done

abbrev done_with : WaitModel → MechDone
done_with wait = record { key = wait.key; subkey = false; initiator = wait.user; acceptor = []; hash = wait.hash; ends = greatest_moment; first = 0 }

abbrev given : InitFinished → Result InitFinished ScramRefusal
given f = Ok f

given-is : (a b : InitFinished) → given a ≡ given b → a ≡ b
given-is a b e = cc

done-is : (wait : WaitModel) (text : List ℕ) (finished : InitFinished) → init_finished wait text ≡ Ok finished → finished.done ≡ done_with wait
unfolding init_finished
done-is wait text finished e =
    let b = bind_ok (final_of text) _ finished e in
    let c = bind_ok (demand (same (signature_of wait.server wait.auth) b.0) refusals.Signature) _ finished b.2 in
    ap (λ (f : InitFinished). f.done) (sym (given-is _ finished c.2))

-- its outcome, by what it was told
outcome-told : (scram : ScramLaws) (marking : Marking) (w : World) (own : PlainSetup) (outcome : Outcome) → (d : ScramDone marking w own outcome) → (o : Told own d.proved.answered) → outcome ≡ scram_outcome o.user o.password o.parts o.auth own.bindings
outcome-told scram marking w own outcome d o =
    d.outcome_is ∙ ap (λ (z : MechDone). outcome_of kinds.Scram z) (done-is d.end d.token d.finished d.takes) ∙ ap (λ (z : WaitModel). outcome_of kinds.Scram (done_with z)) (d.proved.waits ∙ o.end)

-- ---- the context whose signature an initiator took

pub record ScramAnswers (marking : Marking) (w : World) (own : PlainSetup) (outcome : Outcome) : Type 0 where
  pub place : ℕ
  pub context : Context
  pub there : slice_get w.fixed place ≡ Some context
  pub end : AcceptModel
  pub text : List ℕ
  pub basis : context.fixed.basis ≡ ByProof end text
  pub marked : MarkedLine marking end.line
  pub auth : List ℕ
  pub taken : HasAuth end text auth
  pub proved : Proved w own auth
  pub agree : outcome ≡ context.fixed.outcome

-- the line is the marked user's
marked-by : (marking : Marking) (w : World) (own : PlainSetup) (x : Context) (end : AcceptModel) (text : List ℕ) (answered : InitAnswered) → (t : Taken w x end text) → (o : Told own answered) → auth_with end t.third.bare ≡ o.auth → OnAccount marking own → MarkedLine marking end.line
marked-by marking w own x end text answered t o same on =
    let parts : t.parts ≡ o.parts = some-parts (auth_with end t.third.bare) o.auth t.parts o.parts same t.reads o.reads in
    let user : o.user ≡ on.account.user = (same-account own o.user o.password on.account.user on.account.password o.is_own on.is_own).0 in
    record { account = on.account; marked = on.marked; named = sym t.name ∙ (ap (λ (z : AuthParts). z.name) parts ∙ (o.name ∙ user)); ranged = t.ranged }

-- the outcome, and the proof, are the initiator's own
same-outcome : (u p v q auth other : List ℕ) (a b : AuthParts) (bindings theirs : Option (List ℕ)) → u ≡ v → p ≡ q → a ≡ b → auth ≡ other → bindings ≡ theirs → scram_outcome u p a auth bindings ≡ scram_outcome v q b other theirs
same-outcome u p v q auth other a b bindings theirs e f g h k = rw (e, f, g, h, k) refl

answers-with : (marking : Marking) (w : World) → (i : ℕ) (own : PlainSetup) (outcome : Outcome) (answered : InitAnswered) → (o : Told own answered) → outcome ≡ scram_outcome o.user o.password o.parts o.auth own.bindings
    → (place : ℕ) (x : Context) → slice_get w.fixed place ≡ Some x → (end : AcceptModel) (text : List ℕ) → x.fixed.basis ≡ ByProof end text → MarkedLine marking end.line → (q : ScramAsked w x end text) → q.auth ≡ o.auth → q.own ≡ own → ScramAnswers marking w own outcome
answers-with marking w i own outcome answered o is place x there end text basis marked q auth same =
    let parts : q.parts ≡ o.parts = some-parts q.auth o.auth q.parts o.parts auth q.reads o.reads in
    let mine = subst (λ (z : PlainSetup). cred_for z.list kinds.Scram ≡ Some (creds.Scram q.user q.password)) same q.has.is_own in
    let account = same-account own o.user o.password q.user q.password o.is_own mine in
    record {
      place = place;
      context = x;
      there = there;
      end = end;
      text = text;
      basis = basis;
      marked = marked;
      auth = q.auth;
      taken = q.taken;
      proved = subst (λ (z : PlainSetup). Proved w z q.auth) same q.proved;
      agree = is ∙ (same-outcome o.user o.password q.user q.password o.auth q.auth o.parts q.parts own.bindings q.own.bindings account.0 account.1 (sym parts) (sym auth) (ap (λ (z : PlainSetup). z.bindings) (sym same)) ∙ sym q.outcome_is);
    }

-- whoever handed the proof out is the initiator
asker-is : (marking : Marking) (w : World) → Proper w → Fresh marking w → (i : ℕ) (own : PlainSetup) (answered : InitAnswered) → slice_get w.facts i ≡ Some own → (o : Told own answered) → (x : Context) (end : AcceptModel) (text : List ℕ) → (q : ScramAsked w x end text) → q.auth ≡ o.auth → q.own ≡ own
asker-is marking w proper fresh i own answered there o x end text q auth =
    let parts : q.parts ≡ o.parts = some-parts q.auth o.auth q.parts o.parts auth q.reads o.reads in
    let nonce : encoded (drawn_nonce q.own.draws) ≡ encoded (drawn_nonce own.draws) = sym q.nonce ∙ (ap (λ (z : AuthParts). z.client) parts ∙ o.nonce) in
    let k : q.i ≡ i = one-nonce marking w proper fresh q.i i q.own own q.user q.password o.user o.password q.has (record { there = there; is_own = o.is_own }) nonce in
    same-own w i q.own own (subst (λ (n : ℕ). slice_get w.facts n ≡ Some q.own) k q.has.there) there

asked-auth : (w : World) (x : Context) (end : AcceptModel) (text : List ℕ) (t : Taken w x end text) (q : ScramAsked w x end text) → q.auth ≡ auth_with end t.third.bare
asked-auth w x end text t q = q.taken.auth_is ∙ ap (λ (z : Third). auth_with end z.bare) (same-third text q.taken.third t.third q.taken.read t.read)

signed-by : (scram : ScramLaws) (marking : Marking) (w : World) → Proper w → Fresh marking w → Owning w → (i : ℕ) (own : PlainSetup) (outcome : Outcome) (answered : InitAnswered) → slice_get w.facts i ≡ Some own → OnAccount marking own → (o : Told own answered)
    → outcome ≡ scram_outcome o.user o.password o.parts o.auth own.bindings → (place : ℕ) (x : Context) → slice_get w.fixed place ≡ Some x → (end : AcceptModel) (text : List ℕ) → x.fixed.basis ≡ ByProof end text → ScramFixed marking w x end text → (t : Taken w x end text)
    → auth_with end t.third.bare ≡ o.auth → ScramAnswers marking w own outcome
signed-by scram marking w proper fresh owning i own outcome answered there on o is place x on_it end text basis f t auth =
    let marked : MarkedLine marking end.line = marked-by marking w own x end text answered t o auth on in
    let q : ScramAsked w x end text = scram-asked scram marking w proper fresh owning x end text f t marked in
    let mine : q.auth ≡ o.auth = asked-auth w x end text t q ∙ auth in
    answers-with marking w i own outcome answered o is place x on_it end text basis marked q mine (asker-is marking w proper fresh i own answered there o x end text q mine)

-- the AuthMessage that was signed
signed-auth : (scram : ScramLaws) (w : World) (x : Context) (server auth : List ℕ) (made : MadeSignature x (signature_making server auth)) → (t : Taken w x made.end made.text) → auth_with made.end t.third.bare ≡ auth
signed-auth scram w x server auth made t = by (scram.accepts made.end made.text made.bindings made.now made.finished made.finishes)
  where
    by : Accepts made.end made.text made.bindings made.now made.finished → auth_with made.end t.third.bare ≡ auth
    by a =
        let third : t.third ≡ a.third = same-third made.text t.third a.third t.read a.read in
        let is : signature_making server auth ≡ signature_making made.end.line.server (auth_with made.end a.third.bare) =
        only _ _ (subst (λ (z : AcceptFinished). AmongMakings z.makes (signature_making server auth)) a.same made.made) in
        ap (λ (z : Third). auth_with made.end z.bare) third ∙ sym (ap (λ (z : MechMaking). z.octets) is)

guarded-server : (marking : Marking) (own : PlainSetup) (answered : InitAnswered) (server : List ℕ) → OnAccount marking own → (o : Told own answered) → server ≡ server_key (secret_with o.password o.parts) → GuardedSecret marking server
guarded-server marking own answered server on o is =
    let password : o.password ≡ on.account.password = (same-account own o.user o.password on.account.user on.account.password o.is_own on.is_own).1 in
    record { account = on.account; marked = on.marked; salt = o.parts.salt; rounds = o.parts.rounds; ranged = o.ranged; is_key = inr (is ∙ ap (λ (p : List ℕ). server_key (secret_with p o.parts)) password) }

-- from an initiator whose mechanism is done by SCRAM, as a marked user
pub scram-answers : (scram : ScramLaws) (marking : Marking) (w : World) → Proper w → Fresh marking w → Owning w → Found marking w → (i : ℕ) (own : PlainSetup) (outcome : Outcome) → slice_get w.facts i ≡ Some own
    → ScramDone marking w own outcome → OnAccount marking own → ScramAnswers marking w own outcome
scram-answers scram marking w proper fresh owning found i own outcome there d on =
    told-it (told scram own (proper.setups i own there) d.proved.before d.proved.first d.proved.text d.proved.answered d.proved.answers)
  where
    with-signature : (o : Told own d.proved.answered) → SignatureOf w (signature_making d.end.server d.end.auth) → ScramAnswers marking w own outcome
    with-signature o s =
        let f = found.proofs s.place s.context s.made.end s.made.text s.there s.made.basis in
        let t : Taken w s.context s.made.end s.made.text = taken scram marking w proper s.context s.made.end s.made.text f in
        let auth : d.end.auth ≡ o.auth = ap (λ (z : WaitModel). z.auth) (d.proved.waits ∙ o.end) in
        signed-by scram marking w proper fresh owning i own outcome d.proved.answered there on o (outcome-told scram marking w own outcome d o) s.place s.context s.there s.made.end s.made.text s.made.basis f t
        (signed-auth scram w s.context d.end.server d.end.auth s.made t ∙ auth)

    told-it : Told own d.proved.answered → ScramAnswers marking w own outcome
    told-it o =
        let c : Completes d.end d.token d.finished = scram.completes d.end d.token d.finished d.takes in
        let among : AmongMakings d.finished.found (signature_making d.end.server d.end.auth) = subst (λ (ms : List MechMaking). AmongMakings ms (signature_making d.end.server d.end.auth)) (sym c.found) (inl refl) in
        let server : d.end.server ≡ server_key (secret_with o.password o.parts) = ap (λ (z : WaitModel). z.server) (d.proved.waits ∙ o.end) in
        with-signature o (from-signature scram w (signature_making d.end.server d.end.auth) owning (d.handed_out (guarded-server marking own d.proved.answered d.end.server on o server) (signature_making d.end.server d.end.auth) among) refl)

-- the key is one of a context that is built on a guarded key
pub scram-built : (marking : Marking) (w : World) (own : PlainSetup) (outcome : Outcome) → ScramAnswers marking w own outcome → BuiltKey marking w.fixed outcome.key
scram-built marking w own outcome a = record {
  context = a.context;
  listed = record { place = a.place; there = a.there };
  guarded = subst (λ (b : Basis). GuardedBasis marking b) (sym a.basis) a.marked;
  is_key = ap (λ (o : Outcome). o.key) (sym a.agree);
}
