-- A call in the log was made by the context's initiator, and so was an end by a call.
use Rattle.std.proofs.Common.{◌≡◌, inl, inr, ℕ, ◌≤◌, Bool, true, false, nat_le, refl, sym, ◌∙◌, ap, subst, arith, List, [], ◌∷◌, ◌++◌, take, map, slice_get, Some, Result, Ok, Err, is_ok}
use Rattle.std.specs.Prelude.{◌==◌, ◌&&◌}
use Rattle.std.proofs.lemmas.Bool.{eqb-true}
use Rattle.std.proofs.lemmas.Bool.Decides.{nat_tests}
use Rattle.sha1.specs.Sha1.{sha1}
use Rattle.krb_derive.specs.declared.key.Key.{Key}
use Rattle.krb_derive.specs.Making.{Making, check_making, sealed_making}
use Rattle.krb_tokens.specs.declared.end.TokenEnd.{TokenEnd}
use Rattle.krb_tokens.specs.declared.end.TokenRefusal.{TokenRefusal}
use Rattle.krb_tokens.specs.Laws.{Laws as TokenLaws, ShownByMic, ShownBySealed}
use Rattle.krb_tokens.specs.Makings.{checking_mic, unwrapping}
use Rattle.krb_tokens.specs.Mic.{checked_mic}
use Rattle.rpc_msgs.specs.Calls.{CallValue, call_at}
use Rattle.rpcsec_msgs.specs.Bodies.{checked_at, sealed_at}
use Rattle.rpcsec_msgs.specs.Cred.{CredValue, cred_at}
use Rattle.scram_mech.specs.MechMaking.{MechMaking, AmongMakings, typed}
use Rattle.spnego_core.specs.declared.outcome.Outcome.{Outcome}
use Rattle.spnego_core.specs.Ends.{PlainSetup}
use Rattle.rpc_program.specs.Programs.{ProgramSays, Serving}
use Rattle.accept_book.specs.declared.book_answer.Lease.{Lease}
use Rattle.accept_book.specs.RecordShown.{KeptAnswers, end_of, is_verified}
use Rattle.told_apart.specs.Apart.{NoHeader, NoList, IsApart}
use Rattle.world_laws.specs.State.{Context, World}
use Rattle.world_laws.specs.Lanes.{cred_with, secure_call_by, secure_call_in, found_in_checked, found_in_sealed, found_in_body, found_in_header, found_in_call, found_in_end}
use Rattle.world_laws.specs.Premises.{Marking, GuardedBasis, WasMade, Completed}
use Rattle.world_laws.specs.Agreement.{HasInitiator}
use Rattle.world_laws.specs.Origin.{Means}
use Rattle.world_laws.proofs.Invariants.{Held}
use Rattle.world_laws.proofs.Kerberos.{same-context}
use Rattle.world_laws.proofs.Due.{shown, Admitting}
use Rattle.world_laws.proofs.OriginReading.{told}
use Rattle.world_laws.proofs.Owning.{among-back}
use Rattle.rpcsec_bodies.specs.Carried.{IsCheckedBody, IsSealedBody}
use Rattle.world_laws.proofs.OriginShown.{BodyBy, body-by, NumberedBy, numbered-by}
use Rattle.world_laws.proofs.OriginCalls.{Called, Fitting, Calls}
use Rattle.world_laws.proofs.OriginMatching.{HeaderFrom, header-from, BodyFrom, checked-from, sealed-from}
use Rattle.world_laws.proofs.OriginEvidence.{Backed, CallBacked, EndBacked}

-- ---- what was found is in the lists

among-front : (front back : List Making) (m : MechMaking) → AmongMakings (map typed front) m → AmongMakings (map typed (front ++ back)) m
among-front [] back m a = absurd a
among-front (x ∷ front) back m (inl e) = inl e
among-front (x ∷ front) back m (inr a) = inr (among-front front back m a)

one-among : (makings : List Making) (x : Making) → makings ≡ x ∷ [] → AmongMakings (map typed makings) (typed x)
one-among makings x e = subst (λ (ms : List Making). AmongMakings (map typed ms) (typed x)) (sym e) (inl refl)

-- the call and its credential
call-is : (octets : List ℕ) (call : CallValue) (cred : CredValue) → call_at octets ≡ Ok call → cred_at call.cred.body ≡ Ok cred → secure_call_in octets ≡ Some (call, cred)
call-is octets call cred read cred_read = ap secure_call_by read ∙ ap (cred_with call) cred_read

in-call-header : (lease : Lease) (octets : List ℕ) (call : CallValue) (cred : CredValue) (m : MechMaking) → secure_call_in octets ≡ Some (call, cred) → AmongMakings (map typed (found_in_header (end_of lease) octets call)) m
    → AmongMakings (map typed (found_in_call lease octets (secure_call_in octets))) m
in-call-header lease octets call cred m is a = subst (λ said. AmongMakings (map typed (found_in_call lease octets said)) m) (sym is) (among-front (found_in_header (end_of lease) octets call) _ m a)

in-call-body : (lease : Lease) (octets : List ℕ) (call : CallValue) (cred : CredValue) (m : MechMaking) → secure_call_in octets ≡ Some (call, cred) → AmongMakings (map typed (found_in_body (end_of lease) cred.service call.args)) m
    → AmongMakings (map typed (found_in_call lease octets (secure_call_in octets))) m
in-call-body lease octets call cred m is a = subst (λ said. AmongMakings (map typed (found_in_call lease octets said)) m) (sym is) (among-back (found_in_header (end_of lease) octets call) _ m a)

in-end : (lease : Lease) (octets : List ℕ) (call : CallValue) (cred : CredValue) (m : MechMaking) → secure_call_in octets ≡ Some (call, cred) → AmongMakings (map typed (found_in_header (end_of lease) octets call)) m
    → AmongMakings (map typed (found_in_end lease octets (secure_call_in octets))) m
in-end lease octets call cred m is a = subst (λ said. AmongMakings (map typed (found_in_end lease octets said)) m) (sym is) a

checked-found : (end : TokenEnd) (service : ℕ) (body octets mic : List ℕ) → service ≡ 2 → checked_at body ≡ Ok (octets, mic) → found_in_body end service body ≡ (checking_mic end mic octets).found
checked-found end service body octets mic two read = rw (two) (ap (found_in_checked end) read)

sealed-found : (end : TokenEnd) (service : ℕ) (body token : List ℕ) → service ≡ 3 → sealed_at body ≡ Ok token → found_in_body end service body ≡ (unwrapping end token).found
sealed-found end service body token three read = rw (three) (ap (found_in_sealed end) read)

-- ---- the verifier

verified-mic : (octets : List ℕ) (kept : KeptAnswers) (serves : Serving) (call : CallValue) (lease : Lease) → is_verified (shown octets kept serves call) lease ≡ true → checked_mic (end_of lease) call.verf.body (take call.header octets) ≡ Ok tt
unfolding is_verified
verified-mic octets kept serves call lease e = by (call.verf.flavour == 6) (checked_mic (end_of lease) call.verf.body (take call.header octets)) refl e
  where
    by : (b : Bool) (r : Result (Unit {0}) TokenRefusal) → checked_mic (end_of lease) call.verf.body (take call.header octets) ≡ r → (b && is_ok r) ≡ true → checked_mic (end_of lease) call.verf.body (take call.header octets) ≡ Ok tt
    by true (Ok done) is f = is
    by true (Err refusal) is f = absurd cc
    by false r is f = absurd cc

-- the call whose header was verified
header-call : (called : Called) (tokens : TokenLaws) (w : World) (lease : Lease) (octets : List ℕ) (kept : KeptAnswers) (serves : Serving) (call : CallValue) (cred : CredValue) → Calls called w → call_at octets ≡ Ok call → cred_at call.cred.body ≡ Ok cred
    → is_verified (shown octets kept serves call) lease ≡ true → ((m : MechMaking) → AmongMakings (map typed (found_in_header (end_of lease) octets call)) m → WasMade w m) → HeaderFrom called w lease.outcome.key call cred
header-call called tokens w lease octets kept serves call cred calls read cred_read verified made =
    by (tokens.mic (end_of lease) call.verf.body (take call.header octets) (verified-mic octets kept serves call lease verified))
  where
    by : ShownByMic (end_of lease) call.verf.body (take call.header octets) → HeaderFrom called w lease.outcome.key call cred
    by s = header-from called tokens w lease.outcome.key (take call.header octets) s.header call cred calls (told octets call cred read cred_read) s.long
        (made (typed (check_making lease.outcome.key 25 (take call.header octets ++ s.header))) (one-among (found_in_header (end_of lease) octets call) (check_making lease.outcome.key 25 (take call.header octets ++ s.header)) s.found))

-- ---- the body

checked-call : (called : Called) (tokens : TokenLaws) (w : World) (lease : Lease) (cred : CredValue) (body args : List ℕ) → Calls called w → NoHeader args → NoList args → cred.service ≡ 2 → IsCheckedBody (end_of lease) cred.seq body args
    → ((m : MechMaking) → AmongMakings (map typed (found_in_body (end_of lease) cred.service body)) m → WasMade w m) → BodyFrom called w lease.outcome.key cred.seq args
checked-call called tokens w lease cred body args calls apart other two c made = by (tokens.mic (end_of lease) c.mic c.databody c.proved)
  where
    by : ShownByMic (end_of lease) c.mic c.databody → BodyFrom called w lease.outcome.key cred.seq args
    by s = checked-from called tokens w lease.outcome.key cred.seq c.databody s.header args calls apart other (numbered-by cred.seq c.databody args c.numbered) s.long
        (made (typed (check_making lease.outcome.key 25 (c.databody ++ s.header))) (one-among (found_in_body (end_of lease) cred.service body) (check_making lease.outcome.key 25 (c.databody ++ s.header))
        (checked-found (end_of lease) cred.service body c.databody c.mic two c.split ∙ s.found)))

sealed-call : (called : Called) (tokens : TokenLaws) (w : World) (lease : Lease) (cred : CredValue) (body args : List ℕ) → Calls called w → cred.service ≡ 3 → IsSealedBody (end_of lease) cred.seq body args
    → ((m : MechMaking) → AmongMakings (map typed (found_in_body (end_of lease) cred.service body)) m → WasMade w m) → BodyFrom called w lease.outcome.key cred.seq args
sealed-call called tokens w lease cred body args calls three c made = by (tokens.sealed (end_of lease) c.token c.databody c.opened)
  where
    by : ShownBySealed (end_of lease) c.token c.databody → BodyFrom called w lease.outcome.key cred.seq args
    by s = sealed-from called tokens w lease.outcome.key cred.seq s.plain args calls (subst (λ content. NumberedBy cred.seq content args) s.held (numbered-by cred.seq c.databody args c.numbered))
        (made (typed (sealed_making lease.outcome.key 24 s.plain)) (one-among (found_in_body (end_of lease) cred.service body) (sealed_making lease.outcome.key 24 s.plain)
        (sealed-found (end_of lease) cred.service body c.token three c.split ∙ s.found)))

-- ---- who made it

-- the context's initiator called so
pub record Traced (called : Called) (w : World) (context : Context) (number : ℕ) (means : ℕ → List ℕ → Type 0) : Type 0 where
  pub has : HasInitiator w context
  pub outcome : Outcome
  pub completed : Completed w has.initiator has.own outcome
  pub key_is : outcome.key ≡ context.fixed.outcome.key
  pub procedure : ℕ
  pub args : List ℕ
  pub was : called has.initiator number procedure args
  pub meant : means procedure args

-- who completed with this key is the initiator
abbrev pub Holds : World → Key → ℕ → Type 0
Holds w key initiator = (j : ℕ) (own : PlainSetup) (outcome : Outcome) → Completed w j own outcome → outcome.key ≡ key → j ≡ initiator

-- the initiator at one place is that at another
completed-as : (w : World) (i j : ℕ) (own other : PlainSetup) (outcome : Outcome) → i ≡ j → slice_get w.facts j ≡ Some other → Completed w i own outcome → Completed w j other outcome
completed-as w i j own other outcome same there c = record {
  there = there;
  stage = c.stage;
  stands = subst (λ (k : ℕ). slice_get w.stages k ≡ Some c.stage) same c.stands;
  session = c.session;
  in_session = c.in_session;
  outcome_is = c.outcome_is;
}

called-by : (called : Called) (i j n m p : ℕ) (a : List ℕ) → i ≡ j → n ≡ m → called i n p a → called j m p a
called-by called i j n m p a e f c = subst (λ k. called j k p a) f (subst (λ k. called k n p a) e c)

-- the header's call has the body's arguments
args-same : (called : Called) (w : World) (key : Key) (initiator : ℕ) (call : CallValue) (cred : CredValue) (args : List ℕ) → Calls called w → Holds w key initiator → (h : HeaderFrom called w key call cred) → BodyFrom called w key cred.seq args → h.args ≡ args
args-same called w key initiator call cred args calls holds h b =
    (calls.same initiator cred.seq h.procedure b.procedure h.args args
    (called-by called h.i initiator h.session.number cred.seq h.procedure h.args (holds h.i h.own h.session.outcome h.completed h.key_is) h.number_is h.was)
    (called-by called b.i initiator b.session.number cred.seq b.procedure args (holds b.i b.own b.session.outcome b.completed b.key_is) b.number_is b.was)).1

last-service : (service : ℕ) → 1 ≤ service → service ≤ 3 → (service == 1) ≡ false → (service == 2) ≡ false → service ≡ 3
last-service service low high one two = grind (arith, nat_tests)

args-by : (called : Called) (tokens : TokenLaws) (w : World) (lease : Lease) (initiator : ℕ) (call : CallValue) (cred : CredValue) (args : List ℕ) → Calls called w → Holds w lease.outcome.key initiator → (h : HeaderFrom called w lease.outcome.key call cred)
    → h.procedure ≡ call.procedure → (cred.service ≡ 1 → h.procedure ≡ 0) → (program : ProgramSays) → IsApart program → program.takes call.procedure args ≡ true → ((m : MechMaking) → AmongMakings (map typed (found_in_body (end_of lease) cred.service call.args)) m → WasMade w m)
    → BodyBy (end_of lease) cred call.args args → h.args ≡ args
args-by called tokens w lease initiator call cred args calls holds h same bare program apart proper made (inl b) =
    let f : Fitting h.session.number h.procedure h.args = calls.fits h.i h.session.number h.procedure h.args h.was in
    f.null (bare b.0) ∙ sym (apart.null args (subst (λ (q : ℕ). program.takes q args ≡ true) (sym same ∙ bare b.0) proper))
args-by called tokens w lease initiator call cred args calls holds h same bare program apart proper made (inr (inl b)) =
    args-same called w lease.outcome.key initiator call cred args calls holds h (checked-call called tokens w lease cred call.args args calls (apart.headers call.procedure args proper) (apart.lists call.procedure args proper) b.0 b.1 made)
args-by called tokens w lease initiator call cred args calls holds h same bare program apart proper made (inr (inr b)) =
    args-same called w lease.outcome.key initiator call cred args calls holds h
    (sealed-call called tokens w lease cred call.args args calls (last-service cred.service h.service_low h.service_high b.0 b.1) b.2 made)

-- ---- the log's

-- what was found under the context's key was handed out
context-made : (marking : Marking) (w : World) (id : ℕ) (lease : Lease) (found : List Making) (place : ℕ) (x : Context) → Held w → (b : Backed marking w id lease found) → slice_get w.fixed place ≡ Some x → x.id ≡ id
    → (b.context ≡ x)
context-made marking w id lease found place x held b there id_is =
    let same : b.place ≡ place = held.ids b.place place b.context x b.there there (b.id_is ∙ sym id_is) in
    same-context w place b.context x (subst (λ (k : ℕ). slice_get w.fixed k ≡ Some b.context) same b.there) there

call-by : (called : Called) (tokens : TokenLaws) (marking : Marking) (w : World) (seq procedure : ℕ) (said : List ℕ) (x : Context) (octets : List ℕ) (kept : KeptAnswers) (serves : Serving) (lease : Lease) → IsApart serves.program → Calls called w → (has : HasInitiator w x)
    → Holds w lease.outcome.key has.initiator → x.fixed.outcome.key ≡ lease.outcome.key → (due : Admitting octets kept serves lease seq procedure said) → (due.cred.proc == 0) ≡ true
    → ((m : MechMaking) → AmongMakings (map typed (found_in_call lease octets (secure_call_in octets))) m → WasMade w m) → Traced called w x seq (Means seq procedure (sha1 said))
call-by called tokens marking w seq procedure said x octets kept serves lease apart calls has holds key due of_data made =
    by (header-call called tokens w lease octets kept serves due.call due.cred calls due.read due.cred_read due.verified (λ m a. made m (in-call-header lease octets due.call due.cred m is a)))
  where
    is : secure_call_in octets ≡ Some (due.call, due.cred)
    is = call-is octets due.call due.cred due.read due.cred_read

    by : HeaderFrom called w lease.outcome.key due.call due.cred → Traced called w x seq (Means seq procedure (sha1 said))
    by h =
        let d = h.of_data (eqb-true due.cred.proc 0 of_data) in
        let same : h.args ≡ due.args = args-by called tokens w lease has.initiator due.call due.cred due.args calls holds h d.0 d.1 serves.program apart due.proper
        (λ m a. made m (in-call-body lease octets due.call due.cred m is a)) (body-by (end_of lease) due.cred due.call.args due.args due.args_are) in
        record {
          has = has;
          outcome = h.session.outcome;
          completed = completed-as w h.i has.initiator h.own has.own h.session.outcome (holds h.i h.own h.session.outcome h.completed h.key_is) has.there h.completed;
          key_is = h.key_is ∙ sym key;
          procedure = h.procedure;
          args = h.args;
          was = called-by called h.i has.initiator h.session.number seq h.procedure h.args (holds h.i h.own h.session.outcome h.completed h.key_is) (h.number_is ∙ sym due.seq_is) h.was;
          meant = (subst (λ (n : ℕ). nat_le n 0x7fffffff ≡ true) (h.number_is ∙ sym due.seq_is) (h.left (eqb-true due.cred.proc 0 of_data)), d.0 ∙ sym due.procedure_is, ap sha1 (same ∙ sym due.said_is));
        }

pub call-traced : (called : Called) (tokens : TokenLaws) (marking : Marking) (w : World) (id seq procedure : ℕ) (digest : List ℕ) (place : ℕ) (x : Context) → Held w → Calls called w → CallBacked marking w id seq procedure digest
    → slice_get w.fixed place ≡ Some x → x.id ≡ id → GuardedBasis marking x.fixed.basis → (has : HasInitiator w x) → Holds w x.fixed.outcome.key has.initiator → Traced called w x seq (Means seq procedure digest)
call-traced called tokens marking w id seq procedure digest place x held calls c there id_is guarded has holds =
    let same : c.backed.context ≡ x = context-made marking w id c.lease (found_in_call c.lease c.octets (secure_call_in c.octets)) place x held c.backed there id_is in
    let key : x.fixed.outcome.key ≡ c.lease.outcome.key = sym (ap (λ (z : Context). z.fixed.outcome.key) same) ∙ ap (λ (o : Outcome). o.key) c.backed.outcome_is in
    subst (λ (d : List ℕ). Traced called w x seq (Means seq procedure d)) (sym c.digest_is)
    (call-by called tokens marking w seq procedure c.said x c.octets c.kept c.serves c.lease c.apart calls has (subst (λ k. Holds w k has.initiator) key holds) key c.due c.of_data
    (c.backed.made (subst (λ (z : Context). GuardedBasis marking z.fixed.basis) (sym same) guarded)))

pub end-traced : (called : Called) (tokens : TokenLaws) (marking : Marking) (w : World) (id seq : ℕ) (place : ℕ) (x : Context) → Held w → Calls called w → EndBacked marking w id seq
    → slice_get w.fixed place ≡ Some x → x.id ≡ id → GuardedBasis marking x.fixed.basis → (has : HasInitiator w x) → Holds w x.fixed.outcome.key has.initiator → Traced called w x seq (λ procedure args. Unit {0})
end-traced called tokens marking w id seq place x held calls c there id_is guarded has holds =
    let same : c.backed.context ≡ x = context-made marking w id c.lease (found_in_end c.lease c.octets (secure_call_in c.octets)) place x held c.backed there id_is in
    let key : x.fixed.outcome.key ≡ c.lease.outcome.key = sym (ap (λ (z : Context). z.fixed.outcome.key) same) ∙ ap (λ (o : Outcome). o.key) c.backed.outcome_is in
    by same key (header-call called tokens w c.lease c.octets c.kept c.serves c.due.call c.due.cred calls c.due.read c.due.cred_read c.due.verified
    (λ m a. c.backed.made (subst (λ (z : Context). GuardedBasis marking z.fixed.basis) (sym same) guarded) m
    (in-end c.lease c.octets c.due.call c.due.cred m (call-is c.octets c.due.call c.due.cred c.due.read c.due.cred_read) a)))
  where
    by : c.backed.context ≡ x → x.fixed.outcome.key ≡ c.lease.outcome.key → HeaderFrom called w c.lease.outcome.key c.due.call c.due.cred → Traced called w x seq (λ procedure args. Unit {0})
    by same key h = record {
      has = has;
      outcome = h.session.outcome;
      completed = completed-as w h.i has.initiator h.own has.own h.session.outcome (holds h.i h.own h.session.outcome h.completed (h.key_is ∙ sym key)) has.there h.completed;
      key_is = h.key_is ∙ sym key;
      procedure = h.procedure;
      args = h.args;
      was = called-by called h.i has.initiator h.session.number seq h.procedure h.args (holds h.i h.own h.session.outcome h.completed (h.key_is ∙ sym key)) (h.number_is ∙ sym c.due.seq_is) h.was;
      meant = tt;
    }
