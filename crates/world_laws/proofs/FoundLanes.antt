-- What is found verified where a lane asks the book: a context that is fixed by it is one that it found.
use Rattle.std.proofs.Common.{◌≡◌, ◌⊎◌, inl, inr, ℕ, refl, sym, ap, subst, ◌∙◌, List, [], ◌∷◌, map, Option, Some, None}
use Rattle.std.specs.Prelude.{option_map, Ok}
use Rattle.std.proofs.lemmas.Option.{none-some, same_Some}
use Rattle.gss_base.specs.declared.mech.MechKind.TheVariants as kinds
use Rattle.krb_derive.specs.declared.key.Key.{Key}
use Rattle.krb_derive.specs.Making.{sealed_making}
use Rattle.ap_exchange.specs.declared.judged.Judged.{Judged}
use Rattle.ap_exchange.specs.Answer.{answer_done}
use Rattle.ap_exchange.specs.Exchange.{judge_found}
use Rattle.ap_exchange.specs.Judging.{client_granted}
use Rattle.ap_exchange.specs.Keys.{authenticator_usage}
use Rattle.ap_exchange.specs.Laws.{JudgesBy}
use Rattle.scram_mech.specs.Acceptor.{AcceptModel, AcceptFinished, auth_with}
use Rattle.scram_mech.specs.Laws.{Accepts}
use Rattle.scram_mech.specs.MechMaking.{OfPassword, MechMaking, AmongMakings, typed, proof_making}
use Rattle.spnego_core.specs.declared.accept_end.AcceptEnd.{AcceptEnd}
use Rattle.spnego_core.specs.declared.setup.AcceptSetup.{AcceptSetup}
use Rattle.spnego_core.specs.Outcome.{outcome_of}
use Rattle.spnego_core.specs.AcceptLaws.{ByKerberos, ByScram}
use Rattle.spnego_core.specs.AcceptMech.{ByRequest, ByProof}
use Rattle.spnego_core.specs.Accepting.{Fixed, Accepted, accept_step}
use Rattle.accept_book.specs.declared.book_answer.Admitted.{Admitted}
use Rattle.accept_book.specs.declared.book_answer.NegAnswer.{NegAnswer}
use Rattle.accept_book.specs.declared.book_answer.NegAnswer.TheVariants as answers
use Rattle.accept_book.specs.declared.book_answer.Negotiated.{Negotiated}
use Rattle.accept_book.specs.Booking.{raised}
use Rattle.accept_book.specs.BookLaws.{AllGood, Takes, FixesContext}
use Rattle.accept_core.specs.Entering.{id_of}
use Rattle.accept_book.specs.Found.{step_taken, found_of, fixes_of, stepped_from}
use Rattle.accept_book.specs.RecordShown.{Asked, AskedStep, AskedLook, AskedAdmit, AskedEnd}
use Rattle.world_laws.specs.Deeds.{Opened, Deed, quiet}
use Rattle.world_laws.specs.State.{InHand, Context, World}
use Rattle.world_laws.specs.Lanes.{found_by, context_with, unless_short, fixes_by, request_of, opened_of, opened_in, opened_by, LaneMoves}
use Rattle.world_laws.specs.Premises.{Marking, GuardedSession, WasMade, WasIssued, Unforged}
use Rattle.world_laws.proofs.Invariants.{Below, KrbFixed, ScramFixed}
use Rattle.world_laws.proofs.FoundRequest.{Requested, requested, request-same, proof-request}
use Rattle.world_laws.proofs.FoundKept.{Stays, ContextFound, Founds, lane-found}
use Rattle.world_laws.proofs.FoundSteps.{Verified, guarded-secret, only-one}

-- ---- a context on a request

session-is : (marking : Marking) (setup : AcceptSetup) (token : List ℕ) (request : Judged) (by : JudgesBy setup.keytab setup.own setup.bindings token request) → by.x.session ≡ request.session
session-is marking setup token request by = sym (ap (λ (j : Judged). j.session) by.kept)

-- the authenticator that was found was handed out
authenticator-made : (marking : Marking) (w : World) (token : List ℕ) (request : Judged) (found : List MechMaking) (by : JudgesBy w.book.setup.keytab w.book.setup.own w.book.setup.bindings token request)
    → found ≡ map typed (judge_found w.book.setup.keytab w.book.setup.own token) → Verified marking w found → GuardedSession marking request.session → WasMade w (typed (sealed_making request.session authenticator_usage by.x.octets))
authenticator-made marking w token request found by finds verified guarded =
    let one : found ≡ typed (sealed_making request.session authenticator_usage by.x.octets) ∷ [] =
    finds ∙ ap (map typed) by.finds ∙ ap (λ (key : Key). typed (sealed_making key authenticator_usage by.x.octets) ∷ []) (session-is marking w.book.setup token request by) in
    verified (typed (sealed_making request.session authenticator_usage by.x.octets)) (subst (λ (l : List MechMaking). AmongMakings l (typed (sealed_making request.session authenticator_usage by.x.octets))) (sym one) (inl refl))
    (inl guarded)

-- and the ticket that was opened was issued
ticket-issued : (marking : Marking) (setup : AcceptSetup) (inner : List ℕ) (request : Judged) (token : Option (List ℕ)) (opened : Option Opened) (by : JudgesBy setup.keytab setup.own setup.bindings inner request)
    → token ≡ Some inner → opened ≡ opened_in setup.keytab setup.own token → ((o : Opened) → opened ≡ Some o → WasIssued marking o)
    → WasIssued marking (record { service = by.x.service; client = client_granted by.x.part; session = by.x.session })
ticket-issued marking setup inner request token opened by is opens issued =
    issued (record { service = by.x.service; client = client_granted by.x.part; session = by.x.session }) (opens ∙ ap (opened_in setup.keytab setup.own) is ∙ ap opened_of by.exchange)

request-found : (marking : Marking) (w : World) (x : Context) (now : ℕ) (draws : List ℕ) (taken : Accepted) (request : Judged) (token : Option (List ℕ)) (opened : Option Opened)
    → (r : Requested w.book.setup now token request taken.found) → JudgesBy w.book.setup.keytab w.book.setup.own w.book.setup.bindings r.inner request
    → x.fixed.outcome ≡ outcome_of kinds.Kerberos (answer_done request draws) → opened ≡ opened_in w.book.setup.keytab w.book.setup.own token
    → ((o : Opened) → opened ≡ Some o → WasIssued marking o) → Verified marking w taken.found → KrbFixed marking w x request
request-found marking w x now draws taken request token opened r by outcome opens issued verified = record {
  draws = draws;
  outcome_is = outcome;
  token = r.inner;
  by = by;
  handed_out = λ guarded. authenticator-made marking w r.inner request taken.found by r.finds verified guarded;
  issued = ticket-issued marking w.book.setup r.inner request token opened by r.is opens issued;
}

-- ---- a context on a proof

proof-key : (end : AcceptModel) (text : List ℕ) (bindings : Option (List ℕ)) (now : ℕ) (finished : AcceptFinished) (making : MechMaking) → Accepts end text bindings now finished → AmongMakings finished.found making → making.key ≡ OfPassword end.line.stored
proof-key end text bindings now finished making a among =
    ap (λ (m : MechMaking). m.key) (only-one (proof_making end.line.stored (auth_with end a.third.bare) a.third.proof) making finished.found (ap (λ (f : AcceptFinished). f.found) a.same) among)

proof-found : (laws : Below) (marking : Marking) (w : World) (x : Context) (old : AcceptEnd) (now : ℕ) (taken : Accepted) → (by : ByScram w.book.setup old now taken x.fixed) → Verified marking w taken.found → ScramFixed marking w x by.end by.token
proof-found laws marking w x old now taken by verified = record {
  line = by.line;
  now = now;
  finished = by.finished;
  finishes = by.finishes;
  outcome_is = by.outcome_is;
  handed_out = λ guarded making among.
      verified making (by.verified making among)
      (guarded-secret marking w by.end.line.stored making (proof-key by.end by.token w.book.setup.bindings now by.finished making (laws.scram.accepts by.end by.token w.book.setup.bindings now by.finished by.finishes) among) guarded);
}

proof-ends : (a b : AcceptModel) (text last : List ℕ) → ByProof a text ≡ ByProof b last → a ≡ b
proof-ends a b text last e = cc

proof-texts : (a b : AcceptModel) (text last : List ℕ) → ByProof a text ≡ ByProof b last → text ≡ last
proof-texts a b text last e = cc

proof-same : (marking : Marking) (w : World) (x : Context) (a b : AcceptModel) (text last : List ℕ) → ByProof a text ≡ ByProof b last → ScramFixed marking w x a text → ScramFixed marking w x b last
proof-same marking w x a b text last e f =
    subst (ScramFixed marking w x b) (proof-texts a b text last e) (subst (λ (end : AcceptModel). ScramFixed marking w x end text) (proof-ends a b text last e) f)

-- ---- a context that a step fixes

-- the step that fixes it, of this token, with what is known of what it found and opened
pub record FixedBy (marking : Marking) (w : World) (end : AcceptEnd) (token : List ℕ) (now : ℕ) (draws : List ℕ) (taken : Accepted) (opened : Option Opened) (fixed : Fixed) : Type 0 where
  pub step : accept_step w.book.setup end token now draws ≡ Ok taken
  pub fixes : taken.fixes ≡ Some fixed
  pub by : ByKerberos w.book.setup now draws taken fixed ⊎ ByScram w.book.setup end now taken fixed
  pub opens : opened ≡ opened_in w.book.setup.keytab w.book.setup.own (request_of w.book.setup end token)
  pub issued : (o : Opened) → opened ≡ Some o → WasIssued marking o
  pub verified : Verified marking w taken.found

on-request : (laws : Below) (marking : Marking) (w : World) (x : Context) (end : AcceptEnd) (token : List ℕ) (now : ℕ) (draws : List ℕ) (taken : Accepted) (opened : Option Opened) (request : Judged) → FixedBy marking w end token now draws taken opened x.fixed
    → x.fixed.basis ≡ ByRequest request → ByKerberos w.book.setup now draws taken x.fixed ⊎ ByScram w.book.setup end now taken x.fixed → KrbFixed marking w x request
on-request laws marking w x end token now draws taken opened request f b (inl by) =
    let r = requested w.book.setup end token now draws taken x.fixed request f.step f.fixes b in
    request-found marking w x now draws taken request (request_of w.book.setup end token) opened r
    (laws.exchange.judges w.book.setup.keytab w.book.setup.own now w.book.setup.bindings r.inner request r.judges)
    (by.outcome_is ∙ ap (λ (j : Judged). outcome_of kinds.Kerberos (answer_done j draws)) (request-same by.request request (sym by.basis_is ∙ b))) f.opens f.issued f.verified
on-request laws marking w x end token now draws taken opened request f b (inr by) = absurd (proof-request by.end by.token request (sym by.basis_is ∙ b))

on-proof : (laws : Below) (marking : Marking) (w : World) (x : Context) (old : AcceptEnd) (token : List ℕ) (now : ℕ) (draws : List ℕ) (taken : Accepted) (opened : Option Opened) (end : AcceptModel) (text : List ℕ)
    → FixedBy marking w old token now draws taken opened x.fixed → x.fixed.basis ≡ ByProof end text → ByKerberos w.book.setup now draws taken x.fixed ⊎ ByScram w.book.setup old now taken x.fixed → ScramFixed marking w x end text
on-proof laws marking w x old token now draws taken opened end text f b (inl by) = absurd (proof-request end text by.request (sym b ∙ by.basis_is))
on-proof laws marking w x old token now draws taken opened end text f b (inr by) = proof-same marking w x by.end end by.token text (sym by.basis_is ∙ b) (proof-found laws marking w x old now taken by f.verified)

context-found : (laws : Below) (marking : Marking) (w : World) (x : Context) (end : AcceptEnd) (token : List ℕ) (now : ℕ) (draws : List ℕ) (taken : Accepted) (opened : Option Opened) → FixedBy marking w end token now draws taken opened x.fixed → ContextFound marking w x
context-found laws marking w x end token now draws taken opened f = record {
  request = λ request b. on-request laws marking w x end token now draws taken opened request f b f.by;
  proof = λ model text b. on-proof laws marking w x end token now draws taken opened model text f b f.by;
}

-- ---- the book's step

unshort : (answer : NegAnswer) (o : Option Fixed) (fixed : Fixed) → unless_short answer o ≡ Some fixed → o ≡ Some fixed
unshort (answers.Going id token) o fixed e = e
unshort (answers.Settled lease token) o fixed e = e
unshort (answers.Refused refusal) o fixed e = e
unshort answers.NoMemory o fixed e = absurd (none-some fixed e)

-- what was mapped
record Mapped (id : ℕ) (o : Option Fixed) (x : Context) : Type 0 where
  fixed : Fixed
  was : o ≡ Some fixed
  is : context_with id fixed ≡ x

mapped : (id : ℕ) (o : Option Fixed) (x : Context) → option_map (context_with id) o ≡ Some x → Mapped id o x
mapped id None x e = absurd (none-some x e)
mapped id (Some fixed) x e = record { fixed = fixed; was = refl; is = same_Some (context_with id fixed) x e }

taken-fixes : (o : Option Accepted) (taken : Accepted) (fixed : Fixed) → o ≡ Some taken → fixes_of o ≡ Some fixed → taken.fixes ≡ Some fixed
taken-fixes o taken fixed e f = sym (ap fixes_of e) ∙ f

fixed-by : (marking : Marking) (w : World) (id past : Option ℕ) (token : List ℕ) (now : ℕ) (draws : List ℕ) (deed : Deed) (fixed : Fixed) → Unforged marking w deed
    → deed.found ≡ found_of (step_taken w.book.setup (raised w.book.core now) id past token now draws)
    → deed.opened ≡ opened_in w.book.setup.keytab w.book.setup.own (request_of w.book.setup (stepped_from (raised w.book.core now) id) token)
    → fixes_of (step_taken w.book.setup (raised w.book.core now) id past token now draws) ≡ Some fixed
    → (c : FixesContext w.book.setup (raised w.book.core now) id past token now draws fixed) → Takes w.book.setup (raised w.book.core now) id past token now draws c.accepted
    → FixedBy marking w (stepped_from (raised w.book.core now) id) token now draws c.accepted deed.opened fixed
fixed-by marking w id past token now draws deed fixed unforged found opens e c t = record {
  step = t.step;
  fixes = taken-fixes (step_taken w.book.setup (raised w.book.core now) id past token now draws) c.accepted fixed c.taken e;
  by = c.fixes.by;
  opens = opens;
  issued = unforged.issued;
  verified = subst (Verified marking w) (found ∙ ap found_of c.taken) unforged.made;
}

step-fixes : (laws : Below) (marking : Marking) (w : World) (id past : Option ℕ) (token : List ℕ) (now : ℕ) (draws : List ℕ) (deed : Deed) (number : ℕ) (fixed : Fixed) → AllGood w.book.setup w.book.core.table → Unforged marking w deed
    → deed.found ≡ found_of (step_taken w.book.setup (raised w.book.core now) id past token now draws)
    → deed.opened ≡ opened_in w.book.setup.keytab w.book.setup.own (request_of w.book.setup (stepped_from (raised w.book.core now) id) token)
    → fixes_of (step_taken w.book.setup (raised w.book.core now) id past token now draws) ≡ Some fixed → ContextFound marking w (context_with number fixed)
step-fixes laws marking w id past token now draws deed number fixed good unforged found opens e =
    let c = laws.book.fixes w.book.setup (raised w.book.core now) id past token now draws fixed good e in
    let t = laws.book.takes w.book.setup (raised w.book.core now) id past token now draws c.accepted c.taken in
    context-found laws marking w (context_with number fixed) (stepped_from (raised w.book.core now) id) token now draws c.accepted deed.opened
    (fixed-by marking w id past token now draws deed fixed unforged found opens e c t)

step-context : (laws : Below) (marking : Marking) (w : World) (id past : Option ℕ) (token : List ℕ) (now : ℕ) (draws : List ℕ) (answer : Negotiated) (deed : Deed) (x : Context) → AllGood w.book.setup w.book.core.table → Unforged marking w deed
    → deed.found ≡ found_of (step_taken w.book.setup (raised w.book.core now) id past token now draws)
    → deed.opened ≡ opened_in w.book.setup.keytab w.book.setup.own (request_of w.book.setup (stepped_from (raised w.book.core now) id) token)
    → Mapped (id_of id w.book.core.history) (unless_short answer.answer (fixes_of (step_taken w.book.setup (raised w.book.core now) id past token now draws))) x → ContextFound marking w x
step-context laws marking w id past token now draws answer deed x good unforged found opens m =
    subst (ContextFound marking w) m.is
    (step-fixes laws marking w id past token now draws deed (id_of id w.book.core.history) m.fixed good unforged found opens
    (unshort answer.answer (fixes_of (step_taken w.book.setup (raised w.book.core now) id past token now draws)) m.fixed m.was))

asked-context : (laws : Below) (marking : Marking) (w : World) (past : Option ℕ) (hand : InHand) (asked : Asked Admitted) (deed : Deed) (x : Context) → AllGood w.book.setup w.book.core.table → Unforged marking w deed
    → deed.found ≡ found_by w.book past hand asked → deed.opened ≡ opened_by w.book asked → fixes_by w.book past asked ≡ Some x → ContextFound marking w x
asked-context laws marking w past hand (AskedStep id token now draws answer) deed x good unforged found opens e =
    step-context laws marking w id past token now draws answer deed x good unforged found opens (mapped _ _ x e)
asked-context laws marking w past hand (AskedLook id now answer) deed x good unforged found opens e = absurd (none-some x e)
asked-context laws marking w past hand (AskedAdmit lease seq service procedure args answer) deed x good unforged found opens e = absurd (none-some x e)
asked-context laws marking w past hand (AskedEnd lease seq answer) deed x good unforged found opens e = absurd (none-some x e)

-- ---- the lane's move

pub lane-moves-found : (laws : Below) (marking : Marking) (old new : World) (lane : ℕ) (hand : InHand) (deed : Deed) → Stays old new → AllGood old.book.setup old.book.core.table → Founds marking old → Unforged marking old deed
    → LaneMoves old lane hand deed new → Founds marking new
lane-moves-found laws marking old new lane hand deed g good f unforged (inl once) =
    lane-found marking old new lane None old.book (quiet deed.answer) once.new_is g f (λ x e. absurd (none-some x e))
lane-moves-found laws marking old new lane hand deed g good f unforged (inr a) =
    lane-found marking old new lane a.left new.book deed a.new_is g f
    (λ x e. asked-context laws marking old a.past hand a.asked deed x good unforged a.found a.opened (sym a.fixes ∙ e))
