-- What a lane hands out is of a context that was fixed.
use Rattle.std.proofs.Common.{◌≡◌, ◌≢◌, inl, inr, ℕ, refl, sym, ◌∙◌, ap, subst, arith, List, ◌++◌, map, length, slice_get, Option, Some, None, option_map, option_to_list, Ok}
use Rattle.std.proofs.lemmas.Option.{none-some, same_Some}
use Rattle.krb_derive.specs.Making.{Making}
use Rattle.scram_mech.specs.MechMaking.{MechMaking, AmongMakings, typed}
use Rattle.spnego_core.specs.declared.accept_end.AcceptEnd.{AcceptEnd}
use Rattle.spnego_core.specs.declared.setup.AcceptSetup.{AcceptSetup}
use Rattle.spnego_core.specs.Accepting.{Fixed, Accepted}
use Rattle.spnego_core.specs.AcceptLaws.{ByKerberos, ByScram}
use Rattle.accept_book.specs.declared.book_answer.Lease.{Lease}
use Rattle.accept_book.specs.declared.book_answer.NegAnswer.{NegAnswer}
use Rattle.accept_book.specs.declared.book_answer.NegAnswer.TheVariants as answers
use Rattle.accept_book.specs.declared.book_answer.Negotiated.{Negotiated}
use Rattle.accept_book.specs.BookLaws.{AllGood, FixesContext}
use Rattle.accept_book.specs.Booking.{Stands, raised}
use Rattle.accept_core.specs.Entering.{id_of}
use Rattle.accept_book.specs.Found.{step_taken, stepped_from, makes_of, fixes_of}
use Rattle.accept_book.specs.RecordRule.{stepped}
use Rattle.accept_book.specs.RecordShown.{KeptAnswers, Negotiate, AskedStep, Ruling, asking, end_of}
use Rattle.rpcsec_msgs.specs.Cred.{CredValue}
use Rattle.rpc_program.specs.Programs.{Serving, result_in}
use Rattle.rpc_program.specs.declared.outcome.Outcome.{Outcome}
use Rattle.world_laws.specs.declared.event.Happened.{Happened}
use Rattle.world_laws.specs.declared.event.Happened.TheVariants.{Sent, Completed, Stepped, Refused, Nothing}
use Rattle.world_laws.specs.Deeds.{Deed}
use Rattle.world_laws.specs.State.{InHand, Context, World}
use Rattle.told_apart.specs.Apart.{NoList}
use Rattle.world_laws.specs.Lanes.{in_hand, ruling_of, hand_after, cred_with, secure_call_by, secure_call_in, result_makings, told_with, result_with, made_for_call, unless_short, accepted_in, context_with, fixes_by, IsAnswer, if_answered, Follows}
use Rattle.world_laws.proofs.Invariants.{Below, FixedAs, Held, ContextMade, ByContext}
use Rattle.world_laws.proofs.Slices.{get-last}
use Rattle.world_laws.proofs.Due.{Admitting}
use Rattle.world_laws.proofs.Following.{Decides, step-decides}

-- ---- an answer that was given

pub record Given (answer : Option Happened) (makes : List MechMaking) (making : MechMaking) : Type 0 where
  pub happened : Happened
  pub is : answer ≡ Some happened
  pub among : AmongMakings makes making

pub given : (answer : Option Happened) (makes : List MechMaking) (making : MechMaking) → AmongMakings (if_answered answer makes) making → Given answer makes making
given None makes making a = absurd a
given (Some happened) makes making a = record { happened = happened; is = refl; among = a }

-- where memory was wanted in a step, no rule decides, and no question is due: nothing is answered
undecided : (ruling : Ruling) (happened : Happened) → ruling.rule ≡ 0 → IsAnswer ruling (Some happened) → ⊥
undecided ruling (Sent octets) e a = absurd (omega (arith, a.1, e))
undecided ruling (Stepped rule) e a = absurd (omega (arith, a.2, e))
undecided ruling (Completed outcome) e a = a
undecided ruling Refused e a = a
undecided ruling Nothing e a = a

short-decides : (answer : Negotiated) (ruling : Ruling) → answer.answer ≡ answers.NoMemory → Decides answer ruling → (ruling.rule ≡ 0) × (ruling.due ≡ None)
short-decides answer ruling short d =
    let is : ruling ≡ asking d.one (stepped d.shown_by answers.NoMemory) = d.is ∙ ap (λ (n : NegAnswer). asking d.one (stepped d.shown_by n)) short in
    (ap (λ (r : Ruling). r.rule) is, ap (λ (r : Ruling). r.due) is)

step-enough : (serves : Serving) (hand : InHand) (id : Option ℕ) (token : List ℕ) (now : ℕ) (draws : List ℕ) (answer : Negotiated) (happened : Happened) (left : Option InHand) → (ruling_of serves hand).due ≡ Some (Negotiate id token now draws)
    → Follows serves (hand_after hand (AskedStep id token now draws answer)) (Some happened) left → answer.answer ≢ answers.NoMemory
step-enough serves hand id token now draws answer happened left due follows short =
    let d = short-decides answer (ruling_of serves (hand_after hand (AskedStep id token now draws answer))) short (step-decides hand.octets hand.kept serves answer id token now draws due) in
    elim follows [
      | inl more ↦ none-some more.0 (sym d.1 ∙ more.1)
      | inr last ↦ undecided (ruling_of serves (hand_after hand (AskedStep id token now draws answer))) happened d.0 last.0
    ]

enough-fixes : (answer : NegAnswer) (fixes : Option Fixed) → answer ≢ answers.NoMemory → unless_short answer fixes ≡ fixes
enough-fixes (answers.Going id token) fixes enough = refl
enough-fixes (answers.Settled lease token) fixes enough = refl
enough-fixes (answers.Refused refusal) fixes enough = refl
enough-fixes answers.NoMemory fixes enough = absurd (enough refl)

-- ---- a step

kerberos-made : (setup : AcceptSetup) (now : ℕ) (draws : List ℕ) (accepted : Accepted) (fixed : Fixed) (id : ℕ) (making : MechMaking) → ByKerberos setup now draws accepted fixed → AmongMakings accepted.makes making
    → ContextMade (context_with id fixed) making
kerberos-made setup now draws accepted fixed id making by a = elim (by.made making a) [
  | inl e ↦ inl (record { request = by.request; draws = draws; basis = by.basis_is; outcome_is = by.outcome_is; made = e })
  | inr e ↦ inr (inr (inl (record { made = e })))
]

scram-made : (setup : AcceptSetup) (old : AcceptEnd) (now : ℕ) (accepted : Accepted) (fixed : Fixed) (id : ℕ) (making : MechMaking) → ByScram setup old now accepted fixed → AmongMakings accepted.makes making
    → ContextMade (context_with id fixed) making
scram-made setup old now accepted fixed id making by a = elim (by.made making a) [
  | inl e ↦ inr (inl (record {
    end = by.end;
    text = by.token;
    bindings = setup.bindings;
    now = now;
    finished = by.finished;
    basis = by.basis_is;
    finishes = by.finishes;
    outcome_is = by.outcome_is;
    made = e;
  }))
  | inr e ↦ inr (inr (inl (record { made = e })))
]

fixed-made : (setup : AcceptSetup) (book : Stands) (id past : Option ℕ) (token : List ℕ) (now : ℕ) (draws : List ℕ) (accepted : Accepted) (fixed : Fixed) (own : ℕ) (making : MechMaking)
    → FixesContext setup book id past token now draws fixed → step_taken setup book id past token now draws ≡ Some accepted → AmongMakings accepted.makes making → ContextMade (context_with own fixed) making
fixed-made setup book id past token now draws accepted fixed own making f e a =
    let same : accepted ≡ f.accepted = same_Some accepted f.accepted (sym e ∙ f.taken) in
    let b : AmongMakings f.accepted.makes making = subst (λ (x : Accepted). AmongMakings x.makes making) same a in
    elim f.fixes.by [
      | inl by ↦ kerberos-made setup now draws f.accepted fixed own making by b
      | inr by ↦ scram-made setup (stepped_from book id) now f.accepted fixed own making by b
    ]

-- what the step fixed, and that it handed this out
record FixedMade (taken : Option Accepted) (own : ℕ) (making : MechMaking) : Type 0 where
  fixed : Fixed
  fixes : fixes_of taken ≡ Some fixed
  made : ContextMade (context_with own fixed) making

accepted-made : (laws : Below) (setup : AcceptSetup) (book : Stands) (id past : Option ℕ) (token : List ℕ) (now : ℕ) (draws : List ℕ) (accepted : Accepted) (fixes : Option Fixed) (own : ℕ) (making : MechMaking)
    → AllGood setup book.table → step_taken setup book id past token now draws ≡ Some accepted → accepted.fixes ≡ fixes → AmongMakings accepted.makes making → FixedMade (Some accepted) own making
accepted-made laws setup book id past token now draws accepted None own making good taken e a =
    absurd (subst (λ (ms : List MechMaking). AmongMakings ms making) (laws.book.fixes_none setup book id past token now draws accepted good taken e).makes a)
accepted-made laws setup book id past token now draws accepted (Some fixed) own making good taken e a = record {
  fixed = fixed;
  fixes = e;
  made = fixed-made setup book id past token now draws accepted fixed own making (laws.book.fixes setup book id past token now draws fixed good (ap fixes_of taken ∙ e)) taken a;
}

taken-made : (laws : Below) (setup : AcceptSetup) (book : Stands) (id past : Option ℕ) (token : List ℕ) (now : ℕ) (draws : List ℕ) (taken : Option Accepted) (own : ℕ) (making : MechMaking)
    → AllGood setup book.table → step_taken setup book id past token now draws ≡ taken → AmongMakings (makes_of taken) making → FixedMade taken own making
taken-made laws setup book id past token now draws None own making good e a = absurd a
taken-made laws setup book id past token now draws (Some accepted) own making good e a = accepted-made laws setup book id past token now draws accepted accepted.fixes own making good e refl a

-- what is fixed now stands at the end
now-fixed : (old new : World) (deed : Deed) (context : Context) (making : MechMaking) → new.fixed ≡ old.fixed ++ option_to_list deed.fixes → deed.fixes ≡ Some context → ContextMade context making → ByContext new making
now-fixed old new deed context making e fixes made = record {
  place = length old.fixed;
  context = context;
  there = subst (λ (xs : List Context). slice_get xs (length old.fixed) ≡ Some context) (sym (e ∙ ap (λ (o : Option Context). old.fixed ++ option_to_list o) fixes)) (get-last old.fixed context);
  made = made;
}

pub step-owned : (laws : Below) (old new : World) (hand : InHand) (deed : Deed) (past : Option ℕ) (left : Option InHand) (id : Option ℕ) (token : List ℕ) (now : ℕ) (draws : List ℕ) (answer : Negotiated) (happened : Happened) (making : MechMaking)
    → Held old → (ruling_of old.serves hand).due ≡ Some (Negotiate id token now draws) → Follows old.serves (hand_after hand (AskedStep id token now draws answer)) (Some happened) left
    → deed.fixes ≡ fixes_by old.book past (AskedStep id token now draws answer) → new.fixed ≡ old.fixed ++ option_to_list deed.fixes
    → AmongMakings (makes_of (accepted_in old.book past id token now draws)) making → ByContext new making
step-owned laws old new hand deed past left id token now draws answer happened making held due follows fixes fixed a =
    let taken : Option Accepted = accepted_in old.book past id token now draws in
    let own : ℕ = id_of id old.book.core.history in
    let f : FixedMade taken own making = taken-made laws old.book.setup (raised old.book.core now) id past token now draws taken own making held.good refl a in
    let enough : answer.answer ≢ answers.NoMemory = step-enough old.serves hand id token now draws answer happened left due follows in
    now-fixed old new deed (context_with own f.fixed) making fixed
    (fixes ∙ ap (λ (o : Option Fixed). option_map (context_with own) o) (enough-fixes answer.answer (fixes_of taken) enough ∙ f.fixes)) f.made

-- ---- an admission

call-is : (octets : List ℕ) (kept : KeptAnswers) (serves : Serving) (lease : Lease) (seq procedure : ℕ) (said : List ℕ) → (d : Admitting octets kept serves lease seq procedure said) → secure_call_in octets ≡ Some (d.call, d.cred)
call-is octets kept serves lease seq procedure said d = ap secure_call_by d.read ∙ ap (cred_with d.call) d.cred_read

result-is : (octets : List ℕ) (kept : KeptAnswers) (serves : Serving) (lease : Lease) (seq procedure : ℕ) (outcome : Outcome) (said : List ℕ) → (d : Admitting octets kept serves lease seq procedure said)
    → made_for_call lease outcome (secure_call_in octets) ≡ told_with lease d.cred (result_in said outcome)
result-is octets kept serves lease seq procedure outcome said d =
    ap (made_for_call lease outcome) (call-is octets kept serves lease seq procedure said d)
    ∙ (ap (result_with lease outcome d.cred) d.args_are ∙ ap (λ (args : List ℕ). told_with lease d.cred (result_in args outcome)) (sym d.said_is))

-- the result that was told
record ToldResult (lease : Lease) (cred : CredValue) (o : Option (List ℕ)) (making : MechMaking) : Type 0 where
  result : List ℕ
  is : o ≡ Some result
  made : AmongMakings (map typed (result_makings (end_of lease) cred.service cred.seq result)) making

told-result : (lease : Lease) (cred : CredValue) (o : Option (List ℕ)) (making : MechMaking) → AmongMakings (map typed (told_with lease cred o)) making → ToldResult lease cred o making
told-result lease cred None making a = absurd a
told-result lease cred (Some result) making a = record { result = result; is = refl; made = a }

-- the lease in hand is of a context that was fixed
pub leased : (w : World) (lane : ℕ) (hand : Option InHand) (octets : List ℕ) (now : ℕ) (draws : List ℕ) (lease : Lease) → Held w → slice_get w.lanes lane ≡ Some hand
    → (in_hand hand octets now draws).kept.looked ≡ Some (Ok lease) → FixedAs w lease.id lease.outcome lease.ends
leased w lane None octets now draws lease held there looked = absurd (none-some (Ok lease) looked)
leased w lane (Some hand) octets now draws lease held there looked = held.leases lane hand lease there looked

pub admit-owned : (w : World) (octets : List ℕ) (kept : KeptAnswers) (serves : Serving) (lease : Lease) (seq procedure : ℕ) (outcome : Outcome) (said : List ℕ) (making : MechMaking) → Admitting octets kept serves lease seq procedure said
    → ((result : List ℕ) → result_in said outcome ≡ Some result → NoList result) → FixedAs w lease.id lease.outcome lease.ends → AmongMakings (map typed (made_for_call lease outcome (secure_call_in octets))) making → ByContext w making
admit-owned w octets kept serves lease seq procedure outcome said making d apart f a =
    let t = told-result lease d.cred (result_in said outcome) making
    (subst (λ (ms : List Making). AmongMakings (map typed ms) making) (result-is octets kept serves lease seq procedure outcome said d) a) in
    record {
      place = f.place;
      context = f.context;
      there = f.there;
      made = inr (inr (inr (record {
        lease = lease;
        outcome_is = f.outcome_is;
        service = d.cred.service;
        seq = d.cred.seq;
        result = t.result;
        apart = apart t.result t.is;
        made = t.made;
      })));
    }
