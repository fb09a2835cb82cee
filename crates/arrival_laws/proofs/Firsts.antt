-- An honest call that comes to an idle lane is done by the lane's next event.
use Rattle.std.proofs.Common.{◌≡◌, ◌⊎◌, inl, inr, ℕ, true, refl, sym, ◌∙◌, ap, subst, arith, List, ◌∷◌, slice_get, slice_set, Option, Some, None, Result, Ok, Err, is_ok}
use Rattle.std.proofs.lemmas.Option.{none-some}
use Rattle.sha1.specs.Sha1.{sha1}
use Rattle.krb_tokens.specs.declared.end.Side.TheVariants.{Initiator}
use Rattle.spnego_core.specs.declared.outcome.Outcome.{Outcome}
use Rattle.spnego_core.specs.Outcome.{token_end}
use Rattle.context_table.specs.Places.{slot_at}
use Rattle.accept_core.specs.declared.answer.AdmitRefusal.{AdmitRefusal}
use Rattle.accept_core.specs.declared.answer.LookRefusal.{LookRefusal}
use Rattle.accept_core.specs.declared.entry.Receipt.{Receipt}
use Rattle.rpc_program.specs.Programs.{Serving, result_in}
use Rattle.rpc_program.specs.declared.outcome.Outcome.{Outcome as Became}
use Rattle.rpc_program.specs.declared.outcome.Outcome.TheVariants as outcomes
use Rattle.rpcsec_bodies.specs.declared.service.Service.{Service}
use Rattle.rpcsec_bodies.specs.Service.{service_of}
use Rattle.accept_book.specs.declared.book_answer.Admitted.{Admitted}
use Rattle.accept_core.specs.declared.entry.Entry.{Entry}
use Rattle.accept_core.specs.declared.entry.Entry.TheVariants.{Call}
use Rattle.accept_core.specs.Answers.{Free, or_refused, after}
use Rattle.accept_core.specs.History.{Standing, Whole}
use Rattle.accept_book.specs.declared.book_answer.Lease.{Lease}
use Rattle.accept_book.specs.Booking.{LeasedBy, lease_refused, has_key, FreeFor}
use Rattle.accept_book.specs.BookAnswers.{BookLooked, BookAdmitted}
use Rattle.accept_book.specs.Honest.{caller_of, Honest, HonestLaw, HonestRuled}
use Rattle.accept_book.specs.RecordShown.{KeptAnswers, Question, Negotiate, Look, Admit, End, Asked, AskedStep, AskedLook, AskedAdmit, AskedEnd, booked, with_ok, Ruling, handle_id}
use Rattle.accept_book.specs.RecordRule.{record_ruling}
use Rattle.gss_server.specs.Answers.{IsDecided}
use Rattle.gss_server.specs.Asking.{BookAnswers}
use Rattle.honest_calls.specs.HonestCalls.{HasOctets}
use Rattle.honest_calls.proofs.HonestCalls.{honest-calls, honest-looks}
use Rattle.world_laws.specs.declared.event.Happened.{Happened}
use Rattle.world_laws.specs.declared.event.Happened.TheVariants.{Sent, Completed, Stepped, Refused, Nothing}
use Rattle.world_laws.specs.declared.event.WorldEvent.{WorldEvent}
use Rattle.world_laws.specs.declared.event.WorldEvent.TheVariants.{Lane}
use Rattle.world_laws.specs.Agreement.{FixedAs}
use Rattle.world_laws.specs.Deeds.{Deed}
use Rattle.world_laws.specs.State.{InHand, World}
use Rattle.world_laws.specs.Lanes.{question_of, ruling_of, hand_after, IsAnswer, Follows, Asks, LaneMoves}
use Rattle.world_laws.specs.Events.{LanesBy, Happens, Run}
use Rattle.world_laws.proofs.Growing.{run-grows, fixed-grow}
use Rattle.world_laws.proofs.Invariants.{Below, Held}
use Rattle.world_laws.proofs.Slices.{set-same}
use Rattle.world_laws.proofs.Undecided.{undecided, unanswered}
use Rattle.arrival_laws.specs.FirstArrival.{Comes, admitted_ruling, IsDone, TakesNext, FirstArrivalLaw}
use Rattle.arrival_laws.proofs.Elsewhere.{held-run, held-on, hand-stays}
use Rattle.arrival_laws.proofs.Lives.{Lives, lives, keyed, one-value}

-- ---- the first event: the look

-- the call in hand, with what was shown of its context
abbrev hand_of : List ℕ → ℕ → List ℕ → Option (Result Lease LookRefusal) → InHand
hand_of octets now draws looked = record {
  octets = octets;
  kept = record { now = now; draws = draws; negotiated = None; looked = looked; admitted = None; ended = None };
}

record Shown (new : World) (lane : ℕ) (octets : List ℕ) (now : ℕ) (draws : List ℕ) (id : ℕ) (outcome : Outcome) : Type 0 where
  lease : Lease
  id_is : lease.id ≡ id
  outcome_is : lease.outcome ≡ outcome
  there : slice_get new.lanes lane ≡ Some (Some (hand_of octets now draws (Some (Ok lease))))

record IsLook (id now : ℕ) (asked : Asked Admitted) : Type 0 where
  answer : Result Lease LookRefusal
  is : asked ≡ AskedLook id now answer

same-question : (a b : Question) → Some a ≡ Some b → a ≡ b
same-question a b e = cc

abbrev look_asked : Result Lease LookRefusal → Question → Asked Admitted
look_asked answer (Look id now) = AskedLook id now answer
look_asked answer (Negotiate id token now draws) = AskedLook 0 0 answer
look_asked answer (Admit lease seq service procedure args) = AskedLook 0 0 answer
look_asked answer (End lease seq) = AskedLook 0 0 answer

look-of : (id now : ℕ) (asked : Asked Admitted) → Some (question_of asked) ≡ Some (Look id now) → IsLook id now asked
look-of id now (AskedStep i token n draws answer) e = absurd cc
look-of id now (AskedLook i n answer) e = record { answer = answer; is = ap (look_asked answer) (same-question (Look i n) (Look id now) e) }
look-of id now (AskedAdmit lease seq service procedure args answer) e = absurd cc
look-of id now (AskedEnd lease seq answer) e = absurd cc

-- what an honest call's rule says, by a lease of its context
record Ours (serves : Serving) (lease : Lease) (octets : List ℕ) (n procedure : ℕ) (args : List ℕ) : Type 0 where
  honest : Honest serves.program octets (caller_of lease) n procedure args
  handle : handle_id honest.cred.context ≡ Some lease.id
  law : HonestLaw lease

ours : (serves : Serving) (lease : Lease) (octets : List ℕ) (outcome : Outcome) (id n procedure : ℕ) (args : List ℕ) (h : Honest serves.program octets (token_end outcome Initiator) n procedure args) → handle_id h.cred.context ≡ Some id → HasOctets outcome.key
    → lease.id ≡ id → lease.outcome ≡ outcome → Ours serves lease octets n procedure args
ours serves lease octets outcome id n procedure args h handle key id_is outcome_is =
    let both : (g : Honest serves.program octets (caller_of lease) n procedure args) × (handle_id g.cred.context ≡ Some id) =
    subst (λ (o : Outcome). (g : Honest serves.program octets (token_end o Initiator) n procedure args) × (handle_id g.cred.context ≡ Some id)) (sym outcome_is) (h, handle) in
    record { honest = both.0; handle = both.1 ∙ ap Some (sym id_is); law = honest-calls lease (subst (λ (o : Outcome). HasOctets o.key) (sym outcome_is) key) }

-- the question that is due by it, once the context was shown
abbrev admission_of : {serves : Serving} {lease : Lease} {octets : List ℕ} {n procedure : ℕ} {args : List ℕ} → Ours serves lease octets n procedure args → Service
admission_of o = service_of o.honest.cred.service

ruled-by : (serves : Serving) (lease : Lease) (octets : List ℕ) (n procedure : ℕ) (args : List ℕ) (kept : KeptAnswers) (o : Ours serves lease octets n procedure args) → kept.looked ≡ Some (Ok lease)
    → HonestRuled octets kept serves lease n procedure args o.honest.call o.honest.cred lease.id
ruled-by serves lease octets n procedure args kept o shown = o.law octets kept serves n procedure args o.honest lease.id o.handle shown

due-admit : (serves : Serving) (lease : Lease) (octets : List ℕ) (now : ℕ) (draws : List ℕ) (n procedure : ℕ) (args : List ℕ) (o : Ours serves lease octets n procedure args)
    → (ruling_of serves (hand_of octets now draws (Some (Ok lease)))).due ≡ Some (Admit lease n (admission_of o) procedure args)
due-admit serves lease octets now draws n procedure args o = (ruled-by serves lease octets n procedure args (hand_of octets now draws (Some (Ok lease))).kept o refl).due refl

left-in : (serves : Serving) (lease : Lease) (octets : List ℕ) (now : ℕ) (draws : List ℕ) (n procedure : ℕ) (args : List ℕ) (answer : Option Happened) (left : Option InHand) → Ours serves lease octets n procedure args
    → Follows serves (hand_of octets now draws (Some (Ok lease))) answer left → (answer ≡ None) ⊎ (left ≡ Some (hand_of octets now draws (Some (Ok lease))))
left-in serves lease octets now draws n procedure args answer left o (inl more) = inr more.3
left-in serves lease octets now draws n procedure args answer left o (inr decided) =
    let hand = hand_of octets now draws (Some (Ok lease)) in
    inl (unanswered (ruling_of serves hand) answer (undecided octets hand.kept serves (Admit lease n (admission_of o) procedure args) (due-admit serves lease octets now draws n procedure args o)) decided.0)

shown-by : (old : World) (lane : ℕ) (octets : List ℕ) (now : ℕ) (draws : List ℕ) (outcome : Outcome) (id ends n procedure : ℕ) (args : List ℕ) (answer : Result Lease LookRefusal) (said : Option Happened) (new : World) (left : Option InHand)
    → Comes old lane octets now outcome id ends n procedure args → Lives old id outcome ends → BookLooked old.book new.book id now answer → Follows old.serves (hand_of octets now draws (Some answer)) said left → new.lanes ≡ slice_set old.lanes lane left
    → (said ≡ None) ⊎ Shown new lane octets now draws id outcome
shown-by old lane octets now draws outcome id ends n procedure args (Err refusal) said new left c l b follows lanes =
    let a : LeasedBy (Whole l.mech l.names ends) id now (Err refusal) = subst (λ (s : Standing). LeasedBy s id now (Err refusal)) l.whole b.answer in
    absurd (omega (arith, a.0, c.timely))
shown-by old lane octets now draws outcome id ends n procedure args (Ok lease) said new left c l b follows lanes =
    let a : LeasedBy (Whole l.mech l.names ends) id now (Ok lease) = subst (λ (s : Standing). LeasedBy s id now (Ok lease)) l.whole b.answer in
    let same : lease.outcome ≡ outcome = one-value (slot_at old.book.core.table id) lease.outcome outcome lease.ends ends b.value l.value in
    let o = ours old.serves lease octets outcome id n procedure args c.honest c.handle c.key a.1.id same in
    elim (left-in old.serves lease octets now draws n procedure args said left o follows) [
      | inl none ↦ inl none
      | inr held ↦ inr (record {
        lease = lease;
        id_is = a.1.id;
        outcome_is = same;
        there = ap (λ (xs : List (Option InHand)). slice_get xs lane) (lanes ∙ ap (slice_set old.lanes lane) held) ∙ set-same old.lanes lane (Some (hand_of octets now draws (Some (Ok lease)))) None c.idle;
      })
    ]

looks : (old : World) (lane : ℕ) (octets : List ℕ) (now : ℕ) (draws : List ℕ) (outcome : Outcome) (id ends n procedure : ℕ) (args : List ℕ) (deed : Deed) (new : World) → Comes old lane octets now outcome id ends n procedure args → Lives old id outcome ends
    → LaneMoves old lane (hand_of octets now draws None) deed new → (deed.answer ≡ None) ⊎ Shown new lane octets now draws id outcome
looks old lane octets now draws outcome id ends n procedure args deed new c l moves = by moves
  where
    due : (ruling_of old.serves (hand_of octets now draws None)).due ≡ Some (Look id now)
    due = ap (λ (r : Ruling). r.due) (honest-looks octets (hand_of octets now draws None).kept old.serves n procedure args (token_end outcome Initiator) c.honest id c.handle refl)

    asks : (q : Asks old lane (hand_of octets now draws None) deed new) → IsLook id now q.asked → (deed.answer ≡ None) ⊎ Shown new lane octets now draws id outcome
    asks q k = shown-by old lane octets now draws outcome id ends n procedure args k.answer deed.answer new q.left c l
        (subst (λ (a : Asked Admitted). BookAnswers old.book (booked a) new.book) k.is q.answers)
        (subst (λ (a : Asked Admitted). Follows old.serves (hand_after (hand_of octets now draws None) a) deed.answer q.left) k.is q.follows)
        (ap (λ (w : World). w.lanes) q.new_is)

    by : LaneMoves old lane (hand_of octets now draws None) deed new → (deed.answer ≡ None) ⊎ Shown new lane octets now draws id outcome
    by (inl o) = inl (unanswered (ruling_of old.serves (hand_of octets now draws None)) deed.answer (undecided octets (hand_of octets now draws None).kept old.serves (Look id now) due) o.answer)
    by (inr q) = asks q (look-of id now q.asked (sym q.due ∙ due))

-- ---- the second event: the admission

record IsAdmit (lease : Lease) (n : ℕ) (service : Service) (procedure : ℕ) (args : List ℕ) (asked : Asked Admitted) : Type 0 where
  answer : Result Admitted AdmitRefusal
  is : asked ≡ AskedAdmit lease n service procedure args answer

admit-of : (lease : Lease) (n : ℕ) (service : Service) (procedure : ℕ) (args : List ℕ) (asked : Asked Admitted) → Some (question_of asked) ≡ Some (Admit lease n service procedure args) → IsAdmit lease n service procedure args asked
admit-of lease n service procedure args (AskedStep id token now draws answer) e = absurd cc
admit-of lease n service procedure args (AskedLook id now answer) e = absurd cc
admit-of lease n service procedure args (AskedAdmit l s v p xs answer) e =
    let a : l ≡ lease = cc in
    let b : s ≡ n = cc in
    let f : v ≡ service = cc in
    let c : p ≡ procedure = cc in
    let d : xs ≡ args = cc in
    record { answer = answer; is = λ i. AskedAdmit (a i) (b i) (f i) (c i) (d i) answer }
admit-of lease n service procedure args (AskedEnd l s answer) e = absurd cc

unrefused : (r : Option AdmitRefusal) (x : Receipt) (result : Result Receipt AdmitRefusal) → result ≡ or_refused r x → is_ok result ≡ true → r ≡ None
unrefused None x result e ok = refl
unrefused (Some refusal) x result e ok = absurd (let bad : is_ok (or_refused (Some refusal) x) ≡ true = ap is_ok (sym e) ∙ ok in cc)

logged : (r : Option AdmitRefusal) (entry : Entry) (h new : List Entry) → r ≡ None → new ≡ after r entry h → new ≡ entry ∷ h
logged None entry h new none is = is
logged (Some refusal) entry h new none is = absurd cc

-- how a ruling was answered: by its reply, or by its rule where it has none
record IsTold (r : Ruling) (answer : Option Happened) : Type 0 where
  decided : IsDecided r
  sent : (octets : List ℕ) → r.reply ≡ Some octets → answer ≡ Some (Sent octets)
  silent : r.reply ≡ None → answer ≡ Some (Stepped r.rule)

same-octets : (a b : List ℕ) → Some a ≡ Some b → a ≡ b
same-octets a b both = cc

told : (r : Ruling) (answer : Option Happened) → IsAnswer r answer → (answer ≡ None) ⊎ IsTold r answer
told r None is = inl refl
told r (Some (Sent reply)) is = inr (record {
  decided = is.1;
  sent = λ octets has. let same : reply ≡ octets = same-octets reply octets (sym is.0 ∙ has) in ap (λ (o : List ℕ). Some (Sent o)) same;
  silent = λ none. absurd (none-some reply (sym none ∙ is.0));
})
told r (Some (Stepped rule)) is = inr (record {
  decided = is.2;
  sent = λ octets has. absurd (none-some octets (sym is.0 ∙ has));
  silent = λ none. ap (λ (k : ℕ). Some (Stepped k)) is.1;
})
told r (Some (Completed outcome)) is = absurd is
told r (Some Refused) is = absurd is
told r (Some Nothing) is = absurd is

-- what became of an admitted call has a reply by rule 23, and none by rule 25
record Became-so (r : Ruling) (outcome : Became) : Type 0 where
  replies : r.rule ≡ 23 → (reply : List ℕ) × (r.reply ≡ Some reply)
  silent : r.rule ≡ 25 → r.reply ≡ None

became : (serves : Serving) (lease : Lease) (octets : List ℕ) (n procedure : ℕ) (args : List ℕ) (kept : KeptAnswers) (o : Ours serves lease octets n procedure args) (admitted : Admitted) → kept.looked ≡ Some (Ok lease) → kept.admitted ≡ Some (Ok admitted)
    → (outcome : Became) → admitted.outcome ≡ outcome → Became-so (record_ruling octets kept serves) outcome
became serves lease octets n procedure args kept o admitted shown is outcomes.Args e =
    let r = ruled-by serves lease octets n procedure args kept o shown in
    let d = r.done admitted args is (ap (result_in args) e) in
    record { replies = λ rule. (_, d.replied); silent = λ rule. absurd (omega (arith, rule, d.rule)) }
became serves lease octets n procedure args kept o admitted shown is (outcomes.Done result) e =
    let r = ruled-by serves lease octets n procedure args kept o shown in
    let d = r.done admitted result is (ap (result_in args) e) in
    record { replies = λ rule. (_, d.replied); silent = λ rule. absurd (omega (arith, rule, d.rule)) }
became serves lease octets n procedure args kept o admitted shown is (outcomes.Refused why) e =
    let r = ruled-by serves lease octets n procedure args kept o shown in
    let d = r.unserved admitted why is e in
    record { replies = λ rule. (_, d.replied); silent = λ rule. absurd (omega (arith, rule, d.rule)) }
became serves lease octets n procedure args kept o admitted shown is (outcomes.Mismatch low high) e =
    let r = ruled-by serves lease octets n procedure args kept o shown in
    let d = r.mismatch admitted low high is e in
    record { replies = λ rule. (_, d.replied); silent = λ rule. absurd (omega (arith, rule, d.rule)) }
became serves lease octets n procedure args kept o admitted shown is outcomes.Gone e =
    let r = ruled-by serves lease octets n procedure args kept o shown in
    let lost = r.lost admitted is e in
    record { replies = λ rule. absurd (omega (arith, rule, lost.0)); silent = λ rule. lost.1 }
became serves lease octets n procedure args kept o admitted shown is outcomes.NoMemory e =
    let r = ruled-by serves lease octets n procedure args kept o shown in
    let zero = r.memory admitted is e in
    record { replies = λ rule. absurd (omega (arith, rule, zero)); silent = λ rule. absurd (omega (arith, rule, zero)) }

-- the admission was answered
done-by : (old : World) (octets : List ℕ) (now : ℕ) (draws : List ℕ) (id n procedure : ℕ) (args : List ℕ) (lease : Lease) (service : Service) (answer : Result Admitted AdmitRefusal) (deed : Deed) (new : World) (left : Option InHand)
    → lease.id ≡ id → Ours old.serves lease octets n procedure args → FreeFor old.book.core lease n → BookAdmitted old.book new.book lease n procedure (sha1 args) (with_ok (λ admitted. admitted.receipt) answer)
    → Follows old.serves (hand_after (hand_of octets now draws (Some (Ok lease))) (AskedAdmit lease n service procedure args answer)) deed.answer left
    → (deed.answer ≡ None) ⊎ IsDone old deed new octets now draws id n procedure args
done-by old octets now draws id n procedure args lease service (Err refusal) deed new left same o free b follows = absurd (let bad : is_ok (refused refusal) ≡ true = b.exactly.1 free in cc)
  where
    refused : AdmitRefusal → Result Receipt AdmitRefusal
    refused r = Err r
done-by old octets now draws id n procedure args lease service (Ok admitted) deed new left same o free b (inl more) =
    let kept : KeptAnswers = (hand_after (hand_of octets now draws (Some (Ok lease))) (AskedAdmit lease n service procedure args (Ok admitted))).kept in
    let due : (record_ruling octets kept old.serves).due ≡ Some more.0 = more.1 in
    let none : (record_ruling octets kept old.serves).due ≡ None = (ruled-by old.serves lease octets n procedure args kept o refl).undue (Ok admitted) refl in
    absurd (none-some more.0 (sym none ∙ due))
done-by old octets now draws id n procedure args lease service (Ok admitted) deed new left same o free b (inr answer) =
    let kept : KeptAnswers = (hand_after (hand_of octets now draws (Some (Ok lease))) (AskedAdmit lease n service procedure args (Ok admitted))).kept in
    let ruling : Ruling = admitted_ruling old.serves octets now draws lease admitted in
    let r = ruled-by old.serves lease octets n procedure args kept o refl in
    let so = became old.serves lease octets n procedure args kept o admitted refl refl admitted.outcome refl in
    elim (told ruling deed.answer answer.0) [
      | inl none ↦ inl none
      | inr t ↦ inr (record {
        lease = lease;
        shows = same;
        admitted = admitted;
        ruling = ruling;
        is_ruling = refl;
        rule = r.came admitted refl;
        decided = t.decided;
        sent = λ rule. let reply = so.replies rule in (reply.0, reply.1, t.sent reply.0 reply.1);
        lost = λ rule. t.silent (so.silent rule) ∙ ap (λ (k : ℕ). Some (Stepped k)) rule;
        logged = logged (lease_refused old.book.core lease n) (Call id n procedure (sha1 args)) old.book.core.history new.book.core.history
            (unrefused (lease_refused old.book.core lease n) _ (Ok admitted.receipt) b.answer refl)
            (subst (λ (k : ℕ). new.book.core.history ≡ after (lease_refused old.book.core lease n) (Call k n procedure (sha1 args)) old.book.core.history) same b.history);
      })
    ]

admits : (old : World) (lane : ℕ) (octets : List ℕ) (now : ℕ) (draws : List ℕ) (id n procedure : ℕ) (args : List ℕ) (lease : Lease) (deed : Deed) (new : World)
    → lease.id ≡ id → Ours old.serves lease octets n procedure args → FreeFor old.book.core lease n → LaneMoves old lane (hand_of octets now draws (Some (Ok lease))) deed new
    → (deed.answer ≡ None) ⊎ IsDone old deed new octets now draws id n procedure args
admits old lane octets now draws id n procedure args lease deed new same o free (inl once) =
    let hand = hand_of octets now draws (Some (Ok lease)) in
    inl (unanswered (ruling_of old.serves hand) deed.answer (undecided octets hand.kept old.serves (Admit lease n (admission_of o) procedure args) (due-admit old.serves lease octets now draws n procedure args o)) once.answer)
admits old lane octets now draws id n procedure args lease deed new same o free (inr q) =
    let hand = hand_of octets now draws (Some (Ok lease)) in
    let k = admit-of lease n (admission_of o) procedure args q.asked (sym q.due ∙ due-admit old.serves lease octets now draws n procedure args o) in
    done-by old octets now draws id n procedure args lease (admission_of o) k.answer deed new q.left same o free
    (subst (λ (a : Asked Admitted). BookAnswers old.book (booked a) new.book) k.is q.answers)
    (subst (λ (a : Asked Admitted). Follows old.serves (hand_after hand a) deed.answer q.left) k.is q.follows)

-- ---- both

fixed-on : (old new : World) (events : List WorldEvent) (id : ℕ) (outcome : Outcome) (ends : ℕ) → Run old events new → FixedAs old id outcome ends → FixedAs new id outcome ends
fixed-on old new events id outcome ends run f = record {
  place = f.place;
  context = f.context;
  there = fixed-grow old new f.place f.context (run-grows old events new run) f.there;
  id_is = f.id_is;
  outcome_is = f.outcome_is;
  ends_is = f.ends_is;
}

takes-next : Below → (w looked : World) (lane : ℕ) (octets : List ℕ) (now : ℕ) (draws : List ℕ) (outcome : Outcome) (id ends n procedure : ℕ) (args : List ℕ) (deed : Deed)
    → Held w → Comes w lane octets now outcome id ends n procedure args → Happens w (Lane lane octets now draws) deed looked → Shown looked lane octets now draws id outcome
    → TakesNext looked lane octets now draws id n procedure args
takes-next laws w looked lane octets now draws outcome id ends n procedure args deed held c happens s between late run elsewhere free others moment drawn deed' new next =
    let first : Run w (Lane lane octets now draws ∷ between) late = (record { deed = deed; world = looked; happens = happens }, run) in
    let l = lives late id outcome ends (held-on laws w (Lane lane octets now draws ∷ between) late first held) (fixed-on w late (Lane lane octets now draws ∷ between) id outcome ends first c.fixed) free.may.whole in
    let key : has_key (slot_at late.book.core.table s.lease.id) s.lease.outcome.key ≡ true =
    (λ i. has_key (slot_at late.book.core.table (s.id_is i)) (s.outcome_is i).key) ∙ keyed (slot_at late.book.core.table id) outcome ends l.value in
    let free' : Free late.book.core.limit late.book.core.width late.book.core.history s.lease.id n = subst (λ (k : ℕ). Free late.book.core.limit late.book.core.width late.book.core.history k n) (sym s.id_is) free in
    let there : slice_get late.lanes lane ≡ Some (Some (hand_of octets now draws (Some (Ok s.lease)))) = hand-stays lane looked between late run elsewhere ∙ s.there in
    let same : late.serves ≡ w.serves = (run-grows w (Lane lane octets now draws ∷ between) late first).serves in
    admits late lane octets now draws id n procedure args s.lease deed' new s.id_is
    (subst (λ (served : Serving). Ours served s.lease octets n procedure args) (sym same) (ours w.serves s.lease octets outcome id n procedure args c.honest c.handle c.key s.id_is s.outcome_is))
    (record { key = key; free = free' })
    (subst (λ (hand : Option (Option InHand)). LanesBy late lane others moment drawn hand deed' new) there next.did)

pub first-arrival : Below → FirstArrivalLaw
first-arrival laws start earlier w begins run lane octets now draws outcome id ends n procedure args c deed looked happens =
    let held = held-run laws start earlier w begins run in
    let l = lives w id outcome ends held c.fixed c.lives in
    elim (looks w lane octets now draws outcome id ends n procedure args deed looked c l
    (subst (λ (hand : Option (Option InHand)). LanesBy w lane octets now draws hand deed looked) c.idle happens.did)) [
      | inl none ↦ inl none
      | inr s ↦ inr (takes-next laws w looked lane octets now draws outcome id ends n procedure args deed held c happens s)
    ]
