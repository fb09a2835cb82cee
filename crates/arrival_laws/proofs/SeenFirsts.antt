-- An honest call is done by a history whose answers are what the log before them says.
use Rattle.std.proofs.Common.{◌≡◌, inl, inr, ℕ, ◌+◌, ◌<◌, ◌≤◌, if◌then◌else◌, Bool, true, false, refl, sym, ap, ◌∙◌, subst, arith, List, [], ◌∷◌, ◌++◌, append_assoc, length, Option, Some, None, Result, Ok, Err}
use Rattle.std.specs.Prelude.{nat_lt, nat_le}
use Rattle.std.proofs.lemmas.Bool.{lt-ltb, le-ltb, lt-leb}
use Rattle.sha1.specs.Sha1.{sha1}
use Rattle.krb_tokens.specs.declared.end.Side.TheVariants.{Initiator}
use Rattle.seq_window.specs.declared.window.Verdict.{Verdict}
use Rattle.seq_window.specs.declared.window.Verdict.TheVariants as verdicts
use Rattle.seq_window.specs.Marks.{verdict_of, greatest, is_in}
use Rattle.spnego_core.specs.declared.outcome.Outcome.{Outcome}
use Rattle.spnego_core.specs.declared.setup.AcceptSetup.{AcceptSetup}
use Rattle.spnego_core.specs.Outcome.{token_end}
use Rattle.accept_core.specs.Answers.{Free, refused, refusal_by, or_refused, receipt_of}
use Rattle.accept_core.specs.History.{Standing, Whole, standing, numbers, is_whole}
use Rattle.accept_core.specs.declared.answer.AdmitRefusal.{AdmitRefusal}
use Rattle.accept_core.specs.declared.answer.AdmitRefusal.TheVariants as admits
use Rattle.accept_core.specs.declared.answer.LookRefusal.{LookRefusal}
use Rattle.accept_core.specs.declared.entry.Receipt.{Receipt}
use Rattle.rpcsec_bodies.specs.declared.service.Service.{Service}
use Rattle.rpcsec_bodies.specs.Service.{service_of}
use Rattle.rpcsec_msgs.specs.Cred.{CredValue}
use Rattle.rpc_program.specs.Programs.{ProgramSays, Serving}
use Rattle.accept_book.specs.declared.book_answer.Admitted.{Admitted}
use Rattle.accept_core.specs.declared.entry.Entry.{Entry}
use Rattle.accept_core.specs.declared.entry.Entry.TheVariants.{Call}
use Rattle.accept_core.specs.declared.entry.Limits.{Limits}
use Rattle.accept_book.specs.declared.book_answer.Lease.{Lease}
use Rattle.accept_book.specs.Booking.{LeasedBy}
use Rattle.accept_book.specs.Honest.{caller_of, Honest, HonestLaw, HonestRuled}
use Rattle.accept_book.specs.RecordShown.{KeptAnswers, Admit, Asked, AskedLook, AskedAdmit, with_ok, handle_id}
use Rattle.accept_book.specs.RecordRule.{record_ruling}
use Rattle.gss_server.specs.Answers.{IsDecided}
use Rattle.honest_calls.specs.HonestCalls.{HasOctets}
use Rattle.honest_calls.proofs.HonestCalls.{honest-calls}
use Rattle.history_laws.specs.Before.{Before, Made, Settles, before_of, IsGiven}
use Rattle.history_laws.specs.Receipts.{logged}
use Rattle.history_laws.specs.Seen.{LookSeen, AdmitSeen, AllSeen, number_refused}
use Rattle.world_laws.proofs.Undecided.{undecided}
use Rattle.arrival_laws.specs.SeenArrival.{IsAdmitted, ComesSeen, IsShown, AsksAdmission, ArrivesSeen, SeenArrivalLaw}

-- ---- the look

same-made : (a b : Made) → Some a ≡ Some b → a ≡ b
same-made a b e = cc

abbrev outcome_of_made : Outcome → Made → Outcome
outcome_of_made other (Settles outcome ends) = outcome
outcome_of_made other made = other

same-settled : (a b : Outcome) (x y : ℕ) → Some (Settles a x) ≡ Some (Settles b y) → a ≡ b
same-settled a b x y e = ap (outcome_of_made a) (same-made (Settles a x) (Settles b y) e)

shown-as : (program : ProgramSays) (before : Before) (octets : List ℕ) (now : ℕ) (outcome : Outcome) (id ends n procedure : ℕ) (args : List ℕ) (looked : Result Lease LookRefusal) → ComesSeen program before octets now outcome id ends n procedure args → LookSeen before id now looked
    → IsShown id outcome looked
shown-as program before octets now outcome id ends n procedure args (Err refusal) c s =
    let a : LeasedBy (Whole c.mech c.names c.until) id now (Err refusal) = subst (λ (st : Standing). LeasedBy st id now (Err refusal)) c.lives s.by_log in
    absurd (omega (arith, a.0, c.timely))
shown-as program before octets now outcome id ends n procedure args (Ok lease) c s =
    let a : LeasedBy (Whole c.mech c.names c.until) id now (Ok lease) = subst (λ (st : Standing). LeasedBy st id now (Ok lease)) c.lives s.by_log in
    record {
      lease = lease;
      is = refl;
      shows = a.1.id;
      outcome_is = same-settled lease.outcome outcome lease.ends ends (sym (s.by_steps lease refl) ∙ c.made);
    }

-- ---- the admission

-- an honest call by the lease that was shown, and what the rule says of it
record Ours (octets : List ℕ) (kept : KeptAnswers) (serves : Serving) (lease : Lease) (n procedure : ℕ) (args : List ℕ) (id : ℕ) (service : Service) : Type 0 where
  honest : Honest serves.program octets (caller_of lease) n procedure args
  by : service_of honest.cred.service ≡ service
  law : HonestRuled octets kept serves lease n procedure args honest.call honest.cred id

-- the same call, by an outcome that is the lease's
record By (program : ProgramSays) (octets : List ℕ) (o : Outcome) (n procedure : ℕ) (args : List ℕ) (id : ℕ) (cred : CredValue) : Type 0 where
  honest : Honest program octets (token_end o Initiator) n procedure args
  same : honest.cred ≡ cred
  handle : handle_id honest.cred.context ≡ Some id

ruled : (before : Before) (octets : List ℕ) (kept : KeptAnswers) (serves : Serving) (outcome : Outcome) (id ends n procedure : ℕ) (args : List ℕ) (lease : Lease) → (c : ComesSeen serves.program before octets kept.now outcome id ends n procedure args)
    → lease.outcome ≡ outcome → kept.looked ≡ Some (Ok lease)
    → Ours octets kept serves lease n procedure args id (service_of c.honest.cred.service)
ruled before octets kept serves outcome id ends n procedure args lease c outcome_is looked =
    let both : By serves.program octets lease.outcome n procedure args id c.honest.cred =
    subst (λ (o : Outcome). By serves.program octets o n procedure args id c.honest.cred) (sym outcome_is) (record { honest = c.honest; same = refl; handle = c.handle }) in
    let law : HonestLaw lease = honest-calls lease (subst (λ (o : Outcome). HasOctets o.key) (sym outcome_is) c.key) in
    record { honest = both.honest; by = ap (λ (cred : CredValue). service_of cred.service) both.same; law = law octets kept serves n procedure args both.honest id both.handle looked }

asks-by : (octets : List ℕ) (kept : KeptAnswers) (serves : Serving) (lease : Lease) (id n procedure : ℕ) (args : List ℕ) (service : Service) → Ours octets kept serves lease n procedure args id service
    → (answer : Option (Result Admitted AdmitRefusal)) → kept.admitted ≡ answer → IsDecided (record_ruling octets kept serves) → AsksAdmission octets kept serves lease id n service procedure args
asks-by octets kept serves lease id n procedure args service o None is decided =
    let zero : (record_ruling octets kept serves).rule ≡ 0 = undecided octets kept serves (Admit lease n (service_of o.honest.cred.service) procedure args) (o.law.due is) in
    absurd (omega (arith, zero, decided))
asks-by octets kept serves lease id n procedure args service o (Some answer) is decided = record {
  answer = answer;
  is = is;
  asked = o.law.asked answer is ∙ ap (λ (s : Service). AskedLook id kept.now (Ok lease) ∷ AskedAdmit lease n s procedure args answer ∷ []) o.by;
}

-- ---- a number that may be called isn't refused

fresh-if : (a b c : Bool) (last : ℕ) → a ≡ false → b ≡ false → c ≡ false → (if a then verdicts.AboveMax else if b then verdicts.Below last else if c then verdicts.Repeat else verdicts.Fresh) ≡ verdicts.Fresh
fresh-if false false false last p q r = refl
fresh-if true b c last p q r = cc
fresh-if false true c last p q r = cc
fresh-if false false true last p q r = cc

fresh : (width : ℕ) (called : List ℕ) (n : ℕ) → n ≤ 0x80000000 → greatest called < n + width → is_in n called ≡ false → verdict_of width called n ≡ verdicts.Fresh
fresh width called n small above new =
    fresh-if (nat_lt 0x80000000 n) (nat_le (n + width) (greatest called)) (is_in n called) (greatest called) (le-ltb 0x80000000 n small) (lt-leb (n + width) (greatest called) above) new

refused-if : (whole : Bool) (verdict : Verdict) (room : Bool) → whole ≡ true → verdict ≡ verdicts.Fresh → room ≡ true
    → (if whole then refusal_by verdict (if room then None else Some admits.LogFull) else Some admits.Gone) ≡ None
refused-if true verdicts.Fresh true p q r = refl
refused-if true verdicts.Fresh false p q r = cc
refused-if true verdicts.AboveMax room p q r = cc
refused-if true (verdicts.Below last) room p q r = cc
refused-if true verdicts.Repeat room p q r = cc
refused-if false verdict room p q r = cc

unrefused : (limit width : ℕ) (h : List Entry) (id n : ℕ) → Free limit width h id n → refused limit width h id n ≡ None
unrefused limit width h id n f =
    refused-if (is_whole (standing id h)) (verdict_of width (numbers id h) n) (nat_lt (length h) limit) f.may.whole
    (fresh width (numbers id h) n f.may.small f.may.above f.may.new) (lt-ltb (length h) limit f.room)

given-last : (lease : Lease) (earlier : List (Asked Receipt)) (id now : ℕ) (between : List (Asked Receipt)) → IsGiven lease (earlier ++ AskedLook id now (Ok lease) ∷ between)
given-last lease [] id now between = inl refl
given-last lease (one ∷ earlier) id now between = inr (given-last lease earlier id now between)

admitted-as : (before : Before) (lease : Lease) (id n procedure : ℕ) (args : List ℕ) (answer : Result Receipt AdmitRefusal) → lease.id ≡ id → IsGiven lease before.asked → AdmitSeen before lease n procedure args answer
    → Free before.limits.log before.limits.width before.log id n → answer ≡ Ok (receipt_of before.log (Call id n procedure (sha1 args)))
admitted-as before lease id n procedure args answer same given s free =
    let none : number_refused before lease n ≡ None = (s.leased given).by_log ∙ ap (λ (k : ℕ). refused before.limits.log before.limits.width before.log k n) same ∙ unrefused before.limits.log before.limits.width before.log id n free in
    s.exactly ∙ ap (λ (r : Option AdmitRefusal). or_refused r (receipt_of before.log (Call lease.id n procedure (sha1 args)))) none
    ∙ ap (λ (k : ℕ). Ok (receipt_of before.log (Call k n procedure (sha1 args)))) same

-- ---- both

same-ok : (a b : Receipt) → ◌≡◌ {A = Result Receipt AdmitRefusal} (Ok a) (Ok b) → a ≡ b
same-ok a b e = cc

is-admitted : (log : List (Asked Receipt)) (octets : List ℕ) (kept : KeptAnswers) (serves : Serving) (lease : Lease) (id n procedure : ℕ) (args : List ℕ) (service : Service) → Ours octets kept serves lease n procedure args id service
    → (answer : Result Admitted AdmitRefusal) → kept.admitted ≡ Some answer → with_ok (λ admitted. admitted.receipt) answer ≡ Ok (receipt_of (logged log) (Call id n procedure (sha1 args)))
    → IsAdmitted log octets kept serves id n procedure args answer
is-admitted log octets kept serves lease id n procedure args service o (Ok admitted) is answered = record {
  admitted = admitted;
  answered = refl;
  receipt = same-ok admitted.receipt _ answered;
  rule = o.law.came admitted is;
}
is-admitted log octets kept serves lease id n procedure args service o (Err refusal) is answered = absurd cc

arrives : (setup : AcceptSetup) (limits : Limits) (start : ℕ) (all : List (Asked Receipt)) → AllSeen setup limits start all → (octets : List ℕ) (kept : KeptAnswers) (serves : Serving) (outcome : Outcome) (id ends n procedure : ℕ) (args : List ℕ) (earlier : List (Asked Receipt))
    (looked : Result Lease LookRefusal) (behind : List (Asked Receipt)) → all ≡ earlier ++ AskedLook id kept.now looked ∷ behind → kept.looked ≡ Some looked
    → (c : ComesSeen serves.program (before_of setup limits start earlier) octets kept.now outcome id ends n procedure args) → IsShown id outcome looked
    → ArrivesSeen limits octets kept serves outcome id n (service_of c.honest.cred.service) procedure args earlier looked behind
arrives setup limits start all seen octets kept serves outcome id ends n procedure args earlier looked behind is is_kept c s =
    let service : Service = service_of c.honest.cred.service in
    let shown : kept.looked ≡ Some (Ok s.lease) = is_kept ∙ ap Some s.is in
    let o : Ours octets kept serves s.lease n procedure args id service = ruled (before_of setup limits start earlier) octets kept serves outcome id ends n procedure args s.lease c s.outcome_is shown in
    record {
      shown = s;
      asks = λ decided. asks-by octets kept serves s.lease id n procedure args service o kept.admitted refl decided;
      done = λ between later answer behind_is is_answer free.
          let log : List (Asked Receipt) = earlier ++ AskedLook id kept.now looked ∷ between in
          let one : Asked Receipt = AskedAdmit s.lease n service procedure args (with_ok (λ admitted. admitted.receipt) answer) in
          let place : all ≡ log ++ one ∷ later =
          is ∙ ap (λ (l : List (Asked Receipt)). earlier ++ AskedLook id kept.now looked ∷ l) behind_is ∙ sym (append_assoc earlier (AskedLook id kept.now looked ∷ between) (one ∷ later)) in
          let given : IsGiven s.lease log = subst (λ (l : Result Lease LookRefusal). IsGiven s.lease (earlier ++ AskedLook id kept.now l ∷ between)) (sym s.is) (given-last s.lease earlier id kept.now between) in
          is-admitted log octets kept serves s.lease id n procedure args service o answer is_answer
          (admitted-as (before_of setup limits start log) s.lease id n procedure args (with_ok (λ admitted. admitted.receipt) answer) s.shows given (seen log one later place) free);
    }

pub seen-arrival : SeenArrivalLaw
seen-arrival setup limits start all seen octets kept serves outcome id ends n procedure args earlier looked behind is is_kept c =
    arrives setup limits start all seen octets kept serves outcome id ends n procedure args earlier looked behind is is_kept c
    (shown-as serves.program (before_of setup limits start earlier) octets kept.now outcome id ends n procedure args looked c (seen earlier (AskedLook id kept.now looked) behind is))
