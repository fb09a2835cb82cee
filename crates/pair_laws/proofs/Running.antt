-- A run of equal calls is that of a list which repeats one call.
use Rattle.std.proofs.Common.{◌≡◌, ℕ, zero, suc, ◌+◌, ◌*◌, ◌≤◌, refl, ap, sym, subst, ◌∙◌, List, [], ◌∷◌, ◌++◌, length, take, drop, replicate, Some, Result, Ok, Err}
use Rattle.std.specs.Prelude.{◌==◌, if◌then◌else◌}
use Rattle.std.specs.List.{AllByRecursion, flat_map}
use Rattle.std.proofs.lemmas.List.{length-replicate, take-replicate}
use Rattle.krb_derive.specs.declared.sealing.SealKeys.{SealKeys}
use Rattle.krb_derive.specs.Kept.{ForSealing}
use Rattle.rpc_msgs.specs.Records.{last_fragment}
use Rattle.spnego_core.specs.declared.setup.AcceptSetup.{AcceptSetup}
use Rattle.accept_book.specs.declared.book_answer.Lease.{Lease}
use Rattle.gss_client.specs.declared.conversation.Parting.TheVariants.{Spent, Foreign}
use Rattle.gss_client.specs.Query.{QuerySays}
use Rattle.gss_client.specs.declared.refusal.ClientRefusal.{ClientRefusal}
use Rattle.gss_client.specs.Start.{StartSays}
use Rattle.gss_client.specs.declared.terms.Terms.{Terms}
use Rattle.gss_client.specs.Conversation.{Conversed, conversed, behind, leaves, goes_on, converses, talk, talk_by, by_session, by_creation}
use Rattle.gss_client.specs.Session.{SessionState}
use Rattle.gss_client.specs.Talk.{created_from, calls, destroys}
use Rattle.gss_client.specs.Talking.{Said}
use Rattle.rpc_program.specs.Programs.{ProgramSays}
use Rattle.pair_laws.specs.Answering.{Server}
use Rattle.pair_laws.specs.Booked.{id_in}
use Rattle.gss_client.specs.Conferring.{DueCall, confers, by_opening, talk_of, talk_behind}
use Rattle.pair_laws.specs.Honest.{HonestExchange}
use Rattle.pair_laws.specs.HonestCalls.{session_on}
use Rattle.pair_laws.specs.Laws.{Completes}
use Rattle.pair_laws.specs.Live.{lease_on}
use Rattle.pair_laws.specs.Running.{Turn, sent_in, IsProper, HonestRun, Succeeds, results_in, calls_made, parting_of, Logged, Runs}
use Rattle.pair_laws.specs.Sessions.{HonestSession, made_of, AreLogged}
use Rattle.pair_laws.proofs.SessionParts.{few-made}
use Rattle.pair_laws.proofs.Sessions.{session-runs}

-- ---- the talk

same-next : (query : QuerySays) (written undrawn rest : List ℕ) (one other : SessionState → List ℕ → List ℕ → Conversed) (answer : Result (SessionState × List ℕ) ClientRefusal) → ((s : SessionState) (draws stream : List ℕ) → one s draws stream ≡ other s draws stream)
    → goes_on query written undrawn rest one answer ≡ goes_on query written undrawn rest other answer
same-next query written undrawn rest one other (Ok called) h = ap (λ (c : Conversed). if query.is_result called.1 then behind written (called.1 ∷ []) c else conversed written [] Foreign undrawn rest) (h called.0 undrawn rest)
same-next query written undrawn rest one other (Err refusal) h = refl

pub equal-calls : (times : ℕ) (call : DueCall) (s : SessionState) (draws stream : List ℕ) → converses times call.query call.args s draws stream ≡ confers (replicate times call) s draws stream
unfolding converses confers
equal-calls zero call s draws stream = refl
equal-calls (suc left) call s draws stream =
    let part : Said (SessionState × List ℕ) = calls s call.query.number call.args (take 16 draws) stream in
    ap (λ (c : Conversed). if s.number == 0x80000000 then leaves Spent draws (destroys s stream) else c)
    (same-next call.query part.written (drop 16 draws) part.rest (converses left call.query call.args) (confers (replicate left call)) part.answer (equal-calls left call))

same-opening : (times : ℕ) (call : DueCall) (draws written rest : List ℕ) (answer : Result SessionState ClientRefusal) → by_creation times call.query call.args draws written rest answer ≡ by_opening (replicate times call) draws written rest answer
same-opening times call draws written rest (Ok s) = ap (λ (c : Conversed). by_session written (Some s.outcome) c) (equal-calls times call s draws rest)
same-opening times call draws written rest (Err refusal) = refl

pub equal-session : (start : StartSays) (times : ℕ) (call : DueCall) (draws stream : List ℕ) → talk start times call.query call.args draws stream ≡ talk_of start (replicate times call) draws stream
unfolding talk_by talk_behind
equal-session start times call draws stream =
    let made : Said SessionState = created_from start stream in same-opening times call draws made.written made.rest made.answer

-- ---- what comes of it

same-logged : (serves : Server) (lease : Lease) (made : ℕ) (call : DueCall) (number : ℕ) (turns : List Turn) → AreLogged serves lease (replicate made call) number turns → Logged serves lease call.query.number call.args made number turns
same-logged serves lease zero call number [] a = a
same-logged serves lease zero call number (last ∷ []) a = a
same-logged serves lease zero call number (turn ∷ next ∷ turns) a = a
same-logged serves lease (suc made) call number [] a = a
same-logged serves lease (suc made) call number (turn ∷ turns) a = (a.0, same-logged serves lease made call (number + 1) turns a.1)

same-made : (first times : ℕ) (call : DueCall) → made_of first (replicate times call) ≡ replicate (calls_made first times) call
same-made first times call =
    ap (λ (n : ℕ). take (calls_made first n) (replicate times call)) (length-replicate times call) ∙ take-replicate (calls_made first times) times call (few-made first times)

every : (program : ProgramSays) (terms : Terms) (times : ℕ) (call : DueCall) → IsProper program terms call → AllByRecursion (IsProper program terms) (replicate times call)
every program terms zero call own = tt
every program terms (suc left) call own = (own, every program terms left call own)

all-succeed : (serves : Server) (name : List ℕ) (times : ℕ) (call : DueCall) → Succeeds serves name call → AllByRecursion (Succeeds serves name) (replicate times call)
all-succeed serves name zero call one = tt
all-succeed serves name (suc left) call one = (one, all-succeed serves name left call one)

pub runs : (keys keys' : SealKeys) (setup : AcceptSetup) (serves : Server) (start : StartSays) (stream : List ℕ) (x : HonestExchange setup serves start stream) (c : Completes setup serves start stream x) (times : ℕ) (query : QuerySays) (args draws : List ℕ) → ForSealing keys c.outcome.key 22 → ForSealing keys' c.outcome.key 24
    → (r : HonestRun setup serves start stream x c times query args draws) → Runs setup serves start stream x c times query args draws r
runs keys keys' setup serves start stream x c times query args draws for for' r =
    let call : DueCall = record { query = query; args = args } in
    let due : List DueCall = replicate times call in
    let count : length due ≡ times = length-replicate times call in
    let lease : Lease = lease_on (id_in x.books) c.outcome c.lasts in
    let h : HonestSession setup serves start stream x c due draws = record {
      turns = r.turns;
      rest = r.rest;
      written = sym (ap (λ (v : Conversed). v.written) (equal-calls times call (session_on lease start.terms start.first (1 + length x.answers)) draws x.converses.rest)) ∙ r.written;
      heard = r.heard;
      served = r.served;
      unused = r.unused;
      planned = record {
        called = r.plan.called;
        first_fits = r.plan.first_fits;
        each = every serves.serving.program start.terms times call r.plan.proper;
        octets = r.plan.octets;
        enough = subst (λ (n : ℕ). 16 * n ≤ length draws) (sym count) r.enough;
      };
      succeed = all-succeed serves c.outcome.initiator times call r.succeeds;
    } in
    let a = session-runs keys keys' setup serves start stream x c due draws for for' h in
    let made = same-made start.first times call in
    let wrote : List ℕ = flat_map last_fragment x.converses.records ++ flat_map sent_in r.turns in
    record {
      session = equal-session start times call draws stream
          ∙ (a.session
          ∙ (ap (λ (n : ℕ). record { written = wrote; outcome = Some c.outcome; results = results_in serves (made_of start.first due) c.outcome.initiator r.turns; parting = parting_of start.first n; undrawn = drop (16 * calls_made start.first n) draws; rest = r.rest }) count
          ∙ ap (λ (rs : List (List ℕ)). record { written = wrote; outcome = Some c.outcome; results = rs; parting = parting_of start.first times; undrawn = drop (16 * calls_made start.first times) draws; rest = r.rest })
          (ap (λ (ds : List DueCall). results_in serves ds c.outcome.initiator r.turns) made)));
      logged = same-logged serves lease (calls_made start.first times) call start.first r.turns (subst (λ (ds : List DueCall). AreLogged serves lease ds start.first r.turns) made a.logged);
    }
