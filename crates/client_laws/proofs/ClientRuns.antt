-- A run of the client that an honest server answers is complete.
use Rattle.std.proofs.Common.{◌≡◌, ◌≢◌, ℕ, ◌+◌, ◌*◌, ◌≤◌, Bool, IsTrue, refl, ap, sym, subst, ◌∙◌, arith, List, ◌++◌, length, drop, replicate, Option, Some, Result, Ok, length-append}
use Rattle.std.specs.List.{flat_map}
use Rattle.std.proofs.lemmas.List.{length-drop, length-replicate}
use Rattle.sec_base.specs.Link.{Wire}
use Rattle.sec_base.specs.declared.shelf.NamedFile.{NamedFile}
use Rattle.accept_book.specs.Honest.{IsOctets}
use Rattle.aes_cts.proofs.Restored.{append-IsOctets, replicate-IsOctets}
use Rattle.rpc_msgs.specs.Records.{last_fragment}
use Rattle.spnego_core.specs.declared.setup.AcceptSetup.{AcceptSetup}
use Rattle.spnego_core.specs.declared.setup.MechCred.{MechCred}
use Rattle.spnego_core.specs.declared.outcome.Outcome.{Outcome}
use Rattle.gss_client.specs.Query.{QuerySays}
use Rattle.gss_client.specs.Start.{StartSays}
use Rattle.rpcsec_bodies.specs.Service.{number_of}
use Rattle.rpc_program.specs.Programs.{ProgramSays}
use Rattle.gss_client.specs.Conversation.{Conversed, converses, Talk, talk, talk_by, by_session, by_creation}
use Rattle.gss_client.specs.Session.{SessionState}
use Rattle.gss_client.specs.Talking.{Said}
use Rattle.client_command.specs.Credentials.{creds_from}
use Rattle.client_options.specs.Command.{called_by}
use Rattle.client_options.specs.Endings.{end_of}
use Rattle.client_command.specs.Runs.{start_of, planned, Spoke, HasHeld, HasSpoken}
use Rattle.client_options.specs.Words.{words_of, IsRanged}
use Rattle.client_options.specs.declared.ending.RunEnd.{RunEnd}
use Rattle.client_options.specs.declared.ending.RunEnd.TheVariants.{LinkFault, NoMemory}
use Rattle.client_options.specs.declared.words.Sources.{Sources}
use Rattle.client_options.specs.declared.words.ClientWords.{ClientWords}
use Rattle.client_options.specs.declared.words.Plan.{Plan}
use Rattle.cli_base.specs.declared.given.WordsRefusal.{WordsRefusal}
use Rattle.client_options.proofs.Arguments.{words-own}
use Rattle.pair_laws.specs.Answering.{Server}
use Rattle.pair_laws.specs.Booked.{id_in}
use Rattle.pair_laws.specs.Honest.{HonestExchange}
use Rattle.pair_laws.specs.HonestCalls.{session_on}
use Rattle.pair_laws.specs.Laws.{Completes}
use Rattle.pair_laws.specs.Live.{lease_on}
use Rattle.pair_laws.specs.Running.{sent_in, IsPlan, HonestRun, RunLaw, calls_made}
use Rattle.pair_laws.specs.HonestCalls.{IsToServer}
use Rattle.client_laws.specs.ClientRun.{AsksServer, HonestServer, Answers, Completed}
use Rattle.pair_laws.proofs.Completing.{same-behind}
use Rattle.pair_laws.proofs.SessionParts.{few-made}
use Rattle.client_laws.proofs.WordsAsked.{Asks, asks-own}

-- the session of an exchange that completes
abbrev session_of : (setup : AcceptSetup) (serves : Server) (start : StartSays) (stream : List ℕ) (x : HonestExchange setup serves start stream) → Completes setup serves start stream x → SessionState
session_of setup serves start stream x c = session_on (lease_on (id_in x.books) c.outcome c.lasts) start.terms start.first (1 + length x.answers)

talk-is : (setup : AcceptSetup) (serves : Server) (start : StartSays) (stream : List ℕ) (x : HonestExchange setup serves start stream) (c : Completes setup serves start stream x) (times : ℕ) (query : QuerySays) (args draws : List ℕ)
    → talk start times query args draws stream ≡ by_session (flat_map last_fragment x.converses.records) (Some c.outcome) (converses times query args (session_of setup serves start stream x c) draws x.converses.rest)
unfolding talk_by
talk-is setup serves start stream x c times query args draws = ap (λ (q : Said SessionState). by_creation times query args draws q.written q.rest q.answer) c.session

planned-so : (program : ProgramSays) (plan : Plan) (confounders : List ℕ) (count : ℕ) → IsToServer program plan.terms → IsRanged plan → Asks program (called_by plan.command).number plan.args → number_of (program.needs (called_by plan.command).number) ≤ number_of plan.terms.service → IsOctets confounders
    → IsPlan program plan.terms plan.first (called_by plan.command) plan.args (confounders ++ replicate count 0)
planned-so program plan confounders count called ranged asks protected octets = record {
  called = called;
  first_fits = omega (arith, ranged.first);
  proper = record { fits = asks.fits; served = asks.served; proper = asks.proper; protected = protected; size = ranged.args; octets = ranged.octets };
  octets = append-IsOctets confounders (replicate count 0) octets (replicate-IsOctets count);
}

all-drawn : (confounders : List ℕ) (made times : ℕ) → made ≤ times → drop (16 * made) (confounders ++ replicate (16 * times) 0) ≡ replicate (16 * times) 0 → length confounders ≡ 16 * made
all-drawn confounders made times few e =
    omega (arith, few, ap (length {A = ℕ}) e, length-drop (16 * made) (confounders ++ replicate (16 * times) 0), length-append confounders (replicate (16 * times) 0), length-replicate {A = ℕ} (16 * times) 0)

pub completed : {clock draw : Bool} {moments moments' given given' : List ℕ} {plan : Plan} {creds : List MechCred} {old new : Wire} {outcome : Option Outcome} {results : List (List ℕ)} {end : RunEnd} → ((o : Outcome) → outcome ≡ Some o → RunLaw o.key) → IsRanged plan → ((program : ProgramSays) → AsksServer program plan.command plan.args → Asks program (called_by plan.command).number plan.args)
    → Spoke clock moments moments' draw given given' plan creds old new outcome results end → (server : Answers clock moments moments' draw given given' plan creds old new) → end ≢ LinkFault → end ≢ NoMemory
    → Completed clock moments moments' draw given given' plan creds old new server outcome results end
completed {clock} {draw} {moments} {moments'} {given} {given'} {plan} {creds} {old} {new} {outcome} {results} {end} told ranged asks s server link memory =
    let start : StartSays = start_of plan creds s.stamp s.draws in
    let stream : List ℕ = s.took ++ new.coming in
    let h : HonestServer start plan s.confounders s.wrote stream = server s.stamp s.draws s.confounders s.took s.wrote s.drew s.went in
    let c = h.created in
    let x = h.exchange in
    let later : List ℕ = replicate (16 * plan.times) 0 in
    let draws : List ℕ = s.confounders ++ later in
    let t : Talk = planned plan creds s.stamp s.draws draws stream in
    let w = s.whole link memory later in
    let front : List ℕ = flat_map last_fragment x.converses.records in
    let conv : Conversed = converses plan.times (called_by plan.command) plan.args (session_of h.setup h.serves start stream x c) draws x.converses.rest in
    let is : t ≡ by_session front (Some c.outcome) conv = talk-is h.setup h.serves start stream x c plan.times (called_by plan.command) plan.args draws in
    let wrote : front ++ conv.written ≡ front ++ flat_map sent_in h.turns = sym (ap (λ (k : Talk). k.written) is) ∙ (w.written ∙ h.written) in
    let outcome_is : outcome ≡ Some c.outcome = sym w.outcome_is ∙ ap (λ (k : Talk). k.outcome) is in
    let known = told c.outcome outcome_is in
    let made : ℕ = calls_made plan.first plan.times in
    let r : HonestRun h.setup h.serves start stream x c plan.times (called_by plan.command) plan.args draws = record {
      turns = h.turns;
      rest = h.rest;
      written = same-behind front conv.written (flat_map sent_in h.turns) wrote;
      heard = h.heard;
      served = h.served;
      unused = h.unused;
      plan = planned-so h.serves.serving.program plan s.confounders (16 * plan.times) x.called ranged (asks h.serves.serving.program h.asks) h.protected h.octets;
      enough = omega (arith, length-append s.confounders later, length-replicate {A = ℕ} (16 * plan.times) 0);
      succeeds = h.succeeds;
    } in
    let g = known h.setup h.serves start stream x c plan.times (called_by plan.command) plan.args draws refl r in record {
      stamp = s.stamp;
      draws = s.draws;
      confounders = s.confounders;
      took = s.took;
      wrote = s.wrote;
      drew = s.drew;
      went = s.went;
      completed = record {
        outcome_is = outcome_is;
        results_are = sym w.results_are ∙ ap (λ (k : Talk). k.results) g.session;
        ends = w.ends ∙ ap (λ (k : Talk). end_of k.parting) g.session;
        drawn = all-drawn s.confounders made plan.times (few-made plan.first plan.times) (sym (ap (λ (k : Talk). k.undrawn) g.session) ∙ w.undrawn_is);
        logged = g.logged;
      };
    }

same-words : {read : Result ClientWords WordsRefusal} {one other : ClientWords} → read ≡ Ok one → read ≡ Ok other → one ≡ other
same-words here there = cc

same-creds : {due : Result (List MechCred) RunEnd} {one other : List MechCred} → due ≡ Ok one → due ≡ Ok other → one ≡ other
same-creds here there = cc

-- the same of what the run says that it did
pub has-completed : {words : List (List ℕ)} {loaded : Sources → Result (List MechCred) RunEnd → Type 0} {shelf : Bool} {files : List NamedFile} {clock draw : Bool} {moments moments' given given' : List ℕ} {old new : Wire} {outcome : Option Outcome} {results : List (List ℕ)} {end : RunEnd} (asked : ClientWords) (creds : List MechCred) → ((o : Outcome) → outcome ≡ Some o → RunLaw o.key)
    → words_of words ≡ Ok asked → IsTrue shelf → creds_from files asked.sources ≡ Ok creds → HasSpoken words loaded shelf files clock moments moments' draw given given' old new outcome results end
    → (server : Answers clock moments moments' draw given given' asked.plan creds old new) → end ≢ LinkFault → end ≢ NoMemory → Completed clock moments moments' draw given given' asked.plan creds old new server outcome results end
has-completed {words} {loaded} {shelf} {files} {clock} {draw} {moments} {moments'} {given} {given'} {old} {new} {outcome} {results} {end} asked creds told is shelf_tells due h server link memory =
    let same : h.asked ≡ asked = same-words h.read is in
    let held : HasHeld asked loaded shelf files clock moments moments' draw given given' old new outcome results end = subst (λ (a : ClientWords). HasHeld a loaded shelf files clock moments moments' draw given given' old new outcome results end) same h.held in
    let creds_same : held.creds ≡ creds = same-creds (held.found shelf_tells) due in
    let spoke : Spoke clock moments moments' draw given given' asked.plan creds old new outcome results end = subst (λ (cs : List MechCred). Spoke clock moments moments' draw given given' asked.plan cs old new outcome results end) creds_same held.spoke in
    completed told held.ranged (λ program asks. asks-own program asked.plan.command asked.plan.terms.program asked.plan.terms.version asked.plan.args (words-own words asked is) asks) spoke server link memory
