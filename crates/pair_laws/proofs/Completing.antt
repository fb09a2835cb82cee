-- An honest exchange completes.
use Rattle.std.proofs.Common.{◌≡◌, ◌≢◌, ◌⊎◌, inl, inr, ℕ, zero, suc, ◌+◌, ◌<◌, ◌≤◌, ◌^◌, true, refl, ap, sym, subst, ◌∙◌, arith, List, [], ◌∷◌, ◌++◌, length, map, take, drop, Option, Some, None, Result, Ok, Err, append_assoc}
use Rattle.std.specs.Prelude.{Bool, false, if◌then◌else◌, max, is_some}
use Rattle.std.specs.List.{AllByRecursion, flat_map}
use Rattle.std.proofs.Math.Seq.{drop-append_seam}
use Rattle.std.proofs.lemmas.List.{length-append}
use Rattle.sec_base.specs.Link.{Wire}
use Rattle.gss_base.specs.declared.mech.MechKind.{MechKind}
use Rattle.gss_base.specs.declared.mech.MechKind.TheVariants as kinds
use Rattle.rpc_msgs.specs.Words.{word}
use Rattle.rpc_msgs.specs.Records.{last_fragment}
use Rattle.rpc_msgs.specs.Replies.{reply_octets}
use Rattle.rpc_msgs.proofs.WordLengths.{length-word}
use Rattle.spnego_core.specs.declared.setup.AcceptSetup.{AcceptSetup}
use Rattle.spnego_core.specs.declared.accept_end.AcceptEnd.{AcceptEnd}
use Rattle.spnego_core.specs.declared.accept_end.AcceptEnd.TheVariants as ends
use Rattle.spnego_core.specs.declared.accept_end.AcceptPause.{AcceptPause}
use Rattle.spnego_core.specs.declared.accept_end.AcceptStep.{AcceptStep}
use Rattle.spnego_core.specs.declared.accept_end.AcceptStep.TheVariants as steps
use Rattle.spnego_core.specs.declared.outcome.Outcome.{Outcome}
use Rattle.spnego_core.specs.Ends.{PlainSetup, EndSays}
use Rattle.spnego_core.specs.Accepting.{step_of, mark_asked}
use Rattle.spnego_core.specs.Choice.{is_first, is_mic_due}
use Rattle.spnego_core.specs.InitMech.{kinds_of}
use Rattle.spnego_core.specs.Initiating.{Started, own_list, init_start}
use Rattle.spnego_core.specs.Exchange.{answered_on, IsDone, rounds_of, tokens_of}
use Rattle.spnego_core.proofs.Exchanges.{exchanges, opened_from}
use Rattle.spnego_core.specs.Exchange as exchange
use Rattle.replay_cache.specs.Taking.{cache_verdict}
use Rattle.replay_cache.specs.declared.cache.CacheVerdict.TheVariants.{Taken}
use Rattle.context_table.specs.Places.{live_of}
use Rattle.accept_core.specs.History.{taken_of}
use Rattle.accept_core.specs.Entering.{id_of}
use Rattle.accept_book.specs.Booking.{Changed, Outcomes, negotiated, raised, answer_with, token_size, later_step}
use Rattle.accept_book.specs.RecordShown.{KeptAnswers, Ruling, AskedStep, asking, handle_of}
use Rattle.accept_book.specs.RecordRule.{stepped, record_ruling}
use Rattle.accept_core.specs.Replays.{Accepting}
use Rattle.accept_book.specs.declared.book_answer.Lease.{Lease}
use Rattle.accept_book.specs.declared.book_answer.NegAnswer.{NegAnswer}
use Rattle.accept_book.specs.declared.book_answer.Negotiated.{Negotiated}
use Rattle.gss_client.specs.declared.terms.Terms.{Terms}
use Rattle.gss_client.specs.declared.refusal.ClientRefusal.{ClientRefusal}
use Rattle.gss_client.specs.declared.refusal.ClientRefusal.TheVariants.{LinkFault, PeerEnded, Refused, Negotiation, BadReply, NoMemory}
use Rattle.gss_client.specs.Start.{StartSays}
use Rattle.gss_client.specs.Creation.{OfferSays}
use Rattle.gss_client.specs.Calling.{creation_call}
use Rattle.gss_client.specs.Exchanging.{Talks, Stopped}
use Rattle.gss_client.specs.Hearing.{Heard, whole, next_of}
use Rattle.gss_client.specs.Rank.{replies_left}
use Rattle.gss_client.specs.Session.{SessionState, xid_after}
use Rattle.gss_client.specs.Talk.{begun, creates, created_from}
use Rattle.gss_client.specs.Talking.{Said, Talking, said, after}
use Rattle.gss_server.specs.Connections.{framed}
use Rattle.pair_laws.specs.Answering.{Server}
use Rattle.pair_laws.specs.Conversing.{replied, IsWithin, IsStream}
use Rattle.pair_laws.specs.Booked.{Around, end_in, IsBooked, Booked, IsLeftAlone}
use Rattle.pair_laws.specs.HonestCalls.{IsToServer}
use Rattle.pair_laws.specs.Honest.{occasion_of, HonestExchange}
use Rattle.pair_laws.specs.Live.{lease_on, IsWhole}
use Rattle.pair_laws.specs.Laws.{IsSettled, Settles, IsBehind, Completes, CameTo}
use Rattle.pair_laws.proofs.Settling.{Came, Negotiates, ComesTo, book-came, goes-after, done-after, own_id, Awaits, next-awaits}
use Rattle.pair_laws.proofs.Ruling.{proc_for, handle_for, IsId, creation_shown, asked-step, creation-fits}
use Rattle.pair_laws.proofs.Granting.{granting, creation-stands, granting-fits, going, creation-goes, going-fits}
use Rattle.pair_laws.proofs.Creating.{next-first, creates-front, created-is, established, continued}

-- ---- the records that are written

pub framed-some : (octets more : List ℕ) → last_fragment octets ++ more ≡ [] → ⊥
framed-some octets more e =
    let all : length (last_fragment octets ++ more) ≡ 4 + length octets + length more = length-append (last_fragment octets) more ∙ (ap (λ (n : ℕ). n + length more) (length-append (word (2 ^ 31 + length octets)) octets ∙ ap (λ (n : ℕ). n + length octets) (length-word (2 ^ 31 + length octets)))) in
    omega (arith, ap length e)

pub same-record : (a b x y : List ℕ) → length a ≤ 131072 → length b ≤ 131072 → last_fragment a ++ x ≡ last_fragment b ++ y → whole a x ≡ whole b y
same-record a b x y h k e = sym (next-first a x h) ∙ (ap next_of e ∙ next-first b y k)

abbrev pub octets_heard : Heard → List ℕ
octets_heard (whole octets rest) = octets
octets_heard other = []

none-behind : (call : List ℕ) (records : List (List ℕ)) → last_fragment call ≡ last_fragment call ++ flat_map last_fragment records → records ≡ []
none-behind call [] e = refl
none-behind call (octets ∷ records) e =
    let all : List ℕ = last_fragment octets ++ flat_map last_fragment records in
    let size : length (last_fragment call ++ all) ≡ length (last_fragment call) + length all = length-append (last_fragment call) all in
    let some : length all ≡ 4 + length octets + length (flat_map last_fragment records) = length-append (last_fragment octets) (flat_map last_fragment records) ∙ (ap (λ (n : ℕ). n + length (flat_map last_fragment records)) (length-append (word (2 ^ 31 + length octets)) octets ∙ ap (λ (n : ℕ). n + length octets) (length-word (2 ^ 31 + length octets)))) in
    absurd (omega (arith, ap length e))

-- ---- what the book answered

-- the book's answer to a token of the exchange
record Answers (setup : AcceptSetup) (id : Option ℕ) (token : List ℕ) (kept : KeptAnswers) (book : Around) (answer : Negotiated) : Type 0 where
  past : Option ℕ
  answered : answer.answer ≡ (negotiated setup (raised book.before kept.now) id past token kept.now (take 66 kept.draws)).answer
  history : book.after.history ≡ (negotiated setup (raised book.before kept.now) id past token kept.now (take 66 kept.draws)).history
  contexts : Changed book.before.table (negotiated setup (raised book.before kept.now) id past token kept.now (take 66 kept.draws)).change book.after.table
  table : id ≡ None → (live_of book.before.table < book.before.table.limit) ⊎ (is_some past ≡ true)
  mark : (pause : AcceptPause) → step_of (later_step setup (end_in book.before.table id) token kept.now (take 66 kept.draws)) ≡ Ok (steps.WantsAuth pause)
      → cache_verdict book.before.cache.capacity (max book.before.cache.greatest kept.now) (taken_of book.before.history) (mark_asked pause) ≡ Taken

answers-to : (setup : AcceptSetup) (serves : Server) (octets : List ℕ) (kept : KeptAnswers) (book : Around) (id : Option ℕ) (token : List ℕ) → (b : IsBooked setup serves octets kept book) → b.id ≡ id → b.token ≡ token → Answers setup id token kept book b.answer
answers-to setup serves octets kept book id token b id_is token_is =
    subst (λ (i : Option ℕ). Answers setup i token kept book b.answer) id_is
    (subst (λ (t : List ℕ). Answers setup b.id t kept book b.answer) token_is
    (record { past = b.past; answered = b.answered; history = b.history; contexts = b.contexts; table = b.table; mark = b.mark }))

-- a turn of the exchange: what the record was answered, and the step that the book took
pub record Turned (setup : AcceptSetup) (terms : Terms) (serves : Server) (xid : ℕ) (id : Option ℕ) (token : List ℕ) (kept : KeptAnswers) (book : Around) (step : AcceptStep) : Type 0 where
  pub answer : Negotiated
  pub is_kept : kept.negotiated ≡ Some answer
  pub is : answer.answer ≡ answer_with (id_of id book.before.history) step
  pub ruled : record_ruling (creation_call terms xid (proc_for id) (handle_for id) token) kept serves.serving
      ≡ asking (AskedStep id token kept.now (take 66 kept.draws) answer) (stepped (creation_shown terms xid id token kept serves) (answer_with (id_of id book.before.history) step))
  pub size : token_size (answer_with (id_of id book.before.history) step) ≤ 65536
  pub goes_on : (end : AcceptEnd) (reply : List ℕ) → step ≡ steps.More end reply → Negotiates (id_of id book.before.history) book.after end
  pub done : (outcome : Outcome) (lasts : ℕ) (reply : List ℕ) → step ≡ steps.Done outcome lasts reply → IsWhole book.after (lease_on (id_of id book.before.history) outcome lasts)

pub turned-by : (setup : AcceptSetup) (terms : Terms) (serves : Server) (xid : ℕ) (id : Option ℕ) (end : AcceptEnd) (token : List ℕ) (kept : KeptAnswers) (book : Around) (step : AcceptStep) → IsToServer serves.serving.program terms → xid < 2 ^ 32 → IsId id → length token ≤ 65536 → ComesTo id book.before end
    → answered_on setup (occasion_of kept) end token ≡ Ok step → IsBooked setup serves (creation_call terms xid (proc_for id) (handle_for id) token) kept book → Turned setup terms serves xid id token kept book step
turned-by setup terms serves xid id end token kept book step called fits is_id few comes takes b =
    let drawn : List ℕ = take 66 kept.draws in
    let w = asked-step terms xid id b.id token b.token kept serves b.answer called fits is_id few b.asked in
    let a = answers-to setup serves (creation_call terms xid (proc_for id) (handle_for id) token) kept book id token b w.id_is w.token_is in
    let came = book-came setup book.before id a.past end token kept.now drawn step comes b.log a.table a.mark takes in
    let own : ℕ = id_of id book.before.history in
    let is : b.answer.answer ≡ answer_with own step = a.answered ∙ ap (λ (o : Outcomes). o.answer) came.is in
    record {
      answer = b.answer;
      is_kept = w.is_kept;
      is = is;
      ruled = w.ruled ∙ ap (λ (n : NegAnswer). asking (AskedStep id token kept.now drawn b.answer) (stepped (creation_shown terms xid id token kept serves) n)) is;
      size = subst (λ (n : NegAnswer). token_size n ≤ 65536) is b.size;
      goes_on = λ next reply e.
          goes-after setup book.before book.after id a.past end next reply kept.now (negotiated setup (raised book.before kept.now) id a.past token kept.now drawn) comes
          (subst (λ (s : AcceptStep). Came (raised book.before kept.now) id a.past s (negotiated setup (raised book.before kept.now) id a.past token kept.now drawn)) e came) a.history a.contexts;
      done = λ outcome lasts reply e.
          done-after book.before book.after id a.past outcome lasts reply kept.now (negotiated setup (raised book.before kept.now) id a.past token kept.now drawn)
          (subst (λ (s : AcceptStep). Came (raised book.before kept.now) id a.past s (negotiated setup (raised book.before kept.now) id a.past token kept.now drawn)) e came) a.history a.contexts;
    }

-- ---- the exchange, turn by turn

pub next-xid : (xid : ℕ) → xid + 1 < 2 ^ 32 → xid_after xid ≡ xid + 1
next-xid xid h = omega (arith)

-- what comes of a creation from some turn on
record Stood (terms : Terms) (first xid : ℕ) (serves : Server) (id : ℕ) (outcome : Outcome) (part : Said SessionState) (records : List (List ℕ)) (answers : List KeptAnswers) (books : List Around) (rest : List ℕ) : Type 0 where
  lasts : ℕ
  settles : Settles serves (lease_on id outcome lasts) records answers
  core : Accepting AcceptEnd Outcome
  behind : IsBehind answers books core
  whole : IsWhole core (lease_on id outcome lasts)
  session : part ≡ said (flat_map last_fragment records) (Ok (begun terms first (xid + length answers) outcome (handle_of id))) rest

settles-last : (serves : Server) (lease : Lease) (octets : List ℕ) (records : List (List ℕ)) (one : KeptAnswers) → records ≡ [] → IsSettled serves lease octets one → Settles serves lease (octets ∷ records) (one ∷ [])
settles-last serves lease octets records one none s = subst (λ (rs : List (List ℕ)). Settles serves lease (octets ∷ rs) (one ∷ [])) (sym none) s

settles-more : (serves : Server) (lease : Lease) (octets : List ℕ) (records : List (List ℕ)) (one two : KeptAnswers) (more : List KeptAnswers) → (record_ruling octets one serves.serving).rule ≡ 21 → Settles serves lease records (two ∷ more) → Settles serves lease (octets ∷ records) (one ∷ two ∷ more)
settles-more serves lease octets [] one two more rule s = absurd s
settles-more serves lease octets (next ∷ records) one two more rule s = (rule, s)

pub same-behind : (a xs ys : List ℕ) → a ++ xs ≡ a ++ ys → xs ≡ ys
same-behind a xs ys e = sym (drop-append_seam a xs) ∙ (ap (λ (us : List ℕ). drop (length a) us) e ∙ drop-append_seam a ys)

own-id : (id : Option ℕ) (book : Around) (books : List Around) → own_id id (book ∷ books) ≡ id_of id book.before.history
own-id None book books = refl
own-id (Some id) book books = refl

-- the first record is the call
front-record : (left : ℕ) (terms : Terms) (first xid proc : ℕ) (offer : OfferSays) (stream : List ℕ) (octets : List ℕ) (records : List (List ℕ)) → length octets ≤ 131072 → length (creation_call terms xid proc offer.handle offer.token) ≤ 131072
    → (creates (suc left) terms first xid proc offer stream).written ≡ flat_map last_fragment (octets ∷ records) → octets ≡ creation_call terms xid proc offer.handle offer.token
front-record left terms first xid proc offer stream octets records few small written =
    let call : List ℕ = creation_call terms xid proc offer.handle offer.token in
    let f = creates-front left terms first xid proc offer stream in
    ap octets_heard (same-record octets call (flat_map last_fragment records) f.more few small (sym written ∙ f.same))

last-turn : (setup : AcceptSetup) (serves : Server) (left : ℕ) (terms : Terms) (first xid : ℕ) (id : Option ℕ) (acceptor : AcceptEnd) (initiator : EndSays) (token : List ℕ) (one : KeptAnswers) (book : Around) (books : List Around) (octets : List ℕ) (records : List (List ℕ)) (others : List KeptAnswers) (rest stream : List ℕ) (outcome : Outcome)
    → IsToServer serves.serving.program terms → 0 < serves.serving.width → serves.serving.width < 2 ^ 32 → xid + 1 < 2 ^ 32 → IsId id → length token ≤ 65536 → length octets ≤ 131072 → ComesTo id book.before acceptor → IsDone setup (occasion_of one) acceptor initiator token outcome → IsBooked setup serves octets one book
    → (creates (suc left) terms first xid (proc_for id) (record { end = initiator; handle = handle_for id; token = token }) stream).written ≡ flat_map last_fragment (octets ∷ records)
    → stream ≡ replied serves (octets ∷ records) (one ∷ others) ++ rest
    → Stood terms first xid serves (id_of id book.before.history) outcome (creates (suc left) terms first xid (proc_for id) (record { end = initiator; handle = handle_for id; token = token }) stream) (octets ∷ records) (one ∷ []) (book ∷ books) rest
last-turn setup serves left terms first xid id acceptor initiator token one book books octets records others rest stream outcome called some wide xids is_id few within comes done b written heard =
    let offer : OfferSays = record { end = initiator; handle = handle_for id; token = token } in
    let call : List ℕ = creation_call terms xid (proc_for id) (handle_for id) token in
    let own : ℕ = id_of id book.before.history in
    let fits : xid < 2 ^ 32 = omega (arith, xids) in
    let is_call : octets ≡ call = front-record left terms first xid (proc_for id) offer stream octets records within (creation-fits terms xid id token few) written in
    let t = turned-by setup terms serves xid id acceptor token one book (steps.Done outcome done.lasts done.reply) called fits is_id few comes done.accepts (subst (λ (o : List ℕ). IsBooked setup serves o one book) is_call b) in
    let reply : List ℕ = reply_octets (granting xid outcome own serves.serving.width done.reply) in
    let is_reply : (record_ruling call one serves.serving).reply ≡ Some reply = ap (λ (r : Ruling). r.reply) t.ruled in
    let behind : List ℕ = replied serves records others ++ rest in
    let stream_is : stream ≡ last_fragment reply ++ behind =
    heard ∙ (ap (λ (o : List ℕ). (framed (record_ruling o one serves.serving).reply ++ replied serves records others) ++ rest) is_call
    ∙ (ap (λ (r : Option (List ℕ)). (framed r ++ replied serves records others) ++ rest) is_reply ∙ append_assoc (last_fragment reply) (replied serves records others) rest)) in
    let all : creates (suc left) terms first xid (proc_for id) offer stream ≡ said (last_fragment call) (Ok (begun terms first (xid_after xid) outcome (handle_of own))) behind =
    ap (λ (zs : List ℕ). creates (suc left) terms first xid (proc_for id) offer zs) stream_is
    ∙ established left terms first xid (proc_for id) offer reply behind outcome (handle_of own) (granting-fits xid outcome own serves.serving.width done.reply t.size)
    (creation-stands xid initiator outcome own serves.serving.width done.reply fits some wide t.size done.initiates) in
    let whole : last_fragment call ≡ last_fragment call ++ flat_map last_fragment records =
    sym (ap (λ (s : Said SessionState). s.written) all) ∙ (written ∙ ap (λ (o : List ℕ). last_fragment o ++ flat_map last_fragment records) is_call) in
    let none : records ≡ [] = none-behind call records whole in
    let same : (creates (suc left) terms first xid (proc_for id) offer stream).written ≡ last_fragment call = ap (λ (s : Said SessionState). s.written) all in
    let wrote : last_fragment call ≡ flat_map last_fragment (octets ∷ records) = sym same ∙ written in
    let left_is : behind ≡ rest = ap (λ (rs : List (List ℕ)). replied serves rs others ++ rest) none in
    record {
      lasts = done.lasts;
      settles = settles-last serves (lease_on own outcome done.lasts) octets records one none (record {
        answer = t.answer;
        is_kept = t.is_kept;
        token = done.reply;
        settled = t.is;
        rule = ap (λ (o : List ℕ). (record_ruling o one serves.serving).rule) is_call ∙ ap (λ (r : Ruling). r.rule) t.ruled;
      });
      core = book.after;
      behind = refl;
      whole = t.done outcome done.lasts done.reply refl;
      session = all
          ∙ (ap (λ (ws : List ℕ). said ws (Ok (begun terms first (xid_after xid) outcome (handle_of own))) behind) wrote
          ∙ (ap (λ (zs : List ℕ). said (flat_map last_fragment (octets ∷ records)) (Ok (begun terms first (xid_after xid) outcome (handle_of own))) zs) left_is
          ∙ ap (λ (n : ℕ). said (flat_map last_fragment (octets ∷ records)) (Ok (begun terms first n outcome (handle_of own))) rest) (next-xid xid xids)));
    }

turns-on : (setup : AcceptSetup) (serves : Server) (left : ℕ) (terms : Terms) (first xid : ℕ) (id : Option ℕ) (acceptor : AcceptEnd) (initiator : EndSays) (token : List ℕ) (answers : List KeptAnswers) (books : List Around) (records : List (List ℕ)) (later : List KeptAnswers) (rest stream : List ℕ) (outcome : Outcome)
    → IsToServer serves.serving.program terms → 0 < serves.serving.width → serves.serving.width < 2 ^ 32 → xid + length answers < 2 ^ 32 → length answers ≤ left → own_id id books < 2 ^ 64 → IsId id → length token ≤ 65536 → AllByRecursion IsWithin records → Awaits id acceptor books → IsLeftAlone (own_id id books) books
    → exchange.Completes setup (map occasion_of answers) acceptor initiator token outcome → Booked setup serves records answers books
    → (creates left terms first xid (proc_for id) (record { end = initiator; handle = handle_for id; token = token }) stream).written ≡ flat_map last_fragment records
    → stream ≡ replied serves records (answers ++ later) ++ rest
    → Stood terms first xid serves (own_id id books) outcome (creates left terms first xid (proc_for id) (record { end = initiator; handle = handle_for id; token = token }) stream) records answers books rest
turns-on setup serves left terms first xid id acceptor initiator token [] books records later rest stream outcome called some wide xids turns ids is_id few within awaits alone c b written heard = absurd c
turns-on setup serves zero terms first xid id acceptor initiator token (one ∷ more) books records later rest stream outcome called some wide xids turns ids is_id few within awaits alone c b written heard = absurd (omega (arith, turns))
turns-on setup serves (suc left) terms first xid id acceptor initiator token (one ∷ more) books [] later rest stream outcome called some wide xids turns ids is_id few within awaits alone c b written heard = absurd b
turns-on setup serves (suc left) terms first xid id acceptor initiator token (one ∷ more) [] (octets ∷ records) later rest stream outcome called some wide xids turns ids is_id few within awaits alone c b written heard = absurd b
turns-on setup serves (suc left) terms first xid id acceptor initiator token (one ∷ []) (book ∷ books) (octets ∷ records) later rest stream outcome called some wide xids turns ids is_id few within awaits alone c b written heard =
    subst (λ (n : ℕ). Stood terms first xid serves n outcome (creates (suc left) terms first xid (proc_for id) (record { end = initiator; handle = handle_for id; token = token }) stream) (octets ∷ records) (one ∷ []) (book ∷ books) rest) (sym (own-id id book books))
    (last-turn setup serves left terms first xid id acceptor initiator token one book books octets records later rest stream outcome called some wide (omega (arith, xids)) is_id few within.0 awaits c b.0 written heard)
turns-on setup serves (suc left) terms first xid id acceptor initiator token (one ∷ two ∷ more) (book ∷ books) (octets ∷ records) later rest stream outcome called some wide xids turns ids is_id few within awaits alone c b written heard =
    let offer : OfferSays = record { end = initiator; handle = handle_for id; token = token } in
    let call : List ℕ = creation_call terms xid (proc_for id) (handle_for id) token in
    let own : ℕ = id_of id book.before.history in
    let fits : xid < 2 ^ 32 = omega (arith, xids) in
    let is_call : octets ≡ call = front-record left terms first xid (proc_for id) offer stream octets records within.0 (creation-fits terms xid id token few) written in
    let g = c.0 in
    let t = turned-by setup terms serves xid id acceptor token one book (steps.More g.acceptor_after g.reply) called fits is_id few awaits g.accepts (subst (λ (o : List ℕ). IsBooked setup serves o one book) is_call b.0) in
    let reply : List ℕ = reply_octets (going xid own g.reply) in
    let is_reply : (record_ruling call one serves.serving).reply ≡ Some reply = ap (λ (r : Ruling). r.reply) t.ruled in
    let behind : List ℕ = replied serves records ((two ∷ more) ++ later) ++ rest in
    let stream_is : stream ≡ last_fragment reply ++ behind =
    heard ∙ (ap (λ (o : List ℕ). (framed (record_ruling o one serves.serving).reply ++ replied serves records ((two ∷ more) ++ later)) ++ rest) is_call
    ∙ (ap (λ (r : Option (List ℕ)). (framed r ++ replied serves records ((two ∷ more) ++ later)) ++ rest) is_reply ∙ append_assoc (last_fragment reply) (replied serves records ((two ∷ more) ++ later)) rest)) in
    let next : OfferSays = record { end = g.initiator_after; handle = handle_of own; token = g.further } in
    let all : creates (suc left) terms first xid (proc_for id) offer stream ≡ after (last_fragment call) (creates left terms first (xid_after xid) 2 next behind) =
    ap (λ (zs : List ℕ). creates (suc left) terms first xid (proc_for id) offer zs) stream_is
    ∙ continued left terms first xid (proc_for id) offer next reply behind (going-fits xid own g.reply t.size) (creation-goes xid initiator g.initiator_after own g.reply g.further fits t.size g.initiates) in
    let xid_is : xid_after xid ≡ xid + 1 = next-xid xid (omega (arith, xids)) in
    let all_next : creates (suc left) terms first xid (proc_for id) offer stream ≡ after (last_fragment call) (creates left terms first (xid + 1) 2 next behind) =
    all ∙ ap (λ (n : ℕ). after (last_fragment call) (creates left terms first n 2 next behind)) xid_is in
    let whole : last_fragment call ++ (creates left terms first (xid + 1) 2 next behind).written ≡ last_fragment call ++ flat_map last_fragment records =
    sym (ap (λ (s : Said SessionState). s.written) all_next) ∙ (written ∙ ap (λ (o : List ℕ). last_fragment o ++ flat_map last_fragment records) is_call) in
    let own_is : own_id id (book ∷ books) ≡ own = own-id id book books in
    let n = next-awaits own g.acceptor_after book books (t.goes_on g.acceptor_after g.reply refl) (subst (λ (i : ℕ). IsLeftAlone i (book ∷ books)) own_is alone) in
    let s = turns-on setup serves left terms first (xid + 1) (Some own) g.acceptor_after g.initiator_after g.further (two ∷ more) books records later rest behind outcome called some wide (omega (arith, xids)) (omega (arith, turns))
    (subst (λ (i : ℕ). i < 2 ^ 64) own_is ids) (subst (λ (i : ℕ). i < 2 ^ 64) own_is ids) g.short within.1 n.0 n.1 c.1 b.1 (same-behind (last_fragment call) _ _ whole) refl in
    let answered : Result SessionState ClientRefusal = Ok (begun terms first ((xid + 1) + length (two ∷ more)) outcome (handle_of own)) in
    subst (λ (i : ℕ). Stood terms first xid serves i outcome (creates (suc left) terms first xid (proc_for id) offer stream) (octets ∷ records) (one ∷ two ∷ more) (book ∷ books) rest) (sym own_is) (record {
      lasts = s.lasts;
      settles = settles-more serves (lease_on own outcome s.lasts) octets records one two more (ap (λ (o : List ℕ). (record_ruling o one serves.serving).rule) is_call ∙ ap (λ (r : Ruling). r.rule) t.ruled) s.settles;
      core = s.core;
      behind = s.behind;
      whole = s.whole;
      session = all_next
          ∙ (ap (λ (p : Said SessionState). after (last_fragment call) p) s.session
          ∙ (ap (λ (o : List ℕ). said (last_fragment o ++ flat_map last_fragment records) answered rest) (sym is_call)
          ∙ ap (λ (n : ℕ). said (last_fragment octets ++ flat_map last_fragment records) (Ok (begun terms first n outcome (handle_of own))) rest) (omega arith)));
    })

-- an initiator sends four tokens at most
counts : (first due : Bool) (kind : MechKind) → (if first then 0 else 1) + rounds_of kind + (if due then 1 else 0) ≤ 4
counts true true kinds.Kerberos = omega arith
counts true false kinds.Kerberos = omega arith
counts false true kinds.Kerberos = omega arith
counts false false kinds.Kerberos = omega arith
counts true true kinds.Scram = omega arith
counts true false kinds.Scram = omega arith
counts false true kinds.Scram = omega arith
counts false false kinds.Scram = omega arith

pub tokens-few : (setup : AcceptSetup) (own : PlainSetup) (kind : MechKind) → tokens_of setup own kind ≤ 4
tokens-few setup own kind = counts (is_first (kinds_of own.list) kind) (is_mic_due setup.offer (own_list own) kind) kind

-- and takes that many replies
pub opens-four : (own : PlainSetup) (started : Started) → init_start own ≡ Ok started → replies_left started.end ≡ 4
opens-four own started starts = ap replies_left (opened_from own own.list started refl starts).end

first-awaits : (books : List Around) → Awaits None ends.New books
first-awaits [] = tt
first-awaits (book ∷ books) = refl

length-map : (answers : List KeptAnswers) → length (map occasion_of answers) ≡ length answers
length-map [] = refl
length-map (one ∷ more) = omega (arith, length-map more)

pub few-answers : (setup : AcceptSetup) (serves : Server) (start : StartSays) (stream : List ℕ) → (x : HonestExchange setup serves start stream) → length x.answers ≤ 4
few-answers setup serves start stream x = omega (arith, length-map x.answers, x.pair.counted, tokens-few setup start.setup x.kind)

pub completes : (setup : AcceptSetup) (serves : Server) (start : StartSays) (stream : List ℕ) → (x : HonestExchange setup serves start stream) → Completes setup serves start stream x
completes setup serves start stream x =
    let a = exchanges setup start.setup x.kind (map occasion_of x.answers) x.pair in
    let started = x.pair.started in
    let offer : OfferSays = record { end = started.end; handle = []; token = started.token } in
    let left : ℕ = replies_left started.end in
    let is : created_from start stream ≡ creates left start.terms start.first 1 1 offer stream = created-is start started stream x.pair.starts in
    let four : left ≡ 4 = opens-four start.setup started x.pair.starts in
    let few : length x.answers ≤ 4 = few-answers setup serves start stream x in
    let turns : length x.answers ≤ left = omega (arith, few, four) in
    let heard : stream ≡ replied serves x.converses.records (x.answers ++ x.later) ++ x.converses.rest = x.converses.heard ∙ ap (λ (ks : List KeptAnswers). replied serves x.converses.records ks ++ x.converses.rest) x.kept in
    let s = turns-on setup serves left start.terms start.first 1 None ends.New started.end started.token x.answers x.books x.converses.records x.later x.converses.rest stream a.outcome x.called x.some_width x.width_fits (omega (arith, few)) turns x.number tt x.pair.short x.converses.within (first-awaits x.books) x.left_alone a.completes x.booked
    (sym (ap (λ (s : Said SessionState). s.written) is) ∙ x.converses.written) heard in
    record {
      outcome = a.outcome;
      lasts = s.lasts;
      mech = a.mech;
      settles = s.settles;
      core = s.core;
      behind = s.behind;
      whole = s.whole;
      session = is ∙ s.session;
    }

-- ---- over a link

same-took : (a xs ys zs : List ℕ) → zs ≡ a ++ xs → zs ≡ a ++ ys → xs ≡ ys
same-took a xs ys zs e f = sym (drop-append_seam a xs) ∙ (ap (λ (us : List ℕ). drop (length a) us) (sym e ∙ f) ∙ drop-append_seam a ys)

-- what a part took, and what is still to come, is the stream
streamed : (old new : Wire) (stream took : List ℕ) → IsStream old new stream → new.taken ≡ old.taken ++ took → stream ≡ took ++ new.coming
streamed old new stream took s e = s.whole ∙ ap (λ (xs : List ℕ). xs ++ new.coming) (same-took old.taken s.took took new.taken s.taken e)

never : (part : Talking SessionState) (old new : Wire) (stream : List ℕ) (session : SessionState) (refusal : ClientRefusal) → refusal ≢ LinkFault → refusal ≢ NoMemory → IsStream old new stream → (part stream).answer ≡ Ok session → Stopped part old new refusal → ⊥
never part old new stream session refusal fault memory s e d =
    let is : (part stream).answer ≡ Err refusal = ap (λ (zs : List ℕ). (part zs).answer) (streamed old new stream d.took s d.went.taken) ∙ d.cause fault memory in
    let f : Ok session ≡ Err refusal = sym e ∙ is in cc

peer-no-fault : PeerEnded ≢ LinkFault
peer-no-fault e = cc

peer-no-memory : PeerEnded ≢ NoMemory
peer-no-memory e = cc

pub came : (part : Talking SessionState) (old new : Wire) (stream : List ℕ) (session : SessionState) (result : Result SessionState ClientRefusal) → IsStream old new stream → (part stream).answer ≡ Ok session → Talks part old new result → CameTo result session
came part old new stream session (Ok value) s e d =
    let is : (part stream).answer ≡ Ok value = ap (λ (zs : List ℕ). (part zs).answer) (streamed old new stream d.took s d.went.taken) ∙ ap (λ (t : Said SessionState). t.answer) (d.whole new.coming) in
    inl (sym is ∙ e)
came part old new stream session (Err LinkFault) s e d = inr (inl refl)
came part old new stream session (Err NoMemory) s e d = inr (inr refl)
came part old new stream session (Err PeerEnded) s e d = absurd (never part old new stream session PeerEnded peer-no-fault peer-no-memory s e d)
came part old new stream session (Err (Refused denial)) s e d = absurd (never part old new stream session (Refused denial) (λ f. denied-no-fault denial f) (λ f. denied-no-memory denial f) s e d)
  where
    denied-no-fault : (x : _) → Refused x ≢ LinkFault
    denied-no-fault x f = cc

    denied-no-memory : (x : _) → Refused x ≢ NoMemory
    denied-no-memory x f = cc
came part old new stream session (Err (Negotiation refusal)) s e d = absurd (never part old new stream session (Negotiation refusal) (λ f. no-fault refusal f) (λ f. no-memory refusal f) s e d)
  where
    no-fault : (x : _) → Negotiation x ≢ LinkFault
    no-fault x f = cc

    no-memory : (x : _) → Negotiation x ≢ NoMemory
    no-memory x f = cc
came part old new stream session (Err (BadReply why)) s e d = absurd (never part old new stream session (BadReply why) (λ f. no-fault why f) (λ f. no-memory why f) s e d)
  where
    no-fault : (x : _) → BadReply x ≢ LinkFault
    no-fault x f = cc

    no-memory : (x : _) → BadReply x ≢ NoMemory
    no-memory x f = cc
