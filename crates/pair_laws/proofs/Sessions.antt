-- A session's run of calls against a book: each call is answered, and the context is destroyed.
use Rattle.std.proofs.Common.{◌≡◌, ℕ, zero, suc, ◌+◌, ◌*◌, ◌<◌, ◌≤◌, ◌^◌, Bool, true, false, refl, ap, sym, subst, ◌∙◌, arith, List, [], ◌∷◌, ◌++◌, length, take, drop, Some, Ok, append_assoc}
use Rattle.std.specs.Prelude.{◌==◌}
use Rattle.std.specs.List.{AllByRecursion, flat_map}
use Rattle.std.proofs.lemmas.List.{drop-drop, length-take, length-drop}
use Rattle.sha1.specs.Sha1.{sha1}
use Rattle.aes_cts.proofs.Restored.{append-IsOctets, take-IsOctets, drop-IsOctets}
use Rattle.krb_derive.specs.declared.sealing.SealKeys.{SealKeys}
use Rattle.krb_derive.specs.Kept.{ForSealing}
use Rattle.rpc_msgs.specs.Words.{word}
use Rattle.rpc_msgs.specs.Records.{last_fragment}
use Rattle.seq_window.specs.Marks.{greatest}
use Rattle.spnego_core.specs.declared.setup.AcceptSetup.{AcceptSetup}
use Rattle.spnego_core.specs.declared.accept_end.AcceptEnd.{AcceptEnd}
use Rattle.spnego_core.specs.declared.outcome.Outcome.{Outcome}
use Rattle.accept_core.specs.Answers.{receipt_of}
use Rattle.accept_core.specs.History.{numbers}
use Rattle.accept_book.specs.Honest.{HonestLaw}
use Rattle.accept_book.specs.RecordRule.{record_ruling}
use Rattle.accept_core.specs.Replays.{Accepting}
use Rattle.accept_book.specs.declared.book_answer.Lease.{Lease}
use Rattle.accept_core.specs.declared.entry.Entry.{Entry}
use Rattle.accept_core.specs.declared.entry.Entry.TheVariants.{Call, Ended}
use Rattle.accept_core.specs.declared.entry.EndCause.TheVariants.{Destroyed}
use Rattle.accept_book.proofs.HonestRecords.{honest-kept}
use Rattle.gss_client.specs.declared.conversation.Parting.{Parting}
use Rattle.gss_client.specs.declared.conversation.Parting.TheVariants.{Finished, Spent}
use Rattle.gss_client.specs.Query.{QuerySays}
use Rattle.gss_client.specs.Start.{StartSays}
use Rattle.gss_client.specs.declared.terms.Terms.{Terms}
use Rattle.gss_client.specs.Calling.{data_call, destroy_call}
use Rattle.gss_client.specs.Conversation.{Conversed, conversed, behind, leaves, goes_on}
use Rattle.gss_client.specs.Session.{SessionState, xid_after}
use Rattle.gss_client.specs.Talk.{calls, destroys}
use Rattle.gss_client.specs.Talking.{Said, said}
use Rattle.gss_server.specs.Connections.{framed}
use Rattle.rpc_program.specs.Programs.{ProgramSays}
use Rattle.pair_laws.specs.Answering.{Server}
use Rattle.pair_laws.specs.Booked.{id_in}
use Rattle.pair_laws.specs.Honest.{HonestExchange}
use Rattle.pair_laws.specs.HonestCalls.{IsToServer, session_on, HonestCall, IsAdmitted}
use Rattle.pair_laws.specs.Ending.{HonestEnd, IsTaken}
use Rattle.pair_laws.specs.Laws.{Completes}
use Rattle.pair_laws.specs.Live.{lease_on, IsWhole}
use Rattle.pair_laws.specs.Turns.{IsAnsweredBy, IsCallTurn, IsEndTurn}
use Rattle.pair_laws.specs.Running.{Turn, sent_in, heard_in, Serves, IsProper, IsResult, Succeeds, results_in, calls_made, parting_of, IsGone, IsServed}
use Rattle.pair_laws.proofs.Answered.{call-honest, answered}
use Rattle.pair_laws.proofs.CallTurns.{call-turn}
use Rattle.pair_laws.proofs.Completing.{framed-some, same-behind, few-answers}
use Rattle.pair_laws.proofs.Ended.{ended, end-turn, end-fits}
use Rattle.accept_book.specs.Booking.{NotesMoment}
use Rattle.gss_client.specs.Conferring.{DueCall, confers, by_opening, talk_behind}
use Rattle.pair_laws.specs.Sessions.{ArePlanned, HonestSession, made_of, AreLogged, SessionRuns}
use Rattle.pair_laws.proofs.SessionParts.{word-octets, below-spent, is-spent, none-made, none-due, spent-made, spent-due, more-made, more-due, data-fits, calls-first, destroys-first, on-first, first-is, none-left, live-before}

-- ---- whose turns they are

-- a word on turns by which an honest server takes them: the first is served, and the word is kept behind a call, which gives the log one entry
pub record Wording (serves : Server) (lease : Lease) (Word : ℕ → Accepting AcceptEnd Outcome → List Turn → Type 0) : Type 0 where
  pub served : (left : ℕ) (core : Accepting AcceptEnd Outcome) (turn : Turn) (turns : List Turn) → Word left core (turn ∷ turns) → IsServed serves lease core turn
  pub later : (left : ℕ) (core : Accepting AcceptEnd Outcome) (turn : Turn) (turns : List Turn) → Word (suc left) core (turn ∷ turns) → (entry : Entry) → turn.after.core.history ≡ entry ∷ turn.before.core.history → NotesMoment turn.before turn.after turn.kept.now → Word left turn.after.core turns

-- each call was a turn of the book, and so was the end
abbrev pub WereTurns : Server → Lease → List DueCall → ℕ → List Turn → Type 0
WereTurns serves lease [] number [] = ⊥
WereTurns serves lease [] number (last ∷ []) = IsEndTurn last.before last.after lease number last.kept
WereTurns serves lease [] number (turn ∷ next ∷ turns) = ⊥
WereTurns serves lease (call ∷ later) number [] = ⊥
WereTurns serves lease (call ∷ later) number (turn ∷ turns) = IsCallTurn serves turn.before turn.after lease number call.query.number call.args turn.kept × WereTurns serves lease later (number + 1) turns

-- ---- the destruction

record Leaving (serves : Server) (lease : Lease) (terms : Terms) (number xid : ℕ) (parting : Parting) (draws stream : List ℕ) (core : Accepting AcceptEnd Outcome) (turns : List Turn) (rest : List ℕ) : Type 0 where
  talked : leaves parting draws (destroys (session_on lease terms number xid) stream) ≡ conversed (flat_map sent_in turns) [] parting draws rest
  logged : AreLogged serves lease [] number turns
  served : Serves serves lease core turns
  were : WereTurns serves lease [] number turns

ends-on : (serves : Server) (lease : Lease) (Word : ℕ → Accepting AcceptEnd Outcome → List Turn → Type 0) → Wording serves lease Word → (terms : Terms) (left number xid : ℕ) (parting : Parting) (draws stream : List ℕ) (core : Accepting AcceptEnd Outcome) (turns : List Turn) (rest : List ℕ) → IsToServer serves.serving.program terms → lease.id < 2 ^ 64 → number ≤ 0x80000000 → xid < 2 ^ 32
    → Word left core turns → IsWhole core lease → greatest (numbers lease.id core.history) < number
    → (destroys (session_on lease terms number xid) stream).written ≡ flat_map sent_in turns → stream ≡ flat_map (heard_in serves) turns ++ rest
    → Leaving serves lease terms number xid parting draws stream core turns rest
ends-on serves lease Word k terms left number xid parting draws stream core [] rest called id fits xids w whole few written heard =
    let f = destroys-first (session_on lease terms number xid) stream in absurd (framed-some (destroy_call (session_on lease terms number xid)) f.more (sym f.same ∙ written))
ends-on serves lease Word k terms left number xid parting draws stream core (turn ∷ turns) rest called id fits xids w whole few written heard =
    let s : SessionState = session_on lease terms number xid in
    let call : List ℕ = destroy_call s in
    let v = k.served left core turn turns w in
    let f = destroys-first s stream in
    let is : turn.octets ≡ call = first-is turn.octets call (destroys s stream).written f.more (flat_map sent_in turns) v.within (end-fits lease terms number xid) written f.same in
    let by : IsAnsweredBy serves lease.ends call turn.kept turn.before turn.after = subst (λ (o : List ℕ). IsAnsweredBy serves lease.ends o turn.kept turn.before turn.after) is v.answered in
    let live = live-before core turn.before lease number whole few v.untouched v.wide in
    let h : HonestEnd lease number xid = record { id = id; number_fits = fits; xid_fits = xids } in
    let e = end-turn lease terms number xid turn.kept serves turn.before turn.after called h by live in
    let t : IsTaken lease turn.kept = record { looked = e.looked; receipt = receipt_of turn.before.core.history (Ended lease.id (Destroyed number)); ended = e.ended_is } in
    let back : List ℕ = flat_map (heard_in serves) turns ++ rest in
    let d = ended lease terms number xid turn.kept serves back called h t in
    let stream_is : stream ≡ framed (record_ruling call turn.kept serves.serving).reply ++ back =
    heard ∙ (append_assoc (heard_in serves turn) (flat_map (heard_in serves) turns) rest ∙ ap (λ (o : List ℕ). framed (record_ruling o turn.kept serves.serving).reply ++ back) is) in
    let all : destroys s stream ≡ said (last_fragment call) (Ok tt) back = ap (λ (zs : List ℕ). destroys s zs) stream_is ∙ d.result in
    let wrote : last_fragment call ≡ flat_map sent_in (turn ∷ turns) = sym (ap (λ (p : Said (Unit {0})). p.written) all) ∙ written in
    let none : turns ≡ [] = none-left call turns (wrote ∙ ap (λ (o : List ℕ). last_fragment o ++ flat_map sent_in turns) is) in
    let left_is : back ≡ rest = ap (λ (ts : List Turn). flat_map (heard_in serves) ts ++ rest) none in
    let gone : IsGone serves lease number turn = record { rule = ap (λ (o : List ℕ). (record_ruling o turn.kept serves.serving).rule) is ∙ d.rule; history = e.history; gone = e.gone } in record {
      talked = ap (λ (p : Said (Unit {0})). leaves parting draws p) all
          ∙ (ap (λ (ws : List ℕ). conversed ws [] parting draws back) wrote ∙ ap (λ (zs : List ℕ). conversed (flat_map sent_in (turn ∷ turns)) [] parting draws zs) left_is);
      logged = subst (λ (ts : List Turn). AreLogged serves lease [] number (turn ∷ ts)) (sym none) gone;
      served = (v, subst (λ (ts : List Turn). Serves serves lease turn.after.core ts) (sym none) tt);
      were = subst (λ (ts : List Turn). WereTurns serves lease [] number (turn ∷ ts)) (sym none) e;
    }

-- ---- the calls

pub record Ran (serves : Server) (lease : Lease) (terms : Terms) (due : List DueCall) (number xid : ℕ) (draws stream : List ℕ) (core : Accepting AcceptEnd Outcome) (turns : List Turn) (rest : List ℕ) : Type 0 where
  pub made : ℕ
  pub parting : Parting
  pub made_is : made ≡ calls_made number (length due)
  pub parting_is : parting ≡ parting_of number (length due)
  pub talked : confers due (session_on lease terms number xid) draws stream ≡ conversed (flat_map sent_in turns) (results_in serves (take made due) lease.outcome.initiator turns) parting (drop (16 * made) draws) rest
  pub logged : AreLogged serves lease (take made due) number turns
  pub served : Serves serves lease core turns
  pub were : WereTurns serves lease (take made due) number turns

-- these calls run, wherever they begin
abbrev RunFrom : Server → Lease → Terms → (ℕ → Accepting AcceptEnd Outcome → List Turn → Type 0) → List DueCall → Type 0
RunFrom serves lease terms Word due =
    (number xid : ℕ) (draws stream : List ℕ) (core : Accepting AcceptEnd Outcome) (turns : List Turn) (rest : List ℕ) → ArePlanned serves.serving.program terms number due draws → AllByRecursion (Succeeds serves lease.outcome.initiator) due → xid < 2 ^ 32
    → Word (length due) core turns → IsWhole core lease → greatest (numbers lease.id core.history) < number
    → (confers due (session_on lease terms number xid) draws stream).written ≡ flat_map sent_in turns → stream ≡ flat_map (heard_in serves) turns ++ rest
    → Ran serves lease terms due number xid draws stream core turns rest

none-run : (serves : Server) (lease : Lease) (Word : ℕ → Accepting AcceptEnd Outcome → List Turn → Type 0) → Wording serves lease Word → (terms : Terms) → lease.id < 2 ^ 64 → RunFrom serves lease terms Word []
unfolding confers
none-run serves lease Word k terms id number xid draws stream core turns rest plan succeed xids w whole few written heard =
    let e = ends-on serves lease Word k terms zero number xid Finished draws stream core turns rest plan.called id plan.first_fits xids w whole few written heard in
    record { made = zero; parting = Finished; made_is = none-made number plan.first_fits; parting_is = none-due number plan.first_fits; talked = e.talked; logged = e.logged; served = e.served; were = e.were }

spent-is : (call : DueCall) (later : List DueCall) (s : SessionState) (draws stream : List ℕ) → (s.number == 0x80000000) ≡ true → confers (call ∷ later) s draws stream ≡ leaves Spent draws (destroys s stream)
unfolding confers
spent-is call later s draws stream e = rw e refl

call-is : (call : DueCall) (later : List DueCall) (s : SessionState) (draws stream : List ℕ) → (s.number == 0x80000000) ≡ false
    → confers (call ∷ later) s draws stream
    ≡ goes_on call.query (calls s call.query.number call.args (take 16 draws) stream).written (drop 16 draws) (calls s call.query.number call.args (take 16 draws) stream).rest (confers later)
    (calls s call.query.number call.args (take 16 draws) stream).answer
unfolding confers
call-is call later s draws stream e = rw e refl

spent-run : (serves : Server) (lease : Lease) (Word : ℕ → Accepting AcceptEnd Outcome → List Turn → Type 0) → Wording serves lease Word → (terms : Terms) (call : DueCall) (later : List DueCall) → lease.id < 2 ^ 64 → (number xid : ℕ) (draws stream : List ℕ) (core : Accepting AcceptEnd Outcome) (turns : List Turn) (rest : List ℕ) → IsToServer serves.serving.program terms → (number == 0x80000000) ≡ true → xid < 2 ^ 32
    → Word (suc (length later)) core turns → IsWhole core lease → greatest (numbers lease.id core.history) < number
    → (confers (call ∷ later) (session_on lease terms number xid) draws stream).written ≡ flat_map sent_in turns → stream ≡ flat_map (heard_in serves) turns ++ rest
    → Ran serves lease terms (call ∷ later) number xid draws stream core turns rest
spent-run serves lease Word k terms call later id number xid draws stream core turns rest called spent xids w whole few written heard =
    let s : SessionState = session_on lease terms number xid in
    let n : number ≡ 0x80000000 = is-spent number spent in
    let is = spent-is call later s draws stream spent in
    let e = ends-on serves lease Word k terms (suc (length later)) number xid Spent draws stream core turns rest called id (omega (arith, n)) xids w whole few (sym (ap (λ (c : Conversed). c.written) is) ∙ written) heard in
    record { made = zero; parting = Spent; made_is = spent-made number (length later) n; parting_is = spent-due number (length later) n; talked = is ∙ e.talked; logged = e.logged; served = e.served; were = e.were }

honest-of : (program : ProgramSays) (lease : Lease) (terms : Terms) (number xid : ℕ) (call : DueCall) (later : List DueCall) (draws : List ℕ) → lease.id < 2 ^ 64 → number < 0x80000000 → xid < 2 ^ 32 → ArePlanned program terms number (call ∷ later) draws
    → HonestCall program lease terms number xid call.query.number call.args (take 16 draws)
honest-of program lease terms number xid call later draws id less xids plan =
    let own : IsProper program terms call = plan.each.0 in
    let enough : 16 * suc (length later) ≤ length draws = plan.enough in record {
      called = plan.called;
      id = id;
      number_left = omega (arith, less);
      xid_fits = xids;
      procedure_fits = own.fits;
      served = own.served;
      proper = own.proper;
      protected = own.protected;
      size = own.size;
      block = omega (arith, length-take 16 draws, enough);
      octets = append-IsOctets (take 16 draws) (word number ++ call.args) (take-IsOctets 16 draws plan.octets) (append-IsOctets (word number) call.args (word-octets number) own.octets);
    }

plan-after : (program : ProgramSays) (terms : Terms) (number : ℕ) (call : DueCall) (later : List DueCall) (draws : List ℕ) → number < 0x80000000 → ArePlanned program terms number (call ∷ later) draws → ArePlanned program terms (number + 1) later (drop 16 draws)
plan-after program terms number call later draws less plan =
    let enough : 16 * suc (length later) ≤ length draws = plan.enough in record {
      called = plan.called;
      first_fits = omega (arith, less);
      each = plan.each.1;
      octets = drop-IsOctets 16 draws plan.octets;
      enough = omega (arith, length-drop 16 draws, enough);
    }

-- a call that was answered, and what follows it
goes-on : (query : QuerySays) (undrawn : List ℕ) (next : SessionState → List ℕ → List ℕ → Conversed) (part : Said (SessionState × List ℕ)) (front rest result : List ℕ) (s : SessionState) → part ≡ said front (Ok (s, result)) rest → query.is_result result ≡ true
    → goes_on query part.written undrawn part.rest next part.answer ≡ behind front (result ∷ []) (next s undrawn rest)
goes-on query undrawn next part front rest result s e good = ap (λ (q : Said (SessionState × List ℕ)). goes_on query q.written undrawn q.rest next q.answer) e ∙ rw good refl

joined : (front front' result result' : List ℕ) (later : Conversed) (written : List ℕ) (others : List (List ℕ)) (parting : Parting) (undrawn undrawn' rest : List ℕ) → later ≡ conversed written others parting undrawn rest → front ≡ front' → result ≡ result' → undrawn ≡ undrawn'
    → behind front (result ∷ []) later ≡ conversed (front' ++ written) (result' ∷ others) parting undrawn' rest
joined front front' result result' later written others parting undrawn undrawn' rest a b c d = rw (a, b, c, d) refl

call-run : (keys keys' : SealKeys) (serves : Server) (lease : Lease) (Word : ℕ → Accepting AcceptEnd Outcome → List Turn → Type 0) → Wording serves lease Word → (terms : Terms) (due : DueCall) (later : List DueCall) → ForSealing keys lease.outcome.key 22 → ForSealing keys' lease.outcome.key 24 → lease.id < 2 ^ 64 → RunFrom serves lease terms Word later
    → (number xid : ℕ) (draws stream : List ℕ) (core : Accepting AcceptEnd Outcome) (turn : Turn) (turns : List Turn) (rest : List ℕ) → ArePlanned serves.serving.program terms number (due ∷ later) draws → AllByRecursion (Succeeds serves lease.outcome.initiator) (due ∷ later) → (number == 0x80000000) ≡ false → xid < 2 ^ 32
    → Word (suc (length later)) core (turn ∷ turns) → IsWhole core lease → greatest (numbers lease.id core.history) < number
    → (confers (due ∷ later) (session_on lease terms number xid) draws stream).written ≡ flat_map sent_in (turn ∷ turns) → stream ≡ flat_map (heard_in serves) (turn ∷ turns) ++ rest
    → Ran serves lease terms (due ∷ later) number xid draws stream core (turn ∷ turns) rest
call-run keys keys' serves lease Word k terms due later for for' id ih number xid draws stream core turn turns rest plan succeed unspent xids w whole few written heard =
    let s : SessionState = session_on lease terms number xid in
    let p : ℕ = due.query.number in
    let args : List ℕ = due.args in
    let own : IsProper serves.serving.program terms due = plan.each.0 in
    let block : List ℕ = take 16 draws in
    let call : List ℕ = data_call s p args block in
    let less : number < 0x80000000 = below-spent number plan.first_fits unspent in
    let h : HonestCall serves.serving.program lease terms number xid p args block = honest-of serves.serving.program lease terms number xid due later draws id less xids plan in
    let v = k.served (suc (length later)) core turn turns w in
    let part : Said (SessionState × List ℕ) = calls s p args block stream in
    let conv_is = call-is due later s draws stream unspent in
    let f = on-first due.query (last_fragment call) part.written (drop 16 draws) part.rest (confers later) part.answer (calls-first s p args block stream) in
    let is : turn.octets ≡ call = first-is turn.octets call (confers (due ∷ later) s draws stream).written f.more (flat_map sent_in turns) v.within (data-fits lease terms number xid p args block own.size h.block) written (ap (λ (c : Conversed). c.written) conv_is ∙ f.same) in
    let by : IsAnsweredBy serves lease.ends call turn.kept turn.before turn.after = subst (λ (o : List ℕ). IsAnsweredBy serves lease.ends o turn.kept turn.before turn.after) is v.answered in
    let live = live-before core turn.before lease number whole few v.untouched v.wide in
    let m = call-honest serves.serving.program lease terms number xid p args block h in
    let t = call-turn keys' turn.before turn.after lease number p args call turn.kept serves for' m.honest m.handle by live (omega (arith, less)) in
    let entry : Entry = Call lease.id number p (sha1 args) in
    let name : List ℕ = lease.outcome.initiator in
    let result : List ℕ = serves.results name p args turn.after.core.history in
    let good : IsResult due.query result = succeed.0 turn.after.core.history in
    let a : IsAdmitted lease number args turn.kept = record {
      looked = t.looked;
      admitted = t.admitted;
      is_admitted = t.admitted_is;
      result = result;
      is_result = t.came;
      short = good.short;
      drawn = v.drawn;
      octets = append-IsOctets (take 16 (drop 66 turn.kept.draws)) (word number ++ result) (take-IsOctets 16 (drop 66 turn.kept.draws) (drop-IsOctets 66 turn.kept.draws v.octets))
          (append-IsOctets (word number) result (word-octets number) good.octets);
    } in
    let law : HonestLaw lease = λ octets kept served n proc given honest own handle look. honest-kept keys' octets kept served n proc given lease honest own for' handle look in
    let back : List ℕ = flat_map (heard_in serves) turns ++ rest in
    let d = answered keys lease law for terms number xid p args block turn.kept serves back h a in
    let stream_is : stream ≡ framed (record_ruling call turn.kept serves.serving).reply ++ back =
    heard ∙ (append_assoc (heard_in serves turn) (flat_map (heard_in serves) turns) rest ∙ ap (λ (o : List ℕ). framed (record_ruling o turn.kept serves.serving).reply ++ back) is) in
    let next : SessionState = session_on lease terms (number + 1) (xid_after xid) in
    let all : part ≡ said (last_fragment call) (Ok (next, result)) back = ap (λ (zs : List ℕ). calls s p args block zs) stream_is ∙ d.answer in
    let further : Conversed = confers later next (drop 16 draws) back in
    let whole_is : confers (due ∷ later) s draws stream ≡ behind (last_fragment call) (result ∷ []) further =
    conv_is ∙ goes-on due.query (drop 16 draws) (confers later) part (last_fragment call) back result next all good.taken in
    let wrote : last_fragment call ++ further.written ≡ last_fragment call ++ flat_map sent_in turns = sym (ap (λ (c : Conversed). c.written) whole_is) ∙ (written ∙ ap (λ (o : List ℕ). last_fragment o ++ flat_map sent_in turns) is) in
    let r = ih (number + 1) (xid_after xid) (drop 16 draws) back turn.after.core turns rest (plan-after serves.serving.program terms number due later draws less plan) succeed.1 (omega arith) (k.later (length later) core turn turns w entry t.history t.notes) t.live.whole t.live.called
    (same-behind (last_fragment call) further.written (flat_map sent_in turns) wrote) refl in
    let others : List (List ℕ) = results_in serves (take r.made later) name turns in
    let size : 16 + 16 * r.made ≡ 16 * suc r.made = omega arith in
    record {
      made = suc r.made;
      parting = r.parting;
      made_is = ap suc r.made_is ∙ more-made number (length later) less;
      parting_is = r.parting_is ∙ more-due number (length later) less;
      talked = whole_is
          ∙ joined (last_fragment call) (sent_in turn) result result further (flat_map sent_in turns) others r.parting (drop (16 * r.made) (drop 16 draws)) (drop (16 * suc r.made) draws) rest r.talked
          (ap last_fragment (sym is)) refl (drop-drop (16 * r.made) 16 draws ∙ ap (λ (n : ℕ). drop n draws) size);
      logged = (record { rule = ap (λ (o : List ℕ). (record_ruling o turn.kept serves.serving).rule) is ∙ d.rule; history = t.history }, r.logged);
      served = (v, r.served);
      were = (t, r.were);
    }

-- without a record nothing would have been written
unwritten : (call : DueCall) (later : List DueCall) (s : SessionState) (draws stream : List ℕ) → (s.number == 0x80000000) ≡ false → (confers (call ∷ later) s draws stream).written ≡ [] → ⊥
unwritten call later s draws stream unspent written =
    let p : ℕ = call.query.number in
    let part : Said (SessionState × List ℕ) = calls s p call.args (take 16 draws) stream in
    let f = on-first call.query (last_fragment (data_call s p call.args (take 16 draws))) part.written (drop 16 draws) part.rest (confers later) part.answer (calls-first s p call.args (take 16 draws) stream) in
    framed-some (data_call s p call.args (take 16 draws)) f.more (sym f.same ∙ (sym (ap (λ (c : Conversed). c.written) (call-is call later s draws stream unspent)) ∙ written))

more-run : (keys keys' : SealKeys) (serves : Server) (lease : Lease) (Word : ℕ → Accepting AcceptEnd Outcome → List Turn → Type 0) → Wording serves lease Word → (terms : Terms) (call : DueCall) (later : List DueCall) → ForSealing keys lease.outcome.key 22 → ForSealing keys' lease.outcome.key 24 → lease.id < 2 ^ 64 → RunFrom serves lease terms Word later
    → RunFrom serves lease terms Word (call ∷ later)
more-run keys keys' serves lease Word k terms call later for for' id ih number xid draws stream core turns rest plan succeed xids w whole few written heard = by-cases (number == 0x80000000) refl turns w written heard
  where
    by-cases : (spent : Bool) → (number == 0x80000000) ≡ spent → (turns : List Turn) → Word (suc (length later)) core turns → (confers (call ∷ later) (session_on lease terms number xid) draws stream).written ≡ flat_map sent_in turns → stream ≡ flat_map (heard_in serves) turns ++ rest
        → Ran serves lease terms (call ∷ later) number xid draws stream core turns rest
    by-cases true e turns w written heard = spent-run serves lease Word k terms call later id number xid draws stream core turns rest plan.called e xids w whole few written heard
    by-cases false e [] w written heard = absurd (unwritten call later (session_on lease terms number xid) draws stream e written)
    by-cases false e (turn ∷ turns) w written heard = call-run keys keys' serves lease Word k terms call later for for' id ih number xid draws stream core turn turns rest plan succeed e xids w whole few written heard

pub run-all : (keys keys' : SealKeys) (serves : Server) (lease : Lease) (Word : ℕ → Accepting AcceptEnd Outcome → List Turn → Type 0) → Wording serves lease Word → (terms : Terms) → ForSealing keys lease.outcome.key 22 → ForSealing keys' lease.outcome.key 24 → lease.id < 2 ^ 64 → (due : List DueCall) → RunFrom serves lease terms Word due
run-all keys keys' serves lease Word k terms for for' id [] = none-run serves lease Word k terms id
run-all keys keys' serves lease Word k terms for for' id (call ∷ later) = more-run keys keys' serves lease Word k terms call later for for' id (run-all keys keys' serves lease Word k terms for for' id later)

-- ---- with the creation

by-each : (serves : Server) (lease : Lease) → Wording serves lease (λ left core turns. Serves serves lease core turns)
by-each serves lease = record { served = λ left core turn turns w. w.0; later = λ left core turn turns w entry history notes. w.1 }

pub session-runs : (keys keys' : SealKeys) (setup : AcceptSetup) (serves : Server) (start : StartSays) (stream : List ℕ) (x : HonestExchange setup serves start stream) (c : Completes setup serves start stream x) (due : List DueCall) (draws : List ℕ) → ForSealing keys c.outcome.key 22 → ForSealing keys' c.outcome.key 24
    → (r : HonestSession setup serves start stream x c due draws) → SessionRuns setup serves start stream x c due draws r
unfolding talk_behind
session-runs keys keys' setup serves start stream x c due draws for for' r =
    let lease : Lease = lease_on (id_in x.books) c.outcome c.lasts in
    let a = run-all keys keys' serves lease (λ left core turns. Serves serves lease core turns) (by-each serves lease) start.terms for for' x.number due start.first (1 + length x.answers) draws x.converses.rest c.core r.turns r.rest r.planned r.succeed (omega (arith, few-answers setup serves start stream x)) r.served c.whole r.unused r.written r.heard in
    let wrote : List ℕ = flat_map last_fragment x.converses.records in
    record {
      session = ap (λ (q : Said SessionState). by_opening due draws q.written q.rest q.answer) c.session
          ∙ (ap (λ (t : Conversed). record { written = wrote ++ t.written; outcome = Some c.outcome; results = t.results; parting = t.parting; undrawn = t.undrawn; rest = t.rest }) a.talked
          ∙ (ap (λ (n : ℕ). record { written = wrote ++ flat_map sent_in r.turns; outcome = Some c.outcome; results = results_in serves (take n due) c.outcome.initiator r.turns; parting = a.parting; undrawn = drop (16 * n) draws; rest = r.rest }) a.made_is
          ∙ ap (λ (e : Parting). record {
            written = wrote ++ flat_map sent_in r.turns;
            outcome = Some c.outcome;
            results = results_in serves (made_of start.first due) c.outcome.initiator r.turns;
            parting = e;
            undrawn = drop (16 * calls_made start.first (length due)) draws;
            rest = r.rest;
          }) a.parting_is));
      logged = subst (λ (n : ℕ). AreLogged serves lease (take n due) start.first r.turns) a.made_is a.logged;
    }
