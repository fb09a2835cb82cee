-- A whole session in a row is done.
use Rattle.std.proofs.Common.{◌≡◌, ℕ, ◌+◌, ◌*◌, ◌<◌, ◌≤◌, refl, ap, sym, subst, ◌∙◌, arith, List, [], ◌∷◌, ◌++◌, length, append_assoc, map, drop, Some, Ok, Bool, true, false, Option, Result}
use Rattle.std.specs.List.{AllByRecursion, flat_map}
use Rattle.gss_base.specs.declared.mech.MechKind.{MechKind}
use Rattle.krb_derive.specs.declared.key.Key.{Key}
use Rattle.krb_derive.specs.declared.sealing.SealKeys.{SealKeys}
use Rattle.krb_derive.specs.Kept.{ForSealing}
use Rattle.sha1.specs.Sha1.{sha1}
use Rattle.rpc_msgs.specs.Records.{last_fragment}
use Rattle.seq_window.specs.Marks.{greatest}
use Rattle.spnego_core.specs.declared.accept_end.AcceptEnd.{AcceptEnd}
use Rattle.spnego_core.specs.declared.outcome.Outcome.{Outcome}
use Rattle.accept_book.specs.Booking.{BookOf, names_of}
use Rattle.accept_core.specs.History.{opened, numbers, Whole, standing}
use Rattle.accept_book.specs.RecordShown.{KeptAnswers}
use Rattle.accept_core.specs.Replays.{Accepting}
use Rattle.accept_book.specs.declared.book_answer.Lease.{Lease}
use Rattle.accept_core.specs.declared.entry.Entry.{Entry}
use Rattle.accept_core.specs.declared.entry.Entry.TheVariants.{Call, Opened, Went, Settled}
use Rattle.gss_client.specs.Session.{SessionState}
use Rattle.gss_client.specs.Talk.{created_from}
use Rattle.gss_client.specs.Talking.{Said}
use Rattle.gss_client.specs.Conversation.{Talk}
use Rattle.gss_client.specs.declared.refusal.ClientRefusal.{ClientRefusal}
use Rattle.gss_client.specs.Start.{StartSays}
use Rattle.rpc_program.specs.Programs.{ProgramSays}
use Rattle.pair_laws.specs.Answering.{Server}
use Rattle.pair_laws.specs.Booked.{Around, id_in}
use Rattle.gss_client.specs.Conferring.{DueCall, confers, by_opening, talk_of, talk_behind}
use Rattle.pair_laws.specs.Creation.{around_of, Enters, history_with}
use Rattle.pair_laws.specs.HonestCalls.{session_on}
use Rattle.pair_laws.specs.Laws.{IsBehind}
use Rattle.pair_laws.specs.Live.{lease_on, IsWhole, IsLiveAt}
use Rattle.pair_laws.specs.Resting.{IsBy}
use Rattle.pair_laws.specs.Rows.{IsSized, IsTurn, InRow, IsRow, RowLeaves, history_after, results_by}
use Rattle.pair_laws.specs.Running.{Turn, sent_in, Serves, IsProper, Succeeds, answers_of, results_in, calls_made, parting_of}
use Rattle.pair_laws.specs.Sessions.{HonestSession, made_of}
use Rattle.pair_laws.specs.Walking.{IsNamed}
use Rattle.pair_laws.specs.Whole.{IsSession, SessionDone}
use Rattle.pair_laws.proofs.Completing.{completes, few-answers, same-behind}
use Rattle.pair_laws.proofs.Creations.{same-sent, creation-runs}
use Rattle.pair_laws.proofs.Resting.{rests-again}
use Rattle.pair_laws.proofs.Rows.{reads, row-runs}
use Rattle.pair_laws.proofs.Sessions.{session-runs}
use Rattle.pair_laws.proofs.Answered.{handle-length}
use Rattle.pair_laws.proofs.Writing.{writes}
use Rattle.gss_client.specs.declared.terms.Terms.{Terms}
use Rattle.std.specs.Prelude.{◌==◌}
use Rattle.std.proofs.lemmas.Bool.Decides.{nat_tests}
use Rattle.std.proofs.lemmas.List.{length-take}
use Rattle.gss_base.specs.declared.mark.Mark.{Mark}
use Rattle.accept_core.specs.Entering.{noted}

-- ---- one book behind the creation

one-behind : (answers : List KeptAnswers) (books : List Around) (one other : Accepting AcceptEnd Outcome) → IsBehind answers books one → IsBehind answers books other → one ≡ other
one-behind [] books one other a b = absurd a
one-behind (first ∷ answers) [] one other a b = absurd a
one-behind (last ∷ []) (book ∷ books) one other a b = a ∙ sym b
one-behind (first ∷ next ∷ answers) (book ∷ books) one other a b = one-behind (next ∷ answers) books one other a b

-- the id of the context that some turns open
own-first : (serves : Server) (lasts count : ℕ) (front back : List Turn) (old new : BookOf) (core : Accepting AcceptEnd Outcome) → InRow serves lasts old (front ++ back) new → opened old.core.history ≡ count → IsBehind (answers_of front) (map around_of front) core → id_in (map around_of front) ≡ count + 1
own-first serves lasts count [] back old new core r e b = absurd b
own-first serves lasts count (turn ∷ front) back old new core r e b = ap (λ (n : ℕ). n + 1) (ap (λ (o : BookOf). opened o.core.history) r.0 ∙ e)

-- ---- the turns behind it

row-until : (serves : Server) (lasts until moment : ℕ) (turns : List Turn) (old new : BookOf) → moment ≤ until → AllByRecursion (IsBy moment) (answers_of turns) → InRow serves lasts old turns new → InRow serves until old turns new
row-until serves lasts until moment [] old new h by r = r
row-until serves lasts until moment (turn ∷ turns) old new h by r =
    let v : IsTurn serves lasts turn = r.1 in
    let now : turn.kept.now ≤ moment = by.0 in
    (r.0, record { within = v.within; decided = v.decided; asked = v.asked; lasting = omega (arith, now, h); drawn = v.drawn; octets = v.octets }, row-until serves lasts until moment turns turn.after new h by.1 r.2)

by-later : (moment later : ℕ) (turns : List Turn) → moment < later → AllByRecursion (IsBy moment) (answers_of turns) → AllByRecursion (IsBy later) (answers_of turns)
by-later moment later [] h by = tt
by-later moment later (turn ∷ turns) h by = let now : turn.kept.now ≤ moment = by.0 in (omega (arith, h, now), by-later moment later turns h by.1)

flat-append : (front back : List Turn) → flat_map sent_in (front ++ back) ≡ flat_map sent_in front ++ flat_map sent_in back
flat-append [] back = refl
flat-append (turn ∷ front) back = ap (λ (zs : List ℕ). sent_in turn ++ zs) (flat-append front back) ∙ sym (append_assoc (sent_in turn) (flat_map sent_in front) (flat_map sent_in back))

sized : (program : ProgramSays) (terms : Terms) (due : List DueCall) → AllByRecursion (IsProper program terms) due → AllByRecursion IsSized due
sized program terms [] each = tt
sized program terms (call ∷ later) each = (each.0.size, sized program terms later each.1)

some-outcome : (a b : Outcome) → Some a ≡ Some b → a ≡ b
some-outcome a b e = cc

some-front : (front : List Turn) (books : List Around) (core : Accepting AcceptEnd Outcome) → IsBehind (answers_of front) books core → 0 < length front
some-front [] books core b = absurd b
some-front (turn ∷ front) books core b = omega arith

same-id : (n : ℕ) → (n == n) ≡ true
same-id n = grind (arith, nat_tests)

-- what the log says of the context that was settled last
settled-stands : (id moment : ℕ) (kind : MechKind) (names : List ℕ) (lasts : ℕ) (begun : Bool) (mark : Option Mark) (marks : List (Option Mark)) (h : List Entry) → standing id (history_with id moment (Settled id kind names lasts moment) begun (mark ∷ marks) h) ≡ Whole kind names lasts
settled-stands id moment kind names lasts false mark [] h = rw (same-id id) refl
settled-stands id moment kind names lasts true mark [] h = rw (same-id id) refl
settled-stands id moment kind names lasts false mark (next ∷ marks) h = settled-stands id moment kind names lasts true next marks (noted mark id moment (Opened id moment ∷ h))
settled-stands id moment kind names lasts true mark (next ∷ marks) h = settled-stands id moment kind names lasts true next marks (Went id moment ∷ noted mark id moment h)

same-names : (a b : MechKind) (xs ys : List ℕ) (m n : ℕ) → Whole a xs m ≡ Whole b ys n → xs ≡ ys
same-names a b xs ys m n e = cc

same-lasts : (a b : MechKind) (xs ys : List ℕ) (m n : ℕ) → Whole a xs m ≡ Whole b ys n → m ≡ n
same-lasts a b xs ys m n e = cc

-- what the log says of the context that a creation enters
entered-stands : (id moment : ℕ) (kind : MechKind) (tokens : ℕ) (old new : List Entry) → (e : Enters id moment kind tokens old new) → 0 < tokens → standing id new ≡ Whole kind e.names e.lasts
entered-stands id moment kind tokens old new e some = by-marks e.marks e.counted e.is
  where
    by-marks : (marks : List (Option Mark)) → length marks ≡ tokens → new ≡ history_with id moment (Settled id kind e.names e.lasts moment) false marks old → standing id new ≡ Whole kind e.names e.lasts
    by-marks [] counted is = absurd (omega (arith, counted, some))
    by-marks (mark ∷ marks) counted is = ap (λ (h : List Entry). standing id h) is ∙ settled-stands id moment kind e.names e.lasts false mark marks old

-- two sessions that a creation answers are one
same-state : (a b : SessionState) (r : Result SessionState ClientRefusal) → r ≡ Ok a → r ≡ Ok b → a ≡ b
same-state a b r e f = let both : Ok a ≡ Ok b = sym e ∙ f in cc

long-after : (id number : ℕ) (made : List DueCall) (h : List Entry) → length (history_after id number made h) ≡ length h + length made + 1
long-after id number [] h = omega arith
long-after id number (call ∷ later) h = omega (arith, long-after id (number + 1) later (Call id number call.query.number (sha1 call.args) ∷ h))

-- ---- a whole session

pub whole-done : (keys keys' : SealKeys) (key : Key) → ForSealing keys key 22 → ForSealing keys' key 24 → (serves : Server) (lasts : ℕ) (start : StartSays) (kind : MechKind) (count moment : ℕ) (due : List DueCall) (draws stream : List ℕ) (old new : BookOf) (front back : List Turn) (rest : List ℕ) (outcome : Outcome)
    → IsSession key serves lasts start kind count moment due draws stream old new front back rest outcome → SessionDone serves start kind count moment due draws stream old new front back rest outcome
unfolding talk_behind
whole-done keys keys' key for for' serves lasts start kind count moment due draws stream old new front back rest outcome s =
    let r = creation-runs serves lasts start kind count moment stream s.more old new front back s.records s.tail rest s.creation in
    let x = r.exchange in
    let c = completes old.setup serves start stream x in
    let lease : Lease = lease_on (id_in x.books) c.outcome c.lasts in
    let state : SessionState = session_on lease start.terms start.first (1 + length x.answers) in
    let wrote : List ℕ = flat_map last_fragment x.converses.records in
    let made : List DueCall = made_of start.first due in
    let created : (created_from start stream).written ≡ wrote = ap (λ (q : Said SessionState). q.written) c.session in
    let talk_is : talk_of start due draws stream ≡ by_opening due draws wrote x.converses.rest (Ok state) = ap (λ (q : Said SessionState). by_opening due draws q.written q.rest q.answer) c.session in
    let same : c.outcome ≡ outcome = some-outcome c.outcome outcome (sym (ap (λ (t : Talk). t.outcome) talk_is) ∙ s.told) in
    let key_is : c.outcome.key ≡ key = ap (λ (o : Outcome). o.key) same ∙ s.key_is in
    let known : AllByRecursion (Succeeds serves c.outcome.initiator) due = subst (λ (o : Outcome). AllByRecursion (Succeeds serves o.initiator) due) (sym same) s.succeed in
    let agreed : r.agreed ≡ c.outcome =
    sym r.created.outcome ∙ ap (λ (q : SessionState). q.outcome) (same-state r.created.state state (created_from start stream).answer r.created.answer (ap (λ (q : Said SessionState). q.answer) c.session)) in
    let both : wrote ++ (confers due state draws x.converses.rest).written ≡ wrote ++ s.more = sym (ap (λ (t : Talk). t.written) talk_is) ∙ (s.written ∙ ap (λ (zs : List ℕ). zs ++ s.more) created) in
    let few : length state.handle ≤ 64 = omega (arith, handle-length (id_in x.books)) in
    let q = writes due state draws x.converses.rest few (sized serves.serving.program start.terms due s.planned.each) s.planned.enough in
    let read : flat_map last_fragment q.calls ≡ flat_map sent_in back =
    reads q.calls r.others back s.tail q.each r.cuts s.none (sym q.is ∙ (same-behind wrote (confers due state draws x.converses.rest).written s.more both ∙ r.wrote)) in
    let written : (confers due state draws x.converses.rest).written ≡ flat_map sent_in back = q.is ∙ read in
    let behind : IsBehind x.answers x.books r.middle.core =
    subst (λ (ks : List KeptAnswers). IsBehind ks x.books r.middle.core) (sym r.answers) (subst (λ (bs : List Around). IsBehind (answers_of front) bs r.middle.core) (sym r.books) r.behind) in
    let core_is : c.core ≡ r.middle.core = one-behind x.answers x.books c.core r.middle.core c.behind behind in
    let id_is : id_in x.books ≡ count + 1 = ap (λ (bs : List Around). id_in bs) r.books ∙ own-first serves lasts count front back old new r.middle.core s.creation.row s.creation.rests.ids r.behind in
    let none : numbers (id_in x.books) r.middle.core.history ≡ [] = ap (λ (n : ℕ). numbers n r.middle.core.history) id_is ∙ r.unused in
    let called : greatest (numbers (id_in x.books) r.middle.core.history) < start.first = subst (λ (ns : List ℕ). greatest ns < start.first) (sym none) s.some in
    let limits = r.limits in
    let wide : 0 < r.middle.core.width = subst (λ (n : ℕ). 0 < n) (sym limits.width) s.wide in
    let live : IsLiveAt r.middle lease start.first = record { whole = subst (λ (o : Accepting AcceptEnd Outcome). IsWhole o lease) core_is c.whole; called = called; wide = wide } in
    let enters = r.enters in
    let entered : Whole kind enters.names enters.lasts ≡ Whole c.outcome.mech (names_of c.outcome) c.lasts =
    sym (entered-stands (count + 1) moment kind (length front) old.core.history r.middle.core.history enters (some-front front (map around_of front) r.middle.core r.behind))
    ∙ subst (λ (i : ℕ). standing i r.middle.core.history ≡ Whole c.outcome.mech (names_of c.outcome) c.lasts) id_is live.whole.stands in
    let lasting : moment ≤ c.lasts = subst (λ (m : ℕ). moment ≤ m) (same-lasts kind c.outcome.mech enters.names (names_of c.outcome) enters.lasts c.lasts entered) r.lasting in
    let log : length old.core.history + 4 * length front + length due < old.core.limit = s.log in
    let row : IsRow serves lease start.terms start.first (1 + length x.answers) due draws x.converses.rest r.middle new back rest = record {
      id = x.number;
      xid_fits = omega (arith, few-answers old.setup serves start stream x);
      live = live;
      room = omega (arith, r.grown, limits.limit, log);
      row = row-until serves lasts c.lasts moment back r.middle new lasting s.moments r.row;
      written = written;
      heard = r.left;
      planned = s.planned;
      succeed = known;
    } in
    let own = subst (λ (v : Key). ForSealing keys v 22) (sym key_is) for in
    let own' = subst (λ (v : Key). ForSealing keys' v 24) (sym key_is) for' in
    let g = row-runs keys keys' serves lease start.terms start.first (1 + length x.answers) due draws x.converses.rest r.middle new back rest own own' row in
    let h : HonestSession old.setup serves start stream x c due draws = record {
      turns = back;
      rest = rest;
      written = written;
      heard = r.left;
      served = subst (λ (o : Accepting AcceptEnd Outcome). Serves serves lease o back) (sym core_is) g.served;
      unused = subst (λ (o : Accepting AcceptEnd Outcome). greatest (numbers (id_in x.books) o.history) < start.first) (sym core_is) called;
      planned = s.planned;
      succeed = known;
    } in
    let e = session-runs keys keys' old.setup serves start stream x c due draws own own' h in
    let all : wrote ++ flat_map sent_in back ≡ flat_map sent_in (front ++ back) =
    ap (λ (zs : List ℕ). zs ++ flat_map sent_in back) (ap (λ (os : List (List ℕ)). flat_map last_fragment os) r.records_are ∙ sym (same-sent front)) ∙ sym (flat-append front back) in
    let name : List ℕ = c.outcome.initiator in
    let results : results_in serves made name back ≡ results_by serves name (count + 1) start.first made r.middle.core.history = g.results ∙ ap (λ (n : ℕ). results_by serves name n start.first made r.middle.core.history) id_is in
    let history : new.core.history ≡ history_after (count + 1) start.first made r.middle.core.history = g.leaves.history ∙ ap (λ (n : ℕ). history_after n start.first made r.middle.core.history) id_is in
    let leaves : RowLeaves (count + 1) start.first made back r.middle new = subst (λ (n : ℕ). RowLeaves n start.first made back r.middle new) id_is g.leaves in
    let grown : length r.middle.core.history ≤ length old.core.history + 4 * length front = r.grown in
    subst (λ (o : Outcome). SessionDone serves start kind count moment due draws stream old new front back rest o) same (record {
      mech = c.mech ∙ r.kind_is;
      named = subst (λ (o : Outcome). IsNamed start.setup kind o) agreed r.named;
      session = e.session
          ∙ (ap (λ (ws : List ℕ). record { written = ws; outcome = Some c.outcome; results = results_in serves made name back; parting = parting_of start.first (length due); undrawn = drop (16 * calls_made start.first (length due)) draws; rest = rest }) all
          ∙ ap (λ (rs : List (List ℕ)). record {
            written = flat_map sent_in (front ++ back);
            outcome = Some c.outcome;
            results = rs;
            parting = parting_of start.first (length due);
            undrawn = drop (16 * calls_made start.first (length due)) draws;
            rest = rest;
          }) results);
      opened = r.middle.core.history;
      enters = enters;
      names = same-names kind c.outcome.mech enters.names (names_of c.outcome) enters.lasts c.lasts entered;
      history = history;
      grown = subst (λ (h : List Entry). length h ≤ length old.core.history + 4 * length front + length due + 1) (sym history) (omega (arith, long-after (count + 1) start.first made r.middle.core.history, length-take (calls_made start.first (length due)) due, grown));
      limits = record {
        setup = g.leaves.setup ∙ limits.setup;
        limit = g.leaves.limit ∙ limits.limit;
        width = g.leaves.width ∙ limits.width;
        contexts = g.leaves.others.limit ∙ limits.contexts;
        capacity = g.leaves.capacity ∙ limits.capacity;
      };
      rests = λ later more.
          rests-again (count + 1) (count + 1) later start.first made back r.middle new (r.holds later more) leaves (by-later moment later back more s.moments);
    })
