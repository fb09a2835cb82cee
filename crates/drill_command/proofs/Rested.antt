-- A session that fits is done: what it did to a book at rest.
use Rattle.std.proofs.Common.{map, ◌≡◌, ◌≢◌, ◌⊎◌, inl, inr, ℕ, ◌+◌, ◌-◌, ◌*◌, nat_le, ◌<◌, ◌≤◌, ◌%◌, lit<, nat_lt, get_or, Bool, true, false, if◌then◌else◌, refl, ap, sym, subst, ◌∙◌, arith, List, [], ◌∷◌, ◌++◌, length, take, replicate, Option, Some}
use Rattle.std.specs.List.{AllByRecursion}
use Rattle.std.proofs.lemmas.Bool.{le-leb}
use Rattle.std.proofs.lemmas.List.{append-nil, take_all}
use Rattle.gss_base.specs.declared.mech.MechKind.{MechKind}
use Rattle.gss_base.specs.declared.mech.MechKind.TheVariants as kinds
use Rattle.rpc_msgs.specs.Records.{Fragments, IsFront}
use Rattle.gss_client.specs.declared.terms.Terms.{Terms}
use Rattle.rpcsec_bodies.specs.declared.service.Service.TheVariants as services
use Rattle.spnego_core.specs.Exchange.{HonestPair}
use Rattle.spnego_core.specs.InitMech.{cred_for}
use Rattle.spnego_core.specs.declared.outcome.Outcome.{Outcome}
use Rattle.spnego_core.specs.declared.setup.AcceptSetup.{AcceptSetup}
use Rattle.accept_book.specs.Booking.{BookOf}
use Rattle.accept_book.specs.RecordShown.{Asked}
use Rattle.accept_book.specs.declared.book_answer.Admitted.{Admitted}
use Rattle.rpc_program.specs.Programs.{Serving}
use Rattle.posts_program.specs.Posts.{posts_says, result_of}
use Rattle.pair_laws.specs.Answering.{AnswersBy}
use Rattle.pair_laws.specs.Posts.{IsName, posts_in, posts_behind, posts_results, posts_server}
use Rattle.pair_laws.proofs.PostsResults.{posts-law, entered-posts, after-posts, counted-results}
use Rattle.gss_client.specs.Query.{QuerySays}
use Rattle.gss_client.specs.declared.conversation.Parting.{Parting}
use Rattle.gss_client.specs.declared.conversation.Parting.TheVariants.{Finished, Spent}
use Rattle.gss_client.specs.declared.refusal.ClientRefusal.{ClientRefusal}
use Rattle.gss_client.specs.declared.refusal.ClientRefusal.TheVariants.{LinkFault, NoMemory}
use Rattle.gss_client.specs.Start.{StartSays}
use Rattle.gss_client.specs.Conversing.{IsTalk}
use Rattle.gss_server.specs.Asking.{Asking}
use Rattle.gss_server.specs.Connections.{asked_in}
use Rattle.gss_server.specs.declared.answer.Kept.{Kept}
use Rattle.gate_models.specs.Looping.{AllAt, IsUnfit}
use Rattle.gss_client.specs.Conferring.{DueCall, talk_of}
use Rattle.pair_laws.specs.HonestCalls.{IsToServer}
use Rattle.pair_laws.specs.Creation.{IsAt, padded}
use Rattle.pair_laws.specs.Honest.{occasion_of}
use Rattle.pair_laws.specs.Linked.{CreatedLaw, IsServed, IsLinked, LinkedDone, kept_of}
use Rattle.pair_laws.specs.Rows.{IsKeptBy, IsNoRecord, history_after, results_by}
use Rattle.pair_laws.specs.Running.{IsProper, IsResult, Succeeds}
use Rattle.pair_laws.specs.Running.{parting_of}
use Rattle.pair_laws.specs.Resting.{RestsAt}
use Rattle.pair_laws.specs.Sessions.{ArePlanned, made_of}
use Rattle.pair_laws.specs.Walking.{HasNames, IsNamed}
use Rattle.pair_laws.proofs.Linked.{planned-on}
use Rattle.drill_command.proofs.Drawing.{all-proper, all-posted}
use Rattle.drill_command.specs.Calls.{calls_from}
use Rattle.drill_command.specs.Drilled.{after_start}
use Rattle.drill_command.specs.Fitting.{tokens_for}
use Rattle.drill_plan.specs.Generator.{octets_from}
use Rattle.drill_plan.specs.Limits.{book_limits, drill_limits}
use Rattle.drill_command.specs.Paired.{HasOctets, AreOnTime, IsPaired}
use Rattle.drill_plan.specs.Setting.{drill_credential, drill_start}
use Rattle.drill_plan.specs.Sessions.{moment_of, kind_of, service_of, terms_of}
use Rattle.drill_command.specs.Held.{early_end, Holds}
use Rattle.drill_command.specs.Rested.{LinkedTold, IsLinkTold, FitsRest, FitsNext, RestsAgain, IsNext, IsPostsCall}
use Rattle.drill_plan.specs.declared.session.DrillSession.{DrillSession}

-- ---- a session that has numbers enough

true-false : (b : Bool) → b ≡ true → b ≡ false → ⊥
true-false b e f = cc

unspent : Spent ≡ Finished → ⊥
unspent e = cc

-- it parts as finished
finishes : (first : ℕ) (due : List DueCall) → first ≡ 1 → length due < 0x80000000 → parting_of first (length due) ≡ Finished
finishes first due one few = ap (λ (b : Bool). if b then Finished else Spent) (le-leb (first + length due) 0x80000000 (omega (arith, one, few)))

made-by : (all : Bool) (number : ℕ) (due : List DueCall) → (if all then Finished else Spent) ≡ Finished → take (if all then length due else number) due ≡ due
made-by true number due e = take_all (length due) due (omega arith)
made-by false number due e = absurd (unspent e)

-- it made all its calls
made-all : (first : ℕ) (due : List DueCall) → parting_of first (length due) ≡ Finished → made_of first due ≡ due
made-all first due e = made-by (nat_le (first + length due) 0x80000000) (0x80000000 - first) due e

-- ---- its link

no-record : (rest : List ℕ) → IsFront rest ⊎ IsUnfit rest → IsNoRecord rest
no-record rest (inl f) = inl f
no-record rest (inr u) = inr (u.front, u.more, u.unfit, u.begins)

pub at-moments : (moment : ℕ) (kept : List Kept) → AllAt moment kept → AllByRecursion (IsAt moment) (kept_of kept)
at-moments moment [] h = tt
at-moments moment (one ∷ kept) h = (h.0, at-moments moment kept h.1)

all-by : (moment : ℕ) (kept : List Kept) → AllAt moment kept → AllByRecursion HasOctets kept → AllByRecursion (IsKeptBy moment) kept
all-by moment [] h octets = tt
all-by moment (one ∷ kept) h octets = (record { lasting = omega (arith, h.0); octets = octets.0 }, all-by moment kept h.1 octets.1)

-- ---- the session

-- what such a session's link shows
served-of : (gained : List (Asked Admitted) → Type 0) (book new : BookOf) (now : ℕ) (start : StartSays) (wanted : List DueCall) (kept : List Kept) (outcome : Option Outcome) (results : List (List ℕ)) (ended : Option ClientRefusal) (tokens count : ℕ) (kind : MechKind) (client server : ℕ) (draws : List ℕ)
    → ((asked : List (Asked Admitted)) → gained asked → Asking (AnswersBy (posts_server 128)) book asked new) → start.first ≡ 1 → AllByRecursion HasOctets kept → FitsRest tokens kind count now start wanted book kept
    → (h : Holds gained (posts_server 128).serving now client server start wanted kept false outcome results ended) → ArePlanned posts_says start.terms start.first wanted draws → (talk_of start wanted draws (h.talked.took ++ h.wire.coming)).written ≡ h.talked.wrote
    → IsServed (posts_server 128) now tokens start kind count now wanted draws (h.talked.took ++ h.wire.coming) book new h.looped.1.records h.looped.1.answers h.looped.1.rest
served-of gained book new now start wanted kept outcome results ended tokens count kind client server draws asks first octets f h planned wrote =
    let l = h.looped.1 in
    let keeps : kept ≡ l.answers = l.keeps ∙ (ap (λ (ks : List Kept). l.answers ++ ks) l.stands.1 ∙ append-nil l.answers) in
    record {
      answered = record {
        each = l.each;
        counted = l.counted;
        exact = l.exact;
        decided = l.decided;
        asked = asks (asked_in (posts_server 128).serving l.records l.answers) l.stands.0;
        kept = subst (λ (ks : List Kept). AllByRecursion (IsKeptBy now) ks) keeps (all-by now kept l.timed octets);
      };
      none = no-record l.rest l.stands.2;
      written = wrote ∙ (sym h.talked.went.written ∙ l.spelled);
      heard = ap (λ (zs : List ℕ). zs ++ h.wire.coming) (sym h.talked.went.taken) ∙ l.replies;
      some_width = omega arith;
      width_fits = omega arith;
      pair = subst (λ (ks : List Kept). HonestPair book.setup start.setup kind (padded now tokens (map occasion_of (kept_of ks)))) keeps f.pair;
      moments = subst (λ (ks : List Kept). AllByRecursion (IsAt now) (kept_of ks)) keeps (at-moments now kept l.timed);
      known = f.known;
      stamp = f.stamp;
      rests = f.rests;
      number = f.number;
      wide = f.wide;
      table = f.table;
      cache = f.cache;
      log = f.log;
      some = omega (arith, first);
      planned = planned;
    }

-- the results of the program of posts are results of what is asked
all-succeed : (width : ℕ) (name : List ℕ) (wanted : List DueCall) → IsName name → AllByRecursion IsPostsCall wanted → AllByRecursion (Succeeds (posts_server width) name) wanted
all-succeed width name [] named each = tt
all-succeed width name (call ∷ later) named each = (
  λ log. subst (λ (q : QuerySays). IsResult q (result_of q.number call.args name (posts_in log))) (sym each.0.query) (posts-law each.0.procedure call.args name (posts_in log) each.0.args named),
  all-succeed width name later named each.1,
)

-- so it is done
done-of : (book new : BookOf) (now : ℕ) (start : StartSays) (wanted : List DueCall) (one : DrillSession) (tokens count : ℕ) (kind : MechKind) (draws stream wrote undrawn : List ℕ) (records : List Fragments) (answers : List Kept) (rest : List ℕ) (parting : Parting)
    → start.first ≡ 1 → length wanted < 0x80000000 → AllByRecursion IsPostsCall wanted → CreatedLaw → IsLinkTold one.outcome → IsServed (posts_server 128) now tokens start kind count now wanted draws stream book new records answers rest
    → IsTalk wrote one.outcome one.results.items parting undrawn (talk_of start wanted draws stream) → one.ended ≡ early_end parting
    → RestsAgain tokens kind count now start wanted book new one
done-of book new now start wanted one tokens count kind draws stream wrote undrawn records answers rest parting first few posted created told served w ends =
    let o : (agreed : Outcome) × ((talk_of start wanted draws stream).outcome ≡ Some agreed) = created (posts_server 128) now tokens start kind count now wanted draws stream book new records answers rest served in
    let agreed : one.outcome ≡ Some o.0 = sym w.outcome_is ∙ o.1 in
    let law : LinkedTold o.0 = told o.0 agreed in
    let x : IsLinked o.0.key (posts_server 128) now tokens start kind count now wanted draws stream book new records answers rest o.0 = record { served = served; told = o.1; key_is = refl; succeed = all-succeed 128 o.0.initiator wanted law.name posted } in
    let d : LinkedDone (posts_server 128) tokens start kind count now wanted draws stream book new o.0 = law.laws (posts_server 128) now tokens start kind count now wanted draws stream book new records answers rest o.0 x in
    let fin : parting_of start.first (length wanted) ≡ Finished = finishes start.first wanted first few in
    let all : made_of start.first wanted ≡ wanted = made-all start.first wanted fin in
    let parts : parting ≡ Finished = sym w.parts ∙ (d.parts ∙ fin) in
    let history : new.core.history ≡ history_after (count + 1) 1 wanted d.opened = d.history ∙ (ap (λ (cs : List DueCall). history_after (count + 1) start.first cs d.opened) all ∙ ap (λ (n : ℕ). history_after (count + 1) n wanted d.opened) first) in
    let same : posts_in d.opened ≡ posts_in book.core.history = entered-posts (count + 1) now kind tokens book.core.history d.opened d.enters in
    record {
      ended = ends ∙ ap early_end parts;
      agreed = o.0;
      outcome = agreed;
      mech = d.mech;
      named = d.named;
      results = sym w.results_are ∙ (d.results_are ∙ (ap (λ (cs : List DueCall). results_by (posts_server 128) o.0.initiator (count + 1) start.first cs d.opened) all
          ∙ (counted-results 128 o.0.initiator (count + 1) start.first wanted d.opened ∙ ap (λ (n : ℕ). posts_results n o.0.initiator wanted) same)));
      opened = d.opened;
      enters = d.enters;
      names = d.names;
      history = history;
      posted = ap posts_in history ∙ (after-posts (count + 1) 1 wanted d.opened ∙ ap (λ (n : ℕ). posts_behind n wanted) same);
      grown = d.grown;
      limits = d.limits;
      rests = d.rests;
    }

fed-session : (gained : List (Asked Admitted) → Type 0) (book new : BookOf) (now : ℕ) (start : StartSays) (wanted : List DueCall) (kept : List Kept) (one : DrillSession) (tokens count : ℕ) (kind : MechKind) (client server : ℕ)
    → ((asked : List (Asked Admitted)) → gained asked → Asking (AnswersBy (posts_server 128)) book asked new) → start.first ≡ 1 → CreatedLaw → IsLinkTold one.outcome → AllByRecursion HasOctets kept
    → one.ended ≢ Some LinkFault → one.ended ≢ Some NoMemory → FitsRest tokens kind count now start wanted book kept
    → Holds gained (posts_server 128).serving now client server start wanted kept false one.outcome one.results.items one.ended
    → RestsAgain tokens kind count now start wanted book new one
fed-session gained book new now start wanted kept one tokens count kind client server asks first created told octets linked remembered f h =
    let t = h.talked in
    let more : List ℕ = replicate (16 * length wanted) 0 in
    let w = t.whole (λ e. linked (h.ends ∙ ap early_end e)) (λ e. remembered (h.ends ∙ ap early_end e)) more in
    let planned : ArePlanned posts_says start.terms start.first wanted (t.drawn ++ more) = planned-on posts_says start.terms start.first wanted t.drawn f.called (omega (arith, first)) f.each t.octets in
    done-of book new now start wanted one tokens count kind (t.drawn ++ more) (t.took ++ h.wire.coming) t.wrote more h.looped.1.records h.looped.1.answers h.looped.1.rest h.parting first f.numbers f.posted created told
    (served-of gained book new now start wanted kept one.outcome one.results.items one.ended tokens count kind client server (t.drawn ++ more) asks first octets f h planned w.written) w h.ends

pub session-rests : (gained : List (Asked Admitted) → Type 0) (book new : BookOf) (now : ℕ) (start : StartSays) (wanted : List DueCall) (kept : List Kept) (starved : Bool) (one : DrillSession) (tokens count : ℕ) (kind : MechKind) (client server : ℕ)
    → ((asked : List (Asked Admitted)) → gained asked → Asking (AnswersBy (posts_server 128)) book asked new) → start.first ≡ 1 → CreatedLaw → IsLinkTold one.outcome → AllByRecursion HasOctets kept
    → (one.ended ≡ Some LinkFault → starved ≡ true) → starved ≡ false → one.ended ≢ Some NoMemory → FitsRest tokens kind count now start wanted book kept
    → Holds gained (posts_server 128).serving now client server start wanted kept starved one.outcome one.results.items one.ended
    → RestsAgain tokens kind count now start wanted book new one
session-rests gained book new now start wanted kept starved one tokens count kind client server asks first created told octets fault fed remembered f held =
    fed-session gained book new now start wanted kept one tokens count kind client server asks first created told octets (λ e. true-false starved (fault e) fed) remembered f
    (subst (λ (b : Bool). Holds gained (posts_server 128).serving now client server start wanted kept b one.outcome one.results.items one.ended) fed held)

-- the same talk where no memory was wanted, by what else is so of whatever was asked
pub talked-by : (gained asks : List (Asked Admitted) → Type 0) → ((asked : List (Asked Admitted)) → gained asked → asks asked) → (serves : Serving) (moment client server : ℕ) (start : StartSays) (wanted : List DueCall) (kept : List Kept) (starved : Bool) (outcome : Option Outcome) (results : List (List ℕ)) (ended : Option ClientRefusal) → starved ≡ false
    → Holds gained serves moment client server start wanted kept starved outcome results ended → Holds asks serves moment client server start wanted kept false outcome results ended
talked-by gained asks so serves moment client server start wanted kept starved outcome results ended fed held =
    let h : Holds gained serves moment client server start wanted kept false outcome results ended = subst (λ (b : Bool). Holds gained serves moment client server start wanted kept b outcome results ended) fed held in
    let l = h.looped.1 in
    record {
      wire = h.wire;
      parting = h.parting;
      given = h.given;
      talked = h.talked;
      ends = h.ends;
      looped = (
        h.looped.0,
        record {
          records = l.records;
          rest = l.rest;
          answers = l.answers;
          last = l.last;
          each = l.each;
          spelled = l.spelled;
          place = l.place;
          counted = l.counted;
          exact = l.exact;
          decided = l.decided;
          keeps = l.keeps;
          timed = l.timed;
          replies = l.replies;
          stands = (so (asked_in serves l.records l.answers) l.stands.0, l.stands.1, l.stands.2);
        },
      );
      drawn = h.drawn;
    }

-- ---- the next session of a drill

by-part : (low : Bool) → (if low then services.Integrity else services.Privacy) ≢ services.None
by-part true e = cc
by-part false e = cc

protected : (number : ℕ) → service_of number ≢ services.None
protected number = by-part (nat_lt (number % 4) 2)

wide-of : (book : BookOf) → book_limits book ≡ drill_limits → 0 < book.core.width
wide-of book e = let is : book.core.width ≡ 128 = ap (λ limits. get_or limits.0 0 0) e in omega (arith, is)

table-of : (book : BookOf) → book_limits book ≡ drill_limits → 0 < book.core.table.limit
table-of book e = let is : book.core.table.limit ≡ 1024 = ap (λ limits. get_or limits.0 2 0) e in omega (arith, is)

cache-of : (number : ℕ) (book : BookOf) → number ≤ 100 → book_limits book ≡ drill_limits → number < book.core.cache.capacity
cache-of number book few e = let is : book.core.cache.capacity ≡ 65536 = ap (λ limits. get_or limits.0 3 0) e in omega (arith, few, is)

fits-next : (number moment count value : ℕ) (start : StartSays) (book : BookOf) (kept : List Kept) → number ≤ 100 → book_limits book ≡ drill_limits → moment ≡ moment_of number → start.setup.stamp ≡ moment → start.terms ≡ terms_of number → IsPaired number start.setup kept → FitsNext number (calls_from count value) book
    → FitsRest (tokens_for (kind_of number)) (kind_of number) number moment start (calls_from count value) book kept
fits-next number moment count value start book kept few limits now stamp terms p f = record {
  pair = subst (λ (m : ℕ). HonestPair book.setup start.setup (kind_of number) (padded m (tokens_for (kind_of number)) (map occasion_of (kept_of kept)))) (sym now)
      (subst (λ (setup : AcceptSetup). HonestPair setup start.setup (kind_of number) (padded (moment_of number) (tokens_for (kind_of number)) (map occasion_of (kept_of kept)))) (sym f.setup) p);
  known = omega (arith, now, few);
  stamp = stamp;
  rests = subst (λ (m : ℕ). RestsAt number m book.core) (sym now) f.rests;
  number = omega (arith, few);
  wide = wide-of book limits;
  table = table-of book limits;
  cache = cache-of number book few limits;
  log = f.log;
  numbers = f.numbers;
  called = subst (IsToServer posts_says) (sym terms) (record { number = refl; version = refl; fits = record { number = lit< tt; version = lit< tt } });
  each = subst (λ (t : Terms). AllByRecursion (IsProper posts_says t) (calls_from count value)) (sym terms) (all-proper (terms_of number) (protected number) count value);
  posted = all-posted count value;
}

pub next-of : (number count value moment client server drawn answered : ℕ) (start : StartSays) (wanted : List DueCall) (old new : BookOf) (kept : List Kept) (one : DrillSession) → number ≤ 100 → book_limits old ≡ drill_limits → moment ≡ moment_of number → start.setup.stamp ≡ moment → start.terms ≡ terms_of number → start ≡ drill_start number moment (octets_from 66 client) → wanted ≡ calls_from count value
    → IsPaired number start.setup kept
    → drawn ≡ after_start client → answered ≡ server
    → ∥ Holds (λ asked. Asking (AnswersBy (posts_server 128)) old asked new) (posts_server 128).serving moment drawn answered start wanted kept false one.outcome one.results.items one.ended ∥₁
    → ((tokens : ℕ) (kind : MechKind) (before : ℕ) → FitsRest tokens kind before moment start wanted old kept → ∥ RestsAgain tokens kind before moment start wanted old new one ∥₁)
    → IsNext number client server (calls_from count value) old new kept one
next-of number count value moment client server drawn answered start wanted old new kept one few limits now stamp terms begun same pair is on talked held = record {
  start = start;
  begun = begun ∙ ap (λ (m : ℕ). drill_start number m (octets_from 66 client)) now;
  held =
      let asks : List (Asked Admitted) → Type 0 = λ asked. Asking (AnswersBy (posts_server 128)) old asked new in
      let Talked : ℕ → ℕ → ℕ → List DueCall → Type 0 = λ m x y cs. ∥ Holds asks (posts_server 128).serving m x y start cs kept false one.outcome one.results.items one.ended ∥₁ in
      subst (λ (cs : List DueCall). Talked (moment_of number) (after_start client) server cs) same
      (subst (λ (y : ℕ). Talked (moment_of number) (after_start client) y wanted) on
      (subst (λ (x : ℕ). Talked (moment_of number) x answered wanted) is (subst (λ (m : ℕ). Talked m drawn answered wanted) now talked)));
  paired = pair;
  rests = λ f.
      let tokens : ℕ = tokens_for (kind_of number) in
      let fits : FitsRest tokens (kind_of number) number moment start wanted old kept =
      subst (λ (cs : List DueCall). FitsRest tokens (kind_of number) number moment start cs old kept) (sym same) (fits-next number moment count value start old kept few limits now stamp terms pair f) in
      subst (λ (m : ℕ). ∥ RestsAgain tokens (kind_of number) number m start (calls_from count value) old new one ∥₁) now
      (subst (λ (cs : List DueCall). ∥ RestsAgain tokens (kind_of number) number moment start cs old new one ∥₁) same (held tokens (kind_of number) number fits));
}

-- the pair that was told of, where the session's start is that of its generator
pub pairs-of : (number moment : ℕ) (draws : List ℕ) (start : StartSays) (given kept : List Kept) → moment ≡ moment_of number → start ≡ drill_start number moment draws
    → AllByRecursion (IsAt moment) (kept_of kept) → AllByRecursion HasOctets kept
    → given ≡ kept → (AreOnTime number given → IsPaired number (drill_start number (moment_of number) draws).setup given)
    → IsPaired number start.setup kept
pairs-of number moment draws start given kept now is moments octets same told =
    let starts : start ≡ drill_start number (moment_of number) draws = is ∙ ap (λ (m : ℕ). drill_start number m draws) now in
    let on : AreOnTime number kept = record {
      moments = subst (λ (m : ℕ). AllByRecursion (IsAt m) (kept_of kept)) now moments;
      octets = octets;
    } in
    let onto : AreOnTime number given = subst (λ (ks : List Kept). AreOnTime number ks) (sym same) on in
    let pair : IsPaired number (drill_start number (moment_of number) draws).setup kept = subst (λ (ks : List Kept). IsPaired number (drill_start number (moment_of number) draws).setup ks) same (told onto) in
    subst (λ (s : StartSays). IsPaired number s.setup kept) (sym starts) pair

-- ---- the names of its outcome

cred-is : (kind : MechKind) → cred_for (drill_credential kind ∷ []) kind ≡ Some (drill_credential kind)
cred-is kinds.Kerberos = refl
cred-is kinds.Scram = refl

pub names-of : (number moment : ℕ) (draws : List ℕ) (start : StartSays) (agreed : Outcome) → start ≡ drill_start number moment draws → IsNamed start.setup (kind_of number) agreed → HasNames (drill_credential (kind_of number)) agreed
names-of number moment draws start agreed begun named =
    named (drill_credential (kind_of number)) (ap (λ (s : StartSays). cred_for s.setup.list (kind_of number)) begun ∙ cred-is (kind_of number))
