-- A whole session over a link that answers by a book at rest is done.
use Rattle.std.proofs.Common.{zero, suc, slice_get, ◌≡◌, ◌⊎◌, inl, inr, ℕ, ◌+◌, ◌*◌, ◌<◌, ◌≤◌, nat_lt, Bool, true, false, refl, ap, sym, subst, ◌∙◌, arith, List, [], ◌++◌, length, length-append, map, replicate, take, drop, Result, Ok, Err, ◌∷◌, Some}
use Rattle.std.specs.List.{AllByRecursion, flat_map}
use Rattle.std.proofs.lemmas.Bool.Decides.{nat_tests}
use Rattle.std.proofs.lemmas.List.{append-nil, length-map, length-replicate, length-take, take-append-drop, take-map, drop-map}
use Rattle.aes_cts.proofs.Restored.{append-IsOctets, replicate-IsOctets}
use Rattle.gss_base.specs.declared.mech.MechKind.{MechKind}
use Rattle.krb_derive.specs.declared.key.Key.{Key}
use Rattle.krb_derive.specs.declared.sealing.SealKeys.{SealKeys}
use Rattle.krb_derive.specs.Kept.{ForSealing}
use Rattle.rpc_msgs.specs.Records.{Fragments}
use Rattle.gss_client.specs.declared.terms.Terms.{Terms}
use Rattle.spnego_core.specs.Exchange.{Occasion, HonestPair}
use Rattle.spnego_core.specs.declared.outcome.Outcome.{Outcome}
use Rattle.accept_book.specs.Booking.{BookOf}
use Rattle.accept_book.specs.Honest.{IsOctets}
use Rattle.accept_book.specs.RecordShown.{KeptAnswers}
use Rattle.accept_core.specs.declared.entry.Entry.{Entry}
use Rattle.gss_client.specs.Conversation.{Talk}
use Rattle.gss_client.specs.Session.{SessionState}
use Rattle.gss_client.specs.Talk.{created_from}
use Rattle.gss_client.specs.Talking.{Said}
use Rattle.gss_client.specs.declared.refusal.ClientRefusal.{ClientRefusal}
use Rattle.gss_client.specs.Start.{StartSays}
use Rattle.gss_server.specs.declared.answer.Kept.{Kept}
use Rattle.gss_client.specs.Conferring.{DueCall, confers, by_opening, talk_of, talk_behind}
use Rattle.rpc_program.specs.Programs.{ProgramSays}
use Rattle.pair_laws.specs.Answering.{Server}
use Rattle.pair_laws.specs.HonestCalls.{IsToServer}
use Rattle.pair_laws.specs.Creation.{IsAt, CreatesOn, IsCreation, Enters, padded}
use Rattle.pair_laws.specs.Honest.{occasion_of}
use Rattle.pair_laws.specs.Linked.{kept_of, IsServed, CreatedLaw, IsLinked, LinkedDone}
use Rattle.pair_laws.specs.Resting.{IsBy}
use Rattle.pair_laws.specs.Rows.{InRow, AreCuts, AreTurns}
use Rattle.pair_laws.specs.Running.{Turn, heard_in, IsProper, answers_of}
use Rattle.pair_laws.specs.Sessions.{ArePlanned}
use Rattle.pair_laws.specs.Whole.{IsSession}
use Rattle.pair_laws.proofs.Creations.{creation-runs}
use Rattle.pair_laws.proofs.EachToken.{each-token}
use Rattle.pair_laws.proofs.Rows.{answered-turns}
use Rattle.pair_laws.proofs.Whole.{whole-done}

-- what follows what was written first
record After (written whole : List ℕ) : Type 0 where
  more : List ℕ
  is : whole ≡ written ++ more

opening-more : (due : List DueCall) (draws written rest : List ℕ) (answer : Result SessionState ClientRefusal) → After written (by_opening due draws written rest answer).written
opening-more due draws written rest (Ok s) = record { more = (confers due s draws rest).written; is = refl }
opening-more due draws written rest (Err refusal) = record { more = []; is = sym (append-nil written) }

talk-more : (due : List DueCall) (start : StartSays) (draws stream : List ℕ) → After (created_from start stream).written (talk_of start due draws stream).written
unfolding talk_behind
talk-more due start draws stream = let made : Said SessionState = created_from start stream in opening-more due draws made.written made.rest made.answer

same-answers : (turns : List Turn) → length (answers_of turns) ≡ length turns
same-answers turns = length-map turns (λ (turn : Turn). turn.kept)

-- ---- the answers

moments-of : (moment : ℕ) (kept : List KeptAnswers) → AllByRecursion (IsAt moment) kept → AllByRecursion (IsBy moment) kept
moments-of moment [] t = tt
moments-of moment (one ∷ more) t = let now : one.now ≡ moment = t.0 in (omega (arith, now), moments-of moment more t.1)

first-all : (moment count : ℕ) (kept : List KeptAnswers) → AllByRecursion (IsAt moment) kept → AllByRecursion (IsAt moment) (take count kept)
first-all moment zero kept t = tt
first-all moment (suc count) [] t = tt
first-all moment (suc count) (one ∷ more) t = (t.0, first-all moment count more t.1)

last-all : (moment count : ℕ) (kept : List KeptAnswers) → AllByRecursion (IsAt moment) kept → AllByRecursion (IsAt moment) (drop count kept)
last-all moment zero kept t = t
last-all moment (suc count) [] t = tt
last-all moment (suc count) (one ∷ more) t = last-all moment count more t.1

-- where there are enough occasions, none of them is idle
none-idle : (moment count : ℕ) (occasions : List Occasion) → count ≤ length occasions → padded moment count occasions ≡ take count occasions
none-idle moment zero occasions h = refl
none-idle moment (suc count) [] h = absurd (omega (arith, h))
none-idle moment (suc count) (occasion ∷ occasions) h = ap (λ (more : List Occasion). occasion ∷ more) (none-idle moment count occasions (omega (arith, h)))

enough-or-short : (tokens turns : ℕ) → (tokens ≤ turns) ⊎ (turns < tokens)
enough-or-short tokens turns = by-less (nat_lt turns tokens) refl
  where
    by-less : (less : Bool) → nat_lt turns tokens ≡ less → (tokens ≤ turns) ⊎ (turns < tokens)
    by-less true e = inr (grind (arith, nat_tests))
    by-less false e = inl (grind (arith, nat_tests))

-- all of them by each
pub each-drawn : (answers : List Kept) → ((i : ℕ) (kept : Kept) → slice_get answers i ≡ Some kept → IsOctets kept.draws) → AllByRecursion (λ one. IsOctets one.draws) answers
each-drawn [] h = tt
each-drawn (one ∷ answers) h = (h zero one refl, each-drawn answers (λ i kept e. h (suc i) kept e))

-- ---- the session

-- calls with the octets that were drawn for them and others behind, so that there are enough
pub planned-on : (program : ProgramSays) (terms : Terms) (first : ℕ) (due : List DueCall) (drawn : List ℕ) → IsToServer program terms → first ≤ 0x80000000 → AllByRecursion (IsProper program terms) due → IsOctets drawn → ArePlanned program terms first due (drawn ++ replicate (16 * length due) 0)
planned-on program terms first due drawn called fits each octets = record {
  called = called;
  first_fits = fits;
  each = each;
  octets = append-IsOctets drawn (replicate (16 * length due) 0) octets (replicate-IsOctets (16 * length due));
  enough = omega (arith, length-append drawn (replicate (16 * length due) 0), length-replicate {A = ℕ} (16 * length due) 0);
}

-- the entries of a creation, by equal counts of tokens
entered-as : (id moment : ℕ) (kind : MechKind) (tokens other : ℕ) (old new : List Entry) → tokens ≡ other → (e : Enters id moment kind tokens old new) → (f : Enters id moment kind other old new) × (f.names ≡ e.names)
entered-as id moment kind tokens other old new same e = (record { marks = e.marks; counted = e.counted ∙ same; marked = e.marked; names = e.names; lasts = e.lasts; is = e.is }, refl)

-- ---- the creation

-- the turns of a link, cut where the creation ends
record IsCreatedBy (serves : Server) (lasts tokens : ℕ) (start : StartSays) (kind : MechKind) (count moment : ℕ) (due : List DueCall) (draws stream : List ℕ) (old new : BookOf) (records : List Fragments) (answers : List Kept) (tail : List ℕ) : Type 0 where
  more : List ℕ
  is : (talk_of start due draws stream).written ≡ (created_from start stream).written ++ more
  front : List Turn
  back : List Turn
  counted : length front ≡ tokens
  creation : IsCreation serves lasts start kind count moment stream more old new front back records tail []
  moments : AllByRecursion (IsBy moment) (answers_of back)

-- there are as many turns as tokens, for the client writes each of its tokens
as-many : (serves : Server) (lasts tokens : ℕ) (start : StartSays) (kind : MechKind) (count moment : ℕ) (due : List DueCall) (draws stream : List ℕ) (old new : BookOf) (records : List Fragments) (answers : List Kept) (tail : List ℕ)
    → IsServed serves lasts tokens start kind count moment due draws stream old new records answers tail → (a : AreTurns serves lasts records answers old new) → tokens ≤ length a.turns
as-many serves lasts tokens start kind count moment due draws stream old new records answers tail x a = by-count (enough-or-short tokens (length a.turns))
  where
    by-count : (tokens ≤ length a.turns) ⊎ (length a.turns < tokens) → tokens ≤ length a.turns
    by-count (inl enough) = enough
    by-count (inr short) =
        let w = talk-more due start draws stream in
        let room : length old.core.history + 4 * tokens + length due < old.core.limit = x.log in
        each-token serves lasts start kind count moment tokens stream w.more old new a.turns records tail [] (record {
          called = x.planned.called;
          rests = x.rests;
          some_width = x.some_width;
          width_fits = x.width_fits;
          number = x.number;
          pair = subst (λ (ks : List KeptAnswers). HonestPair old.setup start.setup kind (padded moment tokens (map occasion_of ks))) (sym a.kept) x.pair;
          known = x.known;
          stamp = x.stamp;
          moments = subst (λ (ks : List KeptAnswers). AllByRecursion (IsAt moment) ks) (sym a.kept) x.moments;
          row = a.row;
          log = omega (arith, short, room);
          table = x.table;
          cache = x.cache;
          cuts = a.cuts;
          none = x.none;
          written = sym w.is ∙ x.written;
          heard = x.heard ∙ (sym a.replies ∙ sym (append-nil (flat_map (heard_in serves) a.turns)));
        })

served-creates : (serves : Server) (lasts tokens : ℕ) (start : StartSays) (kind : MechKind) (count moment : ℕ) (due : List DueCall) (draws stream : List ℕ) (old new : BookOf) (records : List Fragments) (answers : List Kept) (tail : List ℕ)
    → IsServed serves lasts tokens start kind count moment due draws stream old new records answers tail → IsCreatedBy serves lasts tokens start kind count moment due draws stream old new records answers tail
served-creates serves lasts tokens start kind count moment due draws stream old new records answers tail x =
    let a = answered-turns serves lasts records answers old new x.answered in
    let front : List Turn = take tokens a.turns in
    let back : List Turn = drop tokens a.turns in
    let all : a.turns ≡ front ++ back = sym (take-append-drop tokens a.turns) in
    let enough : tokens ≤ length a.turns = as-many serves lasts tokens start kind count moment due draws stream old new records answers tail x a in
    let kept_first : take tokens (kept_of answers) ≡ answers_of front = ap (λ (ks : List KeptAnswers). take tokens ks) (sym a.kept) ∙ take-map (λ (turn : Turn). turn.kept) tokens a.turns in
    let kept_last : drop tokens (kept_of answers) ≡ answers_of back = ap (λ (ks : List KeptAnswers). drop tokens ks) (sym a.kept) ∙ drop-map (λ (turn : Turn). turn.kept) tokens a.turns in
    let counted : length front ≡ tokens = omega (arith, length-take tokens a.turns, enough) in
    let many : length (map occasion_of (kept_of answers)) ≡ length a.turns =
    length-map (kept_of answers) occasion_of ∙ (ap (λ (ks : List KeptAnswers). length ks) (sym a.kept) ∙ same-answers a.turns) in
    let occasions : padded moment tokens (map occasion_of (kept_of answers)) ≡ map occasion_of (answers_of front) =
    none-idle moment tokens (map occasion_of (kept_of answers)) (omega (arith, many, enough)) ∙ (take-map occasion_of tokens (kept_of answers) ∙ ap (λ (ks : List KeptAnswers). map occasion_of ks) kept_first) in
    let w = talk-more due start draws stream in
    let room : length old.core.history + 4 * tokens + length due < old.core.limit = x.log in record {
      more = w.more;
      is = w.is;
      front = front;
      back = back;
      counted = counted;
      creation = record {
        called = x.planned.called;
        rests = x.rests;
        some_width = x.some_width;
        width_fits = x.width_fits;
        number = x.number;
        pair = subst (λ (os : List Occasion). HonestPair old.setup start.setup kind os) occasions x.pair;
        known = x.known;
        stamp = x.stamp;
        moments = subst (λ (ks : List KeptAnswers). AllByRecursion (IsAt moment) ks) kept_first (first-all moment tokens (kept_of answers) x.moments);
        row = subst (λ (ts : List Turn). InRow serves lasts old ts new) all a.row;
        log = omega (arith, counted, room);
        table = x.table;
        cache = x.cache;
        cuts = subst (λ (ts : List Turn). AreCuts records ts) all a.cuts;
        written = sym w.is ∙ x.written;
        heard = x.heard ∙ (sym a.replies ∙ (ap (λ (ts : List Turn). flat_map (heard_in serves) ts) all ∙ sym (append-nil (flat_map (heard_in serves) (front ++ back)))));
      };
      moments = subst (λ (ks : List KeptAnswers). AllByRecursion (IsBy moment) ks) kept_last (moments-of moment (drop tokens (kept_of answers)) (last-all moment tokens (kept_of answers) x.moments));
    }

-- ---- what comes of it

-- a talk behind a creation that came to a session tells its outcome
told-on : (due : List DueCall) (start : StartSays) (draws stream : List ℕ) (agreed : Outcome) → CreatesOn (created_from start stream) agreed → (talk_of start due draws stream).outcome ≡ Some agreed
unfolding talk_behind
told-on due start draws stream agreed c =
    let made : Said SessionState = created_from start stream in
    ap (λ (answer : Result SessionState ClientRefusal). (by_opening due draws made.written made.rest answer).outcome) c.answer ∙ ap (λ (o : Outcome). Some o) c.outcome

pub created-law : CreatedLaw
created-law serves lasts tokens start kind count moment due draws stream old new records answers tail x =
    let s = served-creates serves lasts tokens start kind count moment due draws stream old new records answers tail x in
    let r = creation-runs serves lasts start kind count moment stream s.more old new s.front s.back records tail [] s.creation in
    (r.agreed, told-on due start draws stream r.agreed r.created)

pub linked-done : (keys keys' : SealKeys) (key : Key) → ForSealing keys key 22 → ForSealing keys' key 24 → (serves : Server) (lasts tokens : ℕ) (start : StartSays) (kind : MechKind) (count moment : ℕ) (due : List DueCall) (draws stream : List ℕ) (old new : BookOf) (records : List Fragments) (answers : List Kept) (tail : List ℕ) (outcome : Outcome)
    → IsLinked key serves lasts tokens start kind count moment due draws stream old new records answers tail outcome → LinkedDone serves tokens start kind count moment due draws stream old new outcome
linked-done keys keys' key for for' serves lasts tokens start kind count moment due draws stream old new records answers tail outcome x =
    let v = x.served in
    let c = served-creates serves lasts tokens start kind count moment due draws stream old new records answers tail v in
    let room : length old.core.history + 4 * tokens + length due < old.core.limit = v.log in
    let s : IsSession key serves lasts start kind count moment due draws stream old new c.front c.back [] outcome = record {
      more = c.more;
      records = records;
      tail = tail;
      creation = c.creation;
      none = v.none;
      written = c.is;
      wide = v.wide;
      log = omega (arith, c.counted, room);
      some = v.some;
      planned = v.planned;
      moments = c.moments;
      told = x.told;
      key_is = x.key_is;
      succeed = x.succeed;
    } in
    let d = whole-done keys keys' key for for' serves lasts start kind count moment due draws stream old new c.front c.back [] outcome s in
    let grown : length new.core.history ≤ length old.core.history + 4 * length c.front + length due + 1 = d.grown in
    let e = entered-as (count + 1) moment kind (length c.front) tokens old.core.history d.opened c.counted d.enters in
    record {
      mech = d.mech;
      named = d.named;
      results_are = ap (λ (t : Talk). t.results) d.session;
      parts = ap (λ (t : Talk). t.parting) d.session;
      undrawn_is = ap (λ (t : Talk). t.undrawn) d.session;
      left = ap (λ (t : Talk). t.rest) d.session;
      opened = d.opened;
      enters = e.0;
      names = e.1 ∙ d.names;
      history = d.history;
      grown = omega (arith, grown, c.counted);
      limits = d.limits;
      rests = d.rests;
    }
