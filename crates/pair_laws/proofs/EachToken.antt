-- A creation has as many turns as an honest pair has tokens.
use Rattle.std.proofs.Common.{◌≡◌, ℕ, zero, suc, ◌+◌, ◌*◌, ◌<◌, ◌≤◌, ◌^◌, Bool, true, false, nat_lt, refl, ap, sym, subst, ◌∙◌, arith, List, [], ◌∷◌, ◌++◌, length, map, Option, Some, None, append_assoc}
use Rattle.std.specs.List.{AllByRecursion, flat_map}
use Rattle.std.proofs.lemmas.Bool.Decides.{nat_tests}
use Rattle.std.proofs.lemmas.List.{append-nil}
use Rattle.sec_base.specs.Moment.{greatest_moment}
use Rattle.gss_base.specs.declared.mech.MechKind.{MechKind}
use Rattle.rpc_msgs.specs.Records.{Fragments, last_fragment}
use Rattle.context_table.specs.Places.{live_of}
use Rattle.spnego_core.specs.declared.accept_end.AcceptEnd.{AcceptEnd}
use Rattle.spnego_core.specs.declared.accept_end.AcceptEnd.TheVariants as ends
use Rattle.spnego_core.specs.declared.outcome.Outcome.{Outcome}
use Rattle.spnego_core.specs.declared.setup.AcceptSetup.{AcceptSetup}
use Rattle.spnego_core.specs.Ends.{EndSays}
use Rattle.spnego_core.specs.Exchange.{Occasion, HonestPair}
use Rattle.accept_book.specs.Booking.{BookOf}
use Rattle.accept_core.specs.Entering.{id_of}
use Rattle.accept_book.specs.RecordShown.{KeptAnswers}
use Rattle.gss_client.specs.declared.terms.Terms.{Terms}
use Rattle.gss_client.specs.Start.{StartSays}
use Rattle.gss_client.specs.Creation.{OfferSays}
use Rattle.gss_client.specs.Calling.{creation_call}
use Rattle.gss_client.specs.Rank.{replies_left}
use Rattle.gss_client.specs.Session.{SessionState}
use Rattle.gss_client.specs.Talk.{creates, created_from}
use Rattle.gss_client.specs.Talking.{Said}
use Rattle.gss_server.specs.Connections.{octets_of}
use Rattle.pair_laws.specs.Answering.{Server}
use Rattle.pair_laws.specs.HonestCalls.{IsToServer}
use Rattle.pair_laws.specs.Creation.{IsAt, idle, padded}
use Rattle.pair_laws.specs.Honest.{occasion_of}
use Rattle.pair_laws.specs.Resting.{RestsAt}
use Rattle.pair_laws.specs.Rows.{InRow, AreCuts, IsNoRecord}
use Rattle.pair_laws.specs.Running.{Turn, heard_in, answers_of}
use Rattle.pair_laws.specs.Walking.{Walks, Walked}
use Rattle.pair_laws.proofs.Completing.{tokens-few, opens-four}
use Rattle.pair_laws.proofs.Creating.{creates-front, created-is}
use Rattle.pair_laws.proofs.Opens.{Due, occasions_on, steps-on}
use Rattle.pair_laws.proofs.Readiness.{marked_after, ready-at-rest}
use Rattle.pair_laws.proofs.Resting.{no-slots}
use Rattle.pair_laws.proofs.Rows.{none-first}
use Rattle.pair_laws.proofs.Ruling.{proc_for, handle_for, creation-fits}
use Rattle.pair_laws.proofs.Walks.{walked}

-- turns in a row as those of a creation, of which there are fewer than an honest pair has tokens,
-- and nothing was written behind them but what is no record
pub record IsShortCreation (serves : Server) (lasts : ℕ) (start : StartSays) (kind : MechKind) (count moment : ℕ)
    (tokens : ℕ) (stream more : List ℕ) (old new : BookOf) (front : List Turn)
    (records : List Fragments) (tail rest : List ℕ) : Type 0 where
  pub called : IsToServer serves.serving.program start.terms
  pub rests : RestsAt count moment old.core
  pub some_width : 0 < serves.serving.width
  pub width_fits : serves.serving.width < 2 ^ 32
  pub number : count + 1 < 2 ^ 64
  pub pair : HonestPair old.setup start.setup kind
      (padded moment tokens (map occasion_of (answers_of front)))
  pub known : moment ≤ greatest_moment
  pub stamp : start.setup.stamp ≡ moment
  pub moments : AllByRecursion (IsAt moment) (answers_of front)
  pub row : InRow serves lasts old front new
  pub log : length old.core.history + 4 * length front ≤ old.core.limit
  pub table : 0 < old.core.table.limit
  pub cache : count < old.core.cache.capacity
  pub cuts : AreCuts records front
  pub none : IsNoRecord tail
  pub written : (created_from start stream).written ++ more ≡ octets_of records ++ tail
  pub heard : stream ≡ flat_map (heard_in serves) front ++ rest

-- ---- the occasions

-- where there are more tokens than occasions, idle ones follow
padded-on : (moment tokens : ℕ) (occasions : List Occasion) → length occasions < tokens → (left : ℕ) × (padded moment tokens occasions ≡ occasions ++ idle moment ∷ padded moment left [])
padded-on moment zero occasions h = absurd (omega (arith, h))
padded-on moment (suc tokens) [] h = (tokens, refl)
padded-on moment (suc tokens) (occasion ∷ occasions) h =
    let less : suc (length occasions) < suc tokens = h in
    let p = padded-on moment tokens occasions (omega (arith, less)) in (p.0, ap (λ (os : List Occasion). occasion ∷ os) p.1)

all-padded : (moment tokens : ℕ) (kept : List KeptAnswers) → AllByRecursion (IsAt moment) kept → AllByRecursion (λ occasion. occasion.now ≡ moment) (padded moment tokens (map occasion_of kept))
all-padded moment zero kept a = tt
all-padded moment (suc tokens) [] a = (refl, all-padded moment tokens [] tt)
all-padded moment (suc tokens) (one ∷ more) a = (a.0, all-padded moment tokens more a.1)

occasions-long : (front : List Turn) → length (map occasion_of (answers_of front)) ≡ length front
occasions-long [] = refl
occasions-long (turn ∷ front) = ap suc (occasions-long front)

-- ---- turn by turn

-- once the turns are through, a token that is due is written, and it is none of what is no record
never-due : (setup : AcceptSetup) (serves : Server) (lasts left : ℕ) (terms : Terms) (first xid : ℕ) (id : Option ℕ) (acceptor : AcceptEnd) (initiator : EndSays) (token : List ℕ) (front : List Turn) (next : Occasion) (extra : List Occasion) (records : List Fragments) (tail rest stream more : List ℕ) (outcome : Outcome) (count moment : ℕ) (marked : Bool) (old new : BookOf) → IsNoRecord tail
    → Due setup serves lasts left terms first xid id acceptor initiator token front (next ∷ extra) [] records tail rest stream more outcome count moment marked old new → ⊥
never-due setup serves lasts zero terms first xid id acceptor initiator token [] next extra records tail rest stream more outcome count moment marked old new none d = let few : suc (length extra) ≤ 0 = d.turns in omega (arith, few)
never-due setup serves lasts zero terms first xid id acceptor initiator token (turn ∷ front) next extra records tail rest stream more outcome count moment marked old new none d =
    let few : suc (length (occasions_on front (next ∷ extra))) ≤ 0 = d.turns in omega (arith, few)
never-due setup serves lasts (suc left) terms first xid id acceptor initiator token [] next extra (cut ∷ records) tail rest stream more outcome count moment marked old new none d = absurd d.cuts
never-due setup serves lasts (suc left) terms first xid id acceptor initiator token [] next extra [] tail rest stream more outcome count moment marked old new none d =
    let offer : OfferSays = record { end = initiator; handle = handle_for id; token = token } in
    let call : List ℕ = creation_call terms xid (proc_for id) (handle_for id) token in
    let f = creates-front left terms first xid (proc_for id) offer stream in
    none-first call (f.more ++ more) tail (creation-fits terms xid id token d.few) none (sym (ap (λ (zs : List ℕ). zs ++ more) f.same ∙ append_assoc (last_fragment call) f.more more) ∙ d.written)
never-due setup serves lasts (suc left) terms first xid id acceptor initiator token (turn ∷ front) next extra [] tail rest stream more outcome count moment marked old new none d = absurd d.cuts
never-due setup serves lasts (suc left) terms first xid id acceptor initiator token (turn ∷ []) next extra (cut ∷ records) tail rest stream more outcome count moment marked old new none d =
    let g = d.completes.0 in
    let t = steps-on setup serves lasts left terms first xid id acceptor initiator token turn [] (next ∷ extra) [] cut records tail rest stream more outcome count moment marked old new d g d.walks.0 d.walks.1 d.completes.1 d.walks.2 in
    never-due setup serves lasts left terms first (xid + 1) (Some (id_of id turn.before.core.history)) g.acceptor_after g.initiator_after g.further [] next extra records tail rest t.behind more outcome count moment (marked_after marked t.opened.asked) turn.after new none t.due
never-due setup serves lasts (suc left) terms first xid id acceptor initiator token (turn ∷ two ∷ later) next extra (cut ∷ records) tail rest stream more outcome count moment marked old new none d =
    let g = d.completes.0 in
    let t = steps-on setup serves lasts left terms first xid id acceptor initiator token turn (two ∷ later) (next ∷ extra) [] cut records tail rest stream more outcome count moment marked old new d g d.walks.0 d.walks.1 d.completes.1 d.walks.2 in
    never-due setup serves lasts left terms first (xid + 1) (Some (id_of id turn.before.core.history)) g.acceptor_after g.initiator_after g.further (two ∷ later) next extra records tail rest t.behind more outcome count moment (marked_after marked t.opened.asked) turn.after new none t.due

never-short : (serves : Server) (lasts : ℕ) (start : StartSays) (kind : MechKind) (count moment tokens : ℕ) (stream more : List ℕ) (old new : BookOf) (front : List Turn) (records : List Fragments) (tail rest : List ℕ)
    → IsShortCreation serves lasts start kind count moment tokens stream more old new front records tail rest → length front < tokens → ⊥
never-short serves lasts start kind count moment tokens stream more old new front records tail rest x less =
    let occasions : List Occasion = map occasion_of (answers_of front) in
    let started = x.pair.started in
    let left : ℕ = replies_left started.end in
    let offer : OfferSays = record { end = started.end; handle = []; token = started.token } in
    let is : created_from start stream ≡ creates left start.terms start.first 1 1 offer stream = created-is start started stream x.pair.starts in
    let four : left ≡ 4 = opens-four start.setup started x.pair.starts in
    let long : length occasions ≡ length front = occasions-long front in
    let p = padded-on moment tokens occasions (omega (arith, long, less)) in
    let extra : List Occasion = padded moment p.0 [] in
    let found : Walked old.setup start.setup kind moment (padded moment tokens occasions) started = walked old.setup start.setup kind moment (padded moment tokens occasions) x.pair (all-padded moment tokens (answers_of front) x.moments) x.known in
    let a : Walked old.setup start.setup kind moment (occasions_on front (idle moment ∷ extra)) started = subst (λ (os : List Occasion). Walked old.setup start.setup kind moment os started) p.1 found in
    let all : length (padded moment tokens occasions) ≤ left = omega (arith, x.pair.counted, tokens-few old.setup start.setup kind, four) in
    let turns : length (occasions_on front (idle moment ∷ extra)) ≤ left = subst (λ (os : List Occasion). length os ≤ left) p.1 all in
    let few : length front ≤ 4 = omega (arith, less, long_padded moment tokens occasions, x.pair.counted, tokens-few old.setup start.setup kind) in
    let live = no-slots old.core.table.slots x.rests.empty in
    let places : live_of old.core.table < old.core.table.limit = omega (arith, live, x.table) in
    let same : front ≡ front ++ [] = sym (append-nil front) in
    never-due old.setup serves lasts left start.terms start.first 1 None ends.New started.end started.token front (idle moment) extra records tail rest stream more a.outcome count moment false old new x.none
    (record {
      called = x.called;
      some_width = x.some_width;
      width_fits = x.width_fits;
      xids = omega (arith, few);
      turns = turns;
      number = x.number;
      is_id = tt;
      few = x.pair.short;
      own = ap (λ (n : ℕ). n + 1) x.rests.ids;
      comes = refl;
      fits = refl;
      ready = ready-at-rest count moment old.core x.rests;
      unused = x.rests.unused;
      set = refl;
      log = x.log;
      table = λ none. places;
      cache = x.cache;
      completes = a.completes;
      walks = subst (λ (stamp : ℕ). Walks old.setup stamp moment (occasions_on front (idle moment ∷ extra)) ends.New started.end started.token a.outcome a.completes) x.stamp a.walks;
      moments = x.moments;
      row = subst (λ (ts : List Turn). InRow serves lasts old ts new) same x.row;
      cuts = subst (λ (ts : List Turn). AreCuts records ts) same x.cuts;
      written = sym (ap (λ (s : Said SessionState). s.written ++ more) is) ∙ x.written;
      heard = subst (λ (ts : List Turn). stream ≡ flat_map (heard_in serves) ts ++ rest) same x.heard;
    })
  where
    long_padded : (moment tokens : ℕ) (occasions : List Occasion) → length (padded moment tokens occasions) ≡ tokens
    long_padded moment zero occasions = refl
    long_padded moment (suc tokens) [] = ap suc (long_padded moment tokens [])
    long_padded moment (suc tokens) (occasion ∷ occasions) = ap suc (long_padded moment tokens occasions)

-- there are none such: the client writes each of its tokens
pub each-token : (serves : Server) (lasts : ℕ) (start : StartSays) (kind : MechKind) (count moment tokens : ℕ) (stream more : List ℕ) (old new : BookOf) (front : List Turn) (records : List Fragments) (tail rest : List ℕ)
    → IsShortCreation serves lasts start kind count moment tokens stream more old new front records tail rest → tokens ≤ length front
each-token serves lasts start kind count moment tokens stream more old new front records tail rest x = by-less (nat_lt (length front) tokens) refl
  where
    by-less : (less : Bool) → nat_lt (length front) tokens ≡ less → tokens ≤ length front
    by-less true e =
        let less : length front < tokens = grind (arith, nat_tests) in absurd (never-short serves lasts start kind count moment tokens stream more old new front records tail rest x less)
    by-less false e = grind (arith, nat_tests)
