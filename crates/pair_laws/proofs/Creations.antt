-- A creation in a row is an honest exchange.
use Rattle.std.proofs.Common.{◌≡◌, ℕ, suc, ◌+◌, ◌<◌, ◌≤◌, ◌^◌, false, refl, ap, sym, subst, ◌∙◌, arith, List, [], ◌∷◌, ◌++◌, length, map, None, append_assoc, lit<}
use Rattle.std.specs.List.{AllByRecursion, flat_map}
use Rattle.rpc_msgs.specs.Records.{Fragments, last_fragment}
use Rattle.context_table.specs.Places.{slot_at, live_of}
use Rattle.spnego_core.specs.declared.accept_end.AcceptEnd.TheVariants as ends
use Rattle.accept_book.specs.Booking.{BookOf}
use Rattle.accept_core.specs.History.{opened, standing}
use Rattle.accept_core.specs.Stepping.{context_of}
use Rattle.pair_laws.specs.Answering.{Server}
use Rattle.pair_laws.proofs.Resting.{no-slots}
use Rattle.std.proofs.lemmas.List.{append-nil}
use Rattle.gss_base.specs.declared.mech.MechKind.{MechKind}
use Rattle.gss_client.specs.Start.{StartSays}
use Rattle.gss_client.specs.Creation.{OfferSays}
use Rattle.gss_client.specs.Rank.{replies_left}
use Rattle.gss_client.specs.Session.{SessionState}
use Rattle.gss_client.specs.Talk.{creates, created_from}
use Rattle.gss_client.specs.Talking.{Said}
use Rattle.pair_laws.specs.Booked.{IsLeftAlone, id_in}
use Rattle.pair_laws.specs.Conversing.{replied, IsWithin}
use Rattle.pair_laws.specs.Creation.{around_of, records_of, IsCreation, CreationRuns, CreatesOn, IsAt, history_with}
use Rattle.pair_laws.specs.Honest.{occasion_of}
use Rattle.pair_laws.specs.Rows.{InRow}
use Rattle.pair_laws.specs.Running.{Turn, sent_in, heard_in, answers_of}
use Rattle.pair_laws.proofs.Completing.{tokens-few, opens-four}
use Rattle.pair_laws.proofs.Creating.{created-is}
use Rattle.pair_laws.proofs.Readiness.{ready-at-rest, holds-after}
use Rattle.gss_base.specs.Mech.{is_kerberos}
use Rattle.accept_core.specs.declared.entry.Entry.TheVariants.{Settled}
use Rattle.pair_laws.proofs.Opens.{Due, occasions_on, opens-on}
use Rattle.pair_laws.proofs.Walks.{walked}
use Rattle.pair_laws.specs.Walking.{Walks, Walked}
use Rattle.spnego_core.specs.Exchange.{Occasion}
use Rattle.accept_book.specs.RecordShown.{KeptAnswers}

-- ---- the exchange

row-alone : (serves : Server) (lasts id : ℕ) (front : List Turn) (old middle : BookOf) → InRow serves lasts old front middle → IsLeftAlone id (map around_of front)
row-alone serves lasts id [] old middle r = tt
row-alone serves lasts id (turn ∷ []) old middle r = tt
row-alone serves lasts id (turn ∷ next ∷ later) old middle r =
    (record { context = ap (λ (b : BookOf). context_of (slot_at b.core.table id)) r.2.0; stands = ap (λ (b : BookOf). standing id b.core.history) r.2.0 }, row-alone serves lasts id (next ∷ later) turn.after middle r.2)

row-within : (serves : Server) (lasts : ℕ) (front : List Turn) (old middle : BookOf) → InRow serves lasts old front middle → AllByRecursion IsWithin (records_of front)
row-within serves lasts [] old middle r = tt
row-within serves lasts (turn ∷ front) old middle r = (r.1.within, row-within serves lasts front turn.after middle r.2)

same-count : (front : List Turn) → length (answers_of front) ≡ length (records_of front)
same-count [] = refl
same-count (turn ∷ front) = ap suc (same-count front)

occasions-long : (front : List Turn) → length (map occasion_of (answers_of front)) ≡ length front
occasions-long [] = refl
occasions-long (turn ∷ front) = ap suc (occasions-long front)

pub same-sent : (front : List Turn) → flat_map sent_in front ≡ flat_map last_fragment (records_of front)
same-sent [] = refl
same-sent (turn ∷ front) = ap (λ (zs : List ℕ). last_fragment turn.octets ++ zs) (same-sent front)

same-heard : (serves : Server) (front back : List Turn) (rest : List ℕ) → flat_map (heard_in serves) (front ++ back) ++ rest ≡ replied serves (records_of front) (answers_of front) ++ (flat_map (heard_in serves) back ++ rest)
same-heard serves [] back rest = refl
same-heard serves (turn ∷ front) back rest =
    append_assoc (heard_in serves turn) (flat_map (heard_in serves) (front ++ back)) rest
    ∙ (ap (λ (zs : List ℕ). heard_in serves turn ++ zs) (same-heard serves front back rest)
    ∙ sym (append_assoc (heard_in serves turn) (replied serves (records_of front) (answers_of front)) (flat_map (heard_in serves) back ++ rest)))

first-id : (serves : Server) (lasts count : ℕ) (front : List Turn) (old middle : BookOf) → InRow serves lasts old front middle → opened old.core.history ≡ count → count + 1 < 2 ^ 64 → id_in (map around_of front) < 2 ^ 64
first-id serves lasts count [] old middle r e h = lit< tt
first-id serves lasts count (turn ∷ front) old middle r e h =
    let same : opened turn.before.core.history ≡ count = ap (λ (b : BookOf). opened b.core.history) r.0 ∙ e in subst (λ (n : ℕ). n + 1 < 2 ^ 64) (sym same) h

pub all-at : (moment : ℕ) (kept : List KeptAnswers) → AllByRecursion (IsAt moment) kept → AllByRecursion (λ occasion. occasion.now ≡ moment) (map occasion_of kept)
all-at moment [] a = tt
all-at moment (one ∷ more) a = (a.0, all-at moment more a.1)

pub creation-runs : (serves : Server) (lasts : ℕ) (start : StartSays) (kind : MechKind) (count moment : ℕ) (stream more : List ℕ) (old new : BookOf) (front back : List Turn) (records : List Fragments) (tail rest : List ℕ) → IsCreation serves lasts start kind count moment stream more old new front back records tail rest
    → CreationRuns serves lasts start kind count moment stream more old new front back records tail rest
creation-runs serves lasts start kind count moment stream more old new front back records tail rest x =
    let occasions : List Occasion = map occasion_of (answers_of front) in
    let found : Walked old.setup start.setup kind moment occasions x.pair.started = walked old.setup start.setup kind moment occasions x.pair (all-at moment (answers_of front) x.moments) x.known in
    let a : Walked old.setup start.setup kind moment (occasions_on front []) x.pair.started = subst (λ (os : List Occasion). Walked old.setup start.setup kind moment os x.pair.started) (sym (append-nil occasions)) found in
    let started = x.pair.started in
    let left : ℕ = replies_left started.end in
    let offer : OfferSays = record { end = started.end; handle = []; token = started.token } in
    let is : created_from start stream ≡ creates left start.terms start.first 1 1 offer stream = created-is start started stream x.pair.starts in
    let four : left ≡ 4 = opens-four start.setup started x.pair.starts in
    let few : length front ≤ 4 = omega (arith, occasions-long front, x.pair.counted, tokens-few old.setup start.setup kind) in
    let live = no-slots old.core.table.slots x.rests.empty in
    let places : live_of old.core.table < old.core.table.limit = omega (arith, live, x.table) in
    let turns : length (occasions_on front []) ≤ left = subst (λ (os : List Occasion). length os ≤ left) (sym (append-nil occasions)) (omega (arith, x.pair.counted, tokens-few old.setup start.setup kind, four)) in
    let d : Due old.setup serves lasts left start.terms start.first 1 None ends.New started.end started.token front [] back records tail rest stream more a.outcome count moment false old new = record {
      called = x.called;
      some_width = x.some_width;
      width_fits = x.width_fits;
      xids = omega (arith, few);
      turns = turns;
      number = x.number;
      is_id = tt;
      few = x.pair.short;
      own = ap (λ (n : ℕ). n + 1) x.rests.ids;
      comes = refl;
      fits = refl;
      ready = ready-at-rest count moment old.core x.rests;
      unused = x.rests.unused;
      set = refl;
      log = x.log;
      table = λ none. places;
      cache = x.cache;
      completes = a.completes;
      walks = subst (λ (stamp : ℕ). Walks old.setup stamp moment (occasions_on front []) ends.New started.end started.token a.outcome a.completes) x.stamp a.walks;
      moments = x.moments;
      row = x.row;
      cuts = x.cuts;
      written = sym (ap (λ (s : Said SessionState). s.written ++ more) is) ∙ x.written;
      heard = x.heard;
    } in
    let o = opens-on old.setup serves lasts left start.terms start.first 1 None ends.New started.end started.token front back records tail rest stream more a.outcome count moment false old new d in
    record {
      exchange = record {
        converses = record {
          records = records_of front;
          kept = answers_of front;
          rest = flat_map (heard_in serves) back ++ rest;
          within = row-within serves lasts front old o.middle o.front_row;
          written = ap (λ (s : Said SessionState). s.written) is ∙ (o.wrote ∙ same-sent front);
          counted = same-count front;
          heard = x.heard ∙ same-heard serves front back rest;
        };
        answers = answers_of front;
        later = [];
        kept = sym (append-nil (answers_of front));
        called = x.called;
        some_width = x.some_width;
        width_fits = x.width_fits;
        kind = kind;
        pair = x.pair;
        books = map around_of front;
        booked = o.booked;
        left_alone = row-alone serves lasts (id_in (map around_of front)) front old o.middle o.front_row;
        number = first-id serves lasts count front old o.middle o.front_row x.rests.ids x.number;
      };
      kind_is = refl;
      answers = refl;
      books = refl;
      left = refl;
      records_are = refl;
      others = o.others;
      cuts = o.cuts;
      wrote = o.later;
      middle = o.middle;
      behind = o.behind;
      row = o.row;
      limits = o.limits;
      enters = record {
        marks = o.marks;
        counted = o.counted;
        marked = o.kerberos ∙ ap (λ (k : MechKind). is_kerberos k) a.mech;
        names = o.names;
        lasts = o.lasting;
        is = o.entries ∙ ap (λ (k : MechKind). history_with (count + 1) moment (Settled (count + 1) k o.names o.lasting moment) false o.marks old.core.history) a.mech;
      };
      lasting = o.stays;
      grown = o.grown;
      holds = λ later h. holds-after count moment o.marked o.middle.core o.own o.ready o.used later h;
      unused = o.ready.uncalled (count + 1) (omega arith);
      agreed = a.outcome;
      created = subst (λ (s : Said SessionState). CreatesOn s a.outcome) (sym is) o.created;
      named = a.named;
    }
