-- A creation in a row, token by token.
use Rattle.std.proofs.Common.{◌≡◌, ℕ, zero, suc, ◌+◌, ◌*◌, ◌<◌, ◌≤◌, ◌^◌, Bool, true, false, refl, ap, sym, subst, ◌∙◌, arith, List, [], ◌∷◌, ◌++◌, length, map, Option, Some, None, Ok, append_assoc}
use Rattle.std.specs.Prelude.{◌||◌, is_some}
use Rattle.std.specs.List.{AllByRecursion, flat_map}
use Rattle.rpc_msgs.specs.Records.{Fragments, octets_in, frame, last_fragment, IsRecord}
use Rattle.rpc_msgs.specs.Replies.{reply_octets}
use Rattle.context_table.specs.Places.{live_of}
use Rattle.spnego_core.specs.declared.outcome.Outcome.{Outcome}
use Rattle.spnego_core.specs.declared.setup.AcceptSetup.{AcceptSetup}
use Rattle.spnego_core.specs.declared.accept_end.AcceptEnd.{AcceptEnd}
use Rattle.spnego_core.specs.declared.accept_end.AcceptStep.TheVariants as steps
use Rattle.spnego_core.specs.Ends.{EndSays}
use Rattle.accept_core.specs.declared.entry.Entry.{Entry}
use Rattle.accept_book.specs.Booking.{BookOf, Fits, mark_of, NotesMoment, names_of}
use Rattle.accept_core.specs.Entering.{id_of, entered, noted}
use Rattle.accept_core.specs.Aging.{in_use}
use Rattle.pair_laws.specs.Answering.{Server}
use Rattle.pair_laws.proofs.Settling.{ComesTo}
use Rattle.std.proofs.lemmas.List.{append-nil}
use Rattle.spnego_core.specs.Exchange as exchange
use Rattle.spnego_core.specs.Sizes.{IsShort}
use Rattle.accept_book.specs.RecordShown.{Ruling, handle_of}
use Rattle.accept_book.specs.RecordRule.{record_ruling}
use Rattle.gss_client.specs.declared.terms.Terms.{Terms}
use Rattle.gss_client.specs.Creation.{OfferSays}
use Rattle.gss_client.specs.Calling.{creation_call}
use Rattle.gss_client.specs.Session.{SessionState, xid_after}
use Rattle.gss_client.specs.Talk.{begun, creates}
use Rattle.gss_client.specs.Talking.{Said, said, after}
use Rattle.gss_server.specs.Connections.{framed, octets_of}
use Rattle.pair_laws.specs.Booked.{Booked}
use Rattle.pair_laws.specs.Creation.{around_of, records_of, IsAt, CreatesOn, SameLimits, history_with, is_marked}
use Rattle.pair_laws.specs.HonestCalls.{IsToServer}
use Rattle.pair_laws.specs.Honest.{occasion_of}
use Rattle.pair_laws.specs.Laws.{IsBehind}
use Rattle.pair_laws.specs.Rows.{IsTurn, InRow, AreCuts}
use Rattle.pair_laws.specs.Running.{Turn, sent_in, heard_in, answers_of}
use Rattle.pair_laws.specs.Walking.{IsStamped, Walks}
use Rattle.pair_laws.proofs.Completing.{next-xid}
use Rattle.pair_laws.proofs.Creating.{creates-front, established, continued}
use Rattle.pair_laws.proofs.Granting.{granting, creation-stands, granting-fits, going, creation-goes, going-fits}
use Rattle.pair_laws.proofs.Ruling.{proc_for, handle_for, IsId, creation-fits}
use Rattle.pair_laws.proofs.Readiness.{Ready, marked_after, fits-after, marked-or, fits-done}
use Rattle.pair_laws.proofs.Entries.{first-going, first-settled}
use Rattle.pair_laws.proofs.Rows.{same-front}
use Rattle.gss_base.specs.declared.mark.Mark.{Mark}
use Rattle.gss_base.specs.Mech.{is_kerberos}
use Rattle.accept_core.specs.declared.answer.Next.TheVariants as nexts
use Rattle.accept_core.specs.declared.entry.Entry.TheVariants.{Went, Settled}
use Rattle.pair_laws.proofs.Tokens.{Turns, no-id, turn-opens}

-- ---- turn by turn

-- the occasions of turns, and others behind them
abbrev pub occasions_on : List Turn → List exchange.Occasion → List exchange.Occasion
occasions_on front extra = map occasion_of (answers_of front) ++ extra

-- a creation that is due, from some turn on; behind its turns further tokens may be due
pub record Due (setup : AcceptSetup) (serves : Server) (lasts left : ℕ) (terms : Terms) (first xid : ℕ) (id : Option ℕ) (acceptor : AcceptEnd) (initiator : EndSays) (token : List ℕ) (front : List Turn) (extra : List exchange.Occasion) (back : List Turn) (records : List Fragments) (tail rest stream more : List ℕ) (outcome : Outcome) (count moment : ℕ) (marked : Bool) (old new : BookOf) : Type 0 where
  pub called : IsToServer serves.serving.program terms
  pub some_width : 0 < serves.serving.width
  pub width_fits : serves.serving.width < 2 ^ 32
  pub xids : xid + length front < 2 ^ 32
  pub turns : length (occasions_on front extra) ≤ left
  pub number : count + 1 < 2 ^ 64
  pub is_id : IsId id
  pub few : length token ≤ 65536
  pub own : id_of id old.core.history ≡ count + 1
  pub comes : ComesTo id old.core acceptor
  pub fits : Fits acceptor marked
  pub ready : Ready id count moment marked old.core
  pub unused : in_use old.core.history ≡ []
  pub set : old.setup ≡ setup
  pub log : length old.core.history + 4 * length front ≤ old.core.limit
  pub table : id ≡ None → live_of old.core.table < old.core.table.limit
  pub cache : count < old.core.cache.capacity
  pub completes : exchange.Completes setup (occasions_on front extra) acceptor initiator token outcome
  pub walks : Walks setup moment moment (occasions_on front extra) acceptor initiator token outcome completes
  pub moments : AllByRecursion (IsAt moment) (answers_of front)
  pub row : InRow serves lasts old (front ++ back) new
  pub cuts : AreCuts records (front ++ back)
  pub written : (creates left terms first xid (proc_for id) (record { end = initiator; handle = handle_for id; token = token }) stream).written ++ more ≡ octets_of records ++ tail
  pub heard : stream ≡ flat_map (heard_in serves) (front ++ back) ++ rest

pub record Done (setup : AcceptSetup) (serves : Server) (lasts : ℕ) (id : Option ℕ) (outcome : Outcome) (before : Bool) (part : Said SessionState) (front back : List Turn) (tail more : List ℕ) (count moment : ℕ) (old new : BookOf) : Type 0 where
  pub booked : Booked setup serves (records_of front) (answers_of front) (map around_of front)
  pub wrote : part.written ≡ flat_map sent_in front
  pub created : CreatesOn part outcome
  pub others : List Fragments
  pub cuts : AreCuts others back
  pub later : more ≡ octets_of others ++ tail
  pub middle : BookOf
  pub front_row : InRow serves lasts old front middle
  pub row : InRow serves lasts middle back new
  pub behind : IsBehind (answers_of front) (map around_of front) middle.core
  pub limits : SameLimits old middle
  pub grown : length middle.core.history ≤ length old.core.history + 4 * length front
  pub marks : List (Option Mark)
  pub counted : length marks ≡ length front
  pub names : List ℕ
  -- the end of the context that is settled
  pub lasting : ℕ
  pub stays : moment ≤ lasting
  pub entries : middle.core.history ≡ history_with (count + 1) moment (Settled (count + 1) outcome.mech names lasting moment) (is_some id) marks old.core.history
  pub kerberos : before || is_marked marks ≡ is_kerberos outcome.mech
  pub own : ℕ
  pub marked : Bool
  pub ready : Ready (Some own) count moment marked middle.core
  pub used : in_use middle.core.history ≡ (count + 1) ∷ []

limits-of : (old new : BookOf) (now : ℕ) → NotesMoment old new now → SameLimits old new
limits-of old new now n = record { setup = n.setup; limit = n.limit; width = n.width; contexts = n.contexts; capacity = n.capacity }

limits-on : (old middle new : BookOf) → SameLimits old middle → SameLimits middle new → SameLimits old new
limits-on old middle new a b = record { setup = b.setup ∙ a.setup; limit = b.limit ∙ a.limit; width = b.width ∙ a.width; contexts = b.contexts ∙ a.contexts; capacity = b.capacity ∙ a.capacity }

-- the first record is the call
front-call : (left : ℕ) (terms : Terms) (first xid : ℕ) (id : Option ℕ) (initiator : EndSays) (token : List ℕ) (turn : Turn) (cut : Fragments) (stream more rest : List ℕ) → length token ≤ 65536 → IsRecord cut → octets_in cut ≡ turn.octets
    → (creates (suc left) terms first xid (proc_for id) (record { end = initiator; handle = handle_for id; token = token }) stream).written ++ more ≡ frame cut ++ rest → turn.octets ≡ creation_call terms xid (proc_for id) (handle_for id) token
front-call left terms first xid id initiator token turn cut stream more rest few r same written =
    let offer : OfferSays = record { end = initiator; handle = handle_for id; token = token } in
    let call : List ℕ = creation_call terms xid (proc_for id) (handle_for id) token in
    let f = creates-front left terms first xid (proc_for id) offer stream in
    let s = same-front call (f.more ++ more) cut rest (creation-fits terms xid id token few) r (sym (ap (λ (zs : List ℕ). zs ++ more) f.same ∙ append_assoc (last_fragment call) f.more more) ∙ written) in
    sym (s.call_is ∙ same)

-- and what follows it is what follows the record
behind-front : (call part wrote more rest : List ℕ) (cut : Fragments) → length call ≤ 131072 → IsRecord cut → part ≡ last_fragment call ++ wrote → part ++ more ≡ frame cut ++ rest → wrote ++ more ≡ rest
behind-front call part wrote more rest cut few r e f = (same-front call (wrote ++ more) cut rest few r (sym (ap (λ (zs : List ℕ). zs ++ more) e ∙ append_assoc (last_fragment call) wrote more) ∙ f)).more_is

-- what is heard of a turn, whose record is the call and whose reply is known
heard-reply : (serves : Server) (turn : Turn) (turns : List Turn) (stream call reply rest : List ℕ) → stream ≡ flat_map (heard_in serves) (turn ∷ turns) ++ rest → turn.octets ≡ call → (record_ruling call turn.kept serves.serving).reply ≡ Some reply → stream ≡ last_fragment reply ++ (flat_map (heard_in serves) turns ++ rest)
heard-reply serves turn turns stream call reply rest heard is said_so =
    let behind : List ℕ = flat_map (heard_in serves) turns ++ rest in
    heard ∙ (append_assoc (heard_in serves turn) (flat_map (heard_in serves) turns) rest
    ∙ (ap (λ (o : List ℕ). framed (record_ruling o turn.kept serves.serving).reply ++ behind) is ∙ ap (λ (r : Option (List ℕ)). framed r ++ behind) said_so))

or-false : (b : Bool) → (b || false) ≡ b
or-false true = refl
or-false false = refl

or-more : (a b c : Bool) → (a || (b || c)) ≡ ((a || b) || c)
or-more true b c = refl
or-more false b c = refl

-- the entries of the last token, and of one before it, where no context goes for them
last-entry : (id gone : Option ℕ) (mark : Option Mark) (outcome : Outcome) (lasts moment own : ℕ) (h : List Entry) → id_of id h ≡ own → gone ≡ None
    → entered {N = AcceptEnd} id gone mark (nexts.Settled outcome.mech (names_of outcome) outcome lasts) moment h ≡ history_with own moment (Settled own outcome.mech (names_of outcome) lasts moment) (is_some id) (mark ∷ []) h
last-entry None gone mark outcome lasts moment own h e placed = first-settled gone mark outcome.mech (names_of outcome) outcome lasts moment own h placed e
last-entry (Some id) gone mark outcome lasts moment own h e placed =
    ap (λ (o : Option ℕ). entered {N = AcceptEnd} (Some id) o mark (nexts.Settled outcome.mech (names_of outcome) outcome lasts) moment h) placed
    ∙ ap (λ (n : ℕ). Settled n outcome.mech (names_of outcome) lasts moment ∷ noted mark n moment h) e

more-entry : (id gone : Option ℕ) (mark next : Option Mark) (marks : List (Option Mark)) (end : AcceptEnd) (settled : Entry) (moment own : ℕ) (h : List Entry) → id_of id h ≡ own → gone ≡ None
    → history_with own moment settled true (next ∷ marks) (entered {S = Outcome} id gone mark (nexts.Going end) moment h) ≡ history_with own moment settled (is_some id) (mark ∷ next ∷ marks) h
more-entry None gone mark next marks end settled moment own h e placed = ap (λ (hs : List Entry). history_with own moment settled true (next ∷ marks) hs) (first-going gone mark end moment own h placed e)
more-entry (Some id) gone mark next marks end settled moment own h e placed =
    ap (λ (o : Option ℕ). history_with own moment settled true (next ∷ marks) (entered {S = Outcome} (Some id) o mark (nexts.Going end) moment h)) placed
    ∙ ap (λ (n : ℕ). history_with own moment settled true (next ∷ marks) (Went n moment ∷ noted mark n moment h)) e

-- of a creation that has more tokens
more-entries : (own moment : ℕ) (settled : Entry) (id : Option ℕ) (mark : Option Mark) (marks : List (Option Mark)) (count : ℕ) → length marks ≡ suc count → (here old : List Entry)
    → ((two : Option Mark) (more : List (Option Mark)) → history_with own moment settled true (two ∷ more) here ≡ history_with own moment settled (is_some id) (mark ∷ two ∷ more) old)
    → history_with own moment settled true marks here ≡ history_with own moment settled (is_some id) (mark ∷ marks) old
more-entries own moment settled id mark [] count e here old each = absurd (omega (arith, e))
more-entries own moment settled id mark (two ∷ marks) count e here old each = each two marks

opens-last : (setup : AcceptSetup) (serves : Server) (lasts left : ℕ) (terms : Terms) (first xid : ℕ) (id : Option ℕ) (acceptor : AcceptEnd) (initiator : EndSays) (token : List ℕ) (turn : Turn) (back : List Turn) (cut : Fragments) (records : List Fragments) (tail rest stream more : List ℕ) (outcome : Outcome) (count moment : ℕ) (marked : Bool) (old new : BookOf)
    → Due setup serves lasts (suc left) terms first xid id acceptor initiator token (turn ∷ []) [] back (cut ∷ records) tail rest stream more outcome count moment marked old new
    → Done setup serves lasts id outcome marked (creates (suc left) terms first xid (proc_for id) (record { end = initiator; handle = handle_for id; token = token }) stream) (turn ∷ []) back tail more count moment old new
opens-last setup serves lasts left terms first xid id acceptor initiator token turn back cut records tail rest stream more outcome count moment marked old new d =
    let offer : OfferSays = record { end = initiator; handle = handle_for id; token = token } in
    let call : List ℕ = creation_call terms xid (proc_for id) (handle_for id) token in
    let done : exchange.IsDone setup (occasion_of turn.kept) acceptor initiator token outcome = d.completes in
    let xids : xid < 2 ^ 32 = omega (arith, d.xids) in
    let v : IsTurn serves lasts turn = d.row.1 in
    let before : old ≡ turn.before = sym d.row.0 in
    let room : length old.core.history + 4 * 1 ≤ old.core.limit = d.log in
    let log : length old.core.history + 4 ≤ old.core.limit = omega (arith, room) in
    let written : (creates (suc left) terms first xid (proc_for id) offer stream).written ++ more ≡ frame cut ++ (octets_of records ++ tail) = d.written ∙ append_assoc (frame cut) (octets_of records) tail in
    let is : turn.octets ≡ call = front-call left terms first xid id initiator token turn cut stream more (octets_of records ++ tail) d.few d.cuts.0 d.cuts.1 written in
    let own : ℕ = id_of id turn.before.core.history in
    let o = turn-opens setup terms serves lasts xid id acceptor token count moment marked turn (steps.Done outcome done.lasts done.reply) d.called xids d.is_id d.few v is (subst (λ (b : BookOf). id_of id b.core.history ≡ count + 1) before d.own) (subst (λ (b : BookOf). ComesTo id b.core acceptor) before d.comes) d.fits
    (subst (λ (b : BookOf). Ready id count moment marked b.core) before d.ready) d.moments.0 d.walks.0 d.walks.1 (subst (λ (b : BookOf). b.setup ≡ setup) before d.set) (subst (λ (b : BookOf). length b.core.history + 4 ≤ b.core.limit) before log)
    (subst (λ (b : BookOf). id ≡ None → live_of b.core.table < b.core.table.limit) before d.table) (subst (λ (b : BookOf). in_use b.core.history ≡ []) before d.unused) (subst (λ (b : BookOf). count < b.core.cache.capacity) before d.cache) done.accepts in
    let reply : List ℕ = reply_octets (granting xid outcome own serves.serving.width done.reply) in
    let is_reply : (record_ruling call turn.kept serves.serving).reply ≡ Some reply = ap (λ (r : Ruling). r.reply) o.turned.ruled in
    let behind : List ℕ = flat_map (heard_in serves) back ++ rest in
    let stream_is : stream ≡ last_fragment reply ++ behind = heard-reply serves turn back stream call reply rest d.heard is is_reply in
    let all : creates (suc left) terms first xid (proc_for id) offer stream ≡ said (last_fragment call) (Ok (begun terms first (xid_after xid) outcome (handle_of own))) behind =
    ap (λ (zs : List ℕ). creates (suc left) terms first xid (proc_for id) offer zs) stream_is
    ∙ established left terms first xid (proc_for id) offer reply behind outcome (handle_of own) (granting-fits xid outcome own serves.serving.width done.reply o.turned.size)
    (creation-stands xid initiator outcome own serves.serving.width done.reply xids d.some_width d.width_fits o.turned.size done.initiates) in
    let wrote : (creates (suc left) terms first xid (proc_for id) offer stream).written ≡ last_fragment call = ap (λ (s : Said SessionState). s.written) all in
    let limits : SameLimits turn.before turn.after = limits-of turn.before turn.after turn.kept.now o.notes in
    record {
      booked = (o.booked, tt);
      wrote = wrote ∙ (ap last_fragment (sym is) ∙ sym (append-nil (last_fragment turn.octets)));
      created = record { state = begun terms first (xid_after xid) outcome (handle_of own); answer = ap (λ (s : Said SessionState). s.answer) all; outcome = refl };
      others = records;
      cuts = d.cuts.2;
      later = behind-front call (creates (suc left) terms first xid (proc_for id) offer stream).written [] more (octets_of records ++ tail) cut (creation-fits terms xid id token d.few) d.cuts.0 (wrote ∙ sym (append-nil (last_fragment call))) written;
      middle = turn.after;
      front_row = (d.row.0, v, refl);
      row = d.row.2;
      behind = refl;
      limits = subst (λ (b : BookOf). SameLimits b turn.after) d.row.0 limits;
      grown = subst (λ (b : BookOf). length turn.after.core.history ≤ length b.core.history + 4) d.row.0 o.grown;
      marks = mark_of o.asked ∷ [];
      counted = refl;
      names = names_of outcome;
      lasting = done.lasts;
      stays = d.walks.2;
      entries = subst (λ (b : BookOf). turn.after.core.history ≡ history_with (count + 1) moment (Settled (count + 1) outcome.mech (names_of outcome) done.lasts moment) (is_some id) (mark_of o.asked ∷ []) b.core.history) d.row.0
          (o.entered_so.history
          ∙ last-entry id o.entered_so.gone (mark_of o.asked) outcome done.lasts moment (count + 1) turn.before.core.history (subst (λ (b : BookOf). id_of id b.core.history ≡ count + 1) before d.own) o.placed);
      kerberos = (ap (λ (b : Bool). marked || b) (or-false (is_some (mark_of o.asked))) ∙ sym (marked-or marked o.asked)) ∙ fits-done o.asked marked outcome done.lasts done.reply o.fits o.same;
      own = own;
      marked = marked_after marked o.asked;
      ready = o.ready;
      used = o.used ∙ ap (λ (n : ℕ). n ∷ []) (subst (λ (b : BookOf). id_of id b.core.history ≡ count + 1) before d.own);
    }

-- what a turn leaves due that isn't the last: the client goes on with its next token
pub record Stepped (setup : AcceptSetup) (serves : Server) (lasts left : ℕ) (terms : Terms) (first xid : ℕ) (id : Option ℕ) (acceptor : AcceptEnd) (initiator : EndSays) (token : List ℕ) (turn : Turn) (front : List Turn) (extra : List exchange.Occasion) (back : List Turn) (records : List Fragments) (tail rest stream more : List ℕ) (outcome : Outcome) (count moment : ℕ) (marked : Bool) (new : BookOf) (g : exchange.GoesOn setup (occasion_of turn.kept) acceptor initiator token) : Type 0 where
  pub is : turn.octets ≡ creation_call terms xid (proc_for id) (handle_for id) token
  pub opened : Turns setup terms serves xid id token (id_of id turn.before.core.history) count moment marked turn (steps.More g.acceptor_after g.reply)
  pub behind : List ℕ
  pub goes : creates (suc left) terms first xid (proc_for id) (record { end = initiator; handle = handle_for id; token = token }) stream
      ≡ after (last_fragment (creation_call terms xid (proc_for id) (handle_for id) token)) (creates left terms first (xid + 1) 2 (record { end = g.initiator_after; handle = handle_of (id_of id turn.before.core.history); token = g.further }) behind)
  pub due : Due setup serves lasts left terms first (xid + 1) (Some (id_of id turn.before.core.history)) g.acceptor_after g.initiator_after g.further front extra back records tail rest behind more outcome count moment (marked_after marked opened.asked) turn.after new

pub steps-on : (setup : AcceptSetup) (serves : Server) (lasts left : ℕ) (terms : Terms) (first xid : ℕ) (id : Option ℕ) (acceptor : AcceptEnd) (initiator : EndSays) (token : List ℕ) (turn : Turn) (front : List Turn) (extra : List exchange.Occasion) (back : List Turn) (cut : Fragments) (records : List Fragments) (tail rest stream more : List ℕ) (outcome : Outcome) (count moment : ℕ) (marked : Bool) (old new : BookOf)
    → Due setup serves lasts (suc left) terms first xid id acceptor initiator token (turn ∷ front) extra back (cut ∷ records) tail rest stream more outcome count moment marked old new
    → (g : exchange.GoesOn setup (occasion_of turn.kept) acceptor initiator token) → IsStamped setup moment (occasion_of turn.kept) acceptor token → IsShort g.reply
    → (c : exchange.Completes setup (occasions_on front extra) g.acceptor_after g.initiator_after g.further outcome) → Walks setup moment moment (occasions_on front extra) g.acceptor_after g.initiator_after g.further outcome c
    → Stepped setup serves lasts left terms first xid id acceptor initiator token turn front extra back records tail rest stream more outcome count moment marked new g
steps-on setup serves lasts left terms first xid id acceptor initiator token turn front extra back cut records tail rest stream more outcome count moment marked old new d g stamped short c walks =
    let offer : OfferSays = record { end = initiator; handle = handle_for id; token = token } in
    let call : List ℕ = creation_call terms xid (proc_for id) (handle_for id) token in
    let many : xid + suc (length front) < 2 ^ 32 = d.xids in
    let enough : suc (length (occasions_on front extra)) ≤ suc left = d.turns in
    let xids : xid < 2 ^ 32 = omega (arith, many) in
    let v : IsTurn serves lasts turn = d.row.1 in
    let before : old ≡ turn.before = sym d.row.0 in
    let room : length old.core.history + 4 * suc (length front) ≤ old.core.limit = d.log in
    let log : length old.core.history + 4 ≤ old.core.limit = omega (arith, room) in
    let written : (creates (suc left) terms first xid (proc_for id) offer stream).written ++ more ≡ frame cut ++ (octets_of records ++ tail) = d.written ∙ append_assoc (frame cut) (octets_of records) tail in
    let is : turn.octets ≡ call = front-call left terms first xid id initiator token turn cut stream more (octets_of records ++ tail) d.few d.cuts.0 d.cuts.1 written in
    let own : ℕ = id_of id turn.before.core.history in
    let own_is : own ≡ count + 1 = subst (λ (b : BookOf). id_of id b.core.history ≡ count + 1) before d.own in
    let o = turn-opens setup terms serves lasts xid id acceptor token count moment marked turn (steps.More g.acceptor_after g.reply) d.called xids d.is_id d.few v is own_is (subst (λ (b : BookOf). ComesTo id b.core acceptor) before d.comes) d.fits
    (subst (λ (b : BookOf). Ready id count moment marked b.core) before d.ready) d.moments.0 stamped short (subst (λ (b : BookOf). b.setup ≡ setup) before d.set) (subst (λ (b : BookOf). length b.core.history + 4 ≤ b.core.limit) before log)
    (subst (λ (b : BookOf). id ≡ None → live_of b.core.table < b.core.table.limit) before d.table) (subst (λ (b : BookOf). in_use b.core.history ≡ []) before d.unused) (subst (λ (b : BookOf). count < b.core.cache.capacity) before d.cache) g.accepts in
    let reply : List ℕ = reply_octets (going xid own g.reply) in
    let is_reply : (record_ruling call turn.kept serves.serving).reply ≡ Some reply = ap (λ (r : Ruling). r.reply) o.turned.ruled in
    let behind : List ℕ = flat_map (heard_in serves) (front ++ back) ++ rest in
    let stream_is : stream ≡ last_fragment reply ++ behind = heard-reply serves turn (front ++ back) stream call reply rest d.heard is is_reply in
    let further : OfferSays = record { end = g.initiator_after; handle = handle_of own; token = g.further } in
    let all : creates (suc left) terms first xid (proc_for id) offer stream ≡ after (last_fragment call) (creates left terms first (xid_after xid) 2 further behind) =
    ap (λ (zs : List ℕ). creates (suc left) terms first xid (proc_for id) offer zs) stream_is
    ∙ continued left terms first xid (proc_for id) offer further reply behind (going-fits xid own g.reply o.turned.size) (creation-goes xid initiator g.initiator_after own g.reply g.further xids o.turned.size g.initiates) in
    let xid_is : xid_after xid ≡ xid + 1 = next-xid xid (omega (arith, many)) in
    let part : Said SessionState = creates left terms first (xid + 1) 2 further behind in
    let all_next : creates (suc left) terms first xid (proc_for id) offer stream ≡ after (last_fragment call) part = all ∙ ap (λ (n : ℕ). after (last_fragment call) (creates left terms first n 2 further behind)) xid_is in
    let wrote : (creates (suc left) terms first xid (proc_for id) offer stream).written ≡ last_fragment call ++ part.written = ap (λ (s : Said SessionState). s.written) all_next in
    let whole : part.written ++ more ≡ octets_of records ++ tail =
    behind-front call (creates (suc left) terms first xid (proc_for id) offer stream).written part.written more (octets_of records ++ tail) cut (creation-fits terms xid id token d.few) d.cuts.0 wrote written in
    let limits : SameLimits old turn.after = subst (λ (b : BookOf). SameLimits b turn.after) d.row.0 (limits-of turn.before turn.after turn.kept.now o.notes) in
    let grown : length turn.after.core.history ≤ length old.core.history + 4 = subst (λ (b : BookOf). length turn.after.core.history ≤ length b.core.history + 4) d.row.0 o.grown in
    record {
      is = is;
      opened = o;
      behind = behind;
      goes = all_next;
      due = record {
        called = d.called;
        some_width = d.some_width;
        width_fits = d.width_fits;
        xids = omega (arith, many);
        turns = omega (arith, enough);
        number = d.number;
        is_id = subst (λ (i : ℕ). i < 2 ^ 64) (sym own_is) d.number;
        few = g.short;
        own = own_is;
        comes = o.turned.goes_on g.acceptor_after g.reply refl;
        fits = fits-after o.asked marked g.acceptor_after g.reply o.fits o.same;
        ready = o.ready;
        unused = o.used;
        set = limits.setup ∙ d.set;
        log = omega (arith, room, grown, limits.limit);
        table = λ none. absurd (no-id own none);
        cache = subst (λ (c : ℕ). count < c) (sym limits.capacity) d.cache;
        completes = c;
        walks = walks;
        moments = d.moments.1;
        row = d.row.2;
        cuts = d.cuts.2;
        written = whole;
        heard = refl;
      };
    }

opens-more : (setup : AcceptSetup) (serves : Server) (lasts left : ℕ) (terms : Terms) (first xid : ℕ) (id : Option ℕ) (acceptor : AcceptEnd) (initiator : EndSays) (token : List ℕ) (turn next : Turn) (later back : List Turn) (cut : Fragments) (records : List Fragments) (tail rest stream more : List ℕ) (outcome : Outcome) (count moment : ℕ) (marked : Bool) (old new : BookOf)
    → ((own : ℕ) (acceptor : AcceptEnd) (initiator : EndSays) (token : List ℕ) (stream : List ℕ) (marked : Bool) (old : BookOf) → Due setup serves lasts left terms first (xid + 1) (Some own) acceptor initiator token (next ∷ later) [] back records tail rest stream more outcome count moment marked old new
    → Done setup serves lasts (Some own) outcome marked (creates left terms first (xid + 1) 2 (record { end = initiator; handle = handle_of own; token = token }) stream) (next ∷ later) back tail more count moment old new)
    → Due setup serves lasts (suc left) terms first xid id acceptor initiator token (turn ∷ next ∷ later) [] back (cut ∷ records) tail rest stream more outcome count moment marked old new
    → Done setup serves lasts id outcome marked (creates (suc left) terms first xid (proc_for id) (record { end = initiator; handle = handle_for id; token = token }) stream) (turn ∷ next ∷ later) back tail more count moment old new
opens-more setup serves lasts left terms first xid id acceptor initiator token turn next later back cut records tail rest stream more outcome count moment marked old new ih d =
    let offer : OfferSays = record { end = initiator; handle = handle_for id; token = token } in
    let call : List ℕ = creation_call terms xid (proc_for id) (handle_for id) token in
    let g = d.completes.0 in
    let v : IsTurn serves lasts turn = d.row.1 in
    let own : ℕ = id_of id turn.before.core.history in
    let own_is : own ≡ count + 1 = subst (λ (b : BookOf). id_of id b.core.history ≡ count + 1) (sym d.row.0) d.own in
    let t = steps-on setup serves lasts left terms first xid id acceptor initiator token turn (next ∷ later) [] back cut records tail rest stream more outcome count moment marked old new d g d.walks.0 d.walks.1 d.completes.1 d.walks.2 in
    let o = t.opened in
    let further : OfferSays = record { end = g.initiator_after; handle = handle_of own; token = g.further } in
    let part : Said SessionState = creates left terms first (xid + 1) 2 further t.behind in
    let is : turn.octets ≡ call = t.is in
    let wrote : (creates (suc left) terms first xid (proc_for id) offer stream).written ≡ last_fragment call ++ part.written = ap (λ (s : Said SessionState). s.written) t.goes in
    let limits : SameLimits old turn.after = subst (λ (b : BookOf). SameLimits b turn.after) d.row.0 (limits-of turn.before turn.after turn.kept.now o.notes) in
    let grown : length turn.after.core.history ≤ length old.core.history + 4 = subst (λ (b : BookOf). length turn.after.core.history ≤ length b.core.history + 4) d.row.0 o.grown in
    let r = ih own g.acceptor_after g.initiator_after g.further t.behind (marked_after marked o.asked) turn.after t.due in
    let most : length r.middle.core.history ≤ length turn.after.core.history + 4 * suc (length later) = r.grown in
    record {
      booked = (o.booked, r.booked);
      wrote = wrote ∙ (ap (λ (zs : List ℕ). last_fragment call ++ zs) r.wrote ∙ ap (λ (q : List ℕ). last_fragment q ++ flat_map sent_in (next ∷ later)) (sym is));
      created = record { state = r.created.state; answer = ap (λ (s : Said SessionState). s.answer) t.goes ∙ r.created.answer; outcome = r.created.outcome };
      others = r.others;
      cuts = r.cuts;
      later = r.later;
      middle = r.middle;
      front_row = (d.row.0, v, r.front_row);
      row = r.row;
      behind = r.behind;
      limits = limits-on old turn.after r.middle limits r.limits;
      grown = omega (arith, most, grown);
      marks = mark_of o.asked ∷ r.marks;
      counted = ap suc r.counted;
      names = r.names;
      lasting = r.lasting;
      stays = r.stays;
      entries = r.entries
          ∙ more-entries (count + 1) moment (Settled (count + 1) outcome.mech r.names r.lasting moment) id (mark_of o.asked) r.marks (length later) r.counted turn.after.core.history old.core.history
          (λ two marks. ap (λ (hs : List Entry). history_with (count + 1) moment (Settled (count + 1) outcome.mech r.names r.lasting moment) true (two ∷ marks) hs) o.entered_so.history
          ∙ (more-entry id o.entered_so.gone (mark_of o.asked) two marks g.acceptor_after (Settled (count + 1) outcome.mech r.names r.lasting moment) moment (count + 1) turn.before.core.history own_is o.placed
          ∙ ap (λ (b : BookOf). history_with (count + 1) moment (Settled (count + 1) outcome.mech r.names r.lasting moment) (is_some id) (mark_of o.asked ∷ two ∷ marks) b.core.history) d.row.0));
      kerberos = (or-more marked (is_some (mark_of o.asked)) (is_marked r.marks) ∙ ap (λ (b : Bool). b || is_marked r.marks) (sym (marked-or marked o.asked))) ∙ r.kerberos;
      own = r.own;
      marked = r.marked;
      ready = r.ready;
      used = r.used;
    }

pub opens-on : (setup : AcceptSetup) (serves : Server) (lasts left : ℕ) (terms : Terms) (first xid : ℕ) (id : Option ℕ) (acceptor : AcceptEnd) (initiator : EndSays) (token : List ℕ) (front back : List Turn) (records : List Fragments) (tail rest stream more : List ℕ) (outcome : Outcome) (count moment : ℕ) (marked : Bool) (old new : BookOf)
    → Due setup serves lasts left terms first xid id acceptor initiator token front [] back records tail rest stream more outcome count moment marked old new
    → Done setup serves lasts id outcome marked (creates left terms first xid (proc_for id) (record { end = initiator; handle = handle_for id; token = token }) stream) front back tail more count moment old new
opens-on setup serves lasts left terms first xid id acceptor initiator token [] back records tail rest stream more outcome count moment marked old new d = absurd d.completes
opens-on setup serves lasts zero terms first xid id acceptor initiator token (turn ∷ front) back records tail rest stream more outcome count moment marked old new d = absurd (omega (arith, d.turns))
opens-on setup serves lasts (suc left) terms first xid id acceptor initiator token (turn ∷ front) back [] tail rest stream more outcome count moment marked old new d = absurd d.cuts
opens-on setup serves lasts (suc left) terms first xid id acceptor initiator token (turn ∷ []) back (cut ∷ records) tail rest stream more outcome count moment marked old new d =
    opens-last setup serves lasts left terms first xid id acceptor initiator token turn back cut records tail rest stream more outcome count moment marked old new d
opens-on setup serves lasts (suc left) terms first xid id acceptor initiator token (turn ∷ next ∷ later) back (cut ∷ records) tail rest stream more outcome count moment marked old new d =
    opens-more setup serves lasts left terms first xid id acceptor initiator token turn next later back cut records tail rest stream more outcome count moment marked old new
    (λ own acceptor' initiator' token' stream' marked' old' d'. opens-on setup serves lasts left terms first (xid + 1) (Some own) acceptor' initiator' token' (next ∷ later) back records tail rest stream' more outcome count moment marked' old' new d') d
