-- Records that were answered one after the other are turns in a row, and a session in a row is served.
use Rattle.std.proofs.Common.{◌≡◌, ◌⊎◌, inl, inr, ℕ, suc, ◌+◌, ◌<◌, ◌≤◌, refl, ap, sym, subst, ◌∙◌, arith, lit<, List, [], ◌∷◌, ◌++◌, length, take, append_assoc}
use Rattle.std.specs.List.{AllByRecursion, flat_map}
use Rattle.sha1.specs.Sha1.{sha1}
use Rattle.accept_core.specs.declared.entry.Entry.TheVariants.{Call}
use Rattle.rpc_msgs.specs.Records.{Fragments, octets_in, frame, last_fragment, IsRecord, IsFront, IsTooLong, IsTooMany}
use Rattle.rpc_msgs.specs.Reading.{First, nothing, short, long, many, whole, first_record}
use Rattle.rpc_msgs.proofs.Readings.{first-none, of-frame, of-too-long, of-too-many, of-torn}
use Rattle.krb_derive.specs.declared.sealing.SealKeys.{SealKeys}
use Rattle.krb_derive.specs.Kept.{ForSealing}
use Rattle.context_table.specs.Places.{slot_at}
use Rattle.spnego_core.specs.declared.accept_end.AcceptEnd.{AcceptEnd}
use Rattle.spnego_core.specs.declared.outcome.Outcome.{Outcome}
use Rattle.accept_book.specs.Booking.{BookOf, NotesMoment}
use Rattle.accept_core.specs.History.{standing, numbers}
use Rattle.accept_book.specs.RecordShown.{KeptAnswers, Asked}
use Rattle.accept_core.specs.Replays.{Accepting}
use Rattle.accept_book.specs.declared.book_answer.Lease.{Lease}
use Rattle.accept_core.specs.declared.entry.Entry.{Entry}
use Rattle.accept_book.specs.declared.book_answer.Admitted.{Admitted}
use Rattle.gss_client.specs.declared.terms.Terms.{Terms}
use Rattle.gss_server.specs.Asking.{Asking}
use Rattle.gss_server.specs.Connections.{octets_of, written_for, asked_for, asked_in}
use Rattle.gss_server.specs.Hearing.{kept_answers}
use Rattle.gss_server.specs.declared.answer.Kept.{Kept}
use Rattle.gss_client.specs.Conferring.{DueCall}
use Rattle.pair_laws.specs.Answering.{Server, AnswersBy}
use Rattle.pair_laws.specs.Conversing.{IsWithin}
use Rattle.pair_laws.specs.Running.{Turn, sent_in, results_in, IsServed}
use Rattle.pair_laws.specs.Rows.{IsTurn, InRow, AreAnswered, AreCuts, AreTurns, IsCutAt, IsNoRecord, IsRow, history_after, greatest_after, results_by, RowLeaves, RowRuns}
use Rattle.pair_laws.proofs.Sessions.{Wording, WereTurns, run-all}

-- ---- a chain of questions, cut

record Cut (serves : Server) (old : BookOf) (front back : List (Asked Admitted)) (new : BookOf) : Type 0 where
  middle : BookOf
  before : Asking (AnswersBy serves) old front middle
  behind : Asking (AnswersBy serves) middle back new

asking-cut : (serves : Server) (front back : List (Asked Admitted)) (old new : BookOf) → Asking (AnswersBy serves) old (front ++ back) new → Cut serves old front back new
asking-cut serves [] back old new a = record { middle = old; before = refl; behind = a }
asking-cut serves (one ∷ front) back old new a =
    let c = asking-cut serves front back a.0 new a.2 in
    record { middle = c.middle; before = (a.0, a.1, c.before); behind = c.behind }

pub row-cut : (serves : Server) (lasts : ℕ) (old : BookOf) (front back : List Turn) (new : BookOf) → InRow serves lasts old (front ++ back) new → IsCutAt serves lasts old front back new
row-cut serves lasts old [] back new r = record { middle = old; before = refl; behind = r }
row-cut serves lasts old (turn ∷ front) back new r =
    let c = row-cut serves lasts turn.after front back new r.2 in
    record { middle = c.middle; before = (r.0, r.1, c.before); behind = c.behind }

-- ---- records that were answered

pub answered-turns : (serves : Server) (lasts : ℕ) (records : List Fragments) (answers : List Kept) (old new : BookOf) → AreAnswered serves lasts records answers old new → AreTurns serves lasts records answers old new
answered-turns serves lasts [] [] old new a = record { turns = []; row = a.asked; cuts = tt; kept = refl; replies = refl }
answered-turns serves lasts [] (one ∷ answers) old new a = absurd (omega (arith, a.counted))
answered-turns serves lasts (cut ∷ records) [] old new a = absurd (omega (arith, a.counted))
answered-turns serves lasts (cut ∷ records) (one ∷ answers) old new a =
    let c = asking-cut serves (asked_for serves.serving (octets_in cut) one) (asked_in serves.serving records answers) old new a.asked in
    let counted : suc (length records) ≡ suc (length answers) = a.counted in
    let r = answered-turns serves lasts records answers c.middle new (record { each = a.each.1; counted = omega (arith, counted); exact = a.exact.1; decided = a.decided.1; asked = c.behind; kept = a.kept.1 }) in
    let turn : Turn = record { octets = octets_in cut; kept = kept_answers one; before = old; after = c.middle } in
    let is : IsTurn serves lasts turn = record { within = a.each.0.size; decided = a.decided.0.0; asked = c.before; lasting = a.kept.0.lasting; drawn = a.exact.0.1; octets = a.kept.0.octets } in
    record {
      turns = turn ∷ r.turns;
      row = (refl, is, r.row);
      cuts = (a.each.0, refl, r.cuts);
      kept = ap (λ (ks : List KeptAnswers). kept_answers one ∷ ks) r.kept;
      replies = ap (λ (os : List ℕ). written_for serves.serving (octets_in cut) one ++ os) r.replies;
    }

-- ---- a stream of calls

first-call : (call more : List ℕ) → IsWithin call → first_record (last_fragment call ++ more) ≡ whole call more
first-call call more few = let cut : Fragments = record { earlier = []; last = call } in of-frame cut more (record { few = lit< tt; size = few })

-- what is no record is none of these
record IsNone (first : First) : Type 0 where
  never : (octets more : List ℕ) → first ≡ whole octets more → ⊥

nothing-whole : (octets more : List ℕ) → nothing ≡ whole octets more → ⊥
nothing-whole octets more e = cc

short-whole : (octets more : List ℕ) → short ≡ whole octets more → ⊥
short-whole octets more e = cc

long-whole : (octets more : List ℕ) → long ≡ whole octets more → ⊥
long-whole octets more e = cc

many-whole : (octets more : List ℕ) → many ≡ whole octets more → ⊥
many-whole octets more e = cc

-- nothing is at the front of no octets
none-at : IsNone (first_record [])
none-at = subst (λ (x : First). IsNone x) (sym first-none) (record { never = nothing-whole })

by-front : (rest : List ℕ) → IsFront rest → IsNone (first_record rest)
by-front [] f = none-at
by-front (octet ∷ octets) f = subst (λ (x : First). IsNone x) (sym (of-torn (octet ∷ octets) (record { front = f; some = omega arith }))) (record { never = short-whole })

by-rest : (rest : List ℕ) → IsNoRecord rest → IsNone (first_record rest)
by-rest rest (inl front) = by-front rest front
by-rest rest (inr unfit) = by-kind unfit.2
  where
    by-kind : IsTooLong unfit.0 ⊎ IsTooMany unfit.0 → IsNone (first_record rest)
    by-kind (inl long_one) = subst (λ (x : First). IsNone x) (sym (ap first_record unfit.3 ∙ of-too-long unfit.0 unfit.1 long_one)) (record { never = long-whole })
    by-kind (inr many_one) = subst (λ (x : First). IsNone x) (sym (ap first_record unfit.3 ∙ of-too-many unfit.0 unfit.1 many_one)) (record { never = many-whole })

same-first : (call more octets rest : List ℕ) → whole call more ≡ whole octets rest → call ≡ octets
same-first call more octets rest e = cc

same-more : (call more octets rest : List ℕ) → whole call more ≡ whole octets rest → more ≡ rest
same-more call more octets rest e = cc

-- what is no record doesn't begin with a call
pub none-first : (call more rest : List ℕ) → IsWithin call → IsNoRecord rest → last_fragment call ++ more ≡ rest → ⊥
none-first call more rest few none e = (by-rest rest none).never call more (ap first_record (sym e) ∙ first-call call more few)

-- a call in front of a stream is the first record, whatever cuts that has, and what follows is the same
pub record SameFront (call more : List ℕ) (cut : Fragments) (rest : List ℕ) : Type 0 where
  pub call_is : call ≡ octets_in cut
  pub more_is : more ≡ rest

pub same-front : (call more : List ℕ) (cut : Fragments) (rest : List ℕ) → length call ≤ 131072 → IsRecord cut → last_fragment call ++ more ≡ frame cut ++ rest → SameFront call more cut rest
same-front call more cut rest few r e =
    let same : whole call more ≡ whole (octets_in cut) rest = sym (first-call call more few) ∙ (ap first_record e ∙ of-frame cut rest r) in
    record { call_is = same-first call more (octets_in cut) rest same; more_is = same-more call more (octets_in cut) rest same }

pub reads : (calls : List (List ℕ)) (records : List Fragments) (turns : List Turn) (rest : List ℕ) → AllByRecursion IsWithin calls → AreCuts records turns → IsNoRecord rest → flat_map last_fragment calls ≡ octets_of records ++ rest → flat_map last_fragment calls ≡ flat_map sent_in turns
reads [] [] [] rest few cuts none e = refl
reads [] (cut ∷ records) (turn ∷ turns) rest few cuts none e =
    absurd (none-at.never (octets_in cut) (octets_of records ++ rest) (ap first_record (e ∙ append_assoc (frame cut) (octets_of records) rest) ∙ of-frame cut (octets_of records ++ rest) cuts.0))
reads (call ∷ calls) [] [] rest few cuts none e =
    absurd (none-first call (flat_map last_fragment calls) rest few.0 none e)
reads (call ∷ calls) (cut ∷ records) (turn ∷ turns) rest few cuts none e =
    let s = same-front call (flat_map last_fragment calls) cut (octets_of records ++ rest) few.0 cuts.0 (e ∙ append_assoc (frame cut) (octets_of records) rest) in
    let later : flat_map last_fragment calls ≡ flat_map sent_in turns = reads calls records turns rest few.1 cuts.2 none s.more_is in
    ap (λ (o : List ℕ). last_fragment o ++ flat_map last_fragment calls) (s.call_is ∙ cuts.1) ∙ ap (λ (zs : List ℕ). last_fragment turn.octets ++ zs) later
reads calls [] (turn ∷ turns) rest few cuts none e = absurd cuts
reads calls (cut ∷ records) [] rest few cuts none e = absurd cuts

-- ---- a session in a row

-- the turns are a row from a book whose log has a place for each call that is left, and for the end
record RowFrom (serves : Server) (lasts : ℕ) (new : BookOf) (left : ℕ) (core : Accepting AcceptEnd Outcome) (turns : List Turn) : Type 0 where
  book : BookOf
  is : book.core ≡ core
  row : InRow serves lasts book turns new
  room : length book.core.history + left < book.core.limit
  wide : 0 < book.core.width

row-served : (serves : Server) (lease : Lease) (new : BookOf) (left : ℕ) (core : Accepting AcceptEnd Outcome) (turn : Turn) (turns : List Turn) → RowFrom serves lease.ends new left core (turn ∷ turns) → IsServed serves lease core turn
row-served serves lease new left core turn turns w =
    let t : IsTurn serves lease.ends turn = w.row.1 in
    let same : turn.before.core ≡ core = ap (λ (b : BookOf). b.core) w.row.0 ∙ w.is in
    let room : length w.book.core.history < w.book.core.limit = omega (arith, w.room) in
    record {
      within = t.within;
      untouched = record {
        stands = ap (λ (c : Accepting AcceptEnd Outcome). standing lease.id c.history) same;
        called = ap (λ (c : Accepting AcceptEnd Outcome). numbers lease.id c.history) same;
        slot = ap (λ (c : Accepting AcceptEnd Outcome). slot_at c.table lease.id) same;
      };
      wide = subst (λ (b : BookOf). 0 < b.core.width) (sym w.row.0) w.wide;
      answered = record { decided = t.decided; asked = t.asked; lasting = t.lasting; room = subst (λ (b : BookOf). length b.core.history < b.core.limit) (sym w.row.0) room };
      drawn = t.drawn;
      octets = t.octets;
    }

row-later : (serves : Server) (lease : Lease) (new : BookOf) (left : ℕ) (core : Accepting AcceptEnd Outcome) (turn : Turn) (turns : List Turn) → RowFrom serves lease.ends new (suc left) core (turn ∷ turns) → (entry : Entry) → turn.after.core.history ≡ entry ∷ turn.before.core.history → NotesMoment turn.before turn.after turn.kept.now
    → RowFrom serves lease.ends new left turn.after.core turns
row-later serves lease new left core turn turns w entry history notes =
    let before : length turn.before.core.history + suc left < turn.before.core.limit = subst (λ (b : BookOf). length b.core.history + suc left < b.core.limit) (sym w.row.0) w.room in
    let grown : length turn.after.core.history ≡ suc (length turn.before.core.history) = ap (λ (hs : List Entry). length hs) history in
    let wide : 0 < turn.before.core.width = subst (λ (b : BookOf). 0 < b.core.width) (sym w.row.0) w.wide in
    record {
      book = turn.after;
      is = refl;
      row = w.row.2;
      room = omega (arith, before, grown, notes.limit);
      wide = omega (arith, wide, notes.width);
    }

by-row : (serves : Server) (lease : Lease) (new : BookOf) → Wording serves lease (RowFrom serves lease.ends new)
by-row serves lease new = record { served = row-served serves lease new; later = row-later serves lease new }

-- what the turns leave
last-leaves : (serves : Server) (lease : Lease) (number : ℕ) (turn : Turn) → WereTurns serves lease [] number (turn ∷ []) → RowLeaves lease.id number [] (turn ∷ []) turn.before turn.after
last-leaves serves lease number turn e = record {
  history = e.history;
  gone = e.gone;
  others = e.others;
  setup = e.notes.setup;
  limit = e.notes.limit;
  width = e.notes.width;
  capacity = e.notes.capacity;
  greatest = e.notes.greatest;
}

leaves-on : (serves : Server) (lasts : ℕ) (lease : Lease) (due : List DueCall) (number : ℕ) (turns : List Turn) (old new : BookOf) → InRow serves lasts old turns new → WereTurns serves lease due number turns → RowLeaves lease.id number due turns old new
leaves-on serves lasts lease [] number [] old new r w = absurd w
leaves-on serves lasts lease [] number (turn ∷ []) old new r w =
    subst (λ (b : BookOf). RowLeaves lease.id number [] (turn ∷ []) b new) r.0 (subst (λ (b : BookOf). RowLeaves lease.id number [] (turn ∷ []) turn.before b) (sym r.2) (last-leaves serves lease number turn w))
leaves-on serves lasts lease [] number (turn ∷ next ∷ turns) old new r w = absurd w
leaves-on serves lasts lease (call ∷ later) number [] old new r w = absurd w
leaves-on serves lasts lease (call ∷ later) number (turn ∷ turns) old new r w =
    let t = w.0 in
    let l = leaves-on serves lasts lease later (number + 1) turns turn.after new r.2 w.1 in
    let all : RowLeaves lease.id number (call ∷ later) (turn ∷ turns) turn.before new = record {
      history = l.history ∙ ap (λ (hs : List Entry). history_after lease.id (number + 1) later hs) t.history;
      gone = l.gone;
      others = record {
        others = λ other apart. l.others.others other apart ∙ t.others.others other apart;
        limit = l.others.limit ∙ t.others.limit;
        width = l.others.width ∙ t.others.width;
      };
      setup = l.setup ∙ t.notes.setup;
      limit = l.limit ∙ t.notes.limit;
      width = l.width ∙ t.notes.width;
      capacity = l.capacity ∙ t.notes.capacity;
      greatest = l.greatest ∙ ap (λ (g : ℕ). greatest_after turns g) t.notes.greatest;
    } in
    subst (λ (b : BookOf). RowLeaves lease.id number (call ∷ later) (turn ∷ turns) b new) r.0 all

-- nobody else asks the book anything meanwhile
results-on : (serves : Server) (lasts : ℕ) (lease : Lease) (name : List ℕ) (due : List DueCall) (number : ℕ) (turns : List Turn) (old new : BookOf) → InRow serves lasts old turns new → WereTurns serves lease due number turns → results_in serves due name turns ≡ results_by serves name lease.id number due old.core.history
results-on serves lasts lease name [] number turns old new r w = refl
results-on serves lasts lease name (call ∷ later) number [] old new r w = absurd w
results-on serves lasts lease name (call ∷ later) number (turn ∷ turns) old new r w =
    let p : ℕ = call.query.number in
    let is : turn.after.core.history ≡ Call lease.id number p (sha1 call.args) ∷ old.core.history = w.0.history ∙ ap (λ (b : BookOf). Call lease.id number p (sha1 call.args) ∷ b.core.history) r.0 in
    let others : results_in serves later name turns ≡ results_by serves name lease.id (number + 1) later (Call lease.id number p (sha1 call.args) ∷ old.core.history) =
    results-on serves lasts lease name later (number + 1) turns turn.after new r.2 w.1 ∙ ap (λ (h : List Entry). results_by serves name lease.id (number + 1) later h) is in
    ap (λ (h : List Entry). serves.results name p call.args h ∷ results_in serves later name turns) is ∙ ap (λ (rs : List (List ℕ)). serves.results name p call.args (Call lease.id number p (sha1 call.args) ∷ old.core.history) ∷ rs) others

pub row-runs : (keys keys' : SealKeys) (serves : Server) (lease : Lease) (terms : Terms) (first xid : ℕ) (due : List DueCall) (draws stream : List ℕ) (old new : BookOf) (turns : List Turn) (rest : List ℕ) → ForSealing keys lease.outcome.key 22 → ForSealing keys' lease.outcome.key 24
    → IsRow serves lease terms first xid due draws stream old new turns rest → RowRuns serves lease first due turns old new
row-runs keys keys' serves lease terms first xid due draws stream old new turns rest for for' r =
    let word : RowFrom serves lease.ends new (length due) old.core turns = record { book = old; is = refl; row = r.row; room = r.room; wide = r.live.wide } in
    let a = run-all keys keys' serves lease (RowFrom serves lease.ends new) (by-row serves lease new) terms for for' r.id due first xid draws stream old.core turns rest r.planned r.succeed r.xid_fits word r.live.whole r.live.called r.written r.heard in
    record {
      served = a.served;
      results = subst (λ (n : ℕ). results_in serves (take n due) lease.outcome.initiator turns ≡ results_by serves lease.outcome.initiator lease.id first (take n due) old.core.history) a.made_is
          (results-on serves lease.ends lease lease.outcome.initiator (take a.made due) first turns old new r.row a.were);
      leaves = subst (λ (n : ℕ). RowLeaves lease.id first (take n due) turns old new) a.made_is (leaves-on serves lease.ends lease (take a.made due) first turns old new r.row a.were);
    }
