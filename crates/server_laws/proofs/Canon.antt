-- A book as its log has it: with windows that show the numbers of its contexts' calls, and the marks that are still recent. It answers as the book does.
use Rattle.std.proofs.Common.{◌≡◌, ◌≢◌, ◌∙◌, ℕ, ◌+◌, ◌<◌, ◌≤◌, max, Bool, true, false, ◌==◌, refl, ap, sym, subst, arith, inl, inr, List, [], ◌∷◌, map, Option, Some, None, Result, Ok, Err, IfOk, OnErr, IsOk, IfSome, IsSomeAnd}
use Rattle.std.specs.Prelude.{if◌then◌else◌, option_map}
use Rattle.std.proofs.lemmas.Bool.{cases_eq, cases_Bool, eq-eqb, ne_eqb, eqb-true}
use Rattle.std.proofs.lemmas.List.{length-map}
use Rattle.krb_derive.specs.declared.key.Key.{Key}
use Rattle.seq_window.specs.Marks.{Seen, Shows}
use Rattle.replay_cache.specs.Taking.{kept_of}
use Rattle.spnego_core.specs.declared.accept_end.AcceptEnd.{AcceptEnd}
use Rattle.spnego_core.specs.declared.outcome.Outcome.{Outcome}
use Rattle.context_table.specs.declared.slot.Slot.{Slot}
use Rattle.context_table.specs.Places.{Places, slot_in, slot_at, live_of, IsPast, is_waiting, HasValue, Marks, KeepsOthers}
use Rattle.accept_core.specs.Stepping.{IsNext}
use Rattle.accept_core.specs.declared.answer.AdmitRefusal.{AdmitRefusal}
use Rattle.accept_core.specs.declared.answer.AdmitRefusal.TheVariants as admits
use Rattle.accept_core.specs.declared.answer.LookRefusal.{LookRefusal}
use Rattle.accept_book.specs.declared.book_answer.Lease.{Lease}
use Rattle.accept_book.specs.declared.book_answer.NegAnswer.TheVariants as answers
use Rattle.accept_book.specs.declared.book_answer.Negotiated.{Negotiated}
use Rattle.accept_core.specs.declared.entry.EndCause.{EndCause}
use Rattle.accept_core.specs.declared.entry.EndCause.TheVariants.{Destroyed}
use Rattle.accept_core.specs.declared.entry.Entry.{Entry}
use Rattle.accept_core.specs.declared.entry.Entry.TheVariants.{Call, Ended}
use Rattle.accept_core.specs.declared.entry.Receipt.{Receipt}
use Rattle.accept_core.specs.Answers.{or_refused, after, refused, receipt_of}
use Rattle.accept_core.specs.History.{Standing, Over, standing, numbers, opened, living, latest, taken_of}
use Rattle.accept_core.specs.Legal.{Legal}
use Rattle.accept_core.specs.Replays.{Accepting, SameSlot}
use Rattle.accept_core.specs.Stepping.{Context, context_of, SameWindow, SameWindows}
use Rattle.accept_book.specs.Booking.{BookOf, by_outcome, Outcomes, changed, raised, spends, negotiated, has_key, lease_refused, FreeFor}
use Rattle.accept_book.specs.BookAnswers.{IsOutcome, ComesTo, BookStepped, BookLooked, BookAdmitted, BookEnded}
use Rattle.accept_book.specs.RecordShown.{Asked, AskedStep, AskedLook, AskedAdmit, AskedEnd}
use Rattle.accept_core.proofs.Appended.{Silent, silent}
use Rattle.sha1.specs.Sha1.{sha1}
use Rattle.gss_server.specs.Asking.{BookAnswers}
use Rattle.world_laws.specs.Events.{IsBook}
use Rattle.history_laws.proofs.Answering.{memory-cases}
use Rattle.accept_core.proofs.Nexts.{next-of}
use Rattle.server_laws.proofs.Windows.{window_of, shown, more-shown}
use Rattle.server_laws.proofs.Comes.{SameContext, Ready, Fine, fine-spends, fine-negotiated, Alike, negotiated-same}

abbrev Known : Type 0
Known = Slot AcceptEnd Outcome

abbrev Table : Type 0
Table = Places AcceptEnd Outcome

abbrev Core : Type 0
Core = Accepting AcceptEnd Outcome

-- ---- a table as the log has it

abbrev slot_as : ℕ → List ℕ → Known → Known
slot_as width ns slot = record { id = slot.id; state = slot.state; ends = slot.ends; window = window_of width ns }

abbrev slots_as : ℕ → List Entry → List Known → List Known
slots_as width h slots = map (λ slot. slot_as width (numbers slot.id h) slot) slots

abbrev table_as : ℕ → List Entry → Table → Table
table_as width h table = record { limit = table.limit; width = width; slots = slots_as width h table.slots; used = [] }

abbrev core_as : Core → Core
core_as core = record {
  history = core.history;
  limit = core.limit;
  width = core.width;
  keeping = core.keeping;
  table = table_as core.width core.history core.table;
  cache = record {
    capacity = core.cache.capacity;
    greatest = core.cache.greatest;
    held = kept_of core.cache.greatest (taken_of core.history);
  };
}

abbrev pub book_as : BookOf → BookOf
book_as book = record { setup = book.setup; core = core_as book.core }

slot-in-as : (width : ℕ) (h : List Entry) (slots : List Known) (id : ℕ) → slot_in (slots_as width h slots) id ≡ option_map (slot_as width (numbers id h)) (slot_in slots id)
slot-in-as width h [] id = refl
slot-in-as width h (slot ∷ slots) id = elim (cases_Bool (slot.id == id)) [
  | inl e ↦ rw e (ap (λ (k : ℕ). Some (slot_as width (numbers k h) slot)) (eqb-true slot.id id e))
  | inr e ↦ rw e (slot-in-as width h slots id)
]

slot-as : (width : ℕ) (h : List Entry) (table : Table) (id : ℕ) → slot_at (table_as width h table) id ≡ option_map (slot_as width (numbers id h)) (slot_at table id)
slot-as width h table id = slot-in-as width h table.slots id

context-by : (width : ℕ) (ns : List ℕ) (slot : Option Known) → context_of (option_map (slot_as width ns) slot) ≡ context_of slot
context-by width ns None = refl
context-by width ns (Some slot) = refl

context-as : (width : ℕ) (h : List Entry) (table : Table) (id : ℕ) → context_of (slot_at (table_as width h table) id) ≡ context_of (slot_at table id)
context-as width h table id = ap context_of (slot-as width h table id) ∙ context-by width (numbers id h) (slot_at table id)

alike-as : (width : ℕ) (h : List Entry) (table : Table) → Alike (table_as width h table) table
alike-as width h table = record { limit = refl; live = length-map table.slots (λ (slot : Known). slot_as width (numbers slot.id h) slot); each = λ id. context-as width h table id }

live-as : (core : Core) → live_of core.table ≡ living core.history → live_of (core_as core).table ≡ living core.history
live-as core lives = (alike-as core.width core.history core.table).live ∙ lives

-- ---- its contexts are what its log says

pub record Agrees (core : Core) : Type 0 where
  pub each : (id : ℕ) → SameContext (context_of (slot_at core.table id)) (standing id core.history)
  pub lives : live_of core.table ≡ living core.history
  pub past : latest core.history ≤ core.cache.greatest

slot-same : (width : ℕ) (ns : List ℕ) (slot : Option Known) (stands : Standing) → SameContext (context_of slot) stands → SameSlot by_outcome width (option_map (slot_as width ns) slot) stands ns
slot-same width ns None stands same = same
slot-same width ns (Some slot) stands same = record { state = same; width = refl; window = shown width ns }

-- so the log of the book as it has it is legal, and its contexts, marks and counts are what the log says
pub is-book : (book : BookOf) → Legal book.core.width book.core.history → Agrees book.core → IsBook (book_as book)
is-book book legal a = record {
  legal = legal;
  slots = λ id. subst (λ (slot : Option Known). SameSlot by_outcome book.core.width slot (standing id book.core.history) (numbers id book.core.history))
      (sym (slot-as book.core.width book.core.history book.core.table id))
      (slot-same book.core.width (numbers id book.core.history) (slot_at book.core.table id) (standing id book.core.history) (a.each id));
  live = live-as book.core a.lives;
  width = refl;
  past = a.past;
  marks = record { kept = refl };
}

-- ---- a token

ready : (core : Core) (now : ℕ) → Legal core.width core.history → Agrees core → Ready (raised core now)
ready core now legal a =
    let s : Silent (opened core.history + 1) core.history = silent core.width core.history (opened core.history + 1) legal (omega arith) in
    record { each = a.each; past = omega (arith, a.past); next = s.calls }

-- what a token came to
record Came (old : Core) (now : ℕ) (result : Negotiated) (new : Core) : Type 0 where
  outcome : Outcomes
  fine : Fine (raised old now) outcome
  is : IsOutcome (raised old now) outcome result new

came : (old new : BookOf) (id : Option ℕ) (token : List ℕ) (now : ℕ) (draws : List ℕ) (result : Negotiated) → Ready (raised old.core now) → BookStepped old new id token now draws result → Came old.core now result new.core
came old new id token now draws result r b =
    let past = next-of old.core.table (max old.core.cache.greatest now) in
    elim (memory-cases result.answer) [
      | inl short ↦ record { outcome = spends id old.core.history answers.NoMemory; fine = fine-spends (raised old.core now) id answers.NoMemory r; is = b.comes.memory short }
      | inr enough ↦ record {
        outcome = negotiated old.setup (raised old.core now) id past.0 token now draws;
        fine = fine-negotiated old.setup (raised old.core now) id past.0 token now draws r;
        is = b.comes.outcome past.0 (λ first. past.1) enough;
      }
    ]

came-agrees : (old : Core) (now : ℕ) (result : Negotiated) (new : Core) → Came old now result new → new.cache.greatest ≡ max old.cache.greatest now → live_of new.table ≡ living new.history → Agrees new
came-agrees old now result new c greatest lives = record {
  each = λ id. subst (λ (x : Option (Context AcceptEnd Outcome)). SameContext x (standing id new.history)) (sym (c.is.contexts id))
      (subst (λ (h : List Entry). SameContext (changed c.outcome.change id (context_of (slot_at old.table id))) (standing id h)) (sym c.is.history) (c.fine.each id));
  lives = lives;
  past = subst (λ (h : List Entry). latest h ≤ new.cache.greatest) (sym c.is.history) (subst (λ (g : ℕ). latest c.outcome.history ≤ g) (sym greatest) c.fine.past);
}

-- the outcome is that of the books as their logs have them
outcome-as : (old new : Core) (now : ℕ) (o : Outcomes) (result : Negotiated) → IsOutcome (raised old now) o result new → IsOutcome (raised (core_as old) now) o result (core_as new)
outcome-as old new now o result is = record {
  answer = is.answer;
  history = is.history;
  contexts = λ id. context-as new.width new.history new.table id ∙ (is.contexts id ∙ ap (changed o.change id) (sym (context-as old.width old.history old.table id)));
}

ends-back : (width : ℕ) (ns : List ℕ) (slot : Option Known) (now : ℕ) → IfSome (option_map (slot_as width ns) slot) (λ s. now ≤ s.ends) → IfSome slot (λ s. now ≤ s.ends)
ends-back width ns None now h = h
ends-back width ns (Some slot) now h = h

over-back : (width : ℕ) (ns : List ℕ) (slot : Option Known) (now : ℕ) → IsSomeAnd (option_map (slot_as width ns) slot) (λ s. s.ends < now) → IsSomeAnd slot (λ s. s.ends < now)
over-back width ns None now h = h
over-back width ns (Some slot) now h = h

lasts-back : (width : ℕ) (h : List Entry) (table : Table) (now id : ℕ) → IfSome (slot_at (table_as width h table) id) (λ s. now ≤ s.ends) → IfSome (slot_at table id) (λ s. now ≤ s.ends)
lasts-back width h table now id lasts = ends-back width (numbers id h) (slot_at table id) now (subst (λ (slot : Option Known). IfSome slot (λ s. now ≤ s.ends)) (slot-as width h table id) lasts)

past-back : (width : ℕ) (h : List Entry) (table : Table) (now : ℕ) (past : Option ℕ) → IsPast (table_as width h table) now past → IsPast table now past
past-back width h table now None is = λ id. lasts-back width h table now id (is id)
past-back width h table now (Some first) is = (
  over-back width (numbers first h) (slot_at table first) now (subst (λ (slot : Option Known). IsSomeAnd slot (λ s. s.ends < now)) (slot-as width h table first) is.0),
  λ other lt. lasts-back width h table now other (is.1 other lt),
)

waits-as : (width : ℕ) (ns : List ℕ) (slot : Option Known) → is_waiting (option_map (slot_as width ns) slot) ≡ is_waiting slot
waits-as width ns None = refl
waits-as width ns (Some slot) = refl

waits-back : (width : ℕ) (h : List Entry) (table : Table) (id : ℕ) → is_waiting (slot_at table id) ≡ is_waiting (slot_at (table_as width h table) id)
waits-back width h table id = sym (ap is_waiting (slot-as width h table id) ∙ waits-as width (numbers id h) (slot_at table id))

next-back : (width : ℕ) (h : List Entry) (table : Table) (now : ℕ) (past : Option ℕ) → IsNext (table_as width h table) now past → IsNext table now past
next-back width h table now None is = (past-back width h table now None is.0, λ many id. waits-back width h table id ∙ is.1 many id)
next-back width h table now (Some first) (inl is) = inl (past-back width h table now (Some first) is)
next-back width h table now (Some first) (inr is) = inr (
  past-back width h table now None is.0,
  is.1,
  (waits-back width h table first ∙ (is.2).0, λ other lt. waits-back width h table other ∙ (is.2).1 other lt),
)

window-as : (width wide : ℕ) (ns ms : List ℕ) (before after : Option Known) → wide ≡ width → ms ≡ ns → (context_of before ≡ None → IfSome (context_of after) (λ context. ns ≡ []))
    → SameWindow (option_map (slot_as width ns) before) (option_map (slot_as wide ms) after)
window-as width wide ns ms None None w n fresh = tt
window-as width wide ns ms None (Some slot) w n fresh = subst (λ (xs : List ℕ). Shows (window_of wide ms) xs) (n ∙ fresh refl) (shown wide ms)
window-as width wide ns ms (Some slot) None w n fresh = tt
window-as width wide ns ms (Some before) (Some after) w n fresh = λ i. window_of (w i) (n i)

windows-as : (old new : Core) (now : ℕ) (o : Outcomes) (result : Negotiated) → new.width ≡ old.width → Fine (raised old now) o → IsOutcome (raised old now) o result new
    → SameWindows (core_as old).table (core_as new).table
windows-as old new now o result wide fine is = λ id.
    subst (λ (slot : Option Known). SameWindow (slot_at (core_as old).table id) slot) (sym (slot-as new.width new.history new.table id))
    (subst (λ (slot : Option Known). SameWindow slot (option_map (slot_as new.width (numbers id new.history)) (slot_at new.table id))) (sym (slot-as old.width old.history old.table id))
    (window-as old.width new.width (numbers id old.history) (numbers id new.history) (slot_at old.table id) (slot_at new.table id) wide
    (ap (numbers id) is.history ∙ fine.calls id)
    (λ none. subst (λ (x : Option (Context AcceptEnd Outcome)). IfSome x (λ context. numbers id old.history ≡ []))
    (sym (is.contexts id ∙ ap (changed o.change id) none)) (fine.fresh id none))))

comes-as : (old new : BookOf) (id : Option ℕ) (token : List ℕ) (now : ℕ) (draws : List ℕ) (result : Negotiated) → Ready (raised old.core now) → BookStepped old new id token now draws result
    → ComesTo (raised (core_as old.core) now) id (λ past. negotiated old.setup (raised (core_as old.core) now) id past token now draws) result (core_as new.core)
comes-as old new id token now draws result r b =
    let c = came old new id token now draws result r b in
    record {
      outcome = λ past is_past some.
          subst (λ (o : Outcomes). IsOutcome (raised (core_as old.core) now) o result (core_as new.core))
          (sym (negotiated-same old.setup (raised old.core now) (core_as old.core).table old.core.table id past token now draws (alike-as old.core.width old.core.history old.core.table)))
          (outcome-as old.core new.core now (negotiated old.setup (raised old.core now) id past token now draws) result
          (b.comes.outcome past (λ first. next-back old.core.width old.core.history old.core.table (max old.core.cache.greatest now) past (is_past first)) some));
      memory = λ short. outcome-as old.core new.core now (spends id old.core.history answers.NoMemory) result (b.comes.memory short);
      receipts = b.comes.receipts;
      windows = windows-as old.core new.core now c.outcome result b.notes.width c.fine c.is;
    }

stepped-as : (old new : BookOf) (id : Option ℕ) (token : List ℕ) (now : ℕ) (draws : List ℕ) (result : Negotiated) → Ready (raised old.core now) → BookStepped old new id token now draws result
    → BookStepped (book_as old) (book_as new) id token now draws result
stepped-as old new id token now draws result r b = record {
  comes = comes-as old new id token now draws result r b;
  notes = record {
    setup = b.notes.setup;
    limit = b.notes.limit;
    width = b.notes.width;
    keeping = b.notes.keeping;
    contexts = b.notes.contexts;
    capacity = b.notes.capacity;
    greatest = b.notes.greatest;
  };
  lives = live-as new.core b.lives;
}

-- ---- a look

value-by : (width : ℕ) (ns : List ℕ) (slot : Option Known) (value : Outcome) (ends : ℕ) → HasValue slot value ends → HasValue (option_map (slot_as width ns) slot) value ends
value-by width ns None value ends h = h
value-by width ns (Some slot) value ends h = h

value-as : (core : Core) (id : ℕ) (result : Result Lease LookRefusal) → IfOk result (λ lease. HasValue (slot_at core.table id) lease.outcome lease.ends)
    → IfOk result (λ lease. HasValue (slot_at (core_as core).table id) lease.outcome lease.ends)
value-as core id (Ok lease) h =
    subst (λ (slot : Option Known). HasValue slot lease.outcome lease.ends) (sym (slot-as core.width core.history core.table id)) (value-by core.width (numbers id core.history) (slot_at core.table id) lease.outcome lease.ends h)
value-as core id (Err refusal) h = tt

looked-as : (old new : BookOf) (id now : ℕ) (result : Result Lease LookRefusal) → BookLooked old new id now result → BookLooked (book_as old) (book_as new) id now result
looked-as old new id now result b = record {
  answer = b.answer;
  value = value-as old.core id result b.value;
  looked = record {
    history = b.looked.history;
    limit = b.looked.limit;
    width = b.looked.width;
    keeping = b.looked.keeping;
    table = λ i. table_as (b.looked.width i) (b.looked.history i) (b.looked.table i);
    capacity = b.looked.capacity;
    greatest = b.looked.greatest;
  };
  setup = b.setup;
}

looked-agrees : (old new : BookOf) (id now : ℕ) (result : Result Lease LookRefusal) → Agrees old.core → BookLooked old new id now result → Agrees new.core
looked-agrees old new id now result a b = record {
  each = λ other. subst (λ (t : Table). SameContext (context_of (slot_at t other)) (standing other new.core.history)) (sym b.looked.table)
      (subst (λ (h : List Entry). SameContext (context_of (slot_at old.core.table other)) (standing other h)) (sym b.looked.history) (a.each other));
  lives = ap (λ (t : Table). live_of t) b.looked.table ∙ (a.lives ∙ ap living (sym b.looked.history));
  past = subst (λ (h : List Entry). latest h ≤ new.core.cache.greatest) (sym b.looked.history) (omega (arith, a.past, b.looked.greatest));
}

-- ---- what takes a number

key-by : (width : ℕ) (ns : List ℕ) (slot : Option Known) (key : Key) → has_key (option_map (slot_as width ns) slot) key ≡ has_key slot key
key-by width ns None key = refl
key-by width ns (Some slot) key = refl

key-as : (core : Core) (id : ℕ) (key : Key) → has_key (slot_at (core_as core).table id) key ≡ has_key (slot_at core.table id) key
key-as core id key = ap (λ (slot : Option Known). has_key slot key) (slot-as core.width core.history core.table id) ∙ key-by core.width (numbers id core.history) (slot_at core.table id) key

refused-as : (core : Core) (lease : Lease) (seq : ℕ) → lease_refused (core_as core) lease seq ≡ lease_refused core lease seq
refused-as core lease seq =
    ap (λ (b : Bool). if b then refused core.limit core.width core.history lease.id seq else Some admits.Gone) (key-as core lease.id lease.outcome.key)

free-as : (core : Core) (lease : Lease) (seq : ℕ) → FreeFor core lease seq → FreeFor (core_as core) lease seq
free-as core lease seq f = record { key = key-as core lease.id lease.outcome.key ∙ f.key; free = f.free }

free-back : (core : Core) (lease : Lease) (seq : ℕ) → FreeFor (core_as core) lease seq → FreeFor core lease seq
free-back core lease seq f = record { key = sym (key-as core lease.id lease.outcome.key) ∙ f.key; free = f.free }

unchanged-as : {X : Type 0} (result : Result X AdmitRefusal) (old new : BookOf) → OnErr result (new ≡ old) → OnErr result (book_as new ≡ book_as old)
unchanged-as (Ok x) old new e = tt
unchanged-as (Err refusal) old new e = ap book_as e

-- the log after an entry, or as it was
not-refused : {X : Type 0} (result : Result X AdmitRefusal) (refusal : Option AdmitRefusal) (x : X) → result ≡ or_refused refusal x → IsOk result → refusal ≡ None
not-refused result None x e ok = refl
not-refused {X} result (Some refusal) x e ok = absurd (subst (λ (r : Result X AdmitRefusal). IsOk r) e ok)
  where
    absurd : false ≡ true → Some refusal ≡ None
    absurd bad = cc

numbers-after : (refusal : Option AdmitRefusal) (entry : Entry) (h : List Entry) (id : ℕ) → numbers id (entry ∷ h) ≡ numbers id h → numbers id (after refusal entry h) ≡ numbers id h
numbers-after None entry h id e = e
numbers-after (Some refusal) entry h id e = refl

same-slots : (old new : Core) (id : ℕ) → new.width ≡ old.width → numbers id new.history ≡ numbers id old.history → slot_at new.table id ≡ slot_at old.table id
    → slot_at (core_as new).table id ≡ slot_at (core_as old).table id
same-slots old new id wide calls slot =
    slot-as new.width new.history new.table id ∙ ((λ i. option_map (slot_as (wide i) (calls i)) (slot i)) ∙ sym (slot-as old.width old.history old.table id))

others-as : (old new : Core) (own : ℕ) → KeepsOthers old.table new.table own → new.width ≡ old.width → ((other : ℕ) → own ≢ other → numbers other new.history ≡ numbers other old.history)
    → KeepsOthers (core_as old).table (core_as new).table own
others-as old new own k wide calls = record {
  others = λ other ne. same-slots old new other wide (calls other ne) (k.others other ne);
  limit = k.limit;
  width = wide;
}

-- ---- an admission

called-own : (id seq procedure : ℕ) (args : List ℕ) (h : List Entry) → numbers id (Call id seq procedure args ∷ h) ≡ seq ∷ numbers id h
called-own id seq procedure args h = rw (eq-eqb id id refl) refl

called-other : (id other seq procedure : ℕ) (args : List ℕ) (h : List Entry) → id ≢ other → numbers other (Call id seq procedure args ∷ h) ≡ numbers other h
called-other id other seq procedure args h ne = rw (ne_eqb id other ne) refl

marks-by : (width wide seq : ℕ) (ns ms : List ℕ) (before after : Option Known) → wide ≡ width → ms ≡ seq ∷ ns → Marks before after seq
    → Marks (option_map (slot_as width ns) before) (option_map (slot_as wide ms) after) seq
marks-by width wide seq ns ms (Some before) (Some after) w n m = record {
  id = m.id;
  state = m.state;
  ends = m.ends;
  width = w;
  window = λ numbers s. subst (λ (x : Seen). Shows x (seq ∷ numbers)) (λ i. window_of (sym w i) (sym n i)) (more-shown width seq ns numbers s);
}
marks-by width wide seq ns ms (Some before) None w n m = absurd m
marks-by width wide seq ns ms None after w n m = absurd m

admitted-log : (old new : BookOf) (lease : Lease) (seq procedure : ℕ) (args : List ℕ) (result : Result Receipt AdmitRefusal) → BookAdmitted old new lease seq procedure args result → IsOk result
    → new.core.history ≡ Call lease.id seq procedure args ∷ old.core.history
admitted-log old new lease seq procedure args result b ok =
    b.history ∙ ap (λ (r : Option AdmitRefusal). after r (Call lease.id seq procedure args) old.core.history) (not-refused result (lease_refused old.core lease seq) _ b.answer ok)

admitted-as : (old new : BookOf) (lease : Lease) (seq procedure : ℕ) (args : List ℕ) (result : Result Receipt AdmitRefusal) → BookAdmitted old new lease seq procedure args result
    → BookAdmitted (book_as old) (book_as new) lease seq procedure args result
admitted-as old new lease seq procedure args result b =
    let entry = Call lease.id seq procedure args in
    record {
      answer = b.answer ∙ ap (λ (r : Option AdmitRefusal). or_refused r (receipt_of old.core.history entry)) (sym (refused-as old.core lease seq));
      history = b.history ∙ ap (λ (r : Option AdmitRefusal). after r entry old.core.history) (sym (refused-as old.core lease seq));
      exactly = (λ ok. free-as old.core lease seq (b.exactly.0 ok), λ f. b.exactly.1 (free-back old.core lease seq f));
      slot = λ ok.
          subst (λ (slot : Option Known). Marks (slot_at (core_as old.core).table lease.id) slot seq) (sym (slot-as new.core.width new.core.history new.core.table lease.id))
          (subst (λ (slot : Option Known). Marks slot (option_map (slot_as new.core.width (numbers lease.id new.core.history)) (slot_at new.core.table lease.id)) seq) (sym (slot-as old.core.width old.core.history old.core.table lease.id))
          (marks-by old.core.width new.core.width seq (numbers lease.id old.core.history) (numbers lease.id new.core.history) (slot_at old.core.table lease.id) (slot_at new.core.table lease.id) b.keeps.width
          (ap (numbers lease.id) (admitted-log old new lease seq procedure args result b ok) ∙ called-own lease.id seq procedure args old.core.history) (b.slot ok)));
      others = others-as old.core new.core lease.id b.others b.keeps.width
          (λ other ne. ap (numbers other) b.history ∙ numbers-after (lease_refused old.core lease seq) entry old.core.history other (called-other lease.id other seq procedure args old.core.history ne));
      lives = live-as new.core b.lives;
      unchanged = unchanged-as result old new b.unchanged;
      keeps = record { limit = b.keeps.limit; width = b.keeps.width; keeping = b.keeps.keeping; contexts = b.keeps.contexts; capacity = b.keeps.capacity; greatest = b.keeps.greatest };
      setup = b.setup;
    }

marked-context : (before after : Option Known) (seq : ℕ) → Marks before after seq → context_of after ≡ context_of before
marked-context (Some before) (Some after) seq m = λ i. Some (record { state = m.state i; ends = m.ends i })
marked-context (Some before) None seq m = absurd m
marked-context None after seq m = absurd m

-- contexts are as they were, and so is what the log says of them
kept-agrees : (old new : Core) → Agrees old → ((id : ℕ) → context_of (slot_at new.table id) ≡ context_of (slot_at old.table id)) → ((id : ℕ) → standing id new.history ≡ standing id old.history)
    → latest new.history ≡ latest old.history → new.cache.greatest ≡ old.cache.greatest → live_of new.table ≡ living new.history → Agrees new
kept-agrees old new a contexts stands moments greatest lives = record {
  each = λ id. subst (λ (x : Option (Context AcceptEnd Outcome)). SameContext x (standing id new.history)) (sym (contexts id))
      (subst (λ (s : Standing). SameContext (context_of (slot_at old.table id)) s) (sym (stands id)) (a.each id));
  lives = lives;
  past = omega (arith, a.past, moments, greatest);
}

admitted-agrees : (old new : BookOf) (lease : Lease) (seq procedure : ℕ) (args : List ℕ) (result : Result Receipt AdmitRefusal) → Agrees old.core → BookAdmitted old new lease seq procedure args result → Agrees new.core
admitted-agrees old new lease seq procedure args (Ok x) a b =
    let log = admitted-log old new lease seq procedure args (Ok x) b refl in
    kept-agrees old.core new.core a
    (λ id. elim (cases_eq lease.id id) [
      | inl e ↦ subst (λ (k : ℕ). context_of (slot_at new.core.table k) ≡ context_of (slot_at old.core.table k)) e (marked-context (slot_at old.core.table lease.id) (slot_at new.core.table lease.id) seq (b.slot refl))
      | inr ne ↦ ap context_of (b.others.others id ne)
    ])
    (λ id. ap (standing id) log) (ap latest log) b.keeps.greatest b.lives
admitted-agrees old new lease seq procedure args (Err refusal) a b = subst (λ (x : BookOf). Agrees x.core) (sym b.unchanged) a

-- ---- an end

ended-log : (old new : BookOf) (lease : Lease) (seq : ℕ) (result : Result Receipt AdmitRefusal) → BookEnded old new lease seq result → IsOk result → new.core.history ≡ Ended lease.id (Destroyed seq) ∷ old.core.history
ended-log old new lease seq result b ok =
    b.history ∙ ap (λ (r : Option AdmitRefusal). after r (Ended lease.id (Destroyed seq)) old.core.history) (not-refused result (lease_refused old.core lease seq) _ b.answer ok)

ended-as : (old new : BookOf) (lease : Lease) (seq : ℕ) (result : Result Receipt AdmitRefusal) → BookEnded old new lease seq result → BookEnded (book_as old) (book_as new) lease seq result
ended-as old new lease seq result b =
    let entry = Ended lease.id (Destroyed seq) in
    record {
      answer = b.answer ∙ ap (λ (r : Option AdmitRefusal). or_refused r (receipt_of old.core.history entry)) (sym (refused-as old.core lease seq));
      history = b.history ∙ ap (λ (r : Option AdmitRefusal). after r entry old.core.history) (sym (refused-as old.core lease seq));
      exactly = (λ ok. free-as old.core lease seq (b.exactly.0 ok), λ f. b.exactly.1 (free-back old.core lease seq f));
      gone = λ ok. slot-as new.core.width new.core.history new.core.table lease.id ∙ ap (option_map (slot_as new.core.width (numbers lease.id new.core.history))) (b.gone ok);
      others = others-as old.core new.core lease.id b.others b.keeps.width
          (λ other ne. ap (numbers other) b.history ∙ numbers-after (lease_refused old.core lease seq) entry old.core.history other refl);
      lives = live-as new.core b.lives;
      unchanged = unchanged-as result old new b.unchanged;
      keeps = record { limit = b.keeps.limit; width = b.keeps.width; keeping = b.keeps.keeping; contexts = b.keeps.contexts; capacity = b.keeps.capacity; greatest = b.keeps.greatest };
      setup = b.setup;
    }

-- one context is gone, and the log says so
gone-agrees : (old new : Core) (id : ℕ) (cause : EndCause) → Agrees old → new.history ≡ Ended id cause ∷ old.history → slot_at new.table id ≡ None → KeepsOthers old.table new.table id
    → new.cache.greatest ≡ old.cache.greatest → live_of new.table ≡ living new.history → Agrees new
gone-agrees old new id cause a log gone k greatest lives = record {
  each = λ other. subst (λ (h : List Entry). SameContext (context_of (slot_at new.table other)) (standing other h)) (sym log)
      (elim (cases_eq id other) [
        | inl e ↦
            subst (λ (j : ℕ). SameContext (context_of (slot_at new.table j)) (if id == j then Over else standing j old.history)) e (rw (eq-eqb id id refl, gone) tt)
        | inr ne ↦ rw (ne_eqb id other ne, k.others other ne) (a.each other)
      ]);
  lives = lives;
  past = subst (λ (h : List Entry). latest h ≤ new.cache.greatest) (sym log) (subst (λ (g : ℕ). latest old.history ≤ g) (sym greatest) a.past);
}

ended-agrees : (old new : BookOf) (lease : Lease) (seq : ℕ) (result : Result Receipt AdmitRefusal) → Agrees old.core → BookEnded old new lease seq result → Agrees new.core
ended-agrees old new lease seq (Ok x) a b =
    gone-agrees old.core new.core lease.id (Destroyed seq) a (ended-log old new lease seq (Ok x) b refl) (b.gone refl) b.others b.keeps.greatest b.lives
ended-agrees old new lease seq (Err refusal) a b = subst (λ (x : BookOf). Agrees x.core) (sym b.unchanged) a

-- ---- any question

pub answers-as : (old new : BookOf) (asked : Asked Receipt) → Legal old.core.width old.core.history → Agrees old.core → BookAnswers old asked new → BookAnswers (book_as old) asked (book_as new)
answers-as old new (AskedStep id token now draws answer) legal a b = stepped-as old new id token now draws answer (ready old.core now legal a) b
answers-as old new (AskedLook id now answer) legal a b = looked-as old new id now answer b
answers-as old new (AskedAdmit lease seq service procedure args answer) legal a b = admitted-as old new lease seq procedure (sha1 args) answer b
answers-as old new (AskedEnd lease seq answer) legal a b = ended-as old new lease seq answer b

pub answers-agree : (old new : BookOf) (asked : Asked Receipt) → Legal old.core.width old.core.history → Agrees old.core → BookAnswers old asked new → Agrees new.core
answers-agree old new (AskedStep id token now draws answer) legal a b =
    came-agrees old.core now answer new.core (came old new id token now draws answer (ready old.core now legal a) b) b.notes.greatest b.lives
answers-agree old new (AskedLook id now answer) legal a b = looked-agrees old new id now answer a b
answers-agree old new (AskedAdmit lease seq service procedure args answer) legal a b = admitted-agrees old new lease seq procedure (sha1 args) answer a b
answers-agree old new (AskedEnd lease seq answer) legal a b = ended-agrees old new lease seq answer a b
