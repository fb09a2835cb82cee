-- A live context is shown, its next number is admitted, and its end is taken.
use Rattle.std.proofs.Common.{◌≡◌, ◌∙◌, ◌<◌, ◌≤◌, ◌+◌, ℕ, true, false, List, [], ◌∷◌, length, Option, Some, None, Result, Ok, Err, refl, sym, ap, subst, arith, nat_lt, nat_le}
use Rattle.std.specs.Prelude.{◌==◌, nat_eq, IsOk}
use Rattle.std.specs.Cmp.Lexicographic.{pointwise}
use Rattle.std.proofs.lemmas.Bool.{eq-eqb, and_from}
use Rattle.std.proofs.lemmas.Bool.Decides.{nat_tests}
use Rattle.seq_window.specs.Marks.{greatest, is_in, verdict_of}
use Rattle.seq_window.specs.declared.window.Verdict.TheVariants.{Fresh}
use Rattle.context_table.specs.Slots.{HasState}
use Rattle.context_table.specs.Places.{Places, slot_at, HasValue, Marks, KeepsOthers}
use Rattle.context_table.specs.declared.slot.Slot.{Slot}
use Rattle.context_table.specs.declared.slot.SlotState.{SlotState}
use Rattle.context_table.specs.declared.slot.SlotState.TheVariants.{Negotiating, Held, Complete}
use Rattle.krb_derive.specs.Key.{key_octets}
use Rattle.spnego_core.specs.declared.accept_end.AcceptEnd.{AcceptEnd}
use Rattle.spnego_core.specs.declared.outcome.Outcome.{Outcome}
use Rattle.accept_core.specs.History.{Whole, standing, numbers}
use Rattle.accept_core.specs.Answers.{or_refused, receipt_of, after}
use Rattle.accept_book.specs.Booking.{BookOf, NotesMoment, names_of, has_key, lease_refused, LeasedBy}
use Rattle.accept_core.specs.declared.answer.AdmitRefusal.{AdmitRefusal}
use Rattle.accept_core.specs.declared.answer.LookRefusal.{LookRefusal}
use Rattle.accept_book.specs.declared.book_answer.Lease.{Lease}
use Rattle.accept_core.specs.declared.entry.Entry.{Entry}
use Rattle.accept_core.specs.declared.entry.Receipt.{Receipt}
use Rattle.accept_core.specs.declared.entry.Entry.TheVariants.{Call, Ended}
use Rattle.accept_core.specs.declared.entry.EndCause.TheVariants.{Destroyed}
use Rattle.accept_core.specs.Replays.{Keeps}
use Rattle.accept_book.specs.BookAnswers.{BookLooked, BookAdmitted, BookEnded}
use Rattle.pair_laws.specs.Live.{IsLiveAt, IsSeen, IsCalled, IsOver}

-- ---- the next number is fresh

in-below : (n : ℕ) (ns : List ℕ) → greatest ns < n → is_in n ns ≡ false
in-below n [] h = refl
in-below n (m ∷ ms) h =
    let apart : (n == m) ≡ false = grind (arith, nat_tests) in
    let less : greatest ms < n = omega (arith, h) in
    rw (apart, in-below n ms less) refl

next-fresh : (width n : ℕ) (ns : List ℕ) → 0 < width → n ≤ 0x80000000 → greatest ns < n → verdict_of width ns n ≡ Fresh
next-fresh width n ns w few h =
    let small : nat_lt 0x80000000 n ≡ false = grind (arith, nat_tests) in
    let above : nat_le (n + width) (greatest ns) ≡ false = grind (arith, nat_tests) in
    rw (small, above, in-below n ns h) refl

-- ---- the context's value

same : (xs : List ℕ) → pointwise nat_eq xs xs ≡ true
same [] = refl
same (x ∷ xs) = and_from (nat_eq x x) (pointwise nat_eq xs xs) (eq-eqb x x refl) (same xs)

keyed : (slot : Option (Slot AcceptEnd Outcome)) (outcome : Outcome) (lasts : ℕ) → HasValue slot outcome lasts → has_key slot outcome.key ≡ true
keyed None outcome lasts v = absurd v
keyed (Some slot) outcome lasts v = by-state slot.state refl v.0
  where
    by-state : (state : SlotState AcceptEnd Outcome) → slot.state ≡ state → HasState slot.state outcome → has_key (Some slot) outcome.key ≡ true
    by-state (Negotiating end) e h = absurd (rw e at h)
    by-state Held e h = absurd (rw e at h)
    by-state (Complete held) e h = let o : held ≡ outcome = rw e at h in rw (e, o) (same (key_octets outcome.key))

value-same : (slot : Option (Slot AcceptEnd Outcome)) (a b : Outcome) (x y : ℕ) → HasValue slot a x → HasValue slot b y → (b ≡ a) × (y ≡ x)
value-same None a b x y v w = absurd v
value-same (Some slot) a b x y v w = (by-state slot.state refl v.0 w.0, sym w.1 ∙ v.1)
  where
    by-state : (state : SlotState AcceptEnd Outcome) → slot.state ≡ state → HasState slot.state a → HasState slot.state b → b ≡ a
    by-state (Negotiating end) e h k = absurd (rw e at h)
    by-state Held e h k = absurd (rw e at h)
    by-state (Complete held) e h k = let p : held ≡ a = rw e at h in let q : held ≡ b = rw e at k in sym q ∙ p

marked-value : (old new : Option (Slot AcceptEnd Outcome)) (n : ℕ) (outcome : Outcome) (lasts : ℕ) → HasValue old outcome lasts → Marks old new n → HasValue new outcome lasts
marked-value None new n outcome lasts v m = absurd v
marked-value (Some before) None n outcome lasts v m = absurd m
marked-value (Some before) (Some new) n outcome lasts v m = (subst (λ (s : SlotState AcceptEnd Outcome). HasState s outcome) (sym m.state) v.0, m.ends ∙ v.1)

-- ---- the answers

pub seen : (old new : BookOf) (lease : Lease) (now : ℕ) (result : Result Lease LookRefusal) (next : ℕ) → BookLooked old new lease.id now result → now ≤ lease.ends → IsLiveAt old lease next → IsSeen old new lease next result
seen old new lease now (Err refusal) next b h l =
    let a : LeasedBy (Whole lease.outcome.mech (names_of lease.outcome) lease.ends) lease.id now (Err refusal) = subst (λ s. LeasedBy s lease.id now (Err refusal)) l.whole.stands b.answer in absurd (omega (arith, h, a.0))
seen old new lease now (Ok shown) next b h l =
    let a : LeasedBy (Whole lease.outcome.mech (names_of lease.outcome) lease.ends) lease.id now (Ok shown) = subst (λ s. LeasedBy s lease.id now (Ok shown)) l.whole.stands b.answer in
    let v = value-same (slot_at old.core.table lease.id) lease.outcome shown.outcome lease.ends shown.ends l.whole.value b.value in
    let i : shown.id ≡ lease.id = a.1.id in record {
      shown = λ j. Ok (record { id = i j; outcome = v.0 j; ends = v.1 j });
      live = record {
        whole = record {
          stands = ap (standing lease.id) b.looked.history ∙ l.whole.stands;
          value = subst (λ (t : Places AcceptEnd Outcome). HasValue (slot_at t lease.id) lease.outcome lease.ends) (sym b.looked.table) l.whole.value;
        };
        called = subst (λ (h : List Entry). greatest (numbers lease.id h) < next) (sym b.looked.history) l.called;
        wide = rw b.looked.width l.wide;
      };
      history = b.looked.history;
    }

unrefused : (book : BookOf) (lease : Lease) (next : ℕ) → IsLiveAt book lease next → next ≤ 0x80000000 → length book.core.history < book.core.limit → lease_refused book.core lease next ≡ None
unrefused book lease next l few room =
    let free : nat_lt (length book.core.history) book.core.limit ≡ true = grind (arith, nat_tests) in
    rw (keyed (slot_at book.core.table lease.id) lease.outcome lease.ends l.whole.value, l.whole.stands, next-fresh book.core.width next (numbers lease.id book.core.history) l.wide few l.called, free) refl

same-id : (n : ℕ) → (n == n) ≡ true
same-id n = grind (arith, nat_tests)

called-more : (id next procedure : ℕ) (args : List ℕ) (h : List Entry) → greatest (numbers id h) < next → greatest (numbers id (Call id next procedure args ∷ h)) < next + 1
called-more id next procedure args h few = rw (same-id id) (omega (arith, few))

pub called : (old new : BookOf) (lease : Lease) (next procedure : ℕ) (args : List ℕ) (result : Result Receipt AdmitRefusal) → BookAdmitted old new lease next procedure args result → IsLiveAt old lease next → next ≤ 0x80000000 → length old.core.history < old.core.limit
    → IsCalled old new lease next procedure args result
called old new lease next procedure args result b l few room =
    let none = unrefused old lease next l few room in
    let entry : Entry = Call lease.id next procedure args in
    let answer : result ≡ Ok (receipt_of old.core.history entry) = b.answer ∙ ap (λ (o : Option AdmitRefusal). or_refused o (receipt_of old.core.history entry)) none in
    let history : new.core.history ≡ entry ∷ old.core.history = b.history ∙ ap (λ (o : Option AdmitRefusal). after o entry old.core.history) none in record {
      answer = answer;
      live = record {
        whole = record {
          stands = ap (standing lease.id) history ∙ l.whole.stands;
          value = marked-value (slot_at old.core.table lease.id) (slot_at new.core.table lease.id) next lease.outcome lease.ends l.whole.value (b.slot (subst (λ r. IsOk r) (sym answer) refl));
        };
        called = subst (λ (h : List Entry). greatest (numbers lease.id h) < next + 1) (sym history) (called-more lease.id next procedure args old.core.history l.called);
        wide = rw b.keeps.width l.wide;
      };
      history = history;
    }

pub over : (old new : BookOf) (lease : Lease) (next : ℕ) (result : Result Receipt AdmitRefusal) → BookEnded old new lease next result → IsLiveAt old lease next → next ≤ 0x80000000 → length old.core.history < old.core.limit → IsOver old new lease next result
over old new lease next result b l few room =
    let none = unrefused old lease next l few room in
    let entry : Entry = Ended lease.id (Destroyed next) in
    let answer : result ≡ Ok (receipt_of old.core.history entry) = b.answer ∙ ap (λ (o : Option AdmitRefusal). or_refused o (receipt_of old.core.history entry)) none in record {
      answer = answer;
      gone = b.gone (subst (λ r. IsOk r) (sym answer) refl);
      history = b.history ∙ ap (λ (o : Option AdmitRefusal). after o entry old.core.history) none;
    }

-- ---- what is behind a look, and what takes a number

-- every other context is as it was
pub others-kept : (old middle new : BookOf) (id now : ℕ) (result : Result Lease LookRefusal) → BookLooked old middle id now result → KeepsOthers middle.core.table new.core.table id → KeepsOthers old.core.table new.core.table id
others-kept old middle new id now result b k = subst (λ (t : Places AcceptEnd Outcome). KeepsOthers t new.core.table id) b.looked.table k

-- the moment was taken note of
pub moment-noted : (old middle new : BookOf) (id now : ℕ) (result : Result Lease LookRefusal) → BookLooked old middle id now result → Keeps middle.core new.core → new.setup ≡ middle.setup → NotesMoment old new now
moment-noted old middle new id now result b k s = record {
  setup = s ∙ b.setup;
  limit = k.limit ∙ b.looked.limit;
  width = k.width ∙ b.looked.width;
  keeping = k.keeping ∙ b.looked.keeping;
  contexts = k.contexts ∙ ap (λ (t : Places AcceptEnd Outcome). t.limit) b.looked.table;
  capacity = k.capacity ∙ b.looked.capacity;
  greatest = k.greatest ∙ b.looked.greatest;
}
