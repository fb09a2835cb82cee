-- A book at rest has places for the next session.
use Rattle.std.proofs.Common.{◌≡◌, ◌≢◌, inl, ℕ, ◌+◌, ◌-◌, ◌<◌, ◌≤◌, Bool, true, false, refl, ap, sym, subst, ◌∙◌, arith, List, [], ◌∷◌, ◌++◌, length, max, nat_lt, Option, Some, None}
use Rattle.std.specs.Prelude.{◌==◌, IfSome, nat_eq}
use Rattle.std.specs.Cmp.Lexicographic.{pointwise}
use Rattle.std.specs.List.{AllByRecursion}
use Rattle.std.proofs.lemmas.Bool.Decides.{nat_tests}
use Rattle.gss_base.specs.declared.mark.Mark.{Mark}
use Rattle.replay_cache.specs.Taking.{skew, same_mark, place_of, is_recent, kept_of, is_stale, cache_verdict}
use Rattle.replay_cache.specs.declared.cache.CacheVerdict.TheVariants.{Taken}
use Rattle.replay_cache.specs.declared.cache.TakenMark.{TakenMark}
use Rattle.context_table.specs.declared.slot.Slot.{Slot}
use Rattle.context_table.specs.Places.{slot_in, slot_at, live_of, is_waiting}
use Rattle.spnego_core.specs.Accepting.{mark_asked}
use Rattle.spnego_core.specs.declared.accept_end.AcceptEnd.{AcceptEnd}
use Rattle.spnego_core.specs.declared.outcome.Outcome.{Outcome}
use Rattle.spnego_core.specs.declared.setup.AcceptSetup.{AcceptSetup}
use Rattle.sha1.specs.Sha1.{sha1}
use Rattle.accept_book.specs.Booking.{BookOf}
use Rattle.use_order.specs.Orders.{without}
use Rattle.accept_core.specs.Aging.{in_use}
use Rattle.accept_core.specs.Stepping.{IsNext}
use Rattle.accept_core.specs.History.{opened, numbers, taken_of}
use Rattle.accept_book.specs.RecordShown.{KeptAnswers}
use Rattle.accept_core.specs.Replays.{Accepting}
use Rattle.accept_core.specs.declared.entry.Entry.{Entry}
use Rattle.accept_core.specs.declared.entry.Entry.TheVariants.{Call}
use Rattle.gss_client.specs.Conferring.{DueCall}
use Rattle.pair_laws.specs.Opening.{HasPlaces}
use Rattle.pair_laws.specs.Resting.{IsBefore, RestsAt, RestGives, MarksAt, HoldsOne, IsBy}
use Rattle.pair_laws.specs.Rows.{history_after, greatest_after, RowLeaves}
use Rattle.pair_laws.specs.Running.{Turn, answers_of}

-- ---- the table

same-id : (n : ℕ) → (n == n) ≡ true
same-id n = grind (arith, nat_tests)

pub no-slots : (slots : List (Slot AcceptEnd Outcome)) → ((id : ℕ) → slot_in slots id ≡ None) → length slots ≡ 0
no-slots [] h = refl
no-slots (slot ∷ slots) h =
    let found : Some slot ≡ None = sym (rw (same-id slot.id) refl) ∙ h slot.id in absurd cc

empty-slots : (slots : List (Slot AcceptEnd Outcome)) (id : ℕ) → length slots ≡ 0 → slot_in slots id ≡ None
empty-slots [] id h = refl
empty-slots (slot ∷ slots) id h = absurd (omega (arith, h))

pub none-next : (core : Accepting AcceptEnd Outcome) → ((id : ℕ) → slot_at core.table id ≡ None) → (now : ℕ) → IsNext core.table now None
none-next core h now = (
  λ id. subst (λ (s : Option (Slot AcceptEnd Outcome)). IfSome s (λ slot. now ≤ slot.ends)) (sym (h id)) tt,
  λ many id. ap (λ (s : Option (Slot AcceptEnd Outcome)). is_waiting s) (h id),
)

-- ---- the marks

earlier-apart : (mark : Mark) (taken : TakenMark) (moment : ℕ) → mark.at ≡ moment → IsBefore moment taken → same_mark taken.mark mark ≡ false
earlier-apart mark taken moment at h =
    let apart : (taken.mark.at == mark.at) ≡ false = grind (arith, nat_tests) in by-who (pointwise nat_eq taken.mark.who mark.who) refl apart
  where
    by-who : (who : Bool) → pointwise nat_eq taken.mark.who mark.who ≡ who → (taken.mark.at == mark.at) ≡ false → same_mark taken.mark mark ≡ false
    by-who true e apart = rw (e, apart) refl
    by-who false e apart = rw e refl

no-place : (mark : Mark) (moment : ℕ) (greatest : ℕ) (taken : List TakenMark) → mark.at ≡ moment → AllByRecursion (IsBefore moment) taken → place_of mark (kept_of greatest taken) ≡ None
no-place mark moment greatest [] at h = refl
no-place mark moment greatest (one ∷ more) at h = by-recent (is_recent greatest one) refl (no-place mark moment greatest more at h.1)
  where
    by-recent : (recent : Bool) → is_recent greatest one ≡ recent → place_of mark (kept_of greatest more) ≡ None → place_of mark (kept_of greatest (one ∷ more)) ≡ None
    by-recent true e rest = rw (e, earlier-apart mark one moment at h.0) rest
    by-recent false e rest = rw e rest

kept-few : (greatest : ℕ) (taken : List TakenMark) → length (kept_of greatest taken) ≤ length taken
kept-few greatest [] = omega arith
kept-few greatest (one ∷ more) = by-recent (is_recent greatest one) refl (kept-few greatest more)
  where
    by-recent : (recent : Bool) → is_recent greatest one ≡ recent → length (kept_of greatest more) ≤ length more → length (kept_of greatest (one ∷ more)) ≤ length (one ∷ more)
    by-recent true e few = rw e (omega (arith, few))
    by-recent false e few = rw e (omega (arith, few))

pub not-stale : (greatest moment : ℕ) (mark : Mark) → mark.at ≡ moment → greatest ≤ moment → is_stale (max greatest moment) mark ≡ false
not-stale greatest moment mark at h =
    let one : nat_lt skew (max greatest moment - mark.at) ≡ false = grind (arith, nat_tests) in
    let two : nat_lt skew (mark.at - max greatest moment) ≡ false = grind (arith, nat_tests) in
    rw (one, two) refl

pub is-taken : (count moment capacity greatest : ℕ) (taken : List TakenMark) (mark : Mark) → mark.at ≡ moment → greatest ≤ moment → AllByRecursion (IsBefore moment) taken → length taken ≤ count → count < capacity → cache_verdict capacity (max greatest moment) taken mark ≡ Taken
is-taken count moment capacity greatest taken mark at seen before few room =
    let less : length (kept_of (max greatest moment) taken) < capacity = omega (arith, kept-few (max greatest moment) taken, few, room) in
    let free : nat_lt (length (kept_of (max greatest moment) taken)) capacity ≡ true = grind (arith, nat_tests) in
    rw (not-stale greatest moment mark at seen, no-place mark moment (max greatest moment) taken at before, free) refl

pub all-later : (moment later : ℕ) (taken : List TakenMark) → moment ≤ later → AllByRecursion (IsBefore moment) taken → AllByRecursion (IsBefore later) taken
all-later moment later [] h a = tt
all-later moment later (one ∷ more) h a = (omega (arith, h, a.0), all-later moment later more h a.1)

-- ---- a session's row

opened-after : (id number : ℕ) (made : List DueCall) (h : List Entry) → opened (history_after id number made h) ≡ opened h
opened-after id number [] h = refl
opened-after id number (call ∷ later) h = opened-after id (number + 1) later (Call id number call.query.number (sha1 call.args) ∷ h)

taken-after : (id number : ℕ) (made : List DueCall) (h : List Entry) → taken_of (history_after id number made h) ≡ taken_of h
taken-after id number [] h = refl
taken-after id number (call ∷ later) h = taken-after id (number + 1) later (Call id number call.query.number (sha1 call.args) ∷ h)

called-after : (id number : ℕ) (made : List DueCall) (h : List Entry) (other : ℕ) → (id == other) ≡ false → numbers other (history_after id number made h) ≡ numbers other h
called-after id number [] h other apart = refl
called-after id number (call ∷ later) h other apart = called-after id (number + 1) later (Call id number call.query.number (sha1 call.args) ∷ h) other apart ∙ rw apart refl

same-number : (id : ℕ) → (id == id) ≡ true
same-number id = grind (arith, nat_tests)

unused-after : (id number : ℕ) (made : List DueCall) (h : List Entry) → in_use h ≡ id ∷ [] → in_use (history_after id number made h) ≡ []
unused-after id number [] h e = ap (λ (xs : List ℕ). without id xs) e ∙ rw (same-number id) refl
unused-after id number (call ∷ later) h e =
    unused-after id (number + 1) later (Call id number call.query.number (sha1 call.args) ∷ h)
    (ap (λ (xs : List ℕ). without id xs ++ id ∷ []) e ∙ rw (same-number id) refl)

greatest-by : (moment greatest : ℕ) (turns : List Turn) → greatest ≤ moment → AllByRecursion (IsBy moment) (answers_of turns) → greatest_after turns greatest ≤ moment
greatest-by moment greatest [] h a = h
greatest-by moment greatest (turn ∷ turns) h a = let now : turn.kept.now ≤ moment = a.0 in greatest-by moment (max greatest turn.kept.now) turns (omega (arith, h, now)) a.1

same-ids : (a b : ℕ) → (a == b) ≡ true → a ≡ b
same-ids a b e = grind (arith, nat_tests)

apart-ids : (a b : ℕ) → (a == b) ≡ false → a ≢ b
apart-ids a b e same = let f : (a == b) ≡ true = grind (arith, nat_tests) in absurd cc

pub rests-again : (id count moment first : ℕ) (made : List DueCall) (turns : List Turn) (old new : BookOf) → HoldsOne id count moment old.core → RowLeaves id first made turns old new → AllByRecursion (IsBy moment) (answers_of turns) → RestsAt count moment new.core
rests-again id count moment first made turns old new h l by = record {
  empty = λ other. by-id other (id == other) refl;
  unused = ap (λ (hs : List Entry). in_use hs) l.history ∙ unused-after id first made old.core.history h.used;
  ids = ap (λ (hs : List Entry). opened hs) l.history ∙ (opened-after id first made old.core.history ∙ h.ids);
  uncalled = λ other more. ap (λ (hs : List Entry). numbers other hs) l.history ∙ (called-after id first made old.core.history other (behind-own other more) ∙ h.uncalled other more);
  seen = subst (λ (n : ℕ). n ≤ moment) (sym l.greatest) (greatest-by moment old.core.cache.greatest turns h.seen by);
  marks = subst (λ (ts : List TakenMark). AllByRecursion (IsBefore moment) ts) (sym taken) h.marks;
  few = subst (λ (ts : List TakenMark). length ts ≤ count) (sym taken) h.few;
}
  where
    taken : taken_of new.core.history ≡ taken_of old.core.history
    taken = ap (λ (hs : List Entry). taken_of hs) l.history ∙ taken-after id first made old.core.history

    behind-own : (other : ℕ) → count < other → (id == other) ≡ false
    behind-own other more = let own : id ≤ count = h.own in grind (arith, nat_tests)

    by-id : (other : ℕ) (same : Bool) → (id == other) ≡ same → slot_at new.core.table other ≡ None
    by-id other true e = subst (λ (n : ℕ). slot_at new.core.table n ≡ None) (same-ids id other e) l.gone
    by-id other false e = l.others.others other (apart-ids id other e) ∙ h.others other (apart-ids id other e)

-- ---- the laws

pub rests-begin : (moment : ℕ) (core : Accepting AcceptEnd Outcome) → core.history ≡ [] → live_of core.table ≡ 0 → core.cache.greatest ≤ moment → RestsAt 0 moment core
rests-begin moment core history live seen = record {
  empty = λ id. empty-slots core.table.slots id live;
  unused = ap (λ (h : List Entry). in_use h) history;
  ids = ap (λ (h : List Entry). opened h) history;
  uncalled = λ id more. ap (λ (h : List Entry). numbers id h) history;
  seen = seen;
  marks = subst (λ (h : List Entry). AllByRecursion (IsBefore moment) (taken_of h)) (sym history) tt;
  few = subst (λ (h : List Entry). length (taken_of h) ≤ 0) (sym history) (omega arith);
}

pub rests-on : (count moment later : ℕ) (core : Accepting AcceptEnd Outcome) → RestsAt count moment core → moment ≤ later → RestsAt count later core
rests-on count moment later core r h = record { empty = r.empty; unused = r.unused; ids = r.ids; uncalled = r.uncalled; seen = omega (arith, r.seen, h); marks = all-later moment later (taken_of core.history) h r.marks; few = r.few }

pub rests-give : (count moment : ℕ) (core : Accepting AcceptEnd Outcome) → RestsAt count moment core → RestGives count moment core
rests-give count moment core r = record {
  live = no-slots core.table.slots r.empty;
  past = none-next core r.empty;
  next = ap (λ (n : ℕ). n + 1) r.ids;
}

pub marks-give : (count moment : ℕ) (core : Accepting AcceptEnd Outcome) (mark : Mark) → RestsAt count moment core → mark.at ≡ moment → count < core.cache.capacity
    → cache_verdict core.cache.capacity (max core.cache.greatest moment) (taken_of core.history) mark ≡ Taken
marks-give count moment core mark r at room = is-taken count moment core.cache.capacity core.cache.greatest (taken_of core.history) mark at r.seen r.marks r.few room

pub rests-open : (count moment : ℕ) (setup : AcceptSetup) (core : Accepting AcceptEnd Outcome) (token : List ℕ) (kept : KeptAnswers) → RestsAt count moment core → kept.now ≡ moment → length core.history + 4 ≤ core.limit → 0 < core.table.limit → count < core.cache.capacity → MarksAt setup moment token kept
    → HasPlaces setup core None token kept
rests-open count moment setup core token kept r now log places room marks =
    let g = rests-give count moment core r in
    let few : live_of core.table < core.table.limit = omega (arith, g.live, places) in record {
      past = None;
      is_past = λ first. g.past (max core.cache.greatest kept.now);
      log = log;
      table = λ first. inl few;
      mark = λ pause e.
          subst (λ (n : ℕ). cache_verdict core.cache.capacity (max core.cache.greatest n) (taken_of core.history) (mark_asked pause) ≡ Taken) (sym now) (marks-give count moment core (mark_asked pause) r (marks pause e) room);
    }
