-- What each question to the book keeps of what is held of the contexts.
use Rattle.std.proofs.Common.{◌≡◌, ◌≢◌, ◌⊎◌, ℕ, Bool, true, false, ◌==◌, max, if◌then◌else◌, List, [], ◌∷◌, ◌++◌, Option, Some, None, option_map, option_to_list, Result, Ok, Err, append-nil, refl, sym, ap, subst, inl, inr}
use Rattle.std.proofs.lemmas.Bool.{cases_eq}
use Rattle.spnego_core.specs.declared.accept_end.AcceptEnd.{AcceptEnd}
use Rattle.spnego_core.specs.declared.outcome.Outcome.{Outcome}
use Rattle.spnego_core.specs.declared.setup.AcceptSetup.{AcceptSetup}
use Rattle.spnego_core.specs.Accepting.{Fixed, Accepted}
use Rattle.context_table.specs.declared.slot.Slot.{Slot as TableSlot}
use Rattle.context_table.specs.Places.{Places, slot_at, Marks, KeepsOthers}
use Rattle.accept_core.specs.declared.answer.AdmitRefusal.{AdmitRefusal}
use Rattle.accept_core.specs.declared.answer.LookRefusal.{LookRefusal}
use Rattle.accept_book.specs.declared.book_answer.Lease.{Lease}
use Rattle.accept_book.specs.declared.book_answer.NegAnswer.TheVariants as answers
use Rattle.accept_book.specs.declared.book_answer.Negotiated.{Negotiated}
use Rattle.accept_core.specs.declared.entry.EndCause.TheVariants.{Destroyed}
use Rattle.accept_core.specs.declared.entry.Entry.{Entry}
use Rattle.accept_core.specs.declared.entry.Entry.TheVariants.{Call, Ended}
use Rattle.accept_core.specs.declared.entry.Receipt.{Receipt}
use Rattle.accept_core.specs.Answers.{after}
use Rattle.accept_book.specs.Booking.{BookOf, raised, changed, change_refused, lease_refused}
use Rattle.accept_book.specs.BookLaws.{GoodContext, AllGood, BookLaws}
use Rattle.accept_core.specs.Entering.{id_of}
use Rattle.accept_book.specs.Found.{step_taken, fixes_of}
use Rattle.accept_core.specs.Stepping.{Context as Slot, context_of, IsNext}
use Rattle.accept_book.specs.BookAnswers.{BookStepped, BookLooked, BookAdmitted, BookEnded}
use Rattle.world_laws.specs.State.{Context, World}
use Rattle.world_laws.specs.Events.{IsBook}
use Rattle.world_laws.specs.Lanes.{context_with}
use Rattle.world_laws.proofs.Invariants.{Held}
use Rattle.world_laws.proofs.HeldFacts.{contexts_of, Facts, facts-of}
use Rattle.world_laws.proofs.HeldHistory.{Quiet, quiet-same, quiet-refusal, quiet-after}
use Rattle.world_laws.proofs.HeldSteps.{Comes}
use Rattle.world_laws.proofs.HeldTaken.{taken-facts, refused-facts, fixed-facts}
use Rattle.world_laws.proofs.HeldTurns.{turned-either, facts-turned}

-- the book is good, and what is held of its contexts is
pub record Passes (fixed : List Context) (book : BookOf) : Type 0 where
  pub good : AllGood book.setup book.core.table
  pub facts : Facts book.setup book.core.history (contexts_of book.core.table) fixed

-- ---- contexts stay or end, and nothing is settled

abbrev pub Stay : Places AcceptEnd Outcome → Places AcceptEnd Outcome → Type 0
Stay old new = (id : ℕ) → (contexts_of new id ≡ contexts_of old id) ⊎ (contexts_of new id ≡ None)

good-stay : (setup : AcceptSetup) (before after : Option (Slot AcceptEnd Outcome)) → (after ≡ before) ⊎ (after ≡ None) → GoodContext setup before → GoodContext setup after
good-stay setup before after (inl same) good = subst (GoodContext setup) (sym same) good
good-stay setup before after (inr gone) good = subst (GoodContext setup) (sym gone) tt

quiet-facts : (setup : AcceptSetup) (h new : List Entry) (old table : Places AcceptEnd Outcome) (fixed : List Context) → Facts setup h (contexts_of old) fixed → Quiet h new → Stay old table
    → Facts setup new (contexts_of table) fixed
quiet-facts setup h new old table fixed facts quiet stay =
    facts-turned setup h new (contexts_of old) (contexts_of table) fixed facts quiet.grows (λ id. turned-either h id (contexts_of old id) (contexts_of table id) (stay id))
    (λ place id mech names ends at e. facts.settled place id mech names ends at (quiet.settled place id mech names ends at e))

-- the contexts, and no more
none-more : (book : BookOf) (fixed : List Context) → Passes fixed book → Passes (fixed ++ []) book
none-more book fixed p = subst (λ (f : List Context). Passes f book) (sym (append-nil fixed)) p

with-setup : (setup : AcceptSetup) (book : BookOf) (fixed : List Context) → book.setup ≡ setup → AllGood setup book.core.table → Facts setup book.core.history (contexts_of book.core.table) fixed → Passes fixed book
with-setup setup book fixed same good facts = record {
  good = subst (λ (s : AcceptSetup). AllGood s book.core.table) (sym same) good;
  facts = subst (λ (s : AcceptSetup). Facts s book.core.history (contexts_of book.core.table) fixed) (sym same) facts;
}

quiet-passes : (old : World) (book : BookOf) → Held old → book.setup ≡ old.book.setup → Quiet old.book.core.history book.core.history → Stay old.book.core.table book.core.table
    → Passes (old.fixed ++ []) book
quiet-passes old book held same quiet stay =
    none-more book old.fixed
    (with-setup old.book.setup book old.fixed same
    (λ id. good-stay old.book.setup (contexts_of old.book.core.table id) (contexts_of book.core.table id) (stay id) (held.good id))
    (quiet-facts old.book.setup old.book.core.history book.core.history old.book.core.table book.core.table old.fixed (facts-of old held) quiet stay))

-- ---- a look

pub look-passes : (old : World) (id now : ℕ) (answer : Result Lease LookRefusal) (book : BookOf) → Held old → BookLooked old.book book id now answer → Passes (old.fixed ++ []) book
look-passes old id now answer book held looked =
    quiet-passes old book held looked.setup (subst (λ (h : List Entry). Quiet old.book.core.history h) (sym looked.looked.history) (quiet-same old.book.core.history))
    (λ k. inl (ap (λ (t : Places AcceptEnd Outcome). contexts_of t k) looked.looked.table))

-- ---- an admission, and an end

marked : (before after : Option (TableSlot AcceptEnd Outcome)) (seq : ℕ) → Marks before after seq → context_of after ≡ context_of before
marked (Some before) (Some after) seq m = λ i. Some (record { state = m.state i; ends = m.ends i })
marked (Some before) None seq m = absurd m
marked None after seq m = absurd m

pub marked-stay : (old new : Places AcceptEnd Outcome) (id seq : ℕ) → Marks (slot_at old id) (slot_at new id) seq → KeepsOthers old new id → Stay old new
marked-stay old new id seq marks keeps = λ k. elim (cases_eq id k) [
  | inl own ↦ inl (subst (λ (j : ℕ). contexts_of new j ≡ contexts_of old j) own (marked (slot_at old id) (slot_at new id) seq marks))
  | inr other ↦ inl (ap context_of (keeps.others k other))
]

pub gone-stay : (old new : Places AcceptEnd Outcome) (id : ℕ) → slot_at new id ≡ None → KeepsOthers old new id → Stay old new
gone-stay old new id gone keeps = λ k. elim (cases_eq id k) [
  | inl own ↦ inr (subst (λ (j : ℕ). contexts_of new j ≡ None) own (ap context_of gone))
  | inr other ↦ inl (ap context_of (keeps.others k other))
]

same-passes : (old : World) (book : BookOf) → Held old → book ≡ old.book → Passes (old.fixed ++ []) book
same-passes old book held same =
    subst (λ (b : BookOf). Passes (old.fixed ++ []) b) (sym same)
    (none-more old.book old.fixed (record { good = held.good; facts = facts-of old held }))

pub quiet-history : (h new : List Entry) (refusal : Option AdmitRefusal) (entry : Entry) → Quiet h (after refusal entry h) → new ≡ after refusal entry h → Quiet h new
quiet-history h new refusal entry quiet same = subst (λ (x : List Entry). Quiet h x) (sym same) quiet

pub admit-passes : (old : World) (lease : Lease) (seq procedure : ℕ) (args : List ℕ) (answer : Result Receipt AdmitRefusal) (book : BookOf) → Held old
    → BookAdmitted old.book book lease seq procedure args answer → Passes (old.fixed ++ []) book
admit-passes old lease seq procedure args (Ok admitted) book held a =
    quiet-passes old book held a.setup
    (quiet-history old.book.core.history book.core.history (lease_refused old.book.core lease seq) (Call lease.id seq procedure args)
    (quiet-after (lease_refused old.book.core lease seq) (Call lease.id seq procedure args) old.book.core.history tt) a.history)
    (marked-stay old.book.core.table book.core.table lease.id seq (a.slot refl) a.others)
admit-passes old lease seq procedure args (Err refusal) book held a = same-passes old book held a.unchanged

pub end-passes : (old : World) (lease : Lease) (seq : ℕ) (answer : Result Receipt AdmitRefusal) (book : BookOf) → Held old → BookEnded old.book book lease seq answer → Passes (old.fixed ++ []) book
end-passes old lease seq (Ok receipt) book held a =
    quiet-passes old book held a.setup
    (quiet-history old.book.core.history book.core.history (lease_refused old.book.core lease seq) (Ended lease.id (Destroyed seq))
    (quiet-after (lease_refused old.book.core lease seq) (Ended lease.id (Destroyed seq)) old.book.core.history tt) a.history)
    (gone-stay old.book.core.table book.core.table lease.id (a.gone refl) a.others)
end-passes old lease seq (Err refusal) book held a = same-passes old book held a.unchanged

-- ---- a token

if-stay : (b : Bool) (before after : Option (Slot AcceptEnd Outcome)) → after ≡ (if b then None else before) → (after ≡ before) ⊎ (after ≡ None)
if-stay true before after e = inr e
if-stay false before after e = inl e

pub refused-stay : (gone : Option ℕ) (id : ℕ) (before after : Option (Slot AcceptEnd Outcome)) → after ≡ changed (change_refused gone) id before → (after ≡ before) ⊎ (after ≡ None)
refused-stay None id before after e = inl e
refused-stay (Some k) id before after e = if-stay (k == id) before after e

-- that met want of memory
pub short-passes : (old : World) (id : Option ℕ) (token : List ℕ) (now : ℕ) (draws : List ℕ) (result : Negotiated) (book : BookOf) → Held old → BookStepped old.book book id token now draws result
    → result.answer ≡ answers.NoMemory → Passes (old.fixed ++ []) book
short-passes old id token now draws result book held stepped short =
    quiet-passes old book held stepped.notes.setup
    (subst (λ (h : List Entry). Quiet old.book.core.history h) (sym (stepped.comes.memory short).history) (quiet-refusal id old.book.core.history))
    (λ k. refused-stay id k (contexts_of old.book.core.table k) (contexts_of book.core.table k) ((stepped.comes.memory short).contexts k))

-- the step that was taken, where one was
abbrev taken_in : BookOf → Option ℕ → Option ℕ → List ℕ → ℕ → List ℕ → Option Accepted
taken_in book id past token now draws = step_taken book.setup (raised book.core now) id past token now draws

abbrev added_in : BookOf → Option ℕ → Option Fixed → List Context
added_in book id fixes = option_to_list (option_map (context_with (id_of id book.core.history)) fixes)

pub comes-in : (old : World) (id past : Option ℕ) (token : List ℕ) (now : ℕ) (draws : List ℕ) (result : Negotiated) (book : BookOf) → IsNext old.book.core.table (max old.book.core.cache.greatest now) past
    → BookStepped old.book book id token now draws result → result.answer ≢ answers.NoMemory
    → Comes old.book.setup (raised old.book.core now) id past token now draws book.core.history book.core.table
comes-in old id past token now draws result book is stepped memory =
    let o = stepped.comes.outcome past (λ first. is) memory in record { history = o.history; contexts = o.contexts }

fact-passes : (laws : BookLaws) (old : World) (id past : Option ℕ) (token : List ℕ) (now : ℕ) (draws : List ℕ) (book : BookOf) (fixed : List Context) → Held old → book.setup ≡ old.book.setup
    → Comes old.book.setup (raised old.book.core now) id past token now draws book.core.history book.core.table
    → Facts old.book.setup book.core.history (contexts_of book.core.table) fixed → Passes fixed book
fact-passes laws old id past token now draws book fixed held same comes facts =
    with-setup old.book.setup book fixed same (laws.good old.book.setup (raised old.book.core now) id past token now draws book.core.table held.good comes.contexts) facts

-- that fixes no context
unfixed-passes : (laws : BookLaws) (old : World) (id past : Option ℕ) (token : List ℕ) (now : ℕ) (draws : List ℕ) (book : BookOf) → Held old → book.setup ≡ old.book.setup
    → Comes old.book.setup (raised old.book.core now) id past token now draws book.core.history book.core.table
    → (taken : Option Accepted) → taken_in old.book id past token now draws ≡ taken → fixes_of taken ≡ None → Passes (old.fixed ++ []) book
unfixed-passes laws old id past token now draws book held same comes None taken none =
    none-more book old.fixed
    (fact-passes laws old id past token now draws book old.fixed held same comes
    (refused-facts laws old.book.setup (raised old.book.core now) id past token now draws book.core.history book.core.table old.fixed held.good taken comes (facts-of old held)))
unfixed-passes laws old id past token now draws book held same comes (Some accepted) taken none =
    none-more book old.fixed
    (fact-passes laws old id past token now draws book old.fixed held same comes
    (taken-facts laws old.book.core.width old.book.setup (raised old.book.core now) id past token now draws book.core.history book.core.table accepted old.fixed held.book.slots held.good taken comes none (facts-of old held)))

-- by what is fixed
pub fixes-pass : (laws : BookLaws) (old : World) (id past : Option ℕ) (token : List ℕ) (now : ℕ) (draws : List ℕ) (book : BookOf) → Held old → IsBook book → book.setup ≡ old.book.setup
    → Comes old.book.setup (raised old.book.core now) id past token now draws book.core.history book.core.table
    → (fixes : Option Fixed) → fixes_of (taken_in old.book id past token now draws) ≡ fixes → Passes (old.fixed ++ added_in old.book id fixes) book
fixes-pass laws old id past token now draws book held is same comes None e =
    unfixed-passes laws old id past token now draws book held same comes (taken_in old.book id past token now draws) refl e
fixes-pass laws old id past token now draws book held is same comes (Some f) e =
    fact-passes laws old id past token now draws book (old.fixed ++ context_with (id_of id old.book.core.history) f ∷ []) held same comes
    (fixed-facts laws old.book.core.width _ _ old.book.setup (raised old.book.core now) id past token now draws book.core.history book.core.table f old.fixed held.book.slots held.good e comes is (facts-of old held))
