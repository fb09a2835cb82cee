-- A step that was taken keeps what is held of the contexts.
use Rattle.std.proofs.Common.{◌≡◌, ◌⊎◌, ◌∙◌, ℕ, ◌==◌, List, [], ◌∷◌, ◌++◌, length, Option, Some, None, IsSome, refl, sym, ap, subst, inl, inr, arith}
use Rattle.std.proofs.lemmas.Bool.{cases_eq}
use Rattle.std.proofs.lemmas.Option.{none-some, same_Some}
use Rattle.gss_base.specs.declared.mech.MechKind.{MechKind}
use Rattle.ap_exchange.specs.declared.judged.Judged.{Judged}
use Rattle.ap_exchange.specs.Judging.{judged_mark}
use Rattle.replay_cache.specs.Taking.{Cached}
use Rattle.scram_mech.specs.Acceptor.{AcceptModel}
use Rattle.spnego_core.specs.declared.accept_end.AcceptEnd.{AcceptEnd}
use Rattle.spnego_core.specs.declared.outcome.Outcome.{Outcome}
use Rattle.spnego_core.specs.declared.setup.AcceptSetup.{AcceptSetup}
use Rattle.spnego_core.specs.AcceptLaws.{ByKerberos, ByScram}
use Rattle.spnego_core.specs.AcceptMech.{Basis, ByRequest, ByProof}
use Rattle.spnego_core.specs.Accepting.{Fixed, Accepted}
use Rattle.context_table.specs.declared.slot.Slot.{Slot as TableSlot}
use Rattle.context_table.specs.declared.slot.SlotState.TheVariants.{Complete}
use Rattle.context_table.specs.Places.{Places, slot_at}
use Rattle.accept_book.specs.declared.book_answer.Lease.{Lease}
use Rattle.accept_core.specs.declared.entry.Entry.{Entry}
use Rattle.accept_core.specs.declared.entry.Entry.TheVariants.{Auth, Settled}
use Rattle.accept_core.proofs.Appended.{lives-opened}
use Rattle.accept_book.specs.Booking.{Stands, Change, changed, change_refused, negotiated, by_outcome, names_of}
use Rattle.accept_book.specs.BookLaws.{Lasting, fixed_in, fixed_end, fixed_after, Takes, AddsBy, FixesContext, AllGood, Refuses, BookLaws}
use Rattle.accept_core.specs.Entering.{id_of}
use Rattle.accept_book.specs.Found.{stepped_from, step_taken, fixes_of}
use Rattle.accept_core.specs.History.{entry_at}
use Rattle.accept_core.specs.Replays.{Replays}
use Rattle.accept_core.specs.Stepping.{Context as Slot, context_of}
use Rattle.world_laws.specs.State.{Context}
use Rattle.world_laws.specs.Lanes.{context_with}
use Rattle.world_laws.proofs.HeldFacts.{AuthIn, SettledAs, Contexts, contexts_of, Slots, AllSettled, Facts, more-settled}
use Rattle.world_laws.proofs.HeldHistory.{Grows, Quiet, grows-one, grows-then, at-head, at-tail}
use Rattle.world_laws.proofs.HeldTold.{Told, told}
use Rattle.world_laws.proofs.HeldTurns.{Turned, turned-same, turned-if, slots-turned, facts-turned, Adds, slots-added, facts-added}
use Rattle.world_laws.proofs.HeldSteps.{AllSame, Comes, own-turned, own-absent, other-turned}
use Rattle.world_laws.proofs.HeldOpened.{slot-opened}

-- ---- what is settled

-- the newest entry settles a context, which stands so
record Settling (h new : List Entry) (d : Contexts) : Type 0 where
  pub lease : Lease
  pub earlier : List Entry
  pub at : ℕ
  pub entry : new ≡ Settled lease.id lease.outcome.mech (names_of lease.outcome) lease.ends at ∷ earlier
  pub quiet : Quiet h earlier
  pub context : d lease.id ≡ Some (record { state = Complete lease.outcome; ends = lease.ends })

same-id : (a b : ℕ) (m n : MechKind) (xs ys : List ℕ) (p q s t : ℕ) → Settled a m xs p s ≡ Settled b n ys q t → a ≡ b
same-id a b m n xs ys p q s t e = cc

same-mech : (a b : ℕ) (m n : MechKind) (xs ys : List ℕ) (p q s t : ℕ) → Settled a m xs p s ≡ Settled b n ys q t → m ≡ n
same-mech a b m n xs ys p q s t e = cc

same-names : (a b : ℕ) (m n : MechKind) (xs ys : List ℕ) (p q s t : ℕ) → Settled a m xs p s ≡ Settled b n ys q t → xs ≡ ys
same-names a b m n xs ys p q s t e = cc

same-ends : (a b : ℕ) (m n : MechKind) (xs ys : List ℕ) (p q s t : ℕ) → Settled a m xs p s ≡ Settled b n ys q t → p ≡ q
same-ends a b m n xs ys p q s t e = cc

by-lease : (lease : Lease) (d : Contexts) (fixed : List Context) (id : ℕ) (mech : MechKind) (names : List ℕ) (ends at when : ℕ) → Slots d fixed
    → d lease.id ≡ Some (record { state = Complete lease.outcome; ends = lease.ends })
    → Settled lease.id lease.outcome.mech (names_of lease.outcome) lease.ends at ≡ Settled id mech names ends when → SettledAs fixed id mech names ends
by-lease lease d fixed id mech names ends at when slots stands e =
    let f = slots lease.id (record { state = Complete lease.outcome; ends = lease.ends }) (record { outcome = lease.outcome; ends = lease.ends }) stands refl in
    record {
      outcome = lease.outcome;
      is_fixed = record {
        place = f.place;
        context = f.context;
        there = f.there;
        id_is = f.id_is ∙ same-id lease.id id lease.outcome.mech mech (names_of lease.outcome) names lease.ends ends at when e;
        outcome_is = f.outcome_is;
        ends_is = f.ends_is ∙ same-ends lease.id id lease.outcome.mech mech (names_of lease.outcome) names lease.ends ends at when e;
      };
      mech_is = same-mech lease.id id lease.outcome.mech mech (names_of lease.outcome) names lease.ends ends at when e;
      names_is = same-names lease.id id lease.outcome.mech mech (names_of lease.outcome) names lease.ends ends at when e;
    }

abbrev Stays : List Context → List Context → Type 0
Stays fixed more = (id : ℕ) (mech : MechKind) (names : List ℕ) (ends : ℕ) → SettledAs fixed id mech names ends → SettledAs more id mech names ends

settled-quiet : (h new : List Entry) (fixed more : List Context) → Stays fixed more → AllSettled h fixed → Quiet h new → AllSettled new more
settled-quiet h new fixed more stays settled quiet = λ place id mech names ends at e.
    stays id mech names ends (settled place id mech names ends at (quiet.settled place id mech names ends at e))

settled-head : (h earlier : List Entry) (lease : Lease) (at : ℕ) (d : Contexts) (fixed more : List Context) → Stays fixed more → AllSettled h fixed → Slots d more → Quiet h earlier
    → d lease.id ≡ Some (record { state = Complete lease.outcome; ends = lease.ends })
    → AllSettled (Settled lease.id lease.outcome.mech (names_of lease.outcome) lease.ends at ∷ earlier) more
settled-head h earlier lease at d fixed more stays settled slots quiet stands = λ place id mech names ends when e. elim (cases_eq place (length earlier)) [
  | inl here ↦
      by-lease lease d more id mech names ends at when slots stands
      (same_Some (Settled lease.id lease.outcome.mech (names_of lease.outcome) lease.ends at) (Settled id mech names ends when)
      (sym (at-head place (Settled lease.id lease.outcome.mech (names_of lease.outcome) lease.ends at) earlier here) ∙ e))
  | inr later ↦
      settled-quiet h earlier fixed more stays settled quiet place id mech names ends when
      (sym (at-tail place (Settled lease.id lease.outcome.mech (names_of lease.outcome) lease.ends at) earlier later) ∙ e)
]

settled-new : (h new : List Entry) (d : Contexts) (fixed more : List Context) → Stays fixed more → AllSettled h fixed → Slots d more → Quiet h new ⊎ Settling h new d → AllSettled new more
settled-new h new d fixed more stays settled slots (inl quiet) = settled-quiet h new fixed more stays settled quiet
settled-new h new d fixed more stays settled slots (inr s) =
    subst (λ (x : List Entry). AllSettled x more) (sym s.entry) (settled-head h s.earlier s.lease s.at d fixed more stays settled slots s.quiet s.context)

grown : (h new : List Entry) (d : Contexts) → Quiet h new ⊎ Settling h new d → Grows h new
grown h new d (inl quiet) = quiet.grows
grown h new d (inr s) =
    subst (λ (x : List Entry). Grows h x) (sym s.entry)
    (grows-then h s.earlier _ s.quiet.grows (grows-one (Settled s.lease.id s.lease.outcome.mech (names_of s.lease.outcome) s.lease.ends s.at) s.earlier))

settling : (laws : BookLaws) (setup : AcceptSetup) (book : Stands) (id past : Option ℕ) (token : List ℕ) (now : ℕ) (draws : List ℕ) (h : List Entry) (table : Places AcceptEnd Outcome)
    → AllGood setup book.table → Comes setup book id past token now draws h table
    → Told book.history (negotiated setup book id past token now draws) → Quiet book.history h ⊎ Settling book.history h (contexts_of table)
settling laws setup book id past token now draws h table good comes (inl quiet) = inl (subst (λ (x : List Entry). Quiet book.history x) (sym comes.history) quiet)
settling laws setup book id past token now draws h table good comes (inr done) =
    let c = laws.completes setup book id past token now draws done.lease done.last good done.answer_is in
    inr (record {
      lease = done.lease;
      earlier = done.earlier;
      at = done.at;
      entry = comes.history ∙ done.entry;
      quiet = done.quiet;
      context = comes.contexts done.lease.id ∙ c.context (contexts_of book.table done.lease.id);
    })

-- ---- nothing is fixed

all-turned : (wide : ℕ) (setup : AcceptSetup) (book : Stands) (id past : Option ℕ) (token : List ℕ) (now : ℕ) (draws : List ℕ) (h : List Entry) (table : Places AcceptEnd Outcome) (accepted : Accepted)
    → AllSame wide book → Takes setup book id past token now draws accepted → Comes setup book id past token now draws h table → accepted.fixes ≡ None
    → (k : ℕ) → Turned book.history k (contexts_of book.table k) (contexts_of table k)
all-turned wide setup book id past token now draws h table accepted same takes comes none k = elim (cases_eq (id_of id book.history) k) [
  | inl own ↦
      subst (λ (j : ℕ). Turned book.history j (contexts_of book.table j) (contexts_of table j)) own
      (own-turned wide book id (contexts_of table (id_of id book.history)) same takes.negotiates
      (ap fixed_in (comes.contexts (id_of id book.history)) ∙ takes.fixed (contexts_of book.table (id_of id book.history))
      ∙ ap (λ (f : Option Fixed). fixed_after f (fixed_end (stepped_from book id))) none))
  | inr other ↦ other-turned setup book id past token now draws h table accepted takes comes k other
]

-- where each context is turned so, nothing is fixed
pub turned-facts : (laws : BookLaws) (setup : AcceptSetup) (book : Stands) (id past : Option ℕ) (token : List ℕ) (now : ℕ) (draws : List ℕ) (h : List Entry) (table : Places AcceptEnd Outcome)
    (fixed : List Context) → AllGood setup book.table → Comes setup book id past token now draws h table
    → ((k : ℕ) → Turned book.history k (contexts_of book.table k) (contexts_of table k)) → Facts setup book.history (contexts_of book.table) fixed → Facts setup h (contexts_of table) fixed
turned-facts laws setup book id past token now draws h table fixed good comes turned facts =
    go (settling laws setup book id past token now draws h table good comes (told setup book id past token now draws))
  where
    go : Quiet book.history h ⊎ Settling book.history h (contexts_of table) → Facts setup h (contexts_of table) fixed
    go settles =
        facts-turned setup book.history h (contexts_of book.table) (contexts_of table) fixed facts (grown book.history h (contexts_of table) settles) turned
        (settled-new book.history h (contexts_of table) fixed fixed (λ id mech names ends s. s) facts.settled
        (slots-turned book.history (contexts_of book.table) (contexts_of table) fixed facts.slots turned) settles)

pub taken-facts : (laws : BookLaws) (wide : ℕ) (setup : AcceptSetup) (book : Stands) (id past : Option ℕ) (token : List ℕ) (now : ℕ) (draws : List ℕ) (h : List Entry) (table : Places AcceptEnd Outcome)
    (accepted : Accepted) (fixed : List Context) → AllSame wide book → AllGood setup book.table → step_taken setup book id past token now draws ≡ Some accepted
    → Comes setup book id past token now draws h table → accepted.fixes ≡ None → Facts setup book.history (contexts_of book.table) fixed → Facts setup h (contexts_of table) fixed
taken-facts laws wide setup book id past token now draws h table accepted fixed same good taken comes none facts =
    turned-facts laws setup book id past token now draws h table fixed good comes
    (all-turned wide setup book id past token now draws h table accepted same (laws.takes setup book id past token now draws accepted taken) comes none) facts

-- ---- a token is refused

turned-refused : (h : List Entry) (ended : Option ℕ) (k : ℕ) (before after : Option (Slot AcceptEnd Outcome)) → after ≡ changed (change_refused ended) k before → Turned h k before after
turned-refused h None k before after e = turned-same h k before after e
turned-refused h (Some gone) k before after e = turned-if (gone == k) h k before after e

pub refused-facts : (laws : BookLaws) (setup : AcceptSetup) (book : Stands) (id past : Option ℕ) (token : List ℕ) (now : ℕ) (draws : List ℕ) (h : List Entry) (table : Places AcceptEnd Outcome)
    (fixed : List Context) → AllGood setup book.table → step_taken setup book id past token now draws ≡ None
    → Comes setup book id past token now draws h table → Facts setup book.history (contexts_of book.table) fixed → Facts setup h (contexts_of table) fixed
refused-facts laws setup book id past token now draws h table fixed good untaken comes facts = go (laws.refuses setup book id past token now draws untaken)
  where
    go : Refuses (negotiated setup book id past token now draws) → Facts setup h (contexts_of table) fixed
    go r =
        turned-facts laws setup book id past token now draws h table fixed good comes
        (λ k. turned-refused book.history r.ended k (contexts_of book.table k) (contexts_of table k)
        (comes.contexts k ∙ ap (λ (c : Change). changed c k (contexts_of book.table k)) r.change)) facts

-- ---- a context is fixed

same-request : (b : Basis) (request other : Judged) → b ≡ ByRequest request → b ≡ ByRequest other → other ≡ request
same-request b request other e f = cc

other-basis : (b : Basis) (end : AcceptModel) (text : List ℕ) (request : Judged) → b ≡ ByProof end text → b ≡ ByRequest request → ⊥
other-basis b end text request e f = cc

auth-in : (setup : AcceptSetup) (old : AcceptEnd) (now : ℕ) (draws : List ℕ) (accepted : Accepted) (fixed : Fixed) (before after h : List Entry) (id greatest : ℕ) (request : Judged)
    → (by : ByKerberos setup now draws accepted fixed ⊎ ByScram setup old now accepted fixed) → AddsBy setup old now draws accepted fixed before after id greatest by → h ≡ after
    → fixed.basis ≡ ByRequest request → AuthIn h (context_with id fixed) request
auth-in setup old now draws accepted fixed before after h id greatest request (inl by) adds same basis = record {
  place = adds.place;
  at = greatest;
  entry = ap (entry_at adds.place) same ∙ adds.entry ∙ ap (λ (r : Judged). Some (Auth id (judged_mark r) greatest)) (same-request fixed.basis request by.request basis by.basis_is);
}
auth-in setup old now draws accepted fixed before after h id greatest request (inr by) adds same basis =
    absurd (other-basis fixed.basis by.end by.token request by.basis_is basis)

some-slot : (slot : Option (TableSlot AcceptEnd Outcome)) (L : Lasting) → fixed_in (context_of slot) ≡ Some L → IsSome slot
some-slot None L e = absurd (none-some L e)
some-slot (Some slot) L e = refl

adds : (laws : BookLaws) (wide broad : ℕ) (cache : Cached) (setup : AcceptSetup) (book : Stands) (id past : Option ℕ) (token : List ℕ) (now : ℕ) (draws : List ℕ) (h : List Entry) (table : Places AcceptEnd Outcome)
    (f : Fixed) (fixed : List Context) → AllSame wide book → fixes_of (step_taken setup book id past token now draws) ≡ Some f
    → (fc : FixesContext setup book id past token now draws f) → Takes setup book id past token now draws fc.accepted
    → Comes setup book id past token now draws h table → Replays by_outcome broad h table cache → Quiet book.history h ⊎ Settling book.history h (contexts_of table)
    → Facts setup book.history (contexts_of book.table) fixed
    → Adds setup book.history h (contexts_of book.table) (contexts_of table) fixed (context_with (id_of id book.history) f)
adds laws wide broad cache setup book id past token now draws h table f fixed same fixes fc takes comes replays settles facts =
    let own : fixed_in (contexts_of table (id_of id book.history)) ≡ Some (record { outcome = f.outcome; ends = f.lasts }) =
    ap fixed_in (comes.contexts (id_of id book.history)) ∙ takes.fixed (contexts_of book.table (id_of id book.history))
    ∙ ap (λ (o : Option Fixed). fixed_after o (fixed_end (stepped_from book id))) (sym (ap fixes_of fc.taken) ∙ fixes) in
    record {
      others = other-turned setup book id past token now draws h table fc.accepted takes comes;
      own = own;
      absent = own-absent wide setup book id fixed same takes.negotiates fc.unfixed facts;
      within =
          let lt = lives-opened by_outcome broad h table cache (id_of id book.history) replays (some-slot (slot_at table (id_of id book.history)) _ own) in
          omega (arith, lt);
      opens = slot-opened broad h (slot_at table (id_of id book.history)) (id_of id book.history) (record { outcome = f.outcome; ends = f.lasts }) replays.legal (replays.slots (id_of id book.history)) own;
      grows = grown book.history h (contexts_of table) settles;
      auth = λ request basis.
          auth-in setup (stepped_from book id) now draws fc.accepted f book.history (negotiated setup book id past token now draws).history h (id_of id book.history) book.greatest request
          fc.fixes.by fc.adds comes.history basis;
      best_is = fc.fixes.best_is;
    }

pub fixed-facts : (laws : BookLaws) (wide broad : ℕ) (cache : Cached) (setup : AcceptSetup) (book : Stands) (id past : Option ℕ) (token : List ℕ) (now : ℕ) (draws : List ℕ) (h : List Entry) (table : Places AcceptEnd Outcome)
    (f : Fixed) (fixed : List Context) → AllSame wide book → AllGood setup book.table → fixes_of (step_taken setup book id past token now draws) ≡ Some f
    → Comes setup book id past token now draws h table → Replays by_outcome broad h table cache
    → Facts setup book.history (contexts_of book.table) fixed → Facts setup h (contexts_of table) (fixed ++ context_with (id_of id book.history) f ∷ [])
fixed-facts laws wide broad cache setup book id past token now draws h table f fixed same good fixes comes replays facts =
    go (settling laws setup book id past token now draws h table good comes (told setup book id past token now draws)) (laws.fixes setup book id past token now draws f good fixes)
  where
    x : Context
    x = context_with (id_of id book.history) f

    from : Quiet book.history h ⊎ Settling book.history h (contexts_of table) → Adds setup book.history h (contexts_of book.table) (contexts_of table) fixed x → Facts setup h (contexts_of table) (fixed ++ x ∷ [])
    from settles a =
        facts-added setup book.history h (contexts_of book.table) (contexts_of table) fixed x facts a
        (settled-new book.history h (contexts_of table) fixed (fixed ++ x ∷ []) (more-settled fixed (x ∷ [])) facts.settled
        (slots-added setup book.history h (contexts_of book.table) (contexts_of table) fixed x facts.slots a) settles)

    go : Quiet book.history h ⊎ Settling book.history h (contexts_of table) → FixesContext setup book id past token now draws f → Facts setup h (contexts_of table) (fixed ++ x ∷ [])
    go settles fc =
        from settles
        (adds laws wide broad cache setup book id past token now draws h table f fixed same fixes fc (laws.takes setup book id past token now draws fc.accepted fc.taken) comes replays settles facts)
