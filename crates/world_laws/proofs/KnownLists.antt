-- What a settled context knows of the list: its mechanism is the acceptor's first choice, or the list that came is that of an initiator whose mechanism is done with the context's key.
use Rattle.std.proofs.Common.{◌≡◌, ◌≢◌, ◌⊎◌, inl, inr, ℕ, Bool, true, false, not, refl, sym, ap, ◌∙◌, subst, arith, List, ◌∷◌, length, take, slice_get, Option, Some, None, max}
use Rattle.std.specs.Prelude.{◌&&◌, Ok, Err}
use Rattle.std.proofs.lemmas.Bool.{cases_eq}
use Rattle.std.proofs.lemmas.Option.{none-some, same_Some}
use Rattle.gss_base.specs.declared.mech.MechKind.{MechKind}
use Rattle.krb_derive.specs.declared.key.Key.{Key}
use Rattle.krb_tokens.specs.declared.end.Side.TheVariants.{Initiator, Acceptor}
use Rattle.krb_tokens.specs.Laws.{Laws as TokenLaws}
use Rattle.krb_tokens.specs.Mic.{mic_header, checked_mic}
use Rattle.scram_mech.specs.MechMaking.{MechMaking}
use Rattle.spnego_msgs.specs.Lists.{list_octets}
use Rattle.spnego_core.specs.declared.accept_end.Owing.{Owing}
use Rattle.spnego_core.specs.declared.accept_end.AcceptEnd.{AcceptEnd}
use Rattle.spnego_core.specs.declared.accept_end.AcceptEnd.TheVariants as ends
use Rattle.spnego_core.specs.declared.outcome.Outcome.{Outcome}
use Rattle.spnego_core.specs.declared.setup.AcceptSetup.{AcceptSetup}
use Rattle.spnego_core.specs.Ends.{PlainSetup}
use Rattle.spnego_core.specs.AcceptLaws.{TakesMic, Stands as StandsBy}
use Rattle.spnego_core.specs.Choice.{is_first, is_first_named}
use Rattle.spnego_core.specs.Initiating.{own_list}
use Rattle.spnego_core.specs.ListMic.{is_list_mic, mic_making, mic_found}
use Rattle.spnego_core.specs.Outcome.{token_end}
use Rattle.context_table.specs.declared.slot.Slot.{Slot as TableSlot}
use Rattle.context_table.specs.declared.slot.SlotState.{SlotState}
use Rattle.context_table.specs.declared.slot.SlotState.TheVariants as states
use Rattle.context_table.specs.declared.slot.SlotState.TheVariants.{Negotiating, Complete}
use Rattle.context_table.specs.Places.{slot_at, state_of}
use Rattle.context_table.specs.Slots.{state_taken}
use Rattle.sha1.specs.Sha1.{sha1}
use Rattle.accept_book.specs.declared.book_answer.Admitted.{Admitted}
use Rattle.accept_book.specs.declared.book_answer.NegAnswer.{NegAnswer}
use Rattle.accept_book.specs.declared.book_answer.NegAnswer.TheVariants as answers
use Rattle.accept_book.specs.declared.book_answer.Negotiated.{Negotiated}
use Rattle.accept_core.specs.declared.entry.EndCause.TheVariants.{Destroyed}
use Rattle.accept_core.specs.declared.entry.Entry.{Entry}
use Rattle.accept_core.specs.declared.entry.Entry.TheVariants.{Settled, Call, Ended}
use Rattle.accept_book.specs.BookAnswers.{BookStepped}
use Rattle.accept_book.specs.Booking.{BookOf, Stands, raised, names_of, negotiated, lease_refused}
use Rattle.accept_book.specs.BookLaws.{BookLaws, Lasting, fixed_in}
use Rattle.accept_core.specs.Entering.{id_of}
use Rattle.accept_book.specs.Found.{step_taken, found_of, end_before, stepped_from}
use Rattle.accept_book.specs.RecordShown.{booked, Asked, AskedStep, AskedLook, AskedAdmit, AskedEnd}
use Rattle.accept_core.specs.Stepping.{Context as Slot, context_of, IsNext}
use Rattle.gss_server.specs.Asking.{BookAnswers}
use Rattle.world_laws.specs.declared.event.WorldEvent.{WorldEvent}
use Rattle.world_laws.specs.Deeds.{Deed}
use Rattle.world_laws.specs.State.{InHand, Context, World}
use Rattle.world_laws.specs.Lanes.{in_hand, ruling_of, question_of, found_by}
use Rattle.world_laws.specs.Events.{Happens, Begins}
use Rattle.world_laws.specs.KnownList.{UnforgedList}
use Rattle.world_laws.specs.Premises.{Marking, GuardedBasis, BuiltKey, OnGuarded, WasSettled, WasMade, Unforged}
use Rattle.world_laws.proofs.Invariants.{Below, Known, Held, FixedAs, MechFinished}
use Rattle.world_laws.proofs.Apart.{split-back, OfList, own-list}
use Rattle.world_laws.proofs.FoundKept.{finished-grows}
use Rattle.world_laws.proofs.Growing.{Grows, grows, fixed-grow, built-grows}
use Rattle.world_laws.proofs.Happening.{Came, Idling, Moving, Laning, came}
use Rattle.world_laws.proofs.HeldBooks.{comes-in, quiet-history}
use Rattle.world_laws.proofs.HeldDue.{due-moment}
use Rattle.world_laws.proofs.HeldFacts.{contexts_of}
use Rattle.world_laws.proofs.HeldHistory.{Quiet, quiet-same, quiet-refusal, quiet-after, at-head, at-tail}
use Rattle.world_laws.proofs.HeldSteps.{Comes}
use Rattle.world_laws.proofs.HeldTold.{Done, Told, told}
use Rattle.world_laws.proofs.Kerberos.{same-context, same-type}
use Rattle.world_laws.proofs.ListMics.{taken-ok, shown-long}
use Rattle.world_laws.proofs.Makers.{tag, tag-word}
use Rattle.world_laws.proofs.OneList.{one-list}
use Rattle.world_laws.proofs.OwedLists.{owing_in, Lists}
use Rattle.world_laws.proofs.Signers.{Signer, Caller, SignedBy, Signed, kept-by}

-- ---- what is known

-- the list that came is the own list of an initiator on a guarded key, whose mechanism is done with the context's key
pub record Named (marking : Marking) (w : World) (x : Context) : Type 0 where
  pub i : ℕ
  pub own : PlainSetup
  pub outcome : Outcome
  pub there : slice_get w.facts i ≡ Some own
  pub done : MechFinished marking w own outcome
  pub guarded : OnGuarded marking own outcome.mech
  pub key : outcome.key ≡ x.fixed.outcome.key
  pub list : x.fixed.received ≡ own_list own

abbrev pub Knows : Marking → World → Context → Type 0
Knows marking w x = (is_first w.book.setup.offer x.fixed.outcome.mech ≡ true) ⊎ Named marking w x

pub record AllKnow (marking : Marking) (w : World) : Type 0 where
  pub knows : (place : ℕ) (x : Context) → slice_get w.fixed place ≡ Some x → GuardedBasis marking x.fixed.basis → WasSettled w.book.core.history x.id → Knows marking w x

pub know-start : (marking : Marking) (w : World) → Begins w → AllKnow marking w
know-start marking w begins = record { knows = λ place x there guarded settled. absurd (none-some x (sym (ap (λ (l : List Context). slice_get l place) begins.unfixed) ∙ there)) }

knows-on : (marking : Marking) (old new : World) (x : Context) → Grows old new → Knows marking old x → Knows marking new x
knows-on marking old new x g (inl first) = inl (ap (λ (s : AcceptSetup). is_first s.offer x.fixed.outcome.mech) g.setup ∙ first)
knows-on marking old new x g (inr n) = inr (record {
  i = n.i;
  own = n.own;
  outcome = n.outcome;
  there = ap (λ (facts : List PlainSetup). slice_get facts n.i) g.facts ∙ n.there;
  done = finished-grows marking old new n.own n.outcome (kept-by old new g) n.done;
  guarded = n.guarded;
  key = n.key;
  list = n.list;
})

-- ---- a context that is settled now

-- by this end's step, which was the first choice of both or found the list's MIC
pub record Settles (old : World) (deed : Deed) (new : World) (id : ℕ) : Type 0 where
  pub now : ℕ
  pub asked : Option ℕ
  pub outcome : Outcome
  pub until : ℕ
  pub stands : StandsBy old.book.setup (stepped_from (raised old.book.core now) asked) deed.found outcome
  pub id_is : id ≡ id_of asked old.book.core.history
  pub complete : contexts_of new.book.core.table id ≡ Some (record { state = Complete outcome; ends = until })

abbrev SettledBy : World → Deed → World → ℕ → Type 0
SettledBy old deed new id = WasSettled old.book.core.history id ⊎ Settles old deed new id

from-quiet : (h new : List Entry) (id : ℕ) → Quiet h new → WasSettled new id → WasSettled h id
from-quiet h new id quiet s = record { place = s.place; mech = s.mech; names = s.names; ends = s.ends; at = s.at; entry = quiet.settled s.place id s.mech s.names s.ends s.at s.entry }

entry-id : (a b : ℕ) (m n : MechKind) (xs ys : List ℕ) (p q s t : ℕ) → Settled a m xs p s ≡ Settled b n ys q t → a ≡ b
entry-id a b m n xs ys p q s t e = cc

-- the newest entry settles this id, or an earlier one does
head-or : (entry : Entry) (earlier : List Entry) (id lease : ℕ) (mech : MechKind) (names : List ℕ) (ends at : ℕ) → entry ≡ Settled lease mech names ends at → WasSettled (entry ∷ earlier) id → (id ≡ lease) ⊎ WasSettled earlier id
head-or entry earlier id lease mech names ends at is s = elim (cases_eq s.place (length earlier)) [
  | inl here ↦
      inl (entry-id id lease s.mech mech s.names names s.ends ends s.at at
      (same_Some (Settled id s.mech s.names s.ends s.at) (Settled lease mech names ends at) (sym s.entry ∙ (at-head s.place entry earlier here ∙ ap Some is))))
  | inr later ↦ inr (record { place = s.place; mech = s.mech; names = s.names; ends = s.ends; at = s.at; entry = sym (at-tail s.place entry earlier later) ∙ s.entry })
]

-- a token that settles a context
done-settles : (laws : BookLaws) (old : World) (deed : Deed) (new : World) (tid past : Option ℕ) (token : List ℕ) (now : ℕ) (draws : List ℕ) (id : ℕ) → Held old
    → Comes old.book.setup (raised old.book.core now) tid past token now draws new.book.core.history new.book.core.table
    → deed.found ≡ found_of (step_taken old.book.setup (raised old.book.core now) tid past token now draws)
    → (d : Done old.book.core.history (negotiated old.book.setup (raised old.book.core now) tid past token now draws).answer (negotiated old.book.setup (raised old.book.core now) tid past token now draws).history)
    → WasSettled new.book.core.history id → SettledBy old deed new id
done-settles laws old deed new tid past token now draws id held comes found d s = elim (head-or (Settled d.lease.id d.lease.outcome.mech (names_of d.lease.outcome) d.lease.ends d.at) d.earlier id d.lease.id d.lease.outcome.mech (names_of d.lease.outcome) d.lease.ends d.at refl (subst (λ (h : List Entry). WasSettled h id) (comes.history ∙ d.entry) s)) [
  | inl same ↦
      let c = laws.completes old.book.setup (raised old.book.core now) tid past token now draws d.lease d.last held.good d.answer_is in
      inr (record {
        now = now;
        asked = tid;
        outcome = d.lease.outcome;
        until = d.lease.ends;
        stands = subst (λ (ms : List MechMaking). StandsBy old.book.setup (stepped_from (raised old.book.core now) tid) ms d.lease.outcome) (sym found) c.stands;
        id_is = same ∙ c.id_is;
        complete = ap (contexts_of new.book.core.table) same ∙ (comes.contexts d.lease.id ∙ c.context (contexts_of old.book.core.table d.lease.id));
      })
  | inr earlier ↦ inl (from-quiet old.book.core.history d.earlier id d.quiet earlier)
]

told-settles : (laws : BookLaws) (old : World) (deed : Deed) (new : World) (tid past : Option ℕ) (token : List ℕ) (now : ℕ) (draws : List ℕ) (id : ℕ) → Held old
    → Comes old.book.setup (raised old.book.core now) tid past token now draws new.book.core.history new.book.core.table
    → deed.found ≡ found_of (step_taken old.book.setup (raised old.book.core now) tid past token now draws)
    → Told old.book.core.history (negotiated old.book.setup (raised old.book.core now) tid past token now draws) → WasSettled new.book.core.history id → SettledBy old deed new id
told-settles laws old deed new tid past token now draws id held comes found (inl quiet) s =
    inl (from-quiet old.book.core.history (negotiated old.book.setup (raised old.book.core now) tid past token now draws).history id quiet (subst (λ (h : List Entry). WasSettled h id) comes.history s))
told-settles laws old deed new tid past token now draws id held comes found (inr d) s = done-settles laws old deed new tid past token now draws id held comes found d s

-- what a lane's question settles
step-settles : (laws : BookLaws) (old : World) (deed : Deed) (new : World) (tid past : Option ℕ) (token : List ℕ) (now : ℕ) (draws : List ℕ) (result : Negotiated) (id : ℕ) → Held old → IsNext old.book.core.table (max old.book.core.cache.greatest now) past
    → BookStepped old.book new.book tid token now draws result → deed.found ≡ found_of (step_taken old.book.setup (raised old.book.core now) tid past token now draws) → WasSettled new.book.core.history id → SettledBy old deed new id
step-settles laws old deed new tid past token now draws result id held late stepped found s = go result.answer refl
  where
    taken : result.answer ≢ answers.NoMemory → SettledBy old deed new id
    taken memory =
        told-settles laws old deed new tid past token now draws id held (comes-in old tid past token now draws result new.book late stepped memory) found
        (told old.book.setup (raised old.book.core now) tid past token now draws) s

    go : (answer : NegAnswer) → result.answer ≡ answer → SettledBy old deed new id
    go (answers.Going number last) e = taken (λ f. let z : answers.Going number last ≡ answers.NoMemory = sym e ∙ f in absurd cc)
    go (answers.Settled lease last) e = taken (λ f. let z : answers.Settled lease last ≡ answers.NoMemory = sym e ∙ f in absurd cc)
    go (answers.Refused refusal) e = taken (λ f. let z : answers.Refused refusal ≡ answers.NoMemory = sym e ∙ f in absurd cc)
    go answers.NoMemory e = inl (from-quiet old.book.core.history new.book.core.history id
        (subst (λ (h : List Entry). Quiet old.book.core.history h) (sym (stepped.comes.memory e).history) (quiet-refusal tid old.book.core.history)) s)

quiet-settles : (old : World) (deed : Deed) (new : World) (id : ℕ) → Quiet old.book.core.history new.book.core.history → WasSettled new.book.core.history id → SettledBy old deed new id
quiet-settles old deed new id quiet s = inl (from-quiet old.book.core.history new.book.core.history id quiet s)

same-settles : (old : World) (deed : Deed) (new : World) (id : ℕ) → new.book ≡ old.book → WasSettled new.book.core.history id → SettledBy old deed new id
same-settles old deed new id same s = inl (subst (λ (b : BookOf). WasSettled b.core.history id) same s)

question-settles : (laws : BookLaws) (old : World) (past : Option ℕ) (hand : InHand) (asked : Asked Admitted) (deed : Deed) (new : World) (id : ℕ) → Held old → IsNext old.book.core.table (max old.book.core.cache.greatest hand.kept.now) past
    → (ruling_of old.serves hand).due ≡ Some (question_of asked) → BookAnswers old.book (booked asked) new.book → deed.found ≡ found_by old.book past hand asked → WasSettled new.book.core.history id → SettledBy old deed new id
question-settles laws old past hand (AskedStep tid token now draws result) deed new id held late due said found s =
    step-settles laws old deed new tid past token now draws result id held
    (subst (λ (n : ℕ). IsNext old.book.core.table (max old.book.core.cache.greatest n) past) (sym (due-moment hand.octets hand.kept old.serves tid token now draws due)) late) said found s
question-settles laws old past hand (AskedLook number now answer) deed new id held late due said found s =
    quiet-settles old deed new id (subst (λ (h : List Entry). Quiet old.book.core.history h) (sym said.looked.history) (quiet-same old.book.core.history)) s
question-settles laws old past hand (AskedAdmit lease seq service procedure args (Ok admitted)) deed new id held late due said found s =
    quiet-settles old deed new id
    (quiet-history old.book.core.history new.book.core.history (lease_refused old.book.core lease seq) (Call lease.id seq procedure (sha1 args))
    (quiet-after (lease_refused old.book.core lease seq) (Call lease.id seq procedure (sha1 args)) old.book.core.history tt) said.history) s
question-settles laws old past hand (AskedAdmit lease seq service procedure args (Err refusal)) deed new id held late due said found s = same-settles old deed new id said.unchanged s
question-settles laws old past hand (AskedEnd lease seq (Ok receipt)) deed new id held late due said found s =
    quiet-settles old deed new id
    (quiet-history old.book.core.history new.book.core.history (lease_refused old.book.core lease seq) (Ended lease.id (Destroyed seq))
    (quiet-after (lease_refused old.book.core lease seq) (Ended lease.id (Destroyed seq)) old.book.core.history tt) said.history) s
question-settles laws old past hand (AskedEnd lease seq (Err refusal)) deed new id held late due said found s = same-settles old deed new id said.unchanged s

came-settles : (laws : BookLaws) (old : World) (deed : Deed) (new : World) (id : ℕ) → Held old → Came old deed new → WasSettled new.book.core.history id → SettledBy old deed new id
came-settles laws old deed new id held (Idling i) s = same-settles old deed new id (ap (λ (w : World). w.book) i.1) s
came-settles laws old deed new id held (Moving i moved move (inl did)) s = same-settles old deed new id (ap (λ (w : World). w.book) did.1) s
came-settles laws old deed new id held (Moving i moved move (inr lost)) s = same-settles old deed new id (ap (λ (w : World). w.book) lost.1) s
came-settles laws old deed new id held (Laning lane hand octets now draws there (inl a)) s = same-settles old deed new id (ap (λ (w : World). w.book) a.new_is) s
came-settles laws old deed new id held (Laning lane hand octets now draws there (inr b)) s =
    question-settles laws old b.past (in_hand hand octets now draws) b.asked deed new id held b.is_past b.due b.answers b.found s

-- ---- the MIC that was found

second-true : (a b : Bool) → not (a && b) ≡ false → b ≡ true
second-true true true e = refl
second-true true false e = absurd cc
second-true false b e = absurd cc

-- a context that owes the MIC
record OwesAt (table : Option (TableSlot AcceptEnd Outcome)) (owing : Owing) : Type 0 where
  context : Slot AcceptEnd Outcome
  is : context_of table ≡ Some context
  owes : owing_in (Some context) ≡ Some owing
  fixed : fixed_in (Some context) ≡ Some (record { outcome = owing.outcome; ends = owing.lasts })

new-owes : (owing : Owing) → ends.New ≡ ends.Owes owing → ⊥
new-owes owing e = cc

owes-same : (end : AcceptEnd) (owing : Owing) (until : ℕ) → end ≡ ends.Owes owing → (owing_in (Some (record { state = Negotiating end; ends = until })) ≡ Some owing) × (fixed_in (Some (record { state = Negotiating end; ends = until })) ≡ Some (record { outcome = owing.outcome; ends = owing.lasts }))
owes-same end owing until e = subst (λ (z : AcceptEnd). (owing_in (Some (record { state = Negotiating z; ends = until })) ≡ Some owing) × (fixed_in (Some (record { state = Negotiating z; ends = until })) ≡ Some (record { outcome = owing.outcome; ends = owing.lasts }))) (sym e) (refl, refl)

owes-at : (slot : Option (TableSlot AcceptEnd Outcome)) (owing : Owing) → end_before (state_of slot) ≡ ends.Owes owing → OwesAt slot owing
owes-at None owing e = absurd (new-owes owing e)
owes-at (Some slot) owing e = go slot.state e
  where
    go : (state : SlotState AcceptEnd Outcome) → end_before (state_taken state) ≡ ends.Owes owing → OwesAt (Some (record slot { state = state })) owing
    go (Negotiating end) f = let o = owes-same end owing slot.ends f in record { context = record { state = Negotiating end; ends = slot.ends }; is = refl; owes = o.0; fixed = o.1 }
    go states.Held f = absurd (new-owes owing f)
    go (Complete outcome) f = absurd (new-owes owing f)

-- it is the one that the token named
owes-own : (book : Stands) (asked : Option ℕ) (owing : Owing) → stepped_from book asked ≡ ends.Owes owing → OwesAt (slot_at book.table (id_of asked book.history)) owing
owes-own book None owing e = absurd (new-owes owing e)
owes-own book (Some id) owing e = owes-at (slot_at book.table id) owing e

sixteen : (tokens : TokenLaws) (outcome : Outcome) (list : List (List ℕ)) (mic : List ℕ) → is_list_mic outcome Acceptor list mic ≡ true → length (take 16 mic) ≡ 16
unfolding is_list_mic
sixteen tokens outcome list mic e =
    shown-long (token_end outcome Acceptor) mic (list_octets list) (tokens.mic (token_end outcome Acceptor) mic (list_octets list) (taken-ok (checked_mic (token_end outcome Acceptor) mic (list_octets list)) e))

-- who made it has that list
same-list : (laws : Below) (own : PlainSetup) (outcome other : Outcome) (list : List (List ℕ)) (mic : List ℕ) → OfList (list_octets (own_list own)) → is_list_mic outcome Acceptor list mic ≡ true
    → mic_found outcome Acceptor list mic ≡ mic_making other Initiator (own_list own) → (list ≡ own_list own) × (other.key ≡ outcome.key)
same-list laws own outcome other list mic o right e =
    let parts = split-back (list_octets list) (take 16 mic) (list_octets (own_list own)) (mic_header (token_end other Initiator) 0)
    (sixteen laws.tokens outcome list mic right ∙ sym (laws.tokens.long_mic (token_end other Initiator) 0)) (ap (λ (z : MechMaking). z.octets) e) in
    (sym (one-list (own_list own) list o.short (sym parts.0)), same-type other.key outcome.key (sym (ap (λ (z : MechMaking). z.key) e)))

-- what was found is a MIC of who signed, and not of who called
found-by : (laws : Below) (marking : Marking) (last old : World) (making : MechMaking) → Signed marking last old → ((c : Caller old making) → ⊥) → tag making ≡ 100 → WasMade old making → Signer marking last old making
found-by laws marking last old making signed uncalled t (inl among) = go (signed.by making among t)
  where
    go : SignedBy marking last old making → Signer marking last old making
    go (inl s) = s
    go (inr c) = absurd (uncalled c)
found-by laws marking last old making signed uncalled t (inr word) = absurd (omega (arith, t, tag-word old making word))

-- the context that owed it was fixed before
record WasFixed (old new : World) (x : Context) (owing : Owing) : Type 0 where
  place : ℕ
  there : slice_get old.fixed place ≡ Some x
  received : x.fixed.received ≡ owing.received
  outcome : x.fixed.outcome ≡ owing.outcome

was-fixed : (old new : World) (place : ℕ) (x : Context) (owing : Owing) → Held old → Held new → Lists old → Grows old new → slice_get new.fixed place ≡ Some x → OwesAt (slot_at old.book.core.table x.id) owing → WasFixed old new x owing
was-fixed old new place x owing held after lists g there o =
    let f : FixedAs old x.id owing.outcome owing.lasts = held.slots x.id o.context (record { outcome = owing.outcome; ends = owing.lasts }) o.is o.fixed in
    let on : slice_get new.fixed f.place ≡ Some f.context = fixed-grow old new f.place f.context g f.there in
    let places : f.place ≡ place = after.ids f.place place f.context x on there f.id_is in
    let same : f.context ≡ x = same-context new place f.context x (subst (λ (n : ℕ). slice_get new.fixed n ≡ Some f.context) places on) there in
    let before : slice_get old.fixed f.place ≡ Some x = f.there ∙ ap Some same in
    record {
      place = f.place;
      there = before;
      received = lists.owed f.place x owing before (ap owing_in o.is ∙ o.owes);
      outcome = sym (ap (λ (z : Context). z.fixed.outcome) same) ∙ f.outcome_is;
    }

by-mic : (laws : Below) (marking : Marking) (last old : World) (deed : Deed) (new : World) (place : ℕ) (x : Context) (end : AcceptEnd) (outcome : Outcome) → Known old → Held old → Held new → Lists old → Signed marking last old → Unforged marking old deed
    → UnforgedList marking last old deed new → Grows old new → Grows new last → slice_get new.fixed place ≡ Some x → GuardedBasis marking x.fixed.basis → (m : TakesMic end deed.found outcome) → OwesAt (slot_at old.book.core.table x.id) m.owing → Named marking old x
by-mic laws marking last old deed new place x end outcome known held after lists signed unforged apart g more there guarded m o = from (found-by laws marking last old (mic_found m.owing.outcome Acceptor m.owing.received m.mic) signed uncalled refl (unforged.made (mic_found m.owing.outcome Acceptor m.owing.received m.mic) m.verified (inr built)))
  where
    f : WasFixed old new x m.owing
    f = was-fixed old new place x m.owing held after lists g there o

    built : BuiltKey marking old.fixed m.owing.outcome.key
    built = record { context = x; listed = record { place = f.place; there = f.there }; guarded = guarded; is_key = ap (λ (z : Outcome). z.key) f.outcome }

    uncalled : (c : Caller old (mic_found m.owing.outcome Acceptor m.owing.received m.mic)) → ⊥
    uncalled c = apart.uncalled c.i c.own c.made.session c.made.procedure c.made.args m.owing.outcome m.owing.received m.mic c.made.completed built m.verified c.made.made

    from : Signer marking last old (mic_found m.owing.outcome Acceptor m.owing.received m.mic) → Named marking old x
    from s =
        let same = same-list laws s.own m.owing.outcome s.outcome m.owing.received m.mic (own-list s.own (known.sized s.i s.own s.there)) m.right s.made in
        record {
          i = s.i;
          own = s.own;
          outcome = s.outcome;
          there = s.there;
          done = s.done;
          guarded = s.guarded (subst (λ (k : Key). BuiltKey marking last.fixed k) (sym same.1) (built-grows marking new last m.owing.outcome.key more (built-grows marking old new m.owing.outcome.key g built)));
          key = same.1 ∙ sym (ap (λ (z : Outcome). z.key) f.outcome);
          list = f.received ∙ same.0;
        }

-- ---- an event

outcome-of : (new : World) (place : ℕ) (x : Context) (outcome : Outcome) (until : ℕ) → Held new → slice_get new.fixed place ≡ Some x → contexts_of new.book.core.table x.id ≡ Some (record { state = Complete outcome; ends = until }) → outcome ≡ x.fixed.outcome
outcome-of new place x outcome until after there complete =
    ap (λ (z : Lasting). z.outcome)
    (same_Some (record { outcome = outcome; ends = until }) (record { outcome = x.fixed.outcome; ends = x.fixed.lasts }) (after.live place x (record { state = Complete outcome; ends = until }) there complete))

settles-knows : (laws : Below) (marking : Marking) (last old : World) (deed : Deed) (new : World) (place : ℕ) (x : Context) → Known old → Held old → Held new → Lists old → Signed marking last old → Unforged marking old deed
    → UnforgedList marking last old deed new → Grows old new → Grows new last → slice_get new.fixed place ≡ Some x → GuardedBasis marking x.fixed.basis → Settles old deed new x.id → Knows marking old x
settles-knows laws marking last old deed new place x known held after lists signed unforged apart g more there guarded s = go s.stands
  where
    go : StandsBy old.book.setup (stepped_from (raised old.book.core s.now) s.asked) deed.found s.outcome → Knows marking old x
    go (inl undue) = inl (subst (λ (o : Outcome). is_first old.book.setup.offer o.mech ≡ true) (outcome-of new place x s.outcome s.until after there s.complete)
        (second-true (is_first_named undue.received s.outcome.mech) (is_first old.book.setup.offer s.outcome.mech) undue.undue))
    go (inr m) = inr (by-mic laws marking last old deed new place x (stepped_from (raised old.book.core s.now) s.asked) s.outcome known held after lists signed unforged apart g more there guarded m
        (subst (λ (n : ℕ). OwesAt (slot_at old.book.core.table n) m.owing) (sym s.id_is) (owes-own (raised old.book.core s.now) s.asked m.owing m.was)))

-- a context that was settled before was fixed before
settled-there : (old new : World) (place : ℕ) (x : Context) → Held old → Held new → Grows old new → slice_get new.fixed place ≡ Some x → (s : WasSettled old.book.core.history x.id) → (was : ℕ) × (slice_get old.fixed was ≡ Some x)
settled-there old new place x held after g there s =
    let h = held.settled s.place x.id s.mech s.names s.ends s.at s.entry in
    let f : FixedAs old x.id h.0 s.ends = h.1 in
    let on : slice_get new.fixed f.place ≡ Some f.context = fixed-grow old new f.place f.context g f.there in
    let places : f.place ≡ place = after.ids f.place place f.context x on there f.id_is in
    let same : f.context ≡ x = same-context new place f.context x (subst (λ (n : ℕ). slice_get new.fixed n ≡ Some f.context) places on) there in
    (f.place, f.there ∙ ap Some same)

pub know-step : (laws : Below) (marking : Marking) (last old : World) (event : WorldEvent) (deed : Deed) (new : World) → Known old → Held old → Held new → Lists old → Signed marking last old → Unforged marking old deed
    → UnforgedList marking last old deed new → Grows new last → Happens old event deed new → AllKnow marking old → AllKnow marking new
know-step laws marking last old event deed new known held after lists signed unforged apart more happens all = record {
  knows = λ place x there guarded settled. knows-on marking old new x g (elim (came-settles laws.book old deed new x.id held (came old event deed new happens) settled) [
    | inl before ↦ let w = settled-there old new place x held after g there before in all.knows w.0 x w.1 guarded before
    | inr now ↦ settles-knows laws marking last old deed new place x known held after lists signed unforged apart g more there guarded now
  ]);
}
  where
    g : Grows old new
    g = grows old event deed new happens
