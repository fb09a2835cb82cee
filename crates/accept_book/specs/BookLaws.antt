-- What holds of a book over its tokens: what a step finds, hands out and fixes, and where that
-- stands afterwards.
use Rattle.std.specs.Prelude.{◌≡◌, ◌≢◌, ◌⊎◌, ℕ, ◌≤◌, false, List, [], ◌∷◌, length, Option, None}
use Rattle.std.specs.Prelude.{Some, IfSome, Ok}
use mathlib.Core.Logic.{inl, inr}
use Rattle.gss_base.specs.declared.mark.Mark.{Mark}
use Rattle.ap_exchange.specs.Judging.{judged_mark}
use Rattle.spnego_core.specs.declared.outcome.Outcome.{Outcome}
use Rattle.spnego_core.specs.declared.refusal.NegRefusal.{NegRefusal}
use Rattle.spnego_core.specs.declared.setup.AcceptSetup.{AcceptSetup}
use Rattle.spnego_core.specs.declared.accept_end.AcceptEnd.{AcceptEnd}
use Rattle.spnego_core.specs.declared.accept_end.AcceptEnd.TheVariants as ends
use Rattle.spnego_core.specs.Accepting.{Fixed, Accepted, accept_step}
use Rattle.spnego_core.specs.Reasons.{neg_wants_memory}
use Rattle.spnego_core.specs.AcceptLaws.{GoodAccept, ByKerberos, ByScram, Fixes, Stands as StandsBy}
use Rattle.context_table.specs.declared.slot.SlotState.{SlotState}
use Rattle.context_table.specs.declared.slot.SlotState.TheVariants.{Negotiating, Held, Complete}
use Rattle.context_table.specs.Places.{Places, slot_at}
use Rattle.accept_core.specs.declared.entry.Entry.{Entry}
use Rattle.accept_core.specs.declared.entry.Entry.TheVariants.{Auth, Settled}
use Rattle.accept_book.specs.declared.book_answer.Lease.{Lease}
use Rattle.accept_book.specs.declared.book_answer.BookRefusal.{BookRefusal}
use Rattle.accept_book.specs.declared.book_answer.BookRefusal.TheVariants as refusals
use Rattle.accept_book.specs.declared.book_answer.NegAnswer.TheVariants as answers
use Rattle.accept_core.specs.History.{standing, taken_of, entry_at, IsOpen, Unknown}
use Rattle.accept_core.specs.Legal.{Legal}
use Rattle.accept_core.specs.Entering.{id_of}
use Rattle.accept_core.specs.Stepping.{Context, context_of}
use Rattle.accept_book.specs.Booking.{Stands, changed, Changed, change_refused, Outcomes}
use Rattle.accept_book.specs.Booking.{answer_with, settled_of, names_of, negotiated}
use Rattle.accept_book.specs.Found.{step_taken, found_of, fixes_of, stepped_from}

-- ---- good contexts: each that negotiates does so by a good end

-- a context's state is good: while it negotiates, the acceptor's end that it has is good
abbrev pub GoodState : AcceptSetup → SlotState AcceptEnd Outcome → Type 0
GoodState setup (Negotiating end) = GoodAccept setup end
GoodState setup Held = Unit {0}
GoodState setup (Complete outcome) = Unit {0}

-- the same of a context, where there is one
abbrev pub GoodContext : AcceptSetup → Option (Context AcceptEnd Outcome) → Type 0
GoodContext setup None = Unit {0}
GoodContext setup (Some context) = GoodState setup context.state

-- all contexts of a table are good
abbrev pub AllGood : AcceptSetup → Places AcceptEnd Outcome → Type 0
AllGood setup table = (id : ℕ) → GoodContext setup (context_of (slot_at table id))

-- ---- what is fixed of a context: its outcome and when it ends, from the step that fixes it on,
-- also while the initiator's MIC is owed

-- what is fixed of a context: its outcome, and the moment when it ends
pub record Lasting : Type 0 where
  pub outcome : Outcome
  pub ends : ℕ

-- what is fixed while a context negotiates: nothing until its mechanism is done and only the
-- initiator's MIC is due
abbrev pub fixed_end : AcceptEnd → Option Lasting
fixed_end ends.New = None
fixed_end (ends.Runs running) = None
fixed_end (ends.Owes owing) = Some (record { outcome = owing.outcome; ends = owing.lasts })

-- what is fixed of a context in this state, which ends at this moment
abbrev pub fixed_state : SlotState AcceptEnd Outcome → ℕ → Option Lasting
fixed_state (Negotiating end) until = fixed_end end
fixed_state Held until = None
fixed_state (Complete outcome) until = Some (record { outcome = outcome; ends = until })

-- the same of a context, where there is one
abbrev pub fixed_in : Option (Context AcceptEnd Outcome) → Option Lasting
fixed_in None = None
fixed_in (Some context) = fixed_state context.state context.ends

-- what is fixed once a step was taken: what the step fixes, else what was before
abbrev pub fixed_after : Option Fixed → Option Lasting → Option Lasting
fixed_after None before = before
fixed_after (Some fixed) before = Some (record { outcome = fixed.outcome; ends = fixed.lasts })

-- ---- a step that was taken

-- it is the acceptor's, from the end that the token's context had, and a later token's context
-- negotiated. The answer is its answer; its context is then fixed as it says, and every other one
-- is as it was, or is the one that went for the step
pub record Takes (setup : AcceptSetup) (book : Stands) (id past : Option ℕ) (token : List ℕ)
    (now : ℕ) (draws : List ℕ) (accepted : Accepted) : Type 0 where
  pub step : accept_step setup (stepped_from book id) token now draws ≡ Ok accepted
  pub negotiates : IfSome id (λ number. IsOpen (standing number book.history))
  pub answer : (negotiated setup book id past token now draws).answer
      ≡ answer_with (id_of id book.history) (settled_of accepted.step)
  pub fixed : (before : Option (Context AcceptEnd Outcome))
      → fixed_in (changed (negotiated setup book id past token now draws).change (id_of id
      book.history) before) ≡ fixed_after accepted.fixes (fixed_end (stepped_from book id))
  pub others : (other : ℕ) (before : Option (Context AcceptEnd Outcome))
      → id_of id book.history ≢ other
      → (changed (negotiated setup book id past token now draws).change other before ≡ before)
      ⊎ (changed (negotiated setup book id past token now draws).change other before ≡ None)

-- the authenticator of the request that a context is fixed by stands among the entries that are new
pub record AddsAuth (old new : List Entry) (id : ℕ) (mark : Mark) (now : ℕ) : Type 0 where
  pub place : ℕ
  pub entry : entry_at place new ≡ Some (Auth id mark now)
  pub added : length old ≤ place

-- Kerberos adds one authenticator, that of the request; SCRAM adds none
abbrev pub AddsBy : (setup : AcceptSetup) (old : AcceptEnd) (now : ℕ) (draws : List ℕ)
    (accepted : Accepted) (fixed : Fixed) → List Entry → List Entry → ℕ → ℕ
    → ByKerberos setup now draws accepted fixed ⊎ ByScram setup old now accepted fixed → Type 0
AddsBy setup old now draws accepted fixed before after id greatest (inl by) =
    AddsAuth before after id (judged_mark by.request) greatest
AddsBy setup old now draws accepted fixed before after id greatest (inr by) =
    taken_of after ≡ taken_of before

-- a step that fixes a context: nothing was fixed of it before
pub record FixesContext (setup : AcceptSetup) (book : Stands) (id past : Option ℕ) (token : List ℕ)
    (now : ℕ) (draws : List ℕ) (fixed : Fixed) : Type 0 where
  pub accepted : Accepted
  pub taken : step_taken setup book id past token now draws ≡ Some accepted
  pub fixes : Fixes setup (stepped_from book id) now draws accepted fixed
  pub unfixed : fixed_end (stepped_from book id) ≡ None
  pub adds : AddsBy setup (stepped_from book id) now draws accepted fixed book.history (negotiated
      setup book id past token now draws).history (id_of id book.history) book.greatest fixes.by

-- a step that fixes none hands nothing out and takes no authenticator
pub record FixesNone (setup : AcceptSetup) (book : Stands) (id past : Option ℕ) (token : List ℕ)
    (now : ℕ) (draws : List ℕ) (accepted : Accepted) : Type 0 where
  pub makes : accepted.makes ≡ []
  pub marks : taken_of (negotiated setup book id past token now draws).history
      ≡ taken_of book.history

-- a context that a token completes: the first choice of both, or the initiator's MIC over the list
-- that came was found verified in the step; the lease has what was fixed of the context, in this
-- step or before; the newest entry and the context have the same
pub record Completes (setup : AcceptSetup) (book : Stands) (id past : Option ℕ) (token : List ℕ)
    (now : ℕ) (draws : List ℕ) (lease : Lease) : Type 0 where
  pub stands : StandsBy setup (stepped_from book id)
      (found_of (step_taken setup book id past token now draws)) lease.outcome
  pub id_is : lease.id ≡ id_of id book.history
  pub fixed : fixed_after (fixes_of (step_taken setup book id past token now draws)) (fixed_end
      (stepped_from book id)) ≡ Some (record { outcome = lease.outcome; ends = lease.ends })
  pub earlier : List Entry
  pub entry : (negotiated setup book id past token now draws).history ≡ Settled lease.id
      lease.outcome.mech (names_of lease.outcome) lease.ends book.greatest ∷ earlier
  pub context : (before : Option (Context AcceptEnd Outcome))
      → changed (negotiated setup book id past token now draws).change lease.id before
      ≡ Some (record { state = Complete lease.outcome; ends = lease.ends })

-- a token that is refused has no step that was taken: nothing was handed out, found or fixed. It
-- ends one context at most
pub record Refuses (outcomes : Outcomes) : Type 0 where
  pub refusal : BookRefusal
  pub answer : outcomes.answer ≡ answers.Refused refusal
  pub ended : Option ℕ
  pub change : outcomes.change ≡ change_refused ended

-- ---- the laws, of a book whose contexts are good

-- what each token comes to: contexts stay good, it is refused or its step is taken, and a step
-- fixes its context, fixes nothing, or completes it
pub record BookLaws : Type 0 where
  -- good contexts stay good
  pub good : (setup : AcceptSetup) (book : Stands) (id past : Option ℕ) (token : List ℕ) (now : ℕ)
      (draws : List ℕ) (new : Places AcceptEnd Outcome)
      → AllGood setup book.table
      → Changed book.table (negotiated setup book id past token now draws).change new
      → AllGood setup new
  -- so they do where a token met want of memory
  pub good_without : (setup : AcceptSetup) (old new : Places AcceptEnd Outcome) (id : Option ℕ)
      → AllGood setup old → Changed old (change_refused id) new → AllGood setup new
  pub takes : (setup : AcceptSetup) (book : Stands) (id past : Option ℕ) (token : List ℕ) (now : ℕ)
      (draws : List ℕ) (accepted : Accepted)
      → step_taken setup book id past token now draws ≡ Some accepted
      → Takes setup book id past token now draws accepted
  -- a token is refused exactly where no step was taken
  pub refuses : (setup : AcceptSetup) (book : Stands) (id past : Option ℕ) (token : List ℕ)
      (now : ℕ) (draws : List ℕ)
      → step_taken setup book id past token now draws ≡ None
      → Refuses (negotiated setup book id past token now draws)
  pub untaken : (setup : AcceptSetup) (book : Stands) (id past : Option ℕ) (token : List ℕ)
      (now : ℕ) (draws : List ℕ) (refusal : BookRefusal)
      → (negotiated setup book id past token now draws).answer ≡ answers.Refused refusal
      → step_taken setup book id past token now draws ≡ None
  pub fixes : (setup : AcceptSetup) (book : Stands) (id past : Option ℕ) (token : List ℕ) (now : ℕ)
      (draws : List ℕ) (fixed : Fixed)
      → AllGood setup book.table → fixes_of (step_taken setup book id past token now draws)
      ≡ Some fixed → FixesContext setup book id past token now draws fixed
  pub fixes_none : (setup : AcceptSetup) (book : Stands) (id past : Option ℕ) (token : List ℕ)
      (now : ℕ) (draws : List ℕ) (accepted : Accepted)
      → AllGood setup book.table → step_taken setup book id past token now draws ≡ Some accepted
      → accepted.fixes ≡ None → FixesNone setup book id past token now draws accepted
  pub completes : (setup : AcceptSetup) (book : Stands) (id past : Option ℕ) (token : List ℕ)
      (now : ℕ) (draws : List ℕ) (lease : Lease) (last : List ℕ)
      → AllGood setup book.table → (negotiated setup book id past token now draws).answer
      ≡ answers.Settled lease last → Completes setup book id past token now draws lease
  -- of the id of a first token nothing was known
  pub first : (width : ℕ) (h : List Entry) → Legal width h → standing (id_of None h) h ≡ Unknown
  -- no token is refused by an end for want of memory, and no such refusal holds it: that is an
  -- answer of its own
  pub reasons : (setup : AcceptSetup) (book : Stands) (id past : Option ℕ) (token : List ℕ)
      (now : ℕ) (draws : List ℕ) (refusal : NegRefusal)
      → (negotiated setup book id past token now draws).answer
      ≡ answers.Refused (refusals.Neg refusal) → neg_wants_memory refusal ≡ false
  -- no token is refused by a journal: a book has none
  pub unjournaled : (setup : AcceptSetup) (book : Stands) (id past : Option ℕ) (token : List ℕ)
      (now : ℕ) (draws : List ℕ)
      → (negotiated setup book id past token now draws).answer ≢ answers.Refused refusals.Journal
