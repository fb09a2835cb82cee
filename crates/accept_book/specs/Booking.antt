-- A book: the contexts of an acceptor, each negotiating by an end of its own, or complete with its
-- outcome.
use Rattle.std.specs.Prelude.{◌≡◌, ◌≢◌, ℕ, ◌+◌, ◌<◌, ◌≤◌, Bool, true, false, nat_eq, nat_lt, nat_le}
use Rattle.std.specs.Prelude.{◌==◌, ◌&&◌, max, is_none, if◌then◌else◌, List, [], ◌∷◌, ◌++◌, length}
use Rattle.std.specs.Prelude.{Option, None, Some, Result, Ok, Err}
use lib.Pointwise.{pointwise}
use Rattle.sha1.specs.Sha1.{sha1}
use Rattle.gss_base.specs.declared.mark.Mark.{Mark}
use Rattle.gss_base.specs.declared.mech.MechKind.{MechKind}
use Rattle.gss_base.specs.Mech.{is_kerberos}
use Rattle.krb_derive.specs.declared.key.Key.{Key}
use Rattle.krb_derive.specs.Key.{key_octets}
use Rattle.spnego_core.specs.declared.outcome.Outcome.{Outcome}
use Rattle.spnego_core.specs.declared.refusal.NegRefusal.{NegRefusal}
use Rattle.spnego_core.specs.declared.setup.AcceptSetup.{AcceptSetup}
use Rattle.spnego_core.specs.declared.accept_end.AcceptEnd.{AcceptEnd}
use Rattle.spnego_core.specs.declared.accept_end.AcceptEnd.TheVariants as ends
use Rattle.spnego_core.specs.declared.accept_end.AcceptStep.{AcceptStep}
use Rattle.spnego_core.specs.declared.accept_end.AcceptStep.TheVariants as steps
use Rattle.spnego_core.specs.declared.accept_end.Answered.{Answered}
use Rattle.spnego_core.specs.declared.accept_end.Answered.TheVariants as afters
use Rattle.spnego_core.specs.Accepting.{Accepted, accept_step, mark_asked, step_after}
use Rattle.context_table.specs.declared.slot.Slot.{Slot}
use Rattle.context_table.specs.declared.slot.SlotState.{SlotState}
use Rattle.context_table.specs.declared.slot.SlotState.TheVariants.{Negotiating, Held, Complete}
use Rattle.context_table.specs.Places.{Places, slot_at, live_of, state_of}
use Rattle.accept_core.specs.declared.entry.Entry.{Entry}
use Rattle.accept_core.specs.declared.entry.Entry.TheVariants.{Ended}
use Rattle.accept_core.specs.declared.entry.EndCause.TheVariants.{Refused}
use Rattle.accept_core.specs.declared.answer.MarkRefusal.{MarkRefusal}
use Rattle.accept_core.specs.declared.answer.MarkRefusal.TheVariants as marks
use Rattle.accept_core.specs.declared.answer.AdmitRefusal.{AdmitRefusal}
use Rattle.accept_core.specs.declared.answer.AdmitRefusal.TheVariants as admits
use Rattle.accept_core.specs.declared.answer.LookRefusal.{LookRefusal}
use Rattle.accept_core.specs.declared.answer.LookRefusal.TheVariants as looks
use Rattle.accept_core.specs.declared.answer.Next.{Next}
use Rattle.accept_core.specs.declared.answer.Next.TheVariants as nexts
use Rattle.accept_book.specs.declared.book_answer.Lease.{Lease}
use Rattle.accept_book.specs.declared.book_answer.BookRefusal.{BookRefusal}
use Rattle.accept_book.specs.declared.book_answer.BookRefusal.TheVariants as refusals
use Rattle.accept_book.specs.declared.book_answer.NegAnswer.{NegAnswer}
use Rattle.accept_book.specs.declared.book_answer.NegAnswer.TheVariants as answers
use Rattle.accept_core.specs.History.{Standing, Unknown, Open, Whole, Over, standing, has_auth}
use Rattle.accept_core.specs.History.{taken_of}
use Rattle.accept_core.specs.Answers.{refused, Free}
use Rattle.accept_core.specs.Entering.{id_of, entered, mark_refused}
use Rattle.accept_core.specs.Replays.{Accepting, Naming}
use Rattle.accept_core.specs.Stepping.{goes_by, Context, context_of, context_after, until_of}

-- the digest by which the log knows an outcome: SHA-1 of both names, each with an octet 00 after
-- it, the key's octets, and 01 if the key is the acceptor's subkey, else 00
unfoldable pub names_of : Outcome → List ℕ
names_of outcome =
    sha1 (outcome.initiator ++ 0 ∷ outcome.acceptor ++ 0 ∷ key_octets outcome.key
    ++ (if outcome.subkey then 1 else 0) ∷ [])

-- what an outcome is known by in the log: its mechanism, and the digest of its names and key
abbrev pub by_outcome : Naming Outcome
by_outcome = record { mech = λ o. o.mech; names = names_of }

-- a book as contracts see it: what its ends are begun with, and the history, contexts and marks
pub record BookOf : Type 0 where
  pub setup : AcceptSetup
  pub core : Accepting AcceptEnd Outcome

-- a book in this state whose ends are begun with this setup
abbrev pub with_setup : AcceptSetup → Accepting AcceptEnd Outcome → BookOf
with_setup setup core = record { setup = setup; core = core }

-- ---- an end fits the marks: one was taken of its id exactly if its mechanism is done and is
-- Kerberos

-- an authenticator of the id was taken exactly if the end's mechanism is done and is Kerberos
abbrev pub Fits : AcceptEnd → Bool → Type 0
Fits ends.New auth = auth ≡ false
Fits (ends.Runs running) auth = auth ≡ false
Fits (ends.Owes owing) auth = auth ≡ is_kerberos owing.outcome.mech

-- no context is held between two calls
abbrev pub FitsState : SlotState AcceptEnd Outcome → Bool → Type 0
FitsState (Negotiating end) auth = Fits end auth
FitsState Held auth = ⊥
FitsState (Complete outcome) auth = Unit {0}

-- the state of an id's slot fits, where one lives
abbrev pub FitsSlot : Option (Slot AcceptEnd Outcome) → Bool → Type 0
FitsSlot None auth = Unit {0}
FitsSlot (Some slot) auth = FitsState slot.state auth

-- each slot of the table fits what the history says was taken of its id
abbrev pub AllFit : Accepting AcceptEnd Outcome → Type 0
AllFit core = (id : ℕ) → FitsSlot (slot_at core.table id) (has_auth id core.history)

-- all but one
abbrev pub OthersFit : Option ℕ → Accepting AcceptEnd Outcome → Type 0
OthersFit id core = (other : ℕ) → id ≢ Some other
    → FitsSlot (slot_at core.table other) (has_auth other core.history)

-- what comes of a step fits in the same way, once nothing is to be asked
abbrev pub AnsweredFits : Answered → Bool → Type 0
AnsweredFits (afters.More end token) auth = Fits end auth
AnsweredFits (afters.Done outcome lasts token) auth = auth ≡ is_kerberos outcome.mech

-- a step fits, by what is taken with its own mark
abbrev pub StepFits : AcceptStep → Bool → Type 0
StepFits (steps.More end token) auth = Fits end auth
StepFits (steps.Done outcome lasts token) auth = auth ≡ is_kerberos outcome.mech
StepFits (steps.WantsAuth pause) auth = (auth ≡ false) × AnsweredFits pause.after true

-- ---- what a step asks for and gives

-- the mark that a step asks to be taken, where it waits for the repeat test of its request
abbrev pub mark_of : AcceptStep → Option Mark
mark_of (steps.More end token) = None
mark_of (steps.Done outcome lasts token) = None
mark_of (steps.WantsAuth pause) = Some (mark_asked pause)

-- what a step makes of its context once nothing is to be asked: it goes on, or is settled
abbrev pub next_answered : Answered → Next AcceptEnd Outcome
next_answered (afters.More end token) = nexts.Going end
next_answered (afters.Done outcome lasts token) =
    nexts.Settled outcome.mech (names_of outcome) outcome lasts

-- what a step makes of its context, if the mark that it may ask for is taken
abbrev pub next_of : AcceptStep → Next AcceptEnd Outcome
next_of (steps.More end token) = nexts.Going end
next_of (steps.Done outcome lasts token) =
    nexts.Settled outcome.mech (names_of outcome) outcome lasts
next_of (steps.WantsAuth pause) = next_answered pause.after

-- the answer to a token of this id once nothing is to be asked
abbrev pub answer_after : ℕ → Answered → NegAnswer
answer_after id (afters.More end token) = answers.Going id token
answer_after id (afters.Done outcome lasts token) =
    answers.Settled (record { id = id; outcome = outcome; ends = lasts }) token

-- the answer to a token of this id by its step, if the mark that it may ask for is taken
abbrev pub answer_with : ℕ → AcceptStep → NegAnswer
answer_with id (steps.More end token) = answers.Going id token
answer_with id (steps.Done outcome lasts token) =
    answers.Settled (record { id = id; outcome = outcome; ends = lasts }) token
answer_with id (steps.WantsAuth pause) = answer_after id pause.after

-- how many octets an answer's token has
abbrev pub token_size : NegAnswer → ℕ
token_size (answers.Going id token) = length token
token_size (answers.Settled lease token) = length token
token_size (answers.Refused refusal) = 0
token_size answers.NoMemory = 0

-- ---- what a token comes to, by how a book stands once the moment was taken note of, and by the id
-- of the next context that gives its place, where one does

-- how a book stands: its history, the limit of its log, its contexts, how many marks it may hold,
-- and the greatest moment that was seen
pub record Stands : Type 0 where
  pub history : List Entry
  pub limit : ℕ
  pub table : Places AcceptEnd Outcome
  pub capacity : ℕ
  pub greatest : ℕ

-- how a book stands, by its history, contexts and marks
abbrev pub stands_of : Accepting AcceptEnd Outcome → Stands
stands_of core = record {
  history = core.history;
  limit = core.limit;
  table = core.table;
  capacity = core.cache.capacity;
  greatest = core.cache.greatest;
}

-- the same once this moment was taken note of
abbrev pub raised : Accepting AcceptEnd Outcome → ℕ → Stands
raised core now = record {
  history = core.history;
  limit = core.limit;
  table = core.table;
  capacity = core.cache.capacity;
  greatest = max core.cache.greatest now;
}

-- the refusal of a token whose mark isn't taken
abbrev pub refusal_of_mark : MarkRefusal → BookRefusal
refusal_of_mark (marks.Stale greatest) = refusals.Stale greatest
refusal_of_mark (marks.Repeat place) = refusals.Repeat place
refusal_of_mark marks.CacheFull = refusals.CacheFull

-- the step once its mark was taken, where it asks for one
abbrev pub settled_of : AcceptStep → AcceptStep
settled_of (steps.More end token) = steps.More end token
settled_of (steps.Done outcome lasts token) = steps.Done outcome lasts token
settled_of (steps.WantsAuth pause) = step_after pause

-- the history after a refusal of the token: a later token's context ends
abbrev pub after_refusal : Option ℕ → List Entry → List Entry
after_refusal None h = h
after_refusal (Some id) h = Ended id Refused ∷ h

-- what a token changes of the contexts: nothing, one ends, or one becomes what its step makes of
-- it, before which another may go for it
pub data Change : Type 0 where
  Same : Change
  Ends : (id : ℕ) → Change
  Becomes : (lapsed : Option ℕ) (id : ℕ) (after : Context AcceptEnd Outcome) → Change

-- the context of an id after one, where one is named, is gone
abbrev pub without : Option ℕ → ℕ → Option (Context AcceptEnd Outcome)
    → Option (Context AcceptEnd Outcome)
without None id before = before
without (Some gone) id before = if gone == id then None else before

-- a context after the change, by what it was before
abbrev pub changed : Change → ℕ → Option (Context AcceptEnd Outcome)
    → Option (Context AcceptEnd Outcome)
changed Same id before = before
changed (Ends gone) id before = if gone == id then None else before
changed (Becomes lapsed own after) id before =
    if own == id then Some after else without lapsed id before

-- each context is what the change makes of it
abbrev pub Changed : Places AcceptEnd Outcome → Change → Places AcceptEnd Outcome → Type 0
Changed old change new = (id : ℕ)
    → context_of (slot_at new id) ≡ changed change id (context_of (slot_at old id))

-- what a refused token changes: a later token's context ends, of a first token nothing does
abbrev pub change_refused : Option ℕ → Change
change_refused None = Same
change_refused (Some id) = Ends id

-- an answer, the history after it, and what became of the contexts
pub record Outcomes : Type 0 where
  pub answer : NegAnswer
  pub history : List Entry
  pub change : Change

-- a token that was read and isn't taken: a later one's context ends
abbrev pub spends : Option ℕ → List Entry → NegAnswer → Outcomes
spends id h answer =
    record { answer = answer; history = after_refusal id h; change = change_refused id }

-- a token that its step refuses: the context of a later one ends
abbrev pub refuses : Option ℕ → List Entry → BookRefusal → Outcomes
refuses id h refusal = spends id h (answers.Refused refusal)

-- a token that is refused before any step: history and contexts stay as they are
abbrev pub leaves : List Entry → BookRefusal → Outcomes
leaves h refusal = record { answer = answers.Refused refusal; history = h; change = Same }

-- a step, by whether its mark is refused: the token is refused, or the step enters the history and
-- changes its context
abbrev pub by_mark : Stands → Option ℕ → Option ℕ → Option Mark → AcceptStep
    → Option MarkRefusal → Outcomes
by_mark book id past mark step (Some refusal) = refuses id book.history (refusal_of_mark refusal)
by_mark book id past mark step None = record {
  answer = answer_with (id_of id book.history) step;
  history = entered id (goes_by id (next_of step) past book.history book.table) mark (next_of step)
      book.greatest book.history;
  change = Becomes (goes_by id (next_of step) past book.history book.table) (id_of id book.history)
      (context_after (until_of id book.greatest book.table) (next_of step));
}

-- a step with its mark, where it has one
abbrev pub taken : Stands → Option ℕ → Option ℕ → Option Mark → AcceptStep → Outcomes
taken book id past mark step =
    by_mark book id past mark step
    (mark_refused book.capacity book.greatest (taken_of book.history) mark)

-- what the acceptor's step comes to: a refusal, or the step with its mark
abbrev pub by_step : Stands → Option ℕ → Option ℕ → Result Accepted NegRefusal → Outcomes
by_step book id past (Err refusal) = refuses id book.history (refusals.Neg refusal)
by_step book id past (Ok accepted) =
    taken book id past (mark_of accepted.step) (settled_of accepted.step)

-- the same by what the code returns of the step
abbrev pub by_stepped : Stands → Option ℕ → Option ℕ → Result AcceptStep NegRefusal → Outcomes
by_stepped book id past (Err refusal) = refuses id book.history (refusals.Neg refusal)
by_stepped book id past (Ok step) = taken book id past (mark_of step) (settled_of step)

-- a later token's step, from the state of its context
abbrev pub later_step : AcceptSetup → Option AcceptEnd → List ℕ → ℕ → List ℕ
    → Result Accepted NegRefusal
later_step setup None token now draws = accept_step setup ends.New token now draws
later_step setup (Some end) token now draws = accept_step setup end token now draws

-- the first token of a context
abbrev pub begun : AcceptSetup → Stands → Option ℕ → List ℕ → ℕ → List ℕ → Outcomes
begun setup book past token now draws =
    if nat_lt book.limit (length book.history + 4) then leaves book.history refusals.LogFull
    else if nat_le book.table.limit (live_of book.table) && is_none past
    then leaves book.history refusals.TableFull
    else by_step book None past (accept_step setup ends.New token now draws)

-- the same by what the code returns of its step
abbrev pub begun_by : Stands → Option ℕ → Result AcceptStep NegRefusal → Outcomes
begun_by book past stepped =
    if nat_lt book.limit (length book.history + 4) then leaves book.history refusals.LogFull
    else if nat_le book.table.limit (live_of book.table) && is_none past
    then leaves book.history refusals.TableFull
    else by_stepped book None past stepped

-- a later token of a context that negotiates
abbrev pub opened_by : AcceptSetup → Stands → ℕ → Option ℕ → List ℕ → ℕ → List ℕ → Outcomes
opened_by setup book id past token now draws =
    if nat_lt book.limit (length book.history + 4) then leaves book.history refusals.LogFull
    else by_step book (Some id) past
    (later_step setup (state_of (slot_at book.table id)) token now draws)

-- a later token, by what the history says of its id
abbrev pub gone_on_by : Standing → AcceptSetup → Stands → ℕ → Option ℕ → List ℕ → ℕ → List ℕ
    → Outcomes
gone_on_by Unknown setup book id past token now draws = leaves book.history refusals.NoContext
gone_on_by (Open at) setup book id past token now draws =
    opened_by setup book id past token now draws
gone_on_by (Whole mech names until) setup book id past token now draws =
    leaves book.history refusals.AlreadyComplete
gone_on_by Over setup book id past token now draws = leaves book.history refusals.NoContext

-- what a token comes to: without an id it is the first of a context, else a later one of that id;
-- the second number is the id of the next context that gives its place, where one does
abbrev pub negotiated : AcceptSetup → Stands → Option ℕ → Option ℕ → List ℕ → ℕ → List ℕ → Outcomes
negotiated setup book None past token now draws = begun setup book past token now draws
negotiated setup book (Some id) past token now draws =
    gone_on_by (standing id book.history) setup book id past token now draws

-- ---- admissions

-- both keys have the same octets
abbrev pub same_key : Key → Key → Bool
same_key a b = pointwise nat_eq (key_octets a) (key_octets b)

-- a context in this state is complete, with this key
abbrev pub state_key : SlotState AcceptEnd Outcome → Key → Bool
state_key (Negotiating end) key = false
state_key Held key = false
state_key (Complete outcome) key = same_key outcome.key key

-- the slot is complete, with this key
abbrev pub has_key : Option (Slot AcceptEnd Outcome) → Key → Bool
has_key None key = false
has_key (Some slot) key = state_key slot.state key

-- why a number of a lease's context isn't admitted: the id isn't complete with the lease's key, or
-- as the core says
abbrev pub lease_refused : Accepting AcceptEnd Outcome → Lease → ℕ → Option AdmitRefusal
lease_refused core lease seq =
    if has_key (slot_at core.table lease.id) lease.outcome.key
    then refused core.limit core.width core.history lease.id seq
    else Some admits.Gone

-- an admission by a lease is free: its context is complete with the lease's key, the number may be
-- called, and a place of the log is free
pub record FreeFor (core : Accepting AcceptEnd Outcome) (lease : Lease) (seq : ℕ) : Type 0 where
  pub key : has_key (slot_at core.table lease.id) lease.outcome.key ≡ true
  pub free : Free core.limit core.width core.history lease.id seq

-- ---- looks

-- a lease has the context's id, and the mechanism, names and end that the log has of it
pub record IsLease
    (lease : Lease) (number : ℕ) (kind : MechKind) (digest : List ℕ) (until : ℕ) : Type 0 where
  pub id : lease.id ≡ number
  pub mech : lease.outcome.mech ≡ kind
  pub names : names_of lease.outcome ≡ digest
  pub ends : lease.ends ≡ until

-- a look at a complete context: a lease of it until its end, after that it is expired
abbrev pub LeasedAt : ℕ → MechKind → List ℕ → ℕ → ℕ → Result Lease LookRefusal → Type 0
LeasedAt id mech names ends now (Ok lease) = (now ≤ ends) × IsLease lease id mech names ends
LeasedAt id mech names ends now (Err refusal) = (ends < now) × (refusal ≡ looks.Expired)

-- what a look answers by what the history says of the id
abbrev pub LeasedBy : Standing → ℕ → ℕ → Result Lease LookRefusal → Type 0
LeasedBy Unknown id now result = result ≡ Err looks.NoContext
LeasedBy (Open at) id now result = result ≡ Err looks.NotReady
LeasedBy (Whole mech names ends) id now result = LeasedAt id mech names ends now result
LeasedBy Over id now result = result ≡ Err looks.NoContext

-- the setup and the limits are as before, and the moment was taken note of
pub record NotesMoment (old new : BookOf) (now : ℕ) : Type 0 where
  pub setup : new.setup ≡ old.setup
  pub limit : new.core.limit ≡ old.core.limit
  pub width : new.core.width ≡ old.core.width
  pub keeping : new.core.keeping ≡ old.core.keeping
  pub contexts : new.core.table.limit ≡ old.core.table.limit
  pub capacity : new.core.cache.capacity ≡ old.core.cache.capacity
  pub greatest : new.core.cache.greatest ≡ max old.core.cache.greatest now
