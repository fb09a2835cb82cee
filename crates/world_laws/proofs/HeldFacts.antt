-- What is held of the contexts, said of the parts of a world.
use Rattle.std.proofs.Common.{◌≡◌, ℕ, ◌≤◌, List, ◌++◌, slice_get, Option, Some, Ok}
use Rattle.gss_base.specs.declared.mech.MechKind.{MechKind}
use Rattle.ap_exchange.specs.declared.judged.Judged.{Judged}
use Rattle.ap_exchange.specs.Judging.{judged_mark}
use Rattle.spnego_core.specs.declared.accept_end.AcceptEnd.{AcceptEnd}
use Rattle.spnego_core.specs.declared.outcome.Outcome.{Outcome}
use Rattle.spnego_core.specs.declared.setup.AcceptSetup.{AcceptSetup}
use Rattle.spnego_core.specs.AcceptMech.{ByRequest}
use Rattle.spnego_core.specs.Choice.{best}
use Rattle.context_table.specs.Places.{Places, slot_at}
use Rattle.accept_book.specs.declared.book_answer.Lease.{Lease}
use Rattle.accept_core.specs.declared.entry.Entry.{Entry}
use Rattle.accept_core.specs.declared.entry.Entry.TheVariants.{Auth, Settled}
use Rattle.accept_book.specs.Booking.{names_of}
use Rattle.accept_book.specs.BookLaws.{AllGood, Lasting, fixed_in}
use Rattle.accept_core.specs.History.{opened, entry_at}
use Rattle.accept_core.specs.Stepping.{Context as Slot, context_of}
use Rattle.world_laws.specs.State.{InHand, Context, World}
use Rattle.world_laws.specs.Events.{IsBook}
use Rattle.world_laws.proofs.Invariants.{FixedAs, WasOpened, HasAuthEntry, Held}
use Rattle.world_laws.proofs.HeldLists.{get-more}

-- a context was fixed with this id, outcome and end
pub record FixedIn (fixed : List Context) (id : ℕ) (outcome : Outcome) (ends : ℕ) : Type 0 where
  pub place : ℕ
  pub context : Context
  pub there : slice_get fixed place ≡ Some context
  pub id_is : context.id ≡ id
  pub outcome_is : context.fixed.outcome ≡ outcome
  pub ends_is : context.fixed.lasts ≡ ends

pub record AuthIn (history : List Entry) (context : Context) (request : Judged) : Type 0 where
  pub place : ℕ
  pub at : ℕ
  pub entry : entry_at place history ≡ Some (Auth context.id (judged_mark request) at)

-- a context that was settled was fixed, with these names
pub record SettledAs (fixed : List Context) (id : ℕ) (mech : MechKind) (names : List ℕ) (ends : ℕ) : Type 0 where
  pub outcome : Outcome
  pub is_fixed : FixedIn fixed id outcome ends
  pub mech_is : outcome.mech ≡ mech
  pub names_is : names_of outcome ≡ names

pub more-fixed : (fixed more : List Context) (id : ℕ) (outcome : Outcome) (ends : ℕ) → FixedIn fixed id outcome ends → FixedIn (fixed ++ more) id outcome ends
more-fixed fixed more id outcome ends f = record {
  place = f.place;
  context = f.context;
  there = get-more fixed more f.place f.context f.there;
  id_is = f.id_is;
  outcome_is = f.outcome_is;
  ends_is = f.ends_is;
}

pub more-settled : (fixed more : List Context) (id : ℕ) (mech : MechKind) (names : List ℕ) (ends : ℕ) → SettledAs fixed id mech names ends → SettledAs (fixed ++ more) id mech names ends
more-settled fixed more id mech names ends s = record {
  outcome = s.outcome;
  is_fixed = more-fixed fixed more id s.outcome ends s.is_fixed;
  mech_is = s.mech_is;
  names_is = s.names_is;
}

-- the contexts, by id
abbrev pub Contexts : Type 0
Contexts = ℕ → Option (Slot AcceptEnd Outcome)

abbrev pub contexts_of : Places AcceptEnd Outcome → Contexts
contexts_of table id = context_of (slot_at table id)

abbrev pub Slots : Contexts → List Context → Type 0
Slots c fixed = (id : ℕ) (context : Slot AcceptEnd Outcome) (lasting : Lasting) → c id ≡ Some context → fixed_in (Some context) ≡ Some lasting → FixedIn fixed id lasting.outcome lasting.ends

abbrev pub Live : Contexts → List Context → Type 0
Live c fixed = (place : ℕ) (x : Context) (context : Slot AcceptEnd Outcome) → slice_get fixed place ≡ Some x → c x.id ≡ Some context
    → fixed_in (Some context) ≡ Some (record { outcome = x.fixed.outcome; ends = x.fixed.lasts })

abbrev pub AllSettled : List Entry → List Context → Type 0
AllSettled h fixed = (place id : ℕ) (mech : MechKind) (names : List ℕ) (ends at : ℕ) → entry_at place h ≡ Some (Settled id mech names ends at) → SettledAs fixed id mech names ends

pub record Facts (setup : AcceptSetup) (h : List Entry) (c : Contexts) (fixed : List Context) : Type 0 where
  pub slots : Slots c fixed
  pub live : Live c fixed
  pub opened_id : (place : ℕ) (x : Context) → slice_get fixed place ≡ Some x → x.id ≤ opened h
  pub opened_at : (place : ℕ) (x : Context) → slice_get fixed place ≡ Some x → WasOpened h x.id
  pub ids : (i j : ℕ) (x y : Context) → slice_get fixed i ≡ Some x → slice_get fixed j ≡ Some y → x.id ≡ y.id → i ≡ j
  pub auths : (place : ℕ) (x : Context) (request : Judged) → slice_get fixed place ≡ Some x → x.fixed.basis ≡ ByRequest request → AuthIn h x request
  pub settled : AllSettled h fixed
  pub best_is : (place : ℕ) (x : Context) → slice_get fixed place ≡ Some x → best setup.offer x.fixed.received ≡ Some x.fixed.outcome.mech

-- the lease of a record in hand
abbrev pub HandHolds : List Context → InHand → Type 0
HandHolds fixed hand = (lease : Lease) → hand.kept.looked ≡ Some (Ok lease) → FixedIn fixed lease.id lease.outcome lease.ends

abbrev pub Leases : List (Option InHand) → List Context → Type 0
Leases lanes fixed = (lane : ℕ) (hand : InHand) → slice_get lanes lane ≡ Some (Some hand) → HandHolds fixed hand

-- ---- and of the world

in-fixed : (w : World) (id : ℕ) (outcome : Outcome) (ends : ℕ) → FixedAs w id outcome ends → FixedIn w.fixed id outcome ends
in-fixed w id outcome ends f = record { place = f.place; context = f.context; there = f.there; id_is = f.id_is; outcome_is = f.outcome_is; ends_is = f.ends_is }

as-fixed : (w : World) (id : ℕ) (outcome : Outcome) (ends : ℕ) → FixedIn w.fixed id outcome ends → FixedAs w id outcome ends
as-fixed w id outcome ends f = record { place = f.place; context = f.context; there = f.there; id_is = f.id_is; outcome_is = f.outcome_is; ends_is = f.ends_is }

in-auth : (w : World) (x : Context) (request : Judged) → HasAuthEntry w x request → AuthIn w.book.core.history x request
in-auth w x request a = record { place = a.place; at = a.at; entry = a.entry }

as-auth : (w : World) (x : Context) (request : Judged) → AuthIn w.book.core.history x request → HasAuthEntry w x request
as-auth w x request a = record { place = a.place; at = a.at; entry = a.entry }

abbrev pub FactsOf : World → Type 0
FactsOf w = Facts w.book.setup w.book.core.history (contexts_of w.book.core.table) w.fixed

pub facts-of : (w : World) → Held w → FactsOf w
facts-of w held = record {
  slots = λ id context lasting e f. in-fixed w id lasting.outcome lasting.ends (held.slots id context lasting e f);
  live = held.live;
  opened_id = held.opened_id;
  opened_at = held.opened_at;
  ids = held.ids;
  auths = λ place x request e f. in-auth w x request (held.auths place x request e f);
  settled = λ place id mech names ends at e.
      let s = held.settled place id mech names ends at e in
      record { outcome = s.0; is_fixed = in-fixed w id s.0 ends s.1; mech_is = s.2; names_is = s.3 };
  best_is = held.best_is;
}

pub leases-of : (w : World) → Held w → Leases w.lanes w.fixed
leases-of w held = λ lane hand e lease f. in-fixed w lease.id lease.outcome lease.ends (held.leases lane hand lease e f)

pub held-from : (w : World) → IsBook w.book → AllGood w.book.setup w.book.core.table → FactsOf w → Leases w.lanes w.fixed → Held w
held-from w book good facts leases = record {
  book = book;
  good = good;
  slots = λ id context lasting e f. as-fixed w id lasting.outcome lasting.ends (facts.slots id context lasting e f);
  live = facts.live;
  opened_id = facts.opened_id;
  opened_at = facts.opened_at;
  ids = facts.ids;
  auths = λ place x request e f. as-auth w x request (facts.auths place x request e f);
  settled = λ place id mech names ends at e.
      let s = facts.settled place id mech names ends at e in
      (s.outcome, as-fixed w id s.outcome ends s.is_fixed, s.mech_is, s.names_is);
  leases = λ lane hand lease e f. as-fixed w lease.id lease.outcome lease.ends (leases lane hand e lease f);
  best_is = facts.best_is;
}
