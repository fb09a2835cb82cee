-- A network that carries records as they are, of as many initiators as there are, in any order:
-- what an initiator hands out comes to some lane, and the reply to it comes back to that initiator.
use Rattle.std.specs.Prelude.{◌≡◌, ◌≢◌, ℕ, ◌<◌, ◌^◌, List, [], ◌∷◌, length, map, slice_get}
use Rattle.std.specs.Prelude.{slice_set, Option, None, Some}
use Rattle.gss_base.specs.declared.mech.MechKind.{MechKind}
use Rattle.accept_core.specs.declared.entry.Entry.{Entry}
use Rattle.accept_core.specs.declared.entry.Entry.TheVariants.{Opened, Auth, Went, Settled, Call}
use Rattle.accept_core.specs.declared.entry.Entry.TheVariants.{Ended}
use Rattle.spnego_core.specs.Ends.{PlainSetup}
use Rattle.spnego_core.specs.Exchange.{HonestPair}
use Rattle.world_laws.specs.declared.event.Happened.{Happened}
use Rattle.world_laws.specs.declared.event.Happened.TheVariants.{Sent, Completed, Stepped, Refused}
use Rattle.world_laws.specs.declared.event.Happened.TheVariants.{Nothing}
use Rattle.world_laws.specs.declared.event.WorldEvent.{WorldEvent}
use Rattle.world_laws.specs.declared.event.WorldEvent.TheVariants.{Start, Deliver, Lane, CallBy}
use Rattle.world_laws.specs.Deeds.{Deed}
use Rattle.world_laws.specs.Events.{Run, Begins}
use Rattle.world_laws.specs.KnownList.{NoForgedList}
use Rattle.world_laws.specs.Premises.{Marking, NoForgery, Fresh}
use Rattle.world_laws.specs.State.{World}
use Rattle.world_runs.specs.Meeting.{occasions_at, ReadyFor}
use Rattle.world_runs.specs.Served.{served}
use Rattle.world_many.specs.Lists.{AllIssued, AreMade, AreApart, AreMatched, AreDone}

-- ---- the network

-- what is on its way: nothing; an initiator's record to the acceptor; the reply to it
pub data OnWay : Type 0 where
  Nowhere : OnWay
  Out : List ℕ → OnWay
  Back : List ℕ → OnWay

-- an initiator's line: what the acceptor will draw for its next tokens, and what is on its way
pub record Line : Type 0 where
  pub draws : List (List ℕ)
  pub way : OnWay

-- a record that was handed out is on its way out
abbrev pub out_of : Option Happened → OnWay
out_of None = Nowhere
out_of (Some (Sent octets)) = Out octets
out_of (Some (Completed outcome)) = Nowhere
out_of (Some (Stepped rule)) = Nowhere
out_of (Some Refused) = Nowhere
out_of (Some Nothing) = Nowhere

-- an initiator starts, and hands out a record
pub record IsStarted (lines : List Line) (i : ℕ) (deed : Deed) (after : List Line) : Type 0 where
  pub line : Line
  pub there : slice_get lines i ≡ Some line
  pub none : line.way ≡ Nowhere
  pub octets : List ℕ
  pub sent : deed.answer ≡ Some (Sent octets)
  pub after_is : after ≡ slice_set lines i (record { draws = line.draws; way = Out octets })

-- an initiator's record comes to a lane that has none, with the moment and the next of the draws;
-- it is answered, and the log says so
pub record IsBrought (now : ℕ) (lines : List Line) (lane : ℕ) (octets : List ℕ) (at : ℕ)
    (draws : List ℕ) (deed : Deed) (old new : World) (after : List Line) : Type 0 where
  pub i : ℕ
  pub line : Line
  pub there : slice_get lines i ≡ Some line
  pub out : line.way ≡ Out octets
  pub at_is : at ≡ now
  pub rest : List (List ℕ)
  pub drawn : line.draws ≡ draws ∷ rest
  pub idle : slice_get old.lanes lane ≡ Some None
  pub reply : List ℕ
  pub sent : deed.answer ≡ Some (Sent reply)
  pub logged : new.book.core.history ≢ old.book.core.history
  pub after_is : after ≡ slice_set lines i (record { draws = rest; way = Back reply })

-- the reply comes back to its initiator, which has memory for it
pub record IsReturned (lines : List Line) (i : ℕ) (octets : List ℕ) (deed : Deed)
    (after : List Line) : Type 0 where
  pub line : Line
  pub there : slice_get lines i ≡ Some line
  pub back : line.way ≡ Back octets
  pub some : deed.answer ≢ None
  pub after_is :
      after ≡ slice_set lines i (record { draws = line.draws; way = out_of deed.answer })

-- what an event does to the lines
abbrev pub CarriedBy : ℕ → List Line → WorldEvent → Deed → World → World → List Line → Type 0
CarriedBy now lines (Start i) deed old new after = IsStarted lines i deed after
CarriedBy now lines (Deliver i octets first) deed old new after =
    IsReturned lines i octets deed after
CarriedBy now lines (Lane lane octets at draws) deed old new after =
    IsBrought now lines lane octets at draws deed old new after
CarriedBy now lines (CallBy i procedure args) deed old new after = ⊥

-- the events of a run, one after the other
abbrev pub Carries : ℕ → List Line → (old : World) → (events : List WorldEvent) → (new : World)
    → Run old events new → Type 0
Carries now lines old [] new run = Unit {0}
Carries now lines old (event ∷ later) new run =
    (after : List Line) × CarriedBy now lines event run.0.deed old run.0.world after
    × Carries now after run.0.world later new run.1

-- ---- the ends

-- an initiator's mechanism, and what the acceptor draws for each of its tokens
pub record Plan : Type 0 where
  pub kind : MechKind
  pub draws : List (List ℕ)

-- each initiator with a plan makes an honest pair with the acceptor, which is ready for it
pub record IsHonest (old : World) (now : ℕ) (own : PlainSetup) (plan : Plan) : Type 0 where
  pub pair : HonestPair old.book.setup own plan.kind (occasions_at now plan.draws)
  pub ready : ReadyFor old.book own now pair.cred

abbrev pub AreHonest : World → ℕ → List Plan → Type 0
AreHonest old now plans = (i : ℕ) (plan : Plan) → slice_get plans i ≡ Some plan
    → (own : PlainSetup) × (slice_get old.facts i ≡ Some own) × IsHonest old now own plan

-- before the first event nothing is on its way
abbrev pub line_of : Plan → Line
line_of plan = record { draws = plan.draws; way = Nowhere }

abbrev pub lines_of : List Plan → List Line
lines_of plans = map line_of plans

-- no context has ended
abbrev pub NoEnds : List Entry → Type 0
NoEnds [] = Unit {0}
NoEnds (Opened id at ∷ h) = NoEnds h
NoEnds (Auth id mark at ∷ h) = NoEnds h
NoEnds (Went id at ∷ h) = NoEnds h
NoEnds (Settled id mech names ends at ∷ h) = NoEnds h
NoEnds (Call id seq procedure args ∷ h) = NoEnds h
NoEnds (Ended id cause ∷ h) = ⊥

-- a run of honest initiators of the program of posts, of each mechanism, whose records are carried
-- as they are, in whatever order; no context ends in it, and the log isn't longer than a memory can
-- be
pub record IsCarriedRun (plans : List Plan) (now : ℕ) (old : World) (events : List WorldEvent)
    (new : World) (run : Run old events new) : Type 0 where
  pub begins : Begins old
  pub serves : old.serves ≡ served
  pub honest : AreHonest old now plans
  pub carries : Carries now (lines_of plans) old events new run
  pub lasting : NoEnds new.book.core.history
  pub few : length new.book.core.history < 2 ^ 64

-- ---- the law

-- such a run meets the premises, where the world's lists are apart, for every marking of tickets
-- that were issued and of users
pub record MeetsPremises (marking : Marking) (old : World) (events : List WorldEvent) (new : World)
    (run : Run old events new) : Type 0 where
  pub unforged : NoForgery marking old events new run
  pub fresh : AreMade marking new → AreApart new → AreMatched new → Fresh marking new
  -- and what the law of an acceptor's list asks beside them
  pub unforged_list : AreMade marking new → AreApart new → AreDone marking new
      → NoForgedList marking new old events new run

abbrev pub MetByManyLaw : Type 0
MetByManyLaw = (plans : List Plan) (now : ℕ) (old : World) (events : List WorldEvent) (new : World)
    (run : Run old events new) → IsCarriedRun plans now old events new run → (marking : Marking)
    → AllIssued marking old events new run → MeetsPremises marking old events new run
