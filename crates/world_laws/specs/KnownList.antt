-- What an acceptor knows of the initiator's list: the mechanism is its own first choice, or the
-- list that it received is its partner's own.
use Rattle.std.specs.Prelude.{◌≡◌, ◌≢◌, ◌⊎◌, ℕ, true, List, [], ◌∷◌, map, slice_get, Option, Some}
use Rattle.std.specs.Prelude.{None}
use Rattle.std.specs.List.{AllByRecursion}
use Rattle.krb_tokens.specs.declared.end.Side.TheVariants.{Acceptor}
use Rattle.scram_mech.specs.Acceptor.{AcceptModel}
use Rattle.scram_mech.specs.MechMaking.{AmongMakings, typed}
use Rattle.spnego_core.specs.declared.outcome.Outcome.{Outcome}
use Rattle.spnego_core.specs.Ends.{PlainSetup}
use Rattle.spnego_core.specs.Choice.{is_first}
use Rattle.spnego_core.specs.Initiating.{own_list}
use Rattle.spnego_core.specs.InitLaws.{finished_of}
use Rattle.spnego_core.specs.ListMic.{mic_found}
use Rattle.gss_client.specs.Session.{SessionState}
use Rattle.world_laws.specs.declared.event.WorldEvent.{WorldEvent}
use Rattle.world_laws.specs.declared.event.WorldEvent.TheVariants.{Start, Deliver, Lane, CallBy}
use Rattle.world_laws.specs.Stages.{StageSays}
use Rattle.world_laws.specs.Stages as stages
use Rattle.world_laws.specs.Deeds.{Deed}
use Rattle.world_laws.specs.State.{Context, World}
use Rattle.world_laws.specs.Initiators.{call_makings}
use Rattle.world_laws.specs.Events.{Run, Begins}
use Rattle.world_laws.specs.Premises.{Marking, GuardedBasis, BuiltKey, OnGuarded, WasSettled}
use Rattle.world_laws.specs.Premises.{NoForgery, OnProof, Completed, Fresh}
use Rattle.world_laws.specs.Agreement.{HasInitiator}

-- ---- what this law alone asks, beside `NoForgery` and `Fresh`

-- the outcome of a mechanism that is done, which may be before the context stands
abbrev pub outcome_in : StageSays → Option Outcome
outcome_in (stages.Ready own) = None
outcome_in (stages.Asks xid end) = finished_of end
outcome_in (stages.Stands s) = Some s.outcome
outcome_in (stages.Left s) = Some s.outcome
outcome_in stages.Over = None

-- the mechanism of the initiator of this place is done, with this outcome
pub record Finished (w : World) (i : ℕ) (own : PlainSetup) (outcome : Outcome) : Type 0 where
  pub there : slice_get w.facts i ≡ Some own
  pub stage : StageSays
  pub stands : slice_get w.stages i ≡ Some stage
  pub finished : outcome_in stage ≡ Some outcome

-- of an event of a run that leads to the world `last`
pub record UnforgedList (marking : Marking) (last old : World) (deed : Deed) (new : World) : Type 0
  where
    -- what was found as the MIC over a list, under the key of a context that is built on a guarded
    -- key, wasn't made for a call
    pub uncalled : (i : ℕ) (own : PlainSetup) (s : SessionState) (procedure : ℕ) (args : List ℕ)
        (outcome : Outcome) (list : List (List ℕ)) (mic : List ℕ)
        → Completed old i own s.outcome → BuiltKey marking old.fixed outcome.key
        → AmongMakings deed.found (mic_found outcome Acceptor list mic)
        → AmongMakings (map typed (call_makings s procedure args))
        (mic_found outcome Acceptor list mic) → ⊥
    -- an initiator whose mechanism is done with the key of a context that is built on a guarded key
    -- is on a guarded key, also before it completes
    pub untold : (i : ℕ) (own : PlainSetup) (outcome : Outcome) → Finished new i own outcome
        → BuiltKey marking last.fixed outcome.key → OnGuarded marking own outcome.mech

-- the keys of two contexts on proofs differ, where one of them is on a marked user's line
abbrev pub ProofKeysApart : Marking → World → Type 0
ProofKeysApart marking w = (i j : ℕ) (x y : Context) (end next : AcceptModel) (auth last : List ℕ)
    → slice_get w.fixed i ≡ Some x → slice_get w.fixed j ≡ Some y
    → OnProof x end auth → OnProof y next last → GuardedBasis marking x.fixed.basis
    → x.fixed.outcome.key ≡ y.fixed.outcome.key → i ≡ j

-- all of this over a run
abbrev pub NoForgedList : Marking → World → (old : World) → (events : List WorldEvent)
    → (new : World) → Run old events new → Type 0
NoForgedList marking last old [] new run = ProofKeysApart marking last
NoForgedList marking last old (event ∷ later) new run =
    UnforgedList marking last old run.0.deed run.0.world
    × NoForgedList marking last run.0.world later new run.1

-- ---- the law

-- a settled context that is built on a guarded key has the acceptor's first choice as its
-- mechanism, or the list that came is its initiator's own
abbrev pub KnowsList : Marking → World → Type 0
KnowsList marking w = (place : ℕ) (x : Context) → slice_get w.fixed place ≡ Some x
    → GuardedBasis marking x.fixed.basis → WasSettled w.book.core.history x.id
    → (has : HasInitiator w x)
    → (is_first w.book.setup.offer x.fixed.outcome.mech ≡ true)
    ⊎ (x.fixed.received ≡ own_list has.own)

-- so it is after every run
abbrev pub KnownListLaw : Type 0
KnownListLaw = (marking : Marking) (old : World) (events : List WorldEvent) (new : World)
    (run : Run old events new)
    → Begins old → NoForgery marking old events new run → Fresh marking new
    → NoForgedList marking new old events new run → KnowsList marking new

-- ---- runs that meet it

-- the event isn't a call
abbrev pub IsNoCall : WorldEvent → Type 0
IsNoCall (Start i) = Unit {0}
IsNoCall (Deliver i octets first) = Unit {0}
IsNoCall (Lane lane octets now draws) = Unit {0}
IsNoCall (CallBy i procedure args) = ⊥

-- how such a run leaves the world: no initiator ended before its context stood; one whose mechanism
-- is done with the key of a context that is built on a guarded key is on a guarded key; and keys of
-- contexts on proofs differ
pub record LeavesUntold (marking : Marking) (w : World) : Type 0 where
  pub lasting : (i : ℕ) → slice_get w.stages i ≢ Some stages.Over
  pub untold : (i : ℕ) (own : PlainSetup) (outcome : Outcome) → Finished w i own outcome
      → BuiltKey marking w.fixed outcome.key → OnGuarded marking own outcome.mech
  pub apart : ProofKeysApart marking w

-- a run in which nothing is forged and nobody calls meets it, if it leaves the world so
abbrev pub UnforgedListLaw : Type 0
UnforgedListLaw = (marking : Marking) (old : World) (events : List WorldEvent) (new : World)
    (run : Run old events new)
    → Begins old → NoForgery marking old events new run → AllByRecursion IsNoCall events
    → LeavesUntold marking new → NoForgedList marking new old events new run
