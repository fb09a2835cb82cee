-- Origin: a call that was admitted on a guarded key was made by the context's partner, and so was
-- the end of a context.
use Rattle.std.specs.Prelude.{◌≡◌, ◌≢◌, ◌⊎◌, ℕ, true, nat_le, List, [], ◌∷◌, slice_get, Some, None}
use Rattle.sha1.specs.Sha1.{sha1}
use Rattle.spnego_core.specs.declared.outcome.Outcome.{Outcome}
use Rattle.gss_client.specs.Session.{SessionState}
use Rattle.accept_core.specs.declared.entry.EndCause.TheVariants.{Destroyed}
use Rattle.accept_core.specs.declared.entry.Entry.TheVariants.{Call, Ended}
use Rattle.accept_core.specs.History.{entry_at}
use Rattle.world_laws.specs.declared.event.WorldEvent.{WorldEvent}
use Rattle.world_laws.specs.declared.event.WorldEvent.TheVariants.{CallBy}
use Rattle.world_laws.specs.Stages.{Stands}
use Rattle.world_laws.specs.Deeds.{Deed}
use Rattle.world_laws.specs.State.{Context, World}
use Rattle.world_laws.specs.Events.{Run, Begins}
use Rattle.world_laws.specs.Premises.{Marking, Listed, GuardedBasis, NoForgery, Fresh, Completed}
use Rattle.world_laws.specs.Agreement.{HasInitiator}

-- the event is a call of this initiator with this number, procedure and arguments, and its record
-- was handed out; with 0x80000000, the number after those of calls, it is the end of its context
pub record IsCall (old : World) (event : WorldEvent) (deed : Deed) (i number procedure : ℕ)
    (args : List ℕ) : Type 0 where
  pub event_is : event ≡ CallBy i procedure args
  pub session : SessionState
  pub stands : slice_get old.stages i ≡ Some (Stands session)
  pub left : nat_le number 0x80000000 ≡ true
  pub number_is : session.number ≡ number
  pub answered : deed.answer ≢ None

-- one of the run's events is
abbrev pub WasCalled : (old : World) (events : List WorldEvent) (new : World) → Run old events new
    → ℕ → ℕ → ℕ → List ℕ → Type 0
WasCalled old [] new run i number procedure args = ⊥
WasCalled old (event ∷ later) new run i number procedure args =
    IsCall old event run.0.deed i number procedure args
    ⊎ WasCalled run.0.world later new run.1 i number procedure args

-- the context's initiator, which completed with the context's key, called with this number; where a
-- call is meant, with this procedure and arguments of this digest
pub record CameFrom (old : World) (events : List WorldEvent) (new : World) (run : Run old events
    new) (context : Context) (number : ℕ) (means : ℕ → List ℕ → Type 0) : Type 0 where
  pub has : HasInitiator new context
  pub outcome : Outcome
  pub completed : Completed new has.initiator has.own outcome
  pub key_is : outcome.key ≡ context.fixed.outcome.key
  pub procedure : ℕ
  pub args : List ℕ
  pub called : WasCalled old events new run has.initiator number procedure args
  pub meant : means procedure args

-- the number is a call's, and the call has the procedure in the log, and arguments whose SHA-1 is
-- the digest in the log
abbrev pub Means : ℕ → ℕ → List ℕ → ℕ → List ℕ → Type 0
Means number procedure digest called args =
    (nat_le number 0x7fffffff ≡ true) × (called ≡ procedure) × (sha1 args ≡ digest)

-- each call in the log, and each end by a call, of a context that is built on a guarded key
pub record Origin (marking : Marking) (old : World) (events : List WorldEvent) (new : World)
    (run : Run old events new) : Type 0 where
  pub calls : (place id seq procedure : ℕ) (digest : List ℕ) (x : Context)
      → entry_at place new.book.core.history ≡ Some (Call id seq procedure digest)
      → Listed new.fixed x → x.id ≡ id → GuardedBasis marking x.fixed.basis
      → CameFrom old events new run x seq (Means seq procedure digest)
  pub ends : (place id seq : ℕ) (x : Context)
      → entry_at place new.book.core.history ≡ Some (Ended id (Destroyed seq))
      → Listed new.fixed x → x.id ≡ id → GuardedBasis marking x.fixed.basis
      → CameFrom old events new run x seq (λ procedure args. Unit {0})

-- origin holds after every run, for every marking, if nothing is forged and draws are fresh
abbrev pub OriginLaw : Type 0
OriginLaw = (marking : Marking) (old : World) (events : List WorldEvent) (new : World)
    (run : Run old events new)
    → Begins old → NoForgery marking old events new run → Fresh marking new
    → Origin marking old events new run
