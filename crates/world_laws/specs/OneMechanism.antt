-- Agreement by one mechanism alone, which rests on no MIC over the list. It isn't needed to read
-- the headline.
use Rattle.std.specs.Prelude.{◌≡◌, ℕ, List, slice_get, Some}
use Rattle.gss_base.specs.declared.mech.MechKind.{MechKind}
use Rattle.spnego_core.specs.declared.outcome.Outcome.{Outcome}
use Rattle.spnego_core.specs.Ends.{PlainSetup}
use Rattle.world_laws.specs.declared.event.WorldEvent.{WorldEvent}
use Rattle.world_laws.specs.State.{Context, World}
use Rattle.world_laws.specs.Events.{Run, Begins}
use Rattle.world_laws.specs.Premises.{Marking, GuardedBasis, OnGuarded, NoForgery, Fresh, Completed}
use Rattle.world_laws.specs.Agreement.{Partner, HasPartner, HasInitiator}

-- who completed by this mechanism on a guarded key has a partner of this mechanism, and no second
-- one
pub record HasOneBy (marking : Marking) (w : World) (own : PlainSetup) (outcome : Outcome) : Type 0
  where
    pub has : HasPartner w own outcome
    pub only : (other : ℕ) (x : Context) → slice_get w.fixed other ≡ Some x
        → x.fixed.outcome.mech ≡ outcome.mech → Partner w own x.fixed.basis → other ≡ has.place

-- agreement by one mechanism alone
pub record AgreementBy (kind : MechKind) (marking : Marking) (w : World) : Type 0 where
  pub initiators : (i : ℕ) (own : PlainSetup) (outcome : Outcome) → Completed w i own outcome
      → outcome.mech ≡ kind → OnGuarded marking own kind → HasOneBy marking w own outcome
  pub contexts : (place : ℕ) (x : Context) → slice_get w.fixed place ≡ Some x
      → x.fixed.outcome.mech ≡ kind → GuardedBasis marking x.fixed.basis → HasInitiator w x

-- after every run, for every marking
abbrev pub AgreementLawBy : MechKind → Type 0
AgreementLawBy kind = (marking : Marking) (old : World) (events : List WorldEvent) (new : World)
    (run : Run old events new)
    → Begins old → NoForgery marking old events new run → Fresh marking new
    → AgreementBy kind marking new
