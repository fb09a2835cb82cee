-- What every event keeps holds after every run, and with it agreement.
use Rattle.std.proofs.Common.{sym, subst, List, [], ◌∷◌}
use Rattle.gss_base.specs.declared.mech.MechKind.TheVariants as kinds
use Rattle.world_laws.specs.declared.event.WorldEvent.{WorldEvent}
use Rattle.world_laws.specs.Agreement.{AgreementLaw}
use Rattle.world_laws.specs.OneMechanism.{AgreementLawBy}
use Rattle.world_laws.specs.Deeds.{Deed}
use Rattle.world_laws.specs.Events.{Happens, Run, Begins}
use Rattle.world_laws.specs.Premises.{Marking, Unforged, NoForgery, Fresh}
use Rattle.world_laws.specs.Setups.{Proper}
use Rattle.world_laws.specs.State.{World}
use Rattle.world_laws.proofs.Invariants.{Below, FreshFacts, Kept}
use Rattle.world_laws.proofs.Built.{built}
use Rattle.world_laws.proofs.Found.{found-start, found-step}
use Rattle.world_laws.proofs.Freshness.{fresh-back}
use Rattle.world_laws.proofs.Growing.{grows, run-grows}
use Rattle.world_laws.proofs.Held.{held-start, held-step}
use Rattle.world_laws.proofs.Holders.{proper-on}
use Rattle.world_laws.proofs.KerberosAgrees.{agreement-kerberos}
use Rattle.world_laws.proofs.Known.{known-start, known-step}
use Rattle.world_laws.proofs.Negotiated.{agreement}
use Rattle.world_laws.proofs.Once.{once-start, once-step}
use Rattle.world_laws.proofs.Owning.{owning-start}
use Rattle.world_laws.proofs.OwningStep.{owning-step}
use Rattle.world_laws.proofs.ScramAgrees.{agreement-scram}

pub kept-start : (marking : Marking) (w : World) → Begins w → Kept marking w
kept-start marking w begins = record {
  known = known-start w begins;
  held = held-start w begins;
  owning = owning-start w begins;
  found = found-start marking w begins;
  once = once-start w begins;
}

fresh-facts : (marking : Marking) (w : World) → Fresh marking w → FreshFacts w
fresh-facts marking w f = record { stamps = f.stamps; nonces = f.nonces }

pub kept-step : (laws : Below) (marking : Marking) (old : World) (event : WorldEvent) (deed : Deed) (new : World) → Proper old → Fresh marking old → Kept marking old → Unforged marking old deed
    → Happens old event deed new → Kept marking new
kept-step laws marking old event deed new proper fresh k unforged happens = record {
  known = known-step laws old event deed new k.known happens;
  held = held-step laws old event deed new k.held happens;
  owning = owning-step laws old event deed new k.known k.held happens k.owning;
  found = found-step laws marking old event deed new k.known k.held k.found unforged (built laws marking old proper fresh k.owning k.found) happens;
  once = once-step laws old event deed new k.known k.held proper (fresh-facts marking old fresh) happens k.once;
}

pub kept-run : (laws : Below) (marking : Marking) (old : World) (events : List WorldEvent) (new : World) (run : Run old events new) → Proper old → Kept marking old
    → NoForgery marking old events new run → Fresh marking new → Kept marking new
kept-run laws marking old [] new run proper kept none fresh = subst (λ w. Kept marking w) (sym run) kept
kept-run laws marking old (event ∷ later) new run proper kept none fresh =
    kept-run laws marking run.0.world later new run.1 (proper-on old run.0.world (grows old event run.0.deed run.0.world run.0.happens) proper)
    (kept-step laws marking old event run.0.deed run.0.world proper (fresh-back marking old new (run-grows old (event ∷ later) new run) fresh) kept none.0 run.0.happens) none.1 fresh

-- ---- after a run from a world before its first event

pub kept-end : (laws : Below) (marking : Marking) (old : World) (events : List WorldEvent) (new : World) (run : Run old events new) → Begins old → NoForgery marking old events new run → Fresh marking new
    → Kept marking new
kept-end laws marking old events new run begins none fresh = kept-run laws marking old events new run begins.proper (kept-start marking old begins) none fresh

proper-end : (old : World) (events : List WorldEvent) (new : World) → Run old events new → Begins old → Proper new
proper-end old events new run begins = proper-on old new (run-grows old events new run) begins.proper

pub law-kerberos : Below → AgreementLawBy kinds.Kerberos
law-kerberos laws marking old events new run begins none fresh =
    agreement-kerberos laws marking new (proper-end old events new run begins) fresh (kept-end laws marking old events new run begins none fresh)

pub law-scram : Below → AgreementLawBy kinds.Scram
law-scram laws marking old events new run begins none fresh =
    agreement-scram laws marking new (proper-end old events new run begins) fresh (kept-end laws marking old events new run begins none fresh)

pub law : Below → AgreementLaw
law laws marking old events new run begins none fresh =
    agreement laws marking new (proper-end old events new run begins) fresh (kept-end laws marking old events new run begins none fresh)
