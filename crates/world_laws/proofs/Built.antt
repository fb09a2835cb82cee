-- The key of an initiator whose mechanism is done, on a guarded key, is one of a context that is built on a guarded key.
use Rattle.std.proofs.Common.{◌≡◌, inl, inr, ℕ, ap, subst, Some, slice_get}
use Rattle.gss_base.specs.declared.mech.MechKind.{MechKind}
use Rattle.gss_base.specs.declared.mech.MechKind.TheVariants as kinds
use Rattle.spnego_core.specs.declared.outcome.Outcome.{Outcome}
use Rattle.spnego_core.specs.Ends.{PlainSetup}
use Rattle.world_laws.specs.State.{World}
use Rattle.world_laws.specs.Premises.{Marking, BuiltKey, OnGuarded, Fresh}
use Rattle.world_laws.specs.Setups.{Proper}
use Rattle.world_laws.proofs.Invariants.{KrbDone, ScramDone, MechFinished, Owning, Found, Below}
use Rattle.world_laws.proofs.Kerberos.{krb-answers, krb-built}
use Rattle.world_laws.proofs.Scram.{scram-answers, scram-built}

krb-mech : (marking : Marking) (w : World) (own : PlainSetup) (outcome : Outcome) → KrbDone marking w own outcome → outcome.mech ≡ kinds.Kerberos
krb-mech marking w own outcome d = ap (λ (o : Outcome). o.mech) d.outcome_is

scram-mech : (marking : Marking) (w : World) (own : PlainSetup) (outcome : Outcome) → ScramDone marking w own outcome → outcome.mech ≡ kinds.Scram
scram-mech marking w own outcome d = ap (λ (o : Outcome). o.mech) d.outcome_is

pub built : (laws : Below) (marking : Marking) (w : World) → Proper w → Fresh marking w → Owning w → Found marking w → (i : ℕ) (own : PlainSetup) (outcome : Outcome) → slice_get w.facts i ≡ Some own
    → MechFinished marking w own outcome → OnGuarded marking own outcome.mech → BuiltKey marking w.fixed outcome.key
built laws marking w proper fresh owning found i own outcome there (inl d) on = by (subst (λ (k : MechKind). OnGuarded marking own k) (krb-mech marking w own outcome d) on)
  where
    by : OnGuarded marking own kinds.Kerberos → BuiltKey marking w.fixed outcome.key
    by ticket = krb-built marking w own outcome ticket (krb-answers laws.exchange laws.scram marking w proper fresh owning found i own outcome there d ticket)
built laws marking w proper fresh owning found i own outcome there (inr d) on =
    scram-built marking w own outcome (scram-answers laws.scram marking w proper fresh owning found i own outcome there d (subst (λ (k : MechKind). OnGuarded marking own k) (scram-mech marking w own outcome d) on))
