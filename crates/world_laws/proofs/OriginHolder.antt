-- Who completed with the key of a context that is built on a guarded key is its partner.
use Rattle.std.proofs.Common.{◌≡◌, inl, inr, ℕ, sym, ap, subst, List, slice_get, Some}
use Rattle.gss_base.specs.declared.mech.MechKind.TheVariants as kinds
use Rattle.scram_mech.specs.MechMaking.{AmongMakings}
use Rattle.spnego_core.specs.declared.outcome.Outcome.{Outcome}
use Rattle.spnego_core.specs.Ends.{PlainSetup}
use Rattle.world_laws.specs.State.{Context, World}
use Rattle.world_laws.specs.Premises.{Marking, GuardedBasis, Completed, Proved, Fresh}
use Rattle.world_laws.specs.Setups.{Proper}
use Rattle.world_laws.specs.Agreement.{Partner}
use Rattle.world_laws.proofs.Invariants.{Below, MechFinished, Kept}
use Rattle.world_laws.proofs.Holders.{krb-holds, scram-holds}
use Rattle.world_laws.proofs.OwnTexts.{Told, told}
use Rattle.world_laws.proofs.TakenTexts.{made-is}
use Rattle.world_laws.proofs.OriginWaiting.{HandedProof, Proofs, completed-proof}

-- a proof that was handed out, by its AuthMessage
record ProvedOver (w : World) (own : PlainSetup) : Type 0 where
  auth : List ℕ
  proved : Proved w own auth

proved-over : (laws : Below) (w : World) → Proper w → (j : ℕ) (own : PlainSetup) → slice_get w.facts j ≡ Some own → HandedProof w own → ProvedOver w own
proved-over laws w proper j own there h = by (told laws.scram own (proper.setups j own there) h.made.end h.made.first h.made.text h.made.answered h.made.answers)
  where
    by : Told own h.made.answered → ProvedOver w own
    by o = record {
      auth = o.auth;
      proved = record {
        user = o.user;
        password = o.password;
        is_own = o.is_own;
        parts = o.parts;
        reads = o.reads;
        name = o.name;
        nonce = o.nonce;
        binding = o.binding;
        handed_out = subst (AmongMakings w.makings) (made-is h.making own h.made o) h.among;
      };
    }

partner-by : (laws : Below) (marking : Marking) (w : World) → Proper w → Fresh marking w → Kept marking w → Proofs w → (place : ℕ) (x : Context) → slice_get w.fixed place ≡ Some x → GuardedBasis marking x.fixed.basis
    → (j : ℕ) (own : PlainSetup) (outcome : Outcome) → Completed w j own outcome → outcome.key ≡ x.fixed.outcome.key → MechFinished marking w own outcome → Partner w own x.fixed.basis
partner-by laws marking w proper fresh kept proofs place x there guarded j own outcome completed key (inl d) =
    krb-holds laws marking w proper fresh kept j own outcome completed (ap (λ (o : Outcome). o.mech) d.outcome_is) place x there guarded (sym key)
partner-by laws marking w proper fresh kept proofs place x there guarded j own outcome completed key (inr d) =
    let mech : outcome.mech ≡ kinds.Scram = ap (λ (o : Outcome). o.mech) d.outcome_is in
    let p : ProvedOver w own = proved-over laws w proper j own completed.there (completed-proof w j own outcome proofs completed mech) in
    scram-holds laws marking w proper fresh kept j own outcome p.auth completed mech p.proved place x there guarded (sym key)

pub partner-of : (laws : Below) (marking : Marking) (w : World) → Proper w → Fresh marking w → Kept marking w → Proofs w → (place : ℕ) (x : Context) → slice_get w.fixed place ≡ Some x → GuardedBasis marking x.fixed.basis
    → (j : ℕ) (own : PlainSetup) (outcome : Outcome) → Completed w j own outcome → outcome.key ≡ x.fixed.outcome.key → Partner w own x.fixed.basis
partner-of laws marking w proper fresh kept proofs place x there guarded j own outcome completed key =
    partner-by laws marking w proper fresh kept proofs place x there guarded j own outcome completed key (kept.found.completed j own outcome completed)
