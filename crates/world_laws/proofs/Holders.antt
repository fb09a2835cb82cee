-- Who holds the key of a context that is built on a guarded key is its partner; and what the setups are stays.
use Rattle.std.proofs.Common.{◌≡◌, inr, ℕ, refl, sym, ap, ◌∙◌, subst, List, Some, slice_get}
use Rattle.gss_base.specs.declared.mech.MechKind.TheVariants as kinds
use Rattle.scram_mech.specs.Acceptor.{auth_with}
use Rattle.spnego_core.specs.declared.outcome.Outcome.{Outcome}
use Rattle.spnego_core.specs.declared.setup.AcceptSetup.{AcceptSetup}
use Rattle.spnego_core.specs.Ends.{PlainSetup}
use Rattle.spnego_core.specs.AcceptMech.{Basis, ByRequest, ByProof}
use Rattle.rpc_program.specs.Programs.{Serving}
use Rattle.told_apart.specs.Apart.{IsApart}
use Rattle.world_laws.specs.State.{Context, World}
use Rattle.world_laws.specs.Premises.{Marking, GuardedBasis, BuiltKey, OnTicket, Fresh, HasAuth, Completed, Proved, AtInitiator}
use Rattle.world_laws.specs.Agreement.{Partner}
use Rattle.world_laws.specs.Setups.{Proper}
use Rattle.world_laws.proofs.Invariants.{KrbDone, Below, Kept}
use Rattle.world_laws.proofs.Growing.{Grows}
use Rattle.world_laws.proofs.Kerberos.{same-context, Answers, krb-answers}
use Rattle.world_laws.proofs.KerberosAgrees.{krb-done}
use Rattle.world_laws.proofs.Negotiated.{not-mixed}
use Rattle.world_laws.proofs.TakenTexts.{Taken, taken}

-- ---- the setups stay

pub proper-on : (old new : World) → Grows old new → Proper old → Proper new
proper-on old new g p = record {
  setups = λ i own there. p.setups i own (ap (λ (facts : List PlainSetup). slice_get facts i) (sym g.facts) ∙ there);
  lines = λ place line there. p.lines place line (ap (λ (setup : AcceptSetup). slice_get setup.verifiers place) (sym g.setup) ∙ there);
  program = subst (λ (serves : Serving). IsApart serves.program) (sym g.serves) p.program;
}

-- ---- who completed by Kerberos

same-place : (marking : Marking) (w : World) (own : PlainSetup) (outcome : Outcome) (on : OnTicket marking own) (a : Answers w own on.credential outcome) (place : ℕ) (x : Context) → slice_get w.fixed place ≡ Some x → place ≡ a.place → Partner w own x.fixed.basis
same-place marking w own outcome on a place x there same =
    let context : a.context ≡ x = same-context w place a.context x (subst (λ (n : ℕ). slice_get w.fixed n ≡ Some a.context) (sym same) a.there) there in
    let mine : Partner w own a.context.fixed.basis = subst (λ (b : Basis). Partner w own b) (sym a.basis) (record { credential = on.credential; is_own = on.is_own; session = a.session; stamp = a.stamp }) in
    subst (λ (z : Context). Partner w own z.fixed.basis) context mine

answered-by : (laws : Below) (marking : Marking) (w : World) → Proper w → Fresh marking w → Kept marking w → (own : PlainSetup) (outcome : Outcome) (on : OnTicket marking own) (a : Answers w own on.credential outcome) (place : ℕ) (x : Context) → slice_get w.fixed place ≡ Some x
    → GuardedBasis marking x.fixed.basis → x.fixed.outcome.key ≡ outcome.key → (b : Basis) → x.fixed.basis ≡ b → Partner w own x.fixed.basis
answered-by laws marking w proper fresh kept own outcome on a place x there guarded key (ByRequest request) basis =
    same-place marking w own outcome on a place x there
    (fresh.subkeys place a.place x a.context request a.request there a.there (record { basis = basis }) (record { basis = a.basis }) (key ∙ ap (λ (o : Outcome). o.key) a.agree))
answered-by laws marking w proper fresh kept own outcome on a place x there guarded key (ByProof end text) basis =
    not-mixed laws marking w proper fresh kept a.place place a.context x a.there there (inr guarded) a.request a.basis end text basis (sym (key ∙ ap (λ (o : Outcome). o.key) a.agree))

pub krb-holds : (laws : Below) (marking : Marking) (w : World) → Proper w → Fresh marking w → Kept marking w → (i : ℕ) (own : PlainSetup) (outcome : Outcome) → Completed w i own outcome → outcome.mech ≡ kinds.Kerberos
    → (place : ℕ) (x : Context) → slice_get w.fixed place ≡ Some x → GuardedBasis marking x.fixed.basis → x.fixed.outcome.key ≡ outcome.key → Partner w own x.fixed.basis
krb-holds laws marking w proper fresh kept i own outcome completed mech place x there guarded key = by (krb-done marking w own outcome (kept.found.completed i own outcome completed) mech)
  where
    made : BuiltKey marking w.fixed outcome.key
    made = record { context = x; listed = record { place = place; there = there }; guarded = guarded; is_key = key }

    with : (d : KrbDone marking w own outcome) (on : OnTicket marking own) → Partner w own x.fixed.basis
    with d on =
        answered-by laws marking w proper fresh kept own outcome on (krb-answers laws.exchange laws.scram marking w proper fresh kept.owning kept.found i own outcome completed.there d on) place x there guarded key x.fixed.basis refl

    by : KrbDone marking w own outcome → Partner w own x.fixed.basis
    by d = with d (record {
      credential = d.waits.credential;
      is_own = d.waits.is_own;
      guarded = fresh.untold i own d.waits.credential outcome (record { there = completed.there; is_own = d.waits.is_own }) completed mech made;
    })

-- ---- who completed by SCRAM, and handed its proof out

proof-holds : (laws : Below) (marking : Marking) (w : World) → Proper w → Fresh marking w → Kept marking w → (own : PlainSetup) (auth : List ℕ) → Proved w own auth → (place : ℕ) (x : Context) → slice_get w.fixed place ≡ Some x → GuardedBasis marking x.fixed.basis
    → AtInitiator w x.fixed.outcome.key auth → (b : Basis) → x.fixed.basis ≡ b → Partner w own b
proof-holds laws marking w proper fresh kept own auth proved place x there guarded at (ByRequest request) basis = absurd (fresh.own_proofs x request auth (record { place = place; there = there }) guarded (record { basis = basis }) at)
proof-holds laws marking w proper fresh kept own auth proved place x there guarded at (ByProof end text) basis =
    let t : Taken w x end text = taken laws.scram marking w proper x end text (kept.found.proofs place x end text there basis) in
    let said : HasAuth end text (auth_with end t.third.bare) = record { third = t.third; read = t.read; auth_is = refl } in
    let same : auth_with end t.third.bare ≡ auth = fresh.proof_keys x end (auth_with end t.third.bare) auth (record { place = place; there = there }) guarded (record { text = text; basis = basis; has_auth = said }) at in
    record { auth = auth; taken = subst (λ (os : List ℕ). HasAuth end text os) same said; proved = proved }

pub scram-holds : (laws : Below) (marking : Marking) (w : World) → Proper w → Fresh marking w → Kept marking w → (i : ℕ) (own : PlainSetup) (outcome : Outcome) (auth : List ℕ) → Completed w i own outcome → outcome.mech ≡ kinds.Scram → Proved w own auth
    → (place : ℕ) (x : Context) → slice_get w.fixed place ≡ Some x → GuardedBasis marking x.fixed.basis → x.fixed.outcome.key ≡ outcome.key → Partner w own x.fixed.basis
scram-holds laws marking w proper fresh kept i own outcome auth completed mech proved place x there guarded key =
    proof-holds laws marking w proper fresh kept own auth proved place x there guarded
    (record { i = i; own = own; outcome = outcome; completed = completed; by_proof = mech; proved = proved; key_is = sym key }) x.fixed.basis refl
