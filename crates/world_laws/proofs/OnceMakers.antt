-- Proofs and requests are handed out by initiators alone.
use Rattle.std.proofs.Common.{◌≡◌, ◌≢◌, ◌⊎◌, inl, inr, ℕ, ◌<◌, refl, ap, subst, arith, List, [], ◌∷◌, slice_get, Some}
use Rattle.krb_derive.specs.Making.{Proof}
use Rattle.scram_mech.specs.Initiator.{InitAnswered}
use Rattle.scram_mech.specs.Laws.{Laws as ScramLaws}
use Rattle.scram_mech.specs.MechMaking.{MechMaking, AmongMakings}
use Rattle.spnego_core.specs.Ends.{PlainSetup}
use Rattle.world_laws.specs.State.{Context, World}
use Rattle.world_laws.proofs.Invariants.{MadeRequest, MadeProof, MadeCall, InitMade, ContextMade, ByContext}
use Rattle.world_laws.proofs.Makers.{tag, tag-request, tag-proof, tag-list_mic, tag-call, tag-answer, tag-signature, tag-accept_mic, tag-result}

-- a proof, and a request, is of one initiator
pub record OneOwner (w : World) : Type 0 where
  pub proofs : (i j : ℕ) (own other : PlainSetup) (making : MechMaking) → slice_get w.facts i ≡ Some own → slice_get w.facts j ≡ Some other → MadeProof own making → MadeProof other making → i ≡ j
  pub requests : (i j : ℕ) (own other : PlainSetup) (making : MechMaking) → slice_get w.facts i ≡ Some own → slice_get w.facts j ≡ Some other → MadeRequest own making → MadeRequest other making → i ≡ j

-- none of these is a proof or a request of this initiator
pub record NoneOf (own : PlainSetup) (makes : List MechMaking) : Type 0 where
  pub proofs : (making : MechMaking) → AmongMakings makes making → MadeProof own making → ⊥
  pub requests : (making : MechMaking) → AmongMakings makes making → MadeRequest own making → ⊥

pub none-of : (own : PlainSetup) → NoneOf own []
none-of own = record { proofs = λ making a p. a; requests = λ making a r. a }

only : (making first : MechMaking) → AmongMakings (first ∷ []) making → making ≡ first
only making first (inl e) = e
only making first (inr a) = absurd a

pub proof-kind : (scram : ScramLaws) (own : PlainSetup) (making : MechMaking) → MadeProof own making → making.kind ≡ Proof
proof-kind scram own making made =
    let p = scram.proves made.end made.text made.answered made.answers in
    ap (λ (m : MechMaking). m.kind) (only making _ (subst (λ (a : InitAnswered). AmongMakings a.makes making) p.same made.made))

-- ---- of another initiator

calls-apart : (making : MechMaking) (n : ℕ) → tag making ≡ n → n < 89 → (tag making ≡ 100) ⊎ (tag making ≡ 97) → ⊥
calls-apart making n e low (inl a) = omega (arith, e, a, low)
calls-apart making n e low (inr b) = omega (arith, e, b, low)

pub init-proof : (scram : ScramLaws) (w : World) (i : ℕ) (own other : PlainSetup) (making : MechMaking) → InitMade w i own making → MadeProof other making → MadeProof own making
init-proof scram w i own other making (inl made) p = absurd (omega (arith, tag-proof scram other making p, tag-request own making made))
init-proof scram w i own other making (inr (inl made)) p = made
init-proof scram w i own other making (inr (inr (inl made))) p = absurd (omega (arith, tag-proof scram other making p, tag-list_mic own making made))
init-proof scram w i own other making (inr (inr (inr made))) p = absurd (calls-apart making 3 (tag-proof scram other making p) (omega arith) (tag-call w i own making made))

pub init-request : (scram : ScramLaws) (w : World) (i : ℕ) (own other : PlainSetup) (making : MechMaking) → InitMade w i own making → MadeRequest other making → MadeRequest own making
init-request scram w i own other making (inl made) r = made
init-request scram w i own other making (inr (inl made)) r = absurd (omega (arith, tag-request other making r, tag-proof scram own making made))
init-request scram w i own other making (inr (inr (inl made))) r = absurd (omega (arith, tag-request other making r, tag-list_mic own making made))
init-request scram w i own other making (inr (inr (inr made))) r = absurd (calls-apart making 45 (tag-request other making r) (omega arith) (tag-call w i own making made))

-- what one initiator hands out is no other's
pub others-none : (scram : ScramLaws) (w : World) (i j : ℕ) (own other : PlainSetup) (makes : List MechMaking) → OneOwner w → slice_get w.facts i ≡ Some own → slice_get w.facts j ≡ Some other → i ≢ j
    → ((making : MechMaking) → AmongMakings makes making → InitMade w i own making) → NoneOf other makes
others-none scram w i j own other makes one there elsewhere ne made = record {
  proofs = λ making a p. ne (one.proofs i j own other making there elsewhere (init-proof scram w i own other making (made making a) p) p);
  requests = λ making a r. ne (one.requests i j own other making there elsewhere (init-request scram w i own other making (made making a) r) r);
}

-- calls are neither
pub calls-none : (scram : ScramLaws) (w : World) (i : ℕ) (own other : PlainSetup) (makes : List MechMaking) → ((making : MechMaking) → AmongMakings makes making → MadeCall w i own making) → NoneOf other makes
calls-none scram w i own other makes made = record {
  proofs = λ making a p. calls-apart making 3 (tag-proof scram other making p) (omega arith) (tag-call w i own making (made making a));
  requests = λ making a r. calls-apart making 45 (tag-request other making r) (omega arith) (tag-call w i own making (made making a));
}

-- ---- of contexts

context-apart : (scram : ScramLaws) (x : Context) (making : MechMaking) (n : ℕ) → tag making ≡ n → (n ≡ 3) ⊎ (n ≡ 45) → ContextMade x making → ⊥
context-apart scram x making n e which (inl made) = omega (arith, e, which, tag-answer x making made)
context-apart scram x making n e which (inr (inl made)) = omega (arith, e, which, tag-signature scram x making made)
context-apart scram x making n e which (inr (inr (inl made))) = omega (arith, e, which, tag-accept_mic x making made)
context-apart scram x making n e which (inr (inr (inr made))) = omega (arith, e, which, tag-result x making made)

pub contexts-none : (scram : ScramLaws) (w : World) (own : PlainSetup) (makes : List MechMaking) → ((making : MechMaking) → AmongMakings makes making → ByContext w making) → NoneOf own makes
contexts-none scram w own makes made = record {
  proofs = λ making a p. context-apart scram (made making a).context making 3 (tag-proof scram own making p) (inl refl) (made making a).made;
  requests = λ making a r. context-apart scram (made making a).context making 45 (tag-request own making r) (inr refl) (made making a).made;
}
