-- What the next creation call is made of, and what a reply to one leads to (RFC 2203 section
-- 5.2.3), whatever the end is: one over plain credentials, or one over objects.
use Rattle.std.specs.Prelude.{ℕ, Bool, true, List, Result, Ok, Err}
use Rattle.spnego_core.specs.declared.outcome.Outcome.{Outcome}
use Rattle.spnego_core.specs.declared.refusal.NegRefusal.{NegRefusal}
use Rattle.spnego_core.specs.Ends.{EndSays}
use Rattle.spnego_core.specs.EndSteps.{StepOf}
use Rattle.spnego_core.specs.Initiating.{init_step, step_of}
use Rattle.mech_objects.specs.Meaning.{MechSays}
use Rattle.init_ends.specs.Ends.{EndMeans, end_by, holds}
use Rattle.gss_client.specs.declared.creation.Offer.{Offer}
use Rattle.gss_client.specs.declared.creation.Created.{Created}
use Rattle.gss_client.specs.declared.creation.Created.TheVariants as made
use Rattle.gss_client.specs.declared.refusal.ClientRefusal.{ClientRefusal}

-- an initiator as a machine: what its end makes of a token
abbrev pub Machine : Type 0 → Type 0
Machine E = E → List ℕ → Result (StepOf E) NegRefusal

-- the initiator over plain credentials
abbrev pub plain_machine : Machine EndSays
plain_machine end token = step_of (init_step end token)

-- the end that takes the reply's token; the server's handle, none in the first call; the call's
-- token
pub record OfferOf (E : Type 0) : Type 0 where
  pub end : E
  pub handle : List ℕ
  pub token : List ℕ

-- a further call is due, or the context stands, by this handle of the server's
pub data CreatedOf (E : Type 0) : Type 0 where
  Going : OfferOf E → CreatedOf E
  Stands : Outcome → List ℕ → CreatedOf E

-- those of an end over plain credentials
abbrev pub OfferSays : Type 0
OfferSays = OfferOf EndSays

abbrev pub CreatedSays : Type 0
CreatedSays = CreatedOf EndSays

-- those of an end over objects
abbrev pub OfferMeans : Type 0
OfferMeans = OfferOf EndMeans

abbrev pub CreatedMeans : Type 0
CreatedMeans = CreatedOf EndMeans

-- ---- the same of the program's own, by what its objects are

-- what the code's offer is
abbrev pub offer_means : {X : Type 0} → {D : X → Type 0} → Offer X D
    → ((x : X) × D x → MechSays) → OfferMeans
offer_means offer says =
    record { end = end_by offer.end says; handle = offer.handle; token = offer.token }

-- what the code's reply leads to
abbrev pub created_means : {X : Type 0} → {D : X → Type 0} → Created X D
    → ((x : X) × D x → MechSays) → CreatedMeans
created_means (made.Going offer) says = Going (offer_means offer says)
created_means (made.Stands outcome handle) says = Stands outcome handle

-- the same of a reply that may be refused
abbrev pub reply_means : {X : Type 0} → {D : X → Type 0} → Result (Created X D) ClientRefusal
    → ((x : X) × D x → MechSays) → Result CreatedMeans ClientRefusal
reply_means (Ok created) says = Ok (created_means created says)
reply_means (Err refusal) says = Err refusal

-- the objects of the end that goes on are as far as its next step needs them
abbrev pub holds_created : CreatedMeans → Bool
holds_created (Going offer) = holds offer.end
holds_created (Stands outcome handle) = true
