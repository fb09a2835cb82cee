-- The client's machine, RFC 4752 section 3.1.
use Rattle.std.specs.Prelude.{ℕ, List, [], Option, Some, None, Result, Ok, Err}
use Rattle.spnego_core.specs.declared.refusal.NegRefusal.{NegRefusal}
use Rattle.mech_objects.specs.declared.ask.MechAsk.{MechAsk}
use Rattle.mech_objects.specs.declared.ask.MechMove.{MechMove}
use Rattle.mech_objects.specs.declared.ask.MechMove.TheVariants as moves
use Rattle.mech_objects.specs.Meaning.{MechSays, starts, started, takes, took}
use Rattle.sasl_layer.specs.declared.layer.Wish.{Wish}
use Rattle.sasl_layer.specs.declared.refusal.SaslRefusal.{SaslRefusal}
use Rattle.sasl_layer.specs.declared.refusal.SaslRefusal.TheVariants.{NoKerberos}
use Rattle.sasl_gssapi.specs.declared.steps.Offer.{Offer}
use Rattle.sasl_gssapi.specs.Refusals.{neg_refused}
use Rattle.sasl_gssapi.specs.Objects.{kerberos_in}
use Rattle.sasl_gssapi.specs.Steps.{unless_long, takes_offer}
use Rattle.sasl_gssapi.specs.Ends.{InitMeans, Asks, Waits, StepMeans, More, Done}

-- ---- the first message

abbrev pub begins_by : MechSays → MechAsk → Wish → Result (List ℕ) NegRefusal
    → Result (InitMeans × List ℕ) SaslRefusal
begins_by m ask wish (Ok token) = Ok (Asks wish (started m ask (Ok token)), token)
begins_by m ask wish (Err refusal) = Err (neg_refused refusal)

abbrev pub begins_with : Option MechSays → MechAsk → Wish → Result (InitMeans × List ℕ) SaslRefusal
begins_with None ask wish = Err NoKerberos
begins_with (Some m) ask wish = begins_by m ask wish (starts m ask)

-- a client begins with its first object of Kerberos
abbrev pub begins : List MechSays → MechAsk → Wish → Result (InitMeans × List ℕ) SaslRefusal
begins list ask wish = begins_with (kerberos_in list) ask wish

-- ---- Kerberos

-- by what Kerberos makes of its token: a further one, or the empty message
abbrev pub goes_by : Wish → MechSays → List ℕ → Result MechMove NegRefusal
    → Result StepMeans SaslRefusal
goes_by wish m token (Ok (moves.Token octets)) =
    Ok (More (Asks wish (took m token (Ok (moves.Token octets)))) octets)
goes_by wish m token (Ok (moves.Done done)) =
    Ok (More (Waits (record { wish = wish; done = done })) [])
goes_by wish m token (Err refusal) = Err (neg_refused refusal)

abbrev pub goes_on : Wish → MechSays → List ℕ → Result StepMeans SaslRefusal
goes_on wish m token = goes_by wish m token (takes m token)

-- ---- the machine

-- behind the offer the client is done
abbrev pub offer_taken : Result Offer SaslRefusal → Result StepMeans SaslRefusal
offer_taken (Ok offer) = Ok (Done offer.end offer.message)
offer_taken (Err refusal) = Err refusal

abbrev pub steps : InitMeans → List ℕ → Result StepMeans SaslRefusal
steps (Asks wish m) message = goes_on wish m message
steps (Waits agreed) message = offer_taken (takes_offer agreed message)

-- what a client's end makes of a message
abbrev pub init_step : InitMeans → List ℕ → Result StepMeans SaslRefusal
init_step end message = unless_long message (steps end message)
