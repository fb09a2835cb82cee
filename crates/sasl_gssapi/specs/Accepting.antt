-- The server's machine, RFC 4752 section 3.2.
use Rattle.std.specs.Prelude.{ℕ, ◌≤◌, List, length, Result, Ok, Err}
use Rattle.ap_exchange.specs.declared.judged.Judged.{Judged as Request}
use Rattle.ap_exchange.specs.declared.refusal.ApRefusal.{ApRefusal}
use Rattle.ap_exchange.specs.Judging.{judged}
use Rattle.ap_exchange.specs.Answer.{answer_done, answer_token}
use Rattle.spnego_core.specs.declared.setup.AcceptSetup.{AcceptSetup}
use Rattle.spnego_core.specs.declared.refusal.MechRefusal.TheVariants.{Ap}
use Rattle.sasl_layer.specs.State.{LayerState}
use Rattle.sasl_layer.specs.declared.layer.Wish.{Wish}
use Rattle.sasl_layer.specs.declared.refusal.SaslRefusal.{SaslRefusal}
use Rattle.sasl_layer.specs.declared.refusal.SaslRefusal.TheVariants.{Mech}
use Rattle.sasl_gssapi.specs.declared.steps.Agreed.{Agreed}
use Rattle.sasl_gssapi.specs.declared.accept.SaslAccept.{SaslAccept}
use Rattle.sasl_gssapi.specs.declared.accept.SaslAccept.TheVariants.{Asked, Replied, Offered}
use Rattle.sasl_gssapi.specs.declared.accept.SaslAnswer.{SaslAnswer}
use Rattle.sasl_gssapi.specs.declared.accept.SaslAnswer.TheVariants.{More, Done}
use Rattle.sasl_layer.specs.Layered.{IsNew}
use Rattle.sasl_gssapi.specs.Choosing.{most}
use Rattle.sasl_gssapi.specs.Steps.{unless_long, offers, takes_choice}

-- the answer to Kerberos's request, as that is judged
abbrev pub answers_request : Wish → Result Request ApRefusal → List ℕ
    → Result SaslAnswer SaslRefusal
answers_request wish (Err refusal) draws = Err (Mech (Ap refusal))
answers_request wish (Ok request) draws =
    Ok (More (Replied (record { wish = wish; done = answer_done request draws }))
    (answer_token request draws))

-- behind the offer the choice is due
abbrev pub offered : Agreed → Result (List ℕ) SaslRefusal → Result SaslAnswer SaslRefusal
offered agreed (Ok offer) = Ok (More (Offered agreed) offer)
offered agreed (Err refusal) = Err refusal

-- behind the choice both ends are done
abbrev pub chosen_by : Result LayerState SaslRefusal → Result SaslAnswer SaslRefusal
chosen_by (Ok end) = Ok (Done end)
chosen_by (Err refusal) = Err refusal

-- the answer by what is due
abbrev pub answers : AcceptSetup → SaslAccept → List ℕ → ℕ → List ℕ → Result SaslAnswer SaslRefusal
answers setup (Asked wish) message now draws =
    answers_request wish (judged setup.keytab setup.own now setup.bindings message) draws
answers setup (Replied agreed) message now draws = offered agreed (offers agreed message)
answers setup (Offered agreed) message now draws = chosen_by (takes_choice agreed message)

-- what a server's end makes of a message
abbrev pub accept_step : AcceptSetup → SaslAccept → List ℕ → ℕ → List ℕ
    → Result SaslAnswer SaslRefusal
accept_step setup end message now draws = unless_long message (answers setup end message now draws)

-- the message is no longer than one may be, and an end that is done sent and read nothing yet
abbrev pub IsNewAnswer : SaslAnswer → Type 0
IsNewAnswer (More end message) = length message ≤ most
IsNewAnswer (Done end) = IsNew end
