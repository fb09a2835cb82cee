-- The steps behind Kerberos, RFC 4752 sections 3.1 and 3.2.
use Rattle.std.specs.Prelude.{ℕ, ◌==◌, nat_lt, not, if◌then◌else◌, List, [], length, Result}
use Rattle.std.specs.Prelude.{Ok, Err}
use Rattle.krb_tokens.specs.declared.end.Side.TheVariants.{Initiator, Acceptor}
use Rattle.krb_tokens.specs.Wrap.{unwrapped}
use Rattle.sasl_layer.specs.State.{LayerState}
use Rattle.sasl_layer.specs.Layers.{bit_of}
use Rattle.sasl_layer.specs.Layered.{end_of}
use Rattle.sasl_layer.specs.declared.refusal.SaslRefusal.{SaslRefusal}
use Rattle.sasl_layer.specs.declared.refusal.SaslRefusal.TheVariants.{Length, TooLong}
use Rattle.sasl_gssapi.specs.declared.choosing.Judged.{Judged}
use Rattle.sasl_gssapi.specs.declared.steps.Agreed.{Agreed}
use Rattle.sasl_gssapi.specs.declared.steps.Offer.{Offer}
use Rattle.sasl_gssapi.specs.Choosing.{most, offer_judged, choice_judged, told, layered}

-- nothing longer than a message may be is looked at
abbrev pub unless_long : {A : Type 0} → List ℕ → Result A SaslRefusal → Result A SaslRefusal
unless_long message answer = if nat_lt most (length message) then Err TooLong else answer

-- the empty message is answered by the offer; a signed token has no confounder
abbrev pub offers : Agreed → List ℕ → Result (List ℕ) SaslRefusal
offers agreed message =
    if not (length message == 0) then Err Length
    else Ok (told agreed.done Acceptor agreed.wish.layers agreed.wish.size [])

-- behind the choice the server is done
abbrev pub done_by : Agreed → Result Judged SaslRefusal → Result LayerState SaslRefusal
done_by agreed (Err refusal) = Err refusal
done_by agreed (Ok judged) = Ok (layered agreed.done Acceptor agreed.wish judged)

abbrev pub takes_choice : Agreed → List ℕ → Result LayerState SaslRefusal
takes_choice agreed message = done_by agreed
    (choice_judged agreed.wish.layers agreed.done.first message
    (unwrapped (end_of agreed.done Acceptor) message))

-- the choice is its layer's bit and the own size
abbrev pub chooses : Agreed → Result Judged SaslRefusal → Result Offer SaslRefusal
chooses agreed (Err refusal) = Err refusal
chooses agreed (Ok judged) = Ok (record {
  end = layered agreed.done Initiator agreed.wish judged;
  message = told agreed.done Initiator (bit_of judged.layer) agreed.wish.size [];
})

-- the client takes the offer, and is done
abbrev pub takes_offer : Agreed → List ℕ → Result Offer SaslRefusal
takes_offer agreed message = chooses agreed
    (offer_judged agreed.wish.layers agreed.done.first message
    (unwrapped (end_of agreed.done Initiator) message))
