-- What both ends agree on, where neither the offer nor the choice was forged.
use Rattle.std.specs.Prelude.{◌≡◌, ◌≢◌, ℕ, ◌+◌, ◌<◌, ◌^◌, Bool, false, List, [], length, Ok}
use Rattle.krb_derive.specs.Making.{Making, Among}
use Rattle.krb_tokens.specs.declared.end.Side.{Side}
use Rattle.krb_tokens.specs.declared.end.Side.TheVariants.{Initiator, Acceptor}
use Rattle.krb_tokens.specs.End.{facing}
use Rattle.krb_tokens.specs.Makings.{wrap_making}
use Rattle.sasl_layer.specs.declared.layer.Layer.TheVariants.{Bare}
use Rattle.sasl_layer.specs.State.{LayerState}
use Rattle.sasl_layer.specs.Layers.{bit_of, words_of}
use Rattle.sasl_layer.specs.Layered.{end_of}
use Rattle.sasl_layer.specs.Lines.{Line, AreItsOwn, WereMade}
use Rattle.sasl_layer.specs.Runs.{layer_of, Stands}
use Rattle.sasl_gssapi.specs.declared.steps.Agreed.{Agreed}
use Rattle.sasl_gssapi.specs.declared.steps.Offer.{Offer}
use Rattle.sasl_gssapi.specs.Steps.{takes_offer, takes_choice}

-- what was handed out: all that is under an end's key and usage is its own, and its first token,
-- the offer or the choice, holds these octets
pub record OwnTokens (line : Line) (makings : List Making) (first : List ℕ) : Type 0 where
  pub own : AreItsOwn line makings
  pub only : (octets : List ℕ) → Among makings (wrap_making line.sender 0 false octets)
      → octets ≡ first

-- both ends are done, the client by an offer and the server by a choice, of which what was found
-- verified was made; each states 0 as the number of its first token
pub record BothDone (client server : Agreed) (makings : List Making) (one : Offer)
    (two : LayerState) : Type 0 where
  pub faces : end_of server.done Acceptor ≡ facing (end_of client.done Initiator)
  pub ours : Line
  pub ours_are : ours.sender ≡ end_of client.done Initiator
  pub theirs : Line
  pub theirs_are : theirs.sender ≡ end_of server.done Acceptor
  pub offers : OwnTokens theirs makings (words_of server.wish.layers server.wish.size)
  pub chose : OwnTokens ours makings (words_of (bit_of one.end.facts.layer) client.wish.size)
  pub offer : List ℕ
  pub took : takes_offer client offer ≡ Ok one
  pub offer_made : WereMade (end_of client.done Initiator) offer makings
  pub choice : List ℕ
  pub answered : takes_choice server choice ≡ Ok two
  pub choice_made : WereMade (end_of server.done Acceptor) choice makings
  pub client_first : client.done.first ≡ 0
  pub server_first : server.done.first ≡ 0
  pub small : client.wish.size < 2 ^ 24
  pub small_too : server.wish.size < 2 ^ 24

-- one layer, and with a layer other than none the size that each end may send is the one that the
-- other takes
pub record AgreeOn (one two : LayerState) : Type 0 where
  pub layer : one.facts.layer ≡ two.facts.layer
  pub to_server : one.facts.layer ≢ Bare → one.facts.outgoing ≡ two.facts.incoming
  pub to_client : one.facts.layer ≢ Bare → two.facts.outgoing ≡ one.facts.incoming

abbrev pub AgreeLaw : Type 0
AgreeLaw = (client server : Agreed) (makings : List Making) (one : Offer) (two : LayerState)
    → BothDone client server makings one two → AgreeOn one.end two

-- ---- from there on

-- the client behind these messages, sent before the server took the choice
abbrev pub behind : LayerState → List (List ℕ) → LayerState
behind l said = record l { sends = length said + 1 }

-- the direction from an end that is done with Kerberos
abbrev pub line_of : Agreed → Side → Bool → List (List ℕ) → Line
line_of agreed side sealed said =
    record { sender = end_of agreed.done side; sealed = sealed; said = said }

-- two ends that are done stand so that what is read is a front of what is sent: the server took the
-- choice, and the client may have sent messages before
abbrev pub JoinLaw : Type 0
JoinLaw = (client server : Agreed) (makings : List Making) (one : Offer) (two : LayerState)
    (sealed : Bool) (said : List (List ℕ))
    → BothDone client server makings one two → one.end.facts.layer ≡ layer_of sealed
    → AreItsOwn (line_of client Initiator sealed said) makings
    → AreItsOwn (line_of server Acceptor sealed []) makings
    → Stands sealed (record {
      left = behind one.end said;
      right = two;
      left_said = said;
      left_read = [];
      right_said = [];
      right_read = [];
      makings = makings;
    })
