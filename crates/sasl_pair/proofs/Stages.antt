-- How far both ends are together, and what was handed out up to there.
use Rattle.std.proofs.Common.{◌≡◌, ◌⊎◌, ℕ, ◌*◌, ◌<◌, Bool, true, false, List, [], ◌∷◌}
use Rattle.std.specs.Prelude.{Some, Ok}
use Rattle.krb_derive.specs.declared.key.Key.{Key}
use Rattle.krb_derive.specs.Making.{Making, Among}
use Rattle.krb_tokens.specs.declared.done.MechDone.{MechDone}
use Rattle.krb_tokens.specs.declared.end.TokenEnd.{TokenEnd}
use Rattle.krb_tokens.specs.declared.end.Side.TheVariants.{Initiator, Acceptor}
use Rattle.krb_tokens.specs.End.{facing}
use Rattle.krb_tokens.specs.Makings.{wrap_making}
use Rattle.ap_exchange.specs.Request.{request_making}
use Rattle.ap_exchange.specs.Answer.{answer_done, answer_making}
use Rattle.sasl_layer.specs.declared.layer.Layer.TheVariants.{Bare}
use Rattle.sasl_layer.specs.State.{LayerState}
use Rattle.sasl_layer.specs.declared.facts.LayerFacts.{LayerFacts}
use Rattle.sasl_layer.specs.Layers.{bit_of, words_of}
use Rattle.sasl_layer.specs.Layered.{end_of}
use Rattle.sasl_layer.specs.Lines.{AreItsOwn, WereMade}
use Rattle.sasl_layer.specs.Runs.{Two, layer_of, Stands as StandsTogether}
use Rattle.sasl_gssapi.specs.declared.steps.Agreed.{Agreed}
use Rattle.sasl_gssapi.specs.declared.steps.Offer.{Offer}
use Rattle.sasl_gssapi.specs.declared.accept.SaslAccept.TheVariants as accepts
use Rattle.sasl_gssapi.specs.Steps.{takes_offer}
use Rattle.sasl_gssapi.specs.Ends.{Asks, Waits}
use Rattle.sasl_gssapi.specs.Agreeing.{AgreeOn}
use Rattle.sasl_pair.specs.declared.stage.ServerStage.{ServerStage}
use Rattle.sasl_pair.specs.declared.stage.ServerStage.TheVariants as servers
use Rattle.sasl_pair.specs.Moves.{ClientAt, Goes, Stands, Over}
use Rattle.sasl_pair.specs.Courses.{Start, object_of, Taken, Course, IsOneOf}

-- ---- words

abbrev pub own_request : Start → Making
own_request s = request_making s.credential s.ask.stamp s.ask.draws s.ask.bindings

abbrev pub client_start : Start → ClientAt
client_start s = Goes (Asks s.wish (object_of s))

abbrev pub server_done : Taken → MechDone
server_done t = answer_done t.request t.draws

abbrev pub server_end : Taken → TokenEnd
server_end t = end_of (server_done t) Acceptor

abbrev pub server_agreed : Start → Taken → Agreed
server_agreed s t = record { wish = s.server_wish; done = server_done t }

abbrev pub client_agreed : Start → MechDone → Agreed
client_agreed s done = record { wish = s.wish; done = done }

abbrev pub offer_words : Start → List ℕ
offer_words s = words_of s.server_wish.layers s.server_wish.size

-- the server's end in place of the true one, until that is done
abbrev pub standin : Taken → LayerFacts → LayerState
standin t facts = record {
  facts = record { layer = facts.layer; outgoing = facts.incoming; incoming = facts.outgoing; done = server_done t };
  side = Acceptor;
  sends = 1;
  takes = 1;
}

abbrev pub two_of : Course → LayerState → LayerState → Two
two_of c left right = record {
  left = left;
  right = right;
  left_said = c.client_said;
  left_read = c.client_read;
  right_said = c.server_said;
  right_read = c.server_read;
  makings = c.makings;
}

abbrev pub is_asked : ServerStage → Bool
is_asked (servers.Goes (accepts.Asked wish)) = true
is_asked (servers.Goes (accepts.Replied agreed)) = false
is_asked (servers.Goes (accepts.Offered agreed)) = false
is_asked (servers.Stands end) = false
is_asked servers.Over = false

-- ---- stages

pub record Silent (c : Course) : Type 0 where
  pub client_said : c.client_said ≡ []
  pub client_read : c.client_read ≡ []
  pub server_said : c.server_said ≡ []
  pub server_read : c.server_read ≡ []

-- what the request shows of the one that was sent
pub record Known (s : Start) (t : Taken) : Type 0 where
  pub session : t.request.session ≡ s.credential.session
  pub first : t.request.first ≡ 0
  pub small : t.request.stamp < 253402300800 * 1000000

-- the client took Kerberos's reply
pub record Keyed (t : Taken) (done : MechDone) : Type 0 where
  pub faces : end_of done Initiator ≡ facing (server_end t)
  pub first : done.first ≡ 0

pub record Waiting (s : Start) (t : Taken) (at : ClientAt) : Type 0 where
  pub done : MechDone
  pub is : at ≡ Goes (Waits (client_agreed s done))
  pub keyed : Keyed t done

-- the server sent its reply, and hasn't offered
pub record Replies (s : Start) (t : Taken) (c : Course) : Type 0 where
  pub is : c.pair.server ≡ servers.Goes (accepts.Replied (server_agreed s t))
  pub none : (m : Making) → Among c.makings m → m.usage ≡ 22 → ⊥

-- it offered
pub record Offered (s : Start) (t : Taken) (c : Course) : Type 0 where
  pub is : c.pair.server ≡ servers.Goes (accepts.Offered (server_agreed s t))
  pub theirs : (m : Making) → Among c.makings m → m.usage ≡ 22 → m ≡ wrap_making (server_end t) 0 false (offer_words s)

-- no end is done
pub record Early (s : Start) (t : Taken) (c : Course) : Type 0 where
  pub client : (c.pair.client ≡ client_start s) ⊎ Waiting s t c.pair.client
  pub server : Replies s t c ⊎ Offered s t c
  pub silent : Silent c
  pub reply : (m : Making) → Among c.makings m → m.usage ≡ 12 → m ≡ answer_making t.request t.draws
  pub ours : (m : Making) → Among c.makings m → m.usage ≡ 24 → ⊥

-- the client is done, the server isn't
pub record Late (s : Start) (t : Taken) (c : Course) : Type 0 where
  pub done : MechDone
  pub keyed : Keyed t done
  pub offer : List ℕ
  pub taken : Offer
  pub took : takes_offer (client_agreed s done) offer ≡ Ok taken
  pub made : WereMade (end_of done Initiator) offer c.makings
  pub one : LayerState
  pub client : c.pair.client ≡ Stands one
  pub facts : one.facts ≡ taken.end.facts
  pub key : one.facts.done.key ≡ (server_done t).key
  pub sender : end_of one.facts.done one.side ≡ end_of done Initiator
  pub server : Offered s t c
  pub server_said : c.server_said ≡ []
  pub server_read : c.server_read ≡ []
  pub only : (octets : List ℕ) → Among c.makings (wrap_making (end_of done Initiator) 0 false octets)
      → octets ≡ words_of (bit_of taken.end.facts.layer) s.wish.size
  pub bare : one.facts.layer ≡ Bare → AreItsOwn (record { sender = end_of done Initiator; sealed = false; said = [] }) c.makings
  pub holds : (sealed : Bool) → one.facts.layer ≡ layer_of sealed → StandsTogether sealed (two_of c one (standin t one.facts))

-- both are done
pub record Both (t : Taken) (c : Course) : Type 0 where
  pub one : LayerState
  pub two : LayerState
  pub client : c.pair.client ≡ Stands one
  pub server : c.pair.server ≡ servers.Stands two
  pub key : one.facts.done.key ≡ (server_done t).key
  pub key_too : two.facts.done.key ≡ (server_done t).key
  pub agree : AgreeOn one two
  pub holds : (sealed : Bool) → one.facts.layer ≡ layer_of sealed → StandsTogether sealed (two_of c one two)

-- from the request on, where that is under a guarded session key
abbrev pub Live : Start → Taken → Course → Type 0
Live s t c = (c.pair.client ≡ Over) ⊎ ((c.pair.server ≡ servers.Over) ⊎ (Early s t c ⊎ (Late s t c ⊎ Both t c)))

pub record Going (sessions : List Key) (s : Start) (c : Course) : Type 0 where
  pub taken : Taken
  pub taken_is : c.taken ≡ Some taken
  pub unasked : is_asked c.pair.server ≡ false
  pub live : IsOneOf sessions taken.request.session → Known s taken × Live s taken c

-- the client sent its request, and nothing else was handed out
pub record Sole (s : Start) (c : Course) : Type 0 where
  pub client : c.pair.client ≡ client_start s
  pub makings : c.makings ≡ own_request s ∷ []
  pub silent : Silent c

-- the server took no request yet
pub record Asking (sessions : List Key) (s : Start) (c : Course) : Type 0 where
  pub server : c.pair.server ≡ servers.Goes (accepts.Asked s.server_wish)
  pub own : (m : Making) → Among c.makings m → m.usage ≡ 11 → m ≡ own_request s
  pub waits : IsOneOf sessions s.credential.session → (c.pair.client ≡ Over) ⊎ Sole s c

abbrev pub Stage : List Key → Start → Course → Type 0
Stage sessions s c = Asking sessions s c ⊎ ((c.pair.server ≡ servers.Over) ⊎ Going sessions s c)
