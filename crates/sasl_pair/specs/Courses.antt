-- The course of both ends over whatever octets somebody delivers between them, and what holds of it
-- where nothing is forged.
use Rattle.std.specs.Prelude.{◌≡◌, ◌≢◌, ◌⊎◌, ℕ, nat_lt, true, false, if◌then◌else◌, List, []}
use Rattle.std.specs.Prelude.{◌∷◌, ◌++◌}
use Rattle.std.specs.Prelude.{length, slice_get, Option, Some, None, Result, Ok, Err}
use Rattle.gss_base.specs.declared.mech.KerberosName.{KerberosName}
use Rattle.gss_base.specs.declared.mech.MechName.TheVariants as names
use Rattle.krb_derive.specs.declared.key.Key.{Key}
use Rattle.krb_derive.specs.Making.{Making, Among}
use Rattle.krb_files.specs.Granted.{Granted}
use Rattle.krb_msgs.specs.Authenticator.{authenticator}
use Rattle.krb_tokens.specs.declared.end.Side.TheVariants.{Initiator, Acceptor}
use Rattle.krb_tokens.specs.Makings.{wrap_making, unwrapping}
use Rattle.ap_exchange.specs.declared.judged.Judged.{Judged}
use Rattle.ap_exchange.specs.declared.refusal.ApRefusal.{ApRefusal}
use Rattle.ap_exchange.specs.Request.{authenticator_of, request_makes}
use Rattle.ap_exchange.specs.Exchange.{judge_found}
use Rattle.ap_exchange.specs.Judging.{judged}
use Rattle.ap_exchange.specs.Answer.{answer_done, answer_making}
use Rattle.ap_exchange.specs.Reply.{reply_found}
use Rattle.spnego_core.specs.declared.setup.AcceptSetup.{AcceptSetup}
use Rattle.spnego_core.specs.declared.setup.MechCred.TheVariants as creds
use Rattle.spnego_core.specs.MechStates.{InitMech}
use Rattle.spnego_core.specs.MechStates as mechs
use Rattle.mech_objects.specs.declared.ask.MechAsk.{MechAsk}
use Rattle.mech_objects.specs.Meaning.{MechSays, armed, started}
use Rattle.mech_objects.specs.Standard.{blank_of, object_state}
use Rattle.sasl_layer.specs.declared.layer.Wish.{Wish}
use Rattle.sasl_layer.specs.declared.layer.Layer.TheVariants.{Bare}
use Rattle.sasl_layer.specs.declared.refusal.SaslRefusal.{SaslRefusal}
use Rattle.sasl_layer.specs.State.{LayerState}
use Rattle.sasl_layer.specs.Layers.{bit_of, words_of}
use Rattle.sasl_layer.specs.Layered.{end_of, is_spent, sends, receives}
use Rattle.sasl_layer.specs.Lines.{IsFront}
use Rattle.sasl_layer.specs.Runs.{sent_makes, read_finds}
use Rattle.sasl_gssapi.specs.declared.steps.Agreed.{Agreed}
use Rattle.sasl_gssapi.specs.declared.steps.Offer.{Offer}
use Rattle.sasl_gssapi.specs.declared.accept.SaslAccept.{SaslAccept}
use Rattle.sasl_gssapi.specs.declared.accept.SaslAccept.TheVariants as accepts
use Rattle.sasl_gssapi.specs.Choosing.{most}
use Rattle.sasl_gssapi.specs.Steps.{unless_long, offers, takes_offer}
use Rattle.sasl_gssapi.specs.Ends.{InitMeans, Asks, Waits}
use Rattle.sasl_gssapi.specs.Initiating.{init_step}
use Rattle.sasl_gssapi.specs.Accepting.{accept_step}
use Rattle.sasl_gssapi.specs.Agreeing.{AgreeOn}
use Rattle.sasl_pair.specs.declared.event.PairEvent.{PairEvent}
use Rattle.sasl_pair.specs.declared.event.PairEvent.TheVariants.{ToInit, ToAccept, SendInit}
use Rattle.sasl_pair.specs.declared.event.PairEvent.TheVariants.{SendAccept}
use Rattle.sasl_pair.specs.declared.event.PairHappened.{PairHappened}
use Rattle.sasl_pair.specs.declared.event.PairHappened.TheVariants.{Sent, Completed, Read, Refused}
use Rattle.sasl_pair.specs.declared.event.PairHappened.TheVariants.{Nothing}
use Rattle.sasl_pair.specs.declared.stage.ServerStage.{ServerStage}
use Rattle.sasl_pair.specs.declared.stage.ServerStage.TheVariants as servers
use Rattle.sasl_pair.specs.Moves.{ClientAt, Goes, Stands, Over, PairAt, loses, Comes}
use Rattle.sasl_pair.specs.Moves.{client_hears, client_gives, server_hears, server_gives}

-- ---- how both begin

-- the client's wish, its credential under one of Kerberos's names, what its object is asked with
-- and its first token; the server's wish, and what it is set up with
pub record Start : Type 0 where
  pub wish : Wish
  pub name : KerberosName
  pub credential : Granted
  pub ask : MechAsk
  pub token : List ℕ
  pub server_wish : Wish
  pub setup : AcceptSetup

-- Kerberos's object with this credential, behind its first token
abbrev pub object_of : Start → MechSays
object_of s =
    started (armed (blank_of (names.Kerberos s.name)) (creds.Kerberos s.name s.credential)) s.ask
    (Ok s.token)

-- both ends before their first event
abbrev pub begun : Start → PairAt
begun s = record {
  client = Goes (Asks s.wish (object_of s));
  server = servers.Goes (accepts.Asked s.server_wish);
  setup = s.setup;
}

-- the authenticator of the client's request has a spelling
abbrev pub IsSpelled : Start → Type 0
IsSpelled s = authenticator.fits
    (authenticator_of s.credential s.ask.stamp s.ask.draws s.ask.bindings) ≡ true

-- ---- the course

-- a request that the server took, and the octets that were drawn for its answer
pub record Taken : Type 0 where
  pub request : Judged
  pub draws : List ℕ

-- both ends, the request that the server took; what each was given to send under the layer and what
-- it read, oldest first; and what both handed out
pub record Course : Type 0 where
  pub pair : PairAt
  pub taken : Option Taken
  pub client_said : List (List ℕ)
  pub client_read : List (List ℕ)
  pub server_said : List (List ℕ)
  pub server_read : List (List ℕ)
  pub makings : List Making

-- the authenticator of the client's first token stands among what was handed out
abbrev pub course_of : Start → Course
course_of s = record {
  pair = begun s;
  taken = None;
  client_said = [];
  client_read = [];
  server_said = [];
  server_read = [];
  makings = request_makes s.credential s.ask.stamp s.ask.draws s.ask.bindings;
}

-- an event, or one at which its end was lost for want of memory
pub data Step : Type 0 where
  Does : (event : PairEvent) → Step
  Loses : (event : PairEvent) → Step

-- ---- what an event hands out

-- the choice, where there is one
abbrev pub choice_made : Agreed → Result Offer SaslRefusal → List Making
choice_made agreed (Ok offer) = wrap_making (end_of agreed.done Initiator) 0 false
    (words_of (bit_of offer.end.facts.layer) agreed.wish.size) ∷ []
choice_made agreed (Err refusal) = []

abbrev pub init_makes : InitMeans → List ℕ → List Making
init_makes (Asks wish m) message = []
init_makes (Waits agreed) message =
    choice_made agreed (unless_long message (takes_offer agreed message))

abbrev pub client_makes : ClientAt → List ℕ → List Making
client_makes (Goes end) message = init_makes end message
client_makes (Stands end) message = []
client_makes Over message = []

-- the request that the server takes of a message
abbrev pub taken_of : Result Judged ApRefusal → List ℕ → Option Taken
taken_of (Ok request) draws = Some (record { request = request; draws = draws })
taken_of (Err refusal) draws = None

abbrev pub request_taken : AcceptSetup → List ℕ → ℕ → List ℕ → Option Taken
request_taken setup message now draws =
    if nat_lt most (length message) then None
    else taken_of (judged setup.keytab setup.own now setup.bindings message) draws

-- its answer
abbrev pub answer_made : Option Taken → List Making
answer_made None = []
answer_made (Some taken) = answer_making taken.request taken.draws ∷ []

-- the offer, where there is one
abbrev pub offer_made : Agreed → Result (List ℕ) SaslRefusal → List Making
offer_made agreed (Ok offer) = wrap_making (end_of agreed.done Acceptor) 0 false
    (words_of agreed.wish.layers agreed.wish.size) ∷ []
offer_made agreed (Err refusal) = []

abbrev pub accept_makes : AcceptSetup → SaslAccept → List ℕ → ℕ → List ℕ → List Making
accept_makes setup (accepts.Asked wish) message now draws =
    answer_made (request_taken setup message now draws)
accept_makes setup (accepts.Replied agreed) message now draws =
    offer_made agreed (unless_long message (offers agreed message))
accept_makes setup (accepts.Offered agreed) message now draws = []

abbrev pub server_makes : AcceptSetup → ServerStage → List ℕ → ℕ → List ℕ → List Making
server_makes setup (servers.Goes end) message now draws =
    accept_makes setup end message now draws
server_makes setup (servers.Stands end) message now draws = []
server_makes setup servers.Over message now draws = []

-- the message under a layer
abbrev pub layer_makes : LayerState → List ℕ → List ℕ → List Making
layer_makes end octets confounder =
    if is_spent end.sends then [] else sent_makes end octets (sends end octets confounder)

abbrev pub client_gave : ClientAt → List ℕ → List ℕ → List Making
client_gave (Goes end) octets confounder = []
client_gave (Stands end) octets confounder = layer_makes end octets confounder
client_gave Over octets confounder = []

abbrev pub server_gave : ServerStage → List ℕ → List ℕ → List Making
server_gave (servers.Goes end) octets confounder = []
server_gave (servers.Stands end) octets confounder = layer_makes end octets confounder
server_gave servers.Over octets confounder = []

-- ---- the course behind an event

-- a list that grows where something was read
abbrev pub read_on : List (List ℕ) → PairHappened → List (List ℕ)
read_on list (Sent message) = list
read_on list (Completed facts message) = list
read_on list (Read octets) = list ++ octets ∷ []
read_on list Refused = list
read_on list Nothing = list

-- one that grows where these octets were sent
abbrev pub said_on : List (List ℕ) → List ℕ → PairHappened → List (List ℕ)
said_on list octets (Sent message) = list ++ octets ∷ []
said_on list octets (Completed facts message) = list
said_on list octets (Read other) = list
said_on list octets Refused = list
said_on list octets Nothing = list

-- the first request is the one
abbrev pub taken_on : Option Taken → AcceptSetup → ServerStage → List ℕ → ℕ → List ℕ → Option Taken
taken_on before setup (servers.Goes (accepts.Asked wish)) message now draws =
    request_taken setup message now draws
taken_on before setup (servers.Goes (accepts.Replied agreed)) message now draws = before
taken_on before setup (servers.Goes (accepts.Offered agreed)) message now draws = before
taken_on before setup (servers.Stands end) message now draws = before
taken_on before setup servers.Over message now draws = before

-- the client, which is here, gets a message
abbrev pub client_heard : Course → ClientAt → List ℕ → Course
client_heard c at message = record c {
  pair = record c.pair { client = (client_hears at message).to };
  client_read = read_on c.client_read (client_hears at message).says;
  makings = client_makes at message ++ c.makings;
}

-- the server does
abbrev pub server_heard : Course → ServerStage → List ℕ → ℕ → List ℕ → Course
server_heard c at message now draws = record c {
  pair = record c.pair { server = (server_hears c.pair.setup at message now draws).to };
  taken = taken_on c.taken c.pair.setup at message now draws;
  server_read = read_on c.server_read (server_hears c.pair.setup at message now draws).says;
  makings = server_makes c.pair.setup at message now draws ++ c.makings;
}

-- the client is to send
abbrev pub client_spoke : Course → ClientAt → List ℕ → List ℕ → Course
client_spoke c at octets confounder = record c {
  pair = record c.pair { client = (client_gives at octets confounder).to };
  client_said = said_on c.client_said octets (client_gives at octets confounder).says;
  makings = client_gave at octets confounder ++ c.makings;
}

-- the server is
abbrev pub server_spoke : Course → ServerStage → List ℕ → List ℕ → Course
server_spoke c at octets confounder = record c {
  pair = record c.pair { server = (server_gives at octets confounder).to };
  server_said = said_on c.server_said octets (server_gives at octets confounder).says;
  makings = server_gave at octets confounder ++ c.makings;
}

abbrev pub after_event : Course → PairEvent → Course
after_event c (ToInit message) = client_heard c c.pair.client message
after_event c (ToAccept message now draws) = server_heard c c.pair.server message now draws
after_event c (SendInit octets confounder) = client_spoke c c.pair.client octets confounder
after_event c (SendAccept octets confounder) = server_spoke c c.pair.server octets confounder

abbrev pub after : Course → Step → Course
after c (Does event) = after_event c event
after c (Loses event) = record c { pair = loses c.pair event }

abbrev pub after_all : Course → List Step → Course
after_all c [] = c
after_all c (step ∷ later) = after_all (after c step) later

-- ---- what a step finds verified

-- of a message that is refused nothing is shown
abbrev pub shown : {A : Type 0} → Result A SaslRefusal → List Making → List Making
shown (Ok value) found = found
shown (Err refusal) found = []

-- in Kerberos's reply
abbrev pub asked_finds : Option InitMech → List ℕ → List Making
asked_finds None message = []
asked_finds (Some (mechs.Kerberos end)) message = reply_found end message
asked_finds (Some (mechs.Scram end)) message = []
asked_finds (Some (mechs.Proof end)) message = []

abbrev pub init_finds : InitMeans → List ℕ → List Making
init_finds (Asks wish m) message = asked_finds (object_state m) message
init_finds (Waits agreed) message = (unwrapping (end_of agreed.done Initiator) message).found

-- in a message under the layer
abbrev pub layer_finds : LayerState → List ℕ → List Making
layer_finds end message =
    if is_spent end.takes then [] else read_finds end message (receives end message)

abbrev pub client_finds : ClientAt → List ℕ → List Making
client_finds (Goes end) message = shown (init_step end message) (init_finds end message)
client_finds (Stands end) message = layer_finds end message
client_finds Over message = []

abbrev pub accept_finds : AcceptSetup → SaslAccept → List ℕ → List Making
accept_finds setup (accepts.Asked wish) message = judge_found setup.keytab setup.own message
accept_finds setup (accepts.Replied agreed) message = []
accept_finds setup (accepts.Offered agreed) message =
    (unwrapping (end_of agreed.done Acceptor) message).found

abbrev pub server_finds : AcceptSetup → ServerStage → List ℕ → ℕ → List ℕ → List Making
server_finds setup (servers.Goes end) message now draws =
    shown (accept_step setup end message now draws) (accept_finds setup end message)
server_finds setup (servers.Stands end) message now draws = layer_finds end message
server_finds setup servers.Over message now draws = []

abbrev pub event_finds : Course → PairEvent → List Making
event_finds c (ToInit message) = client_finds c.pair.client message
event_finds c (ToAccept message now draws) =
    server_finds c.pair.setup c.pair.server message now draws
event_finds c (SendInit octets confounder) = []
event_finds c (SendAccept octets confounder) = []

abbrev pub finds : Course → Step → List Making
finds c (Does event) = event_finds c event
finds c (Loses event) = []

-- ---- guarded keys

-- a key is one of these
pub record IsOneOf (keys : List Key) (key : Key) : Type 0 where
  pub place : ℕ
  pub there : slice_get keys place ≡ Some key

-- the key of the context on a request whose session key is guarded
pub record IsBuilt (sessions : List Key) (taken : Option Taken) (key : Key) : Type 0 where
  pub on : Taken
  pub is : taken ≡ Some on
  pub guarded : IsOneOf sessions on.request.session
  pub key_is : (answer_done on.request on.draws).key ≡ key

-- a guarded key: one of these session keys, or the key of the context that is built on one
abbrev pub Guarded : List Key → Course → Key → Type 0
Guarded sessions c key = IsOneOf sessions key ⊎ IsBuilt sessions c.taken key

-- what was found verified under a guarded key was handed out before
abbrev pub Unforged : List Key → Course → Step → Type 0
Unforged sessions c step = (making : Making) → Among (finds c step) making
    → Guarded sessions c making.key → Among c.makings making

abbrev pub NoForgery : List Key → Course → List Step → Type 0
NoForgery sessions c [] = Unit {0}
NoForgery sessions c (step ∷ later) =
    Unforged sessions c step × NoForgery sessions (after c step) later

-- ---- the theorem

-- both ends are done, and the server took a request under a guarded session key
pub record BothStand (sessions : List Key) (c : Course) (client server : LayerState) : Type 0 where
  pub client_is : c.pair.client ≡ Stands client
  pub server_is : c.pair.server ≡ servers.Stands server
  pub taken : Taken
  pub taken_is : c.taken ≡ Some taken
  pub guarded : IsOneOf sessions taken.request.session

-- they have one layer and, with a layer other than none, each other's sizes; and under such a layer
-- what an end read is a front, message by message, of what the other sent
pub record Promised (c : Course) (client server : LayerState) : Type 0 where
  pub agree : AgreeOn client server
  pub to_server : client.facts.layer ≢ Bare → IsFront c.server_read c.client_said
  pub to_client : client.facts.layer ≢ Bare → IsFront c.client_read c.server_said

-- after every list of steps from such a start, whatever session keys are called guarded
abbrev pub SaslPair : Type 0
SaslPair = (sessions : List Key) (s : Start) (steps : List Step) (client server : LayerState)
    → IsSpelled s → NoForgery sessions (course_of s) steps
    → BothStand sessions (after_all (course_of s) steps) client server
    → Promised (after_all (course_of s) steps) client server

-- ---- how the program's ends come to a course

-- both ends are those of a course from this start
pub record IsPair (s : Start) (p : PairAt) : Type 0 where
  pub steps : List Step
  pub is : p ≡ (after_all (course_of s) steps).pair

-- the program's ends are those of some course, from `Pair::new` on and after each call of
-- `Pair::step`, whose clause is `Comes`
pub record HistoryLaw : Type 0 where
  pub begins : (s : Start) → IsPair s (begun s)
  pub goes : (s : Start) (old new : PairAt) (event : PairEvent) (happened : PairHappened)
      → IsPair s old → Comes old event happened new → IsPair s new
