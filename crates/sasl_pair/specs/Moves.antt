-- Both ends, and what an event makes of them.
use Rattle.std.specs.Prelude.{◌≡◌, ◌⊎◌, ℕ, Bool, true, if◌then◌else◌, List, []}
use Rattle.std.specs.Prelude.{Result, Ok, Err}
use Rattle.mech_objects.specs.Meaning.{MechSays}
use Rattle.spnego_core.specs.declared.setup.AcceptSetup.{AcceptSetup}
use Rattle.sasl_layer.specs.State.{LayerState}
use Rattle.sasl_layer.specs.Layered.{is_spent, sends, sent, receives, received}
use Rattle.sasl_layer.specs.declared.refusal.SaslRefusal.{SaslRefusal}
use Rattle.sasl_gssapi.specs.declared.accept.SaslAnswer.{SaslAnswer}
use Rattle.sasl_gssapi.specs.declared.accept.SaslAnswer.TheVariants as answers
use Rattle.sasl_gssapi.specs.Ends.{InitMeans, StepMeans, init_by, holds}
use Rattle.sasl_gssapi.specs.Ends as ends
use Rattle.sasl_gssapi.specs.Initiating.{init_step}
use Rattle.sasl_gssapi.specs.Accepting.{accept_step}
use Rattle.sasl_pair.specs.declared.event.PairEvent.{PairEvent}
use Rattle.sasl_pair.specs.declared.event.PairEvent.TheVariants.{ToInit, ToAccept, SendInit}
use Rattle.sasl_pair.specs.declared.event.PairEvent.TheVariants.{SendAccept}
use Rattle.sasl_pair.specs.declared.event.PairHappened.{PairHappened}
use Rattle.sasl_pair.specs.declared.event.PairHappened.TheVariants.{Sent, Completed, Read, Refused}
use Rattle.sasl_pair.specs.declared.event.PairHappened.TheVariants.{Nothing}
use Rattle.sasl_pair.specs.declared.stage.ClientStage.{ClientStage}
use Rattle.sasl_pair.specs.declared.stage.ClientStage.TheVariants as clients
use Rattle.sasl_pair.specs.declared.stage.ServerStage.{ServerStage}
use Rattle.sasl_pair.specs.declared.stage.ServerStage.TheVariants as servers
use Rattle.sasl_pair.specs.declared.pair.Pair.{Pair}

-- ---- where both ends are

-- where the client is, however its object lies in memory
pub data ClientAt : Type 0 where
  Goes : (end : InitMeans) → ClientAt
  Stands : (end : LayerState) → ClientAt
  Over : ClientAt

abbrev pub client_means : {X : Type 0} → {D : X → Type 0} → ClientStage X D
    → ((x : X) × D x → MechSays) → ClientAt
client_means (clients.Goes end) says = Goes (init_by end says)
client_means (clients.Stands end) says = Stands end
client_means clients.Over says = Over

-- both ends, and what the server is set up with
pub record PairAt : Type 0 where
  pub client : ClientAt
  pub server : ServerStage
  pub setup : AcceptSetup

abbrev pub pair_means : {X : Type 0} → {D : X → Type 0} → Pair X D → ((x : X) × D x → MechSays)
    → PairAt
pair_means p says =
    record { client = client_means p.client says; server = p.server; setup = p.setup }

-- the client's object is as far as its next step needs it
abbrev pub may_go : ClientAt → Bool
may_go (Goes end) = holds end
may_go (Stands end) = true
may_go Over = true

-- ---- an end under the layer

-- where an end is then, and what came of it
pub record Moved (A : Type 0) : Type 0 where
  pub to : A
  pub says : PairHappened

abbrev pub read_as : Result (List ℕ) SaslRefusal → PairHappened
read_as (Ok octets) = Read octets
read_as (Err refusal) = Refused

abbrev pub sent_as : Result (List ℕ) SaslRefusal → PairHappened
sent_as (Ok message) = Sent message
sent_as (Err refusal) = Refused

-- it reads a message, unless the other end's numbers are used up
abbrev pub reads : LayerState → List ℕ → Moved LayerState
reads end message =
    if is_spent end.takes then record { to = end; says = Nothing }
    else record {
      to = received end (receives end message);
      says = read_as (receives end message);
    }

-- it sends octets, unless its numbers are used up
abbrev pub gives : LayerState → List ℕ → List ℕ → Moved LayerState
gives end octets confounder =
    if is_spent end.sends then record { to = end; says = Nothing }
    else record {
      to = sent end (sends end octets confounder);
      says = sent_as (sends end octets confounder);
    }

-- ---- the client

abbrev pub client_after : Result StepMeans SaslRefusal → Moved ClientAt
client_after (Ok (ends.More end message)) = record { to = Goes end; says = Sent message }
client_after (Ok (ends.Done end message)) =
    record { to = Stands end; says = Completed end.facts message }
client_after (Err refusal) = record { to = Over; says = Refused }

abbrev pub client_stands : Moved LayerState → Moved ClientAt
client_stands moved = record { to = Stands moved.to; says = moved.says }

-- it gets a message
abbrev pub client_hears : ClientAt → List ℕ → Moved ClientAt
client_hears (Goes end) message = client_after (init_step end message)
client_hears (Stands end) message = client_stands (reads end message)
client_hears Over message = record { to = Over; says = Nothing }

-- it is to send
abbrev pub client_gives : ClientAt → List ℕ → List ℕ → Moved ClientAt
client_gives (Goes end) octets confounder = record { to = Goes end; says = Nothing }
client_gives (Stands end) octets confounder = client_stands (gives end octets confounder)
client_gives Over octets confounder = record { to = Over; says = Nothing }

-- ---- the server

abbrev pub server_after : Result SaslAnswer SaslRefusal → Moved ServerStage
server_after (Ok (answers.More end message)) =
    record { to = servers.Goes end; says = Sent message }
server_after (Ok (answers.Done end)) =
    record { to = servers.Stands end; says = Completed end.facts [] }
server_after (Err refusal) = record { to = servers.Over; says = Refused }

abbrev pub server_stands : Moved LayerState → Moved ServerStage
server_stands moved = record { to = servers.Stands moved.to; says = moved.says }

-- it gets a message
abbrev pub server_hears : AcceptSetup → ServerStage → List ℕ → ℕ → List ℕ → Moved ServerStage
server_hears setup (servers.Goes end) message now draws =
    server_after (accept_step setup end message now draws)
server_hears setup (servers.Stands end) message now draws = server_stands (reads end message)
server_hears setup servers.Over message now draws =
    record { to = servers.Over; says = Nothing }

-- it is to send
abbrev pub server_gives : ServerStage → List ℕ → List ℕ → Moved ServerStage
server_gives (servers.Goes end) octets confounder =
    record { to = servers.Goes end; says = Nothing }
server_gives (servers.Stands end) octets confounder =
    server_stands (gives end octets confounder)
server_gives servers.Over octets confounder = record { to = servers.Over; says = Nothing }

-- ---- both

abbrev pub client_moves : PairAt → Moved ClientAt → Moved PairAt
client_moves p moved = record { to = record p { client = moved.to }; says = moved.says }

abbrev pub server_moves : PairAt → Moved ServerStage → Moved PairAt
server_moves p moved = record { to = record p { server = moved.to }; says = moved.says }

-- both ends behind an event, and what came of it
abbrev pub moves : PairAt → PairEvent → Moved PairAt
moves p (ToInit message) = client_moves p (client_hears p.client message)
moves p (ToAccept message now draws) =
    server_moves p (server_hears p.setup p.server message now draws)
moves p (SendInit octets confounder) = client_moves p (client_gives p.client octets confounder)
moves p (SendAccept octets confounder) = server_moves p (server_gives p.server octets confounder)

-- both ends where the event's one was lost for want of memory
abbrev pub loses : PairAt → PairEvent → PairAt
loses p (ToInit message) = record p { client = Over }
loses p (ToAccept message now draws) = record p { server = servers.Over }
loses p (SendInit octets confounder) = record p { client = Over }
loses p (SendAccept octets confounder) = record p { server = servers.Over }

-- an event came to that, or its end was lost for want of memory
abbrev pub Comes : PairAt → PairEvent → PairHappened → PairAt → Type 0
Comes old event happened new =
    ((new ≡ (moves old event).to) × (happened ≡ (moves old event).says))
    ⊎ ((new ≡ loses old event) × (happened ≡ Nothing))
