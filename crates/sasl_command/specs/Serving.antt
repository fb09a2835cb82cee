-- The run of a server: its end before the layer (RFC 4752 section 3.2), and under it an echo of
-- each message.
use Rattle.std.specs.Prelude.{◌≡◌, ◌⊎◌, ℕ, ◌+◌, ◌^◌, ◌≤◌, List, [], ◌∷◌, length, Option, Some}
use Rattle.std.specs.Prelude.{None, Result, Ok, Err}
use Rattle.gss_base.specs.Name.{Name}
use Rattle.krb_files.specs.declared.keytab.Entry.{Entry}
use Rattle.spnego_core.specs.declared.setup.AcceptSetup.{AcceptSetup}
use Rattle.sasl_frames.specs.Messages.{IsNext}
use Rattle.sasl_layer.specs.State.{LayerState}
use Rattle.sasl_layer.specs.Layered.{sends, sent, receives, received}
use Rattle.sasl_layer.specs.declared.facts.LayerFacts.{LayerFacts}
use Rattle.sasl_layer.specs.declared.layer.Wish.{Wish}
use Rattle.sasl_layer.specs.declared.refusal.SaslRefusal.{SaslRefusal}
use Rattle.sasl_gssapi.specs.Accepting.{accept_step}
use Rattle.sasl_gssapi.specs.Choosing.{most}
use Rattle.sasl_gssapi.specs.declared.accept.SaslAccept.TheVariants.{Asked, Replied, Offered}
use Rattle.sasl_gssapi.specs.declared.accept.SaslAnswer.{SaslAnswer}
use Rattle.sasl_gssapi.specs.declared.accept.SaslAnswer.TheVariants.{More, Done}
use Rattle.sasl_options.specs.declared.ending.RunEnd.{RunEnd}
use Rattle.sasl_options.specs.declared.ending.RunEnd.TheVariants.{PeerEnded, Finished}
use Rattle.sasl_options.specs.declared.words.Wished.{Wished}
use Rattle.sasl_command.specs.Turns.{Turn, Seen, Did, Ended, Spoken}
use Rattle.sasl_command.specs.declared.ending.Parted.{Parted}
use Rattle.sasl_command.specs.declared.serving.Stage.{Stage}
use Rattle.sasl_command.specs.declared.serving.Stage.TheVariants.{Before, Under}

-- how many octets the next message may have
abbrev pub limit : Stage → ℕ
limit (Before end) = most
limit (Under layer) = layer.facts.incoming

-- what both ends agreed on, once the layer stands
abbrev pub facts_of : Stage → Option LayerFacts
facts_of (Before end) = None
facts_of (Under layer) = Some layer.facts

-- ---- a message before the layer

-- the answer is sent, and the layer stands without one
abbrev pub Answered : Result SaslAnswer SaslRefusal → List (List ℕ) → Result Stage SaslRefusal
    → Type 0
Answered (Ok (More end message)) said answer = (said ≡ message ∷ []) × (answer ≡ Ok (Before end))
Answered (Ok (Done layer)) said answer = (said ≡ []) × (answer ≡ Ok (Under layer))
Answered (Err refusal) said answer = (said ≡ []) × (answer ≡ Err refusal)

-- ---- a message under the layer

-- what it carries is sent back
abbrev pub SentBack : LayerState → Result (List ℕ) SaslRefusal → List (List ℕ)
    → Result Stage SaslRefusal → Type 0
SentBack layer (Ok message) said answer =
    (said ≡ message ∷ []) × (answer ≡ Ok (Under (sent layer (Ok message))))
SentBack layer (Err refusal) said answer = (said ≡ []) × (answer ≡ Err refusal)

-- the same with 16 random octets; none are drawn for a message that is refused
abbrev pub Echoed : LayerState → Result (List ℕ) SaslRefusal → List ℕ → List (List ℕ)
    → Result Stage SaslRefusal → Type 0
Echoed layer (Ok carried) octets said answer = (length octets ≡ 16)
    × SentBack (received layer (Ok carried)) (sends (received layer (Ok carried)) carried octets)
    said answer
Echoed layer (Err refusal) octets said answer =
    (octets ≡ []) × (said ≡ []) × (answer ≡ Err refusal)

-- the same of a message, without a moment
abbrev pub Echoes : LayerState → List ℕ → List ℕ → List ℕ → List (List ℕ)
    → Result Stage SaslRefusal → Type 0
Echoes layer message moments octets said answer =
    (moments ≡ []) × Echoed layer (receives layer message) octets said answer

-- ---- the run

-- what a server makes of a message. Before the layer each has a moment and 66 random octets,
-- whether it is refused or not
abbrev pub Makes : AcceptSetup → Stage → List ℕ → List ℕ → List ℕ → List (List ℕ)
    → Result Stage SaslRefusal → Type 0
Makes setup (Before end) message moments octets said answer = (now : ℕ) × (moments ≡ now ∷ [])
    × (length octets ≡ 66) × Answered (accept_step setup end message now octets) said answer
Makes setup (Under layer) message moments octets said answer =
    Echoes layer message moments octets said answer

-- a turn: a message is read, and this is made of it
abbrev pub Serves : AcceptSetup → Stage → Turn → Result Stage SaslRefusal → Type 0
Serves setup stage turn answer = (message : List ℕ) × IsNext (limit stage) turn.took message
    × Makes setup stage message turn.moments turn.octets turn.said answer

-- a run is finished where the stream ended between two messages of a layer, or where 65,536
-- messages were echoed over it
abbrev pub IsServed : Stage → List ℕ → Type 0
IsServed (Before end) coming = ⊥
IsServed (Under layer) coming = (coming ≡ []) ⊎ (layer.sends ≡ 65537)

-- before the layer a message is due
abbrev pub IsBefore : Stage → Type 0
IsBefore (Before end) = Unit {0}
IsBefore (Under layer) = ⊥

-- how a run ends where the stream does, between two messages
abbrev pub ended_at : Stage → RunEnd
ended_at (Before end) = PeerEnded
ended_at (Under layer) = Finished

-- the setup has this keytab, this own name and no bindings; the offer and the users of SCRAM aren't
-- looked at
pub record IsSetup (setup : AcceptSetup) (keytab : List Entry) (name : Name) : Type 0 where
  pub keytab_is : setup.keytab ≡ keytab
  pub own_is : setup.own ≡ name
  pub unbound : setup.bindings ≡ None

-- the wish has these layers and this size
pub record IsWish (wish : Wish) (wished : Wished) : Type 0 where
  pub layers_are : wish.layers ≡ wished.layers
  pub size_is : wish.size ≡ wished.size

-- a server spoke over one link, and parted so
pub record Spoke (setup : AcceptSetup) (wish : Wish) (old new : Seen) (parted : Parted) : Type 0
  where
    pub stands : Stage
    pub spoken : Spoken (Serves setup) limit IsServed IsBefore (Before (Asked wish)) stands old new
        parted.end
    pub facts_are : parted.facts ≡ facts_of stands

-- the server with this keytab did so
pub record Served (keytab : List Entry) (name : Name) (wished : Wished) (old new : Seen)
    (facts : Option LayerFacts) (end : RunEnd) : Type 0 where
  pub setup : AcceptSetup
  pub is_setup : IsSetup setup keytab name
  pub wish : Wish
  pub is_wish : IsWish wish wished
  pub spoke : Spoke setup wish old new (record { end = end; facts = facts })

-- ---- a turn of it

-- a turn was done, or the run ended
abbrev pub Turned : AcceptSetup → Stage → Seen → Seen → Result Stage Parted → Type 0
Turned setup stage old new (Ok next) = Did (Serves setup) stage next old new
Turned setup stage old new (Err parted) = Ended (Serves setup) limit IsServed IsBefore stage old
    new parted.end × (parted.facts ≡ facts_of stage)

-- how many turns lead to a stage: three before the layer
abbrev pub age : Stage → ℕ
age (Before (Asked wish)) = 0
age (Before (Replied agreed)) = 1
age (Before (Offered agreed)) = 2
age (Under layer) = 2 + layer.sends

-- the number of the next message of the other end
abbrev pub takes_of : Stage → ℕ
takes_of (Before end) = 0
takes_of (Under layer) = layer.takes

-- there are numbers for the messages to come
abbrev pub IsSpare : Stage → Type 0
IsSpare stage = takes_of stage ≤ 2 ^ 32 + age stage
