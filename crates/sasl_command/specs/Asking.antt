-- The run of a client: its end before the layer (RFC 4752 section 3.1), and under it one message
-- and its echo.
use Rattle.std.specs.Prelude.{◌≡◌, ℕ, List, [], ◌∷◌, length, Option, Some, None, Result, Ok, Err}
use Rattle.std.specs.declared.alloc.Global.{Global}
use Rattle.std.specs.declared.dyn_box.DynBox.{DynBox}
use Rattle.gss_base.specs.declared.mech.KerberosName.{KerberosName}
use Rattle.krb_files.specs.Granted.{Granted}
use Rattle.spnego_core.specs.declared.setup.MechCred.TheVariants as creds
use Rattle.gss_base.specs.declared.mech.MechName.TheVariants.{Kerberos}
use Rattle.mech_objects.specs.Meaning.{MechSays, armed}
use Rattle.mech_objects.specs.Standard.{standard, blank_of}
use Rattle.sasl_frames.specs.Messages.{IsNext}
use Rattle.sasl_layer.specs.State.{LayerState}
use Rattle.sasl_layer.specs.Layered.{sends, sent, receives, received}
use Rattle.sasl_layer.specs.declared.facts.LayerFacts.{LayerFacts}
use Rattle.sasl_layer.specs.declared.layer.Wish.{Wish}
use Rattle.sasl_layer.specs.declared.refusal.SaslRefusal.{SaslRefusal}
use Rattle.sasl_gssapi.specs.Choosing.{most}
use Rattle.sasl_gssapi.specs.Ends.{InitMeans, StepMeans, More, Done, init_means, step_by}
use Rattle.sasl_gssapi.specs.Ends.{Asks as InitAsks, Waits as InitWaits}
use Rattle.sasl_gssapi.specs.declared.init.SaslInit.{SaslInit}
use Rattle.sasl_gssapi.specs.declared.init.SaslStep.{SaslStep}
use Rattle.sasl_gssapi.specs.Initiating.{begins, init_step}
use Rattle.sasl_options.specs.declared.ending.RunEnd.{RunEnd}
use Rattle.sasl_command.specs.Turns.{Turn, Seen, Spoken, Did, Ended, Leads}

-- how far a client is: its end is to be begun with these objects; it waits for a message before the
-- layer; the layer stands, and the octets are to be sent; it waits for their echo; or it read that
pub data Asker : Type 0 where
  Opens : (objects : List MechSays) → Asker
  Begun : (end : InitMeans) → Asker
  Chosen : (layer : LayerState) → Asker
  Awaits : (layer : LayerState) → Asker
  Read : (layer : LayerState) → (echo : List ℕ) → Asker

-- how many octets the next message may have, where one is due
abbrev pub limit : Asker → ℕ
limit (Opens objects) = most
limit (Begun end) = most
limit (Chosen layer) = layer.facts.incoming
limit (Awaits layer) = layer.facts.incoming
limit (Read layer echo) = layer.facts.incoming

-- what both ends agreed on, once the layer stands
abbrev pub facts_of : Asker → Option LayerFacts
facts_of (Opens objects) = None
facts_of (Begun end) = None
facts_of (Chosen layer) = Some layer.facts
facts_of (Awaits layer) = Some layer.facts
facts_of (Read layer echo) = Some layer.facts

-- the echo, once it was read
abbrev pub echo_of : Asker → Option (List ℕ)
echo_of (Opens objects) = None
echo_of (Begun end) = None
echo_of (Chosen layer) = None
echo_of (Awaits layer) = None
echo_of (Read layer echo) = Some echo

-- ---- turns

-- the first message is sent
abbrev pub OpenedBy : Result (InitMeans × List ℕ) SaslRefusal → List (List ℕ)
    → Result Asker SaslRefusal → Type 0
OpenedBy (Ok begun) said answer = (said ≡ begun.1 ∷ []) × (answer ≡ Ok (Begun begun.0))
OpenedBy (Err refusal) said answer = (said ≡ []) × (answer ≡ Err refusal)

-- the end is begun with a moment and 66 random octets, and without bindings
abbrev pub Opened : Wish → List MechSays → List ℕ → List ℕ → List (List ℕ)
    → Result Asker SaslRefusal → Type 0
Opened wish objects moments octets said answer = (stamp : ℕ) × (moments ≡ stamp ∷ [])
    × (length octets ≡ 66) × OpenedBy (begins objects
    (record { stamp = stamp; draws = octets; bindings = None }) wish) said answer

-- an answer is sent, behind which the layer stands or a message is due
abbrev pub SteppedBy : Result StepMeans SaslRefusal → List (List ℕ) → Result Asker SaslRefusal
    → Type 0
SteppedBy (Ok (More end message)) said answer = (said ≡ message ∷ []) × (answer ≡ Ok (Begun end))
SteppedBy (Ok (Done layer message)) said answer =
    (said ≡ message ∷ []) × (answer ≡ Ok (Chosen layer))
SteppedBy (Err refusal) said answer = (said ≡ []) × (answer ≡ Err refusal)

-- a message before the layer; nothing is drawn for it
abbrev pub Stepped : InitMeans → List ℕ → List ℕ → List ℕ → List (List ℕ)
    → Result Asker SaslRefusal → Type 0
Stepped end message moments octets said answer =
    (moments ≡ []) × (octets ≡ []) × SteppedBy (init_step end message) said answer

-- the octets are sent
abbrev pub SentBy : LayerState → Result (List ℕ) SaslRefusal → List (List ℕ)
    → Result Asker SaslRefusal → Type 0
SentBy layer (Ok message) said answer =
    (said ≡ message ∷ []) × (answer ≡ Ok (Awaits (sent layer (Ok message))))
SentBy layer (Err refusal) said answer = (said ≡ []) × (answer ≡ Err refusal)

-- the same with 16 random octets
abbrev pub Sends : List ℕ → LayerState → List ℕ → List ℕ → List (List ℕ)
    → Result Asker SaslRefusal → Type 0
Sends sending layer moments octets said answer = (moments ≡ []) × (length octets ≡ 16)
    × SentBy layer (sends layer sending octets) said answer

-- the echo is read
abbrev pub ReadBy : LayerState → Result (List ℕ) SaslRefusal → Result Asker SaslRefusal → Type 0
ReadBy layer (Ok echo) answer = answer ≡ Ok (Read (received layer (Ok echo)) echo)
ReadBy layer (Err refusal) answer = answer ≡ Err refusal

-- nothing is drawn for it, and nothing is sent behind it
abbrev pub Reads : LayerState → List ℕ → List ℕ → List ℕ → List (List ℕ)
    → Result Asker SaslRefusal → Type 0
Reads layer message moments octets said answer =
    (moments ≡ []) × (octets ≡ []) × (said ≡ []) × ReadBy layer (receives layer message) answer

-- a turn of a client with this wish, by which these octets are to be echoed
abbrev pub Asks : Wish → List ℕ → Asker → Turn → Result Asker SaslRefusal → Type 0
Asks wish sending (Opens objects) turn answer =
    (turn.took ≡ []) × Opened wish objects turn.moments turn.octets turn.said answer
Asks wish sending (Begun end) turn answer = (message : List ℕ) × IsNext most turn.took message
    × Stepped end message turn.moments turn.octets turn.said answer
Asks wish sending (Chosen layer) turn answer =
    (turn.took ≡ []) × Sends sending layer turn.moments turn.octets turn.said answer
Asks wish sending (Awaits layer) turn answer = (message : List ℕ)
    × IsNext layer.facts.incoming turn.took message
    × Reads layer message turn.moments turn.octets turn.said answer
Asks wish sending (Read layer echo) turn answer = ⊥

-- a run is finished once the echo was read
abbrev pub IsAnswered : Asker → List ℕ → Type 0
IsAnswered (Opens objects) coming = ⊥
IsAnswered (Begun end) coming = ⊥
IsAnswered (Chosen layer) coming = ⊥
IsAnswered (Awaits layer) coming = ⊥
IsAnswered (Read layer echo) coming = Unit {0}

-- before that a message is due
abbrev pub IsDue : Asker → Type 0
IsDue (Opens objects) = ⊥
IsDue (Begun end) = Unit {0}
IsDue (Chosen layer) = ⊥
IsDue (Awaits layer) = Unit {0}
IsDue (Read layer echo) = ⊥

-- ---- the run

-- a client spoke over one link, from this state, and ended so
pub record Spoke (wish : Wish) (sending : List ℕ) (start : Asker) (old new : Seen)
    (facts : Option LayerFacts) (echo : Option (List ℕ)) (end : RunEnd) : Type 0 where
  pub stands : Asker
  pub spoken : Spoken (Asks wish sending) limit IsAnswered IsDue start stands old new end
  pub facts_are : facts ≡ facts_of stands
  pub echo_is : echo ≡ echo_of stands

-- ---- parts of it

-- an end that was begun, as the code has it
abbrev pub opened_by : {X : Type 0} → {D : X → Type 0} → (DynBox X Global D → MechSays)
    → Result (SaslInit X D) RunEnd → Result Asker RunEnd
opened_by says (Ok end) = Ok (Begun (init_means says end))
opened_by says (Err end) = Err end

-- a step of it
abbrev pub stepped_by : {X : Type 0} → {D : X → Type 0} → Result (SaslStep X D) RunEnd
    → ((x : X) × D x → MechSays) → Result StepMeans RunEnd
stepped_by (Ok step) says = Ok (step_by step says)
stepped_by (Err end) says = Err end

-- a message before the layer was answered, or the run ended
abbrev pub Replied : Wish → List ℕ → InitMeans → Seen → Seen → Result StepMeans RunEnd → Type 0
Replied wish sending end old new (Ok (More next message)) =
    Did (Asks wish sending) (Begun end) (Begun next) old new
Replied wish sending end old new (Ok (Done layer message)) =
    Did (Asks wish sending) (Begun end) (Chosen layer) old new
Replied wish sending end old new (Err stop) =
    Ended (Asks wish sending) limit IsAnswered IsDue (Begun end) old new stop

-- the message that a step hands out
abbrev pub message_of : StepMeans → List ℕ
message_of (More end message) = message
message_of (Done layer message) = message

-- an object of Kerberos: it is done behind one token
pub record IsKerberos (m : MechSays) : Type 0 where
  pub name : KerberosName
  pub credential : Granted
  pub says_is : m.says ≡ standard
  pub cred_is : m.cred ≡ Some (creds.Kerberos name credential)
  pub taken_is : m.taken ≡ []

-- a client's end waits for Kerberos's reply
abbrev pub IsFirst : InitMeans → Type 0
IsFirst (InitAsks wish m) = IsKerberos m
IsFirst (InitWaits agreed) = ⊥

-- it waits for the offer
abbrev pub IsSecond : InitMeans → Type 0
IsSecond (InitAsks wish m) = ⊥
IsSecond (InitWaits agreed) = Unit {0}

-- a step of an end that waits for Kerberos's reply leads to one that waits for the offer
abbrev pub IsSecondStep : StepMeans → Type 0
IsSecondStep (More next message) = IsSecond next
IsSecondStep (Done layer message) = Unit {0}

-- the layer stands
abbrev pub IsLast : StepMeans → Type 0
IsLast (More next message) = ⊥
IsLast (Done layer message) = Unit {0}

-- the object of Kerberos, armed with a credential; either may have either name
abbrev pub IsArmed : List MechSays → Type 0
IsArmed objects = (name : KerberosName) × (known : KerberosName) × (credential : Granted)
    × (objects ≡ armed (blank_of (Kerberos name)) (creds.Kerberos known credential) ∷ [])

-- turns led to a layer, or the run ended before
abbrev pub Reached : Wish → List ℕ → Asker → Seen → Seen → Result LayerState RunEnd → Type 0
Reached wish sending start old new (Ok layer) =
    Leads (Asks wish sending) start (Chosen layer) old new
Reached wish sending start old new (Err end) = Spoke wish sending start old new None None end
