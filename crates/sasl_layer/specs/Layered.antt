-- Messages under a layer (RFC 4752 section 3): what an end sends and takes, by what both ends
-- agreed on and by how many messages went before.
use Rattle.std.specs.Prelude.{◌≡◌, ◌≤◌, ℕ, ◌+◌, ◌-◌, ◌^◌, ◌==◌, nat_lt, not, Bool, true, false}
use Rattle.std.specs.Prelude.{if◌then◌else◌, List}
use Rattle.std.specs.Prelude.{length, Result, Ok, Err}
use Rattle.krb_tokens.specs.declared.done.MechDone.{MechDone}
use Rattle.krb_tokens.specs.declared.end.Side.{Side}
use Rattle.krb_tokens.specs.declared.end.TokenEnd.{TokenEnd}
use Rattle.krb_tokens.specs.declared.end.TokenRefusal.{TokenRefusal}
use Rattle.krb_tokens.specs.declared.wrap.Unwrapped.{Unwrapped}
use Rattle.krb_tokens.specs.Wrap.{wrap_of, unwrapped}
use Rattle.sasl_layer.specs.declared.layer.Layer.{Layer}
use Rattle.sasl_layer.specs.declared.layer.Layer.TheVariants.{Bare, Signed, Sealed}
use Rattle.sasl_layer.specs.declared.facts.LayerFacts.{LayerFacts}
use Rattle.sasl_layer.specs.State.{LayerState}
use Rattle.sasl_layer.specs.declared.refusal.SaslRefusal.{SaslRefusal}
use Rattle.sasl_layer.specs.declared.refusal.SaslRefusal.TheVariants.{Token, Layers, Order}
use Rattle.sasl_layer.specs.declared.refusal.SaslRefusal.TheVariants.{TooLong}
use Rattle.sasl_layer.specs.Layers.{number_in}

-- an end behind the choice
abbrev pub begun : LayerFacts → Side → ℕ → LayerState
begun facts side takes = record { facts = facts; side = side; sends = 1; takes = takes }

-- the end of the context that makes and reads tokens at this side
abbrev pub end_of : MechDone → Side → TokenEnd
end_of done side = record { key = done.key; side = side; subkey = done.subkey }

-- the end of a layer
abbrev pub end_under : LayerState → TokenEnd
end_under l = end_of l.facts.done l.side

-- the numbers of a direction are used up: the next one would be the greatest word
abbrev pub is_spent : ℕ → Bool
is_spent number = nat_lt (2 ^ 64 - 2) number

-- no message went yet: the next one has number 1, and of the other end's the one after a word
abbrev pub IsNew : LayerState → Type 0
IsNew l = (l.sends ≡ 1) × (l.takes ≤ 2 ^ 32)

-- how many octets a message has that carries so many
abbrev pub size_carried : Layer → ℕ → ℕ
size_carried Bare count = count
size_carried Signed count = count + 28
size_carried Sealed count = count + 60

-- the message that carries these octets: they themselves, or the token of them with the next number
abbrev pub carried_by : Layer → LayerState → List ℕ → List ℕ → List ℕ
carried_by Bare l confounder octets = octets
carried_by Signed l confounder octets = wrap_of (end_under l) l.sends false confounder octets
carried_by Sealed l confounder octets = wrap_of (end_under l) l.sends true confounder octets

abbrev pub carried : LayerState → List ℕ → List ℕ → List ℕ
carried l confounder octets = carried_by l.facts.layer l confounder octets

-- what an end sends to have these octets read: nothing that is longer than the other end takes
unfoldable pub sends : LayerState → List ℕ → List ℕ → Result (List ℕ) SaslRefusal
sends l octets confounder =
    if nat_lt l.facts.outgoing (size_carried l.facts.layer (length octets)) then Err TooLong
    else Ok (carried l confounder octets)

-- the end behind that: after a refusal as before
abbrev pub sent : {X : Type 0} → LayerState → Result X SaslRefusal → LayerState
sent l (Ok message) = record l { sends = l.sends + 1 }
sent l (Err refusal) = l

-- ---- reading

-- it is sealed, or isn't, as is due
abbrev pub is_as : Bool → Bool → Bool
is_as true sealed = sealed
is_as false sealed = not sealed

-- what a token held, where it is sealed as is due and has the number that is due
abbrev pub opened_as : Bool → ℕ → List ℕ → Unwrapped → Result (List ℕ) SaslRefusal
opened_as sealed due token held =
    if not (is_as sealed held.sealed) then Err Layers
    else if not (number_in token == due) then Err (Order due)
    else Ok held.content

-- the same of a token that may be none of the other end
abbrev pub opened_in : Bool → ℕ → List ℕ → Result Unwrapped TokenRefusal
    → Result (List ℕ) SaslRefusal
opened_in sealed due token (Ok held) = opened_as sealed due token held
opened_in sealed due token (Err refusal) = Err (Token refusal)

-- what a message carries, by the layer
abbrev pub taken_under : Layer → LayerState → List ℕ → Result (List ℕ) SaslRefusal
taken_under Bare l message = Ok message
taken_under Signed l message = opened_in false l.takes message (unwrapped (end_under l) message)
taken_under Sealed l message = opened_in true l.takes message (unwrapped (end_under l) message)

-- what an end reads of a message
unfoldable pub receives : LayerState → List ℕ → Result (List ℕ) SaslRefusal
receives l message =
    if nat_lt l.facts.incoming (length message) then Err TooLong
    else taken_under l.facts.layer l message

-- the end behind that: after a refusal as before
abbrev pub received : {X : Type 0} → LayerState → Result X SaslRefusal → LayerState
received l (Ok octets) = record l { takes = l.takes + 1 }
received l (Err refusal) = l
