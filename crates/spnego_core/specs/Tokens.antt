-- The tokens of a negotiation as an end reads and writes them, RFC 4178 section 4.2.
use Rattle.std.specs.Prelude.{ℕ, Bool, true, false, if◌then◌else◌, List, [], ◌∷◌, Option, Some}
use Rattle.std.specs.Prelude.{None, Result, Ok, Err}
use Rattle.der_core.specs.declared.refusal.DerRefusal.{DerRefusal}
use Rattle.der_core.specs.Format.{all_of}
use Rattle.spnego_msgs.specs.declared.neg_state.NegState.{NegState}
use Rattle.spnego_msgs.specs.declared.neg_state.NegState.TheVariants.{Completed, Incomplete, Reject}
use Rattle.spnego_msgs.specs.declared.neg_state.NegState.TheVariants.{RequestMic}
use Rattle.spnego_msgs.specs.declared.neg_init.NegInit.{NegInit}
use Rattle.spnego_msgs.specs.declared.neg_resp.NegResp.{NegResp}
use Rattle.spnego_msgs.specs.NegInit.{neg_init}
use Rattle.spnego_msgs.specs.NegResp.{neg_resp}
use Rattle.spnego_core.specs.declared.refusal.NegRefusal.{NegRefusal}
use Rattle.spnego_core.specs.declared.refusal.NegRefusal.TheVariants.{Defective}

-- what a token says; a refused place counts from its first octet
abbrev pub said_in : {A : Type 0} → Result A DerRefusal → Result A NegRefusal
said_in (Ok v) = Ok v
said_in (Err refusal) = Err (Defective refusal.at)

-- the initiator's first token, which is a NegTokenInit (RFC 4178 section 4.2.1)
unfoldable pub init_read : List ℕ → Result NegInit NegRefusal
init_read token = said_in (neg_init.read (all_of token))

-- any later token, which is a NegTokenResp (RFC 4178 section 4.2.2)
unfoldable pub resp_read : List ℕ → Result NegResp NegRefusal
resp_read token = said_in (neg_resp.read (all_of token))

-- the first of a list's identifiers
abbrev pub first_of : List (List ℕ) → Option (List ℕ)
first_of [] = None
first_of (first ∷ rest) = Some first

-- a reply that is the mechanism's own token, to an initiator with this list that doesn't negotiate:
-- its mechanism is chosen, and is complete with that token
abbrev pub bare_reply : List (List ℕ) → List ℕ → NegResp
bare_reply list token =
    record { state = Some Completed; mech = first_of list; token = Some token; mic = None }

-- the first reply, by whether the initiator negotiates; its list
abbrev pub first_read : Bool → List (List ℕ) → List ℕ → Result NegResp NegRefusal
first_read true list token = resp_read token
first_read false list token = Ok (bare_reply list token)

-- the mechanism's token where it stands alone, without negotiation
abbrev pub alone : Option (List ℕ) → List ℕ
alone None = []
alone (Some token) = token

-- the octets of a NegTokenInit
unfoldable pub init_octets : NegInit → List ℕ
init_octets init = neg_init.spell init

-- the octets of an initiator's first token, by whether it negotiates
abbrev pub first_octets : Bool → NegInit → List ℕ
first_octets true init = init_octets init
first_octets false init = alone init.token

-- the octets of a later token
unfoldable pub resp_octets : NegResp → List ℕ
resp_octets resp = neg_resp.spell resp

-- a token that says no more than that the negotiation is complete
abbrev pub completes : NegResp
completes = record { state = Some Completed; mech = None; token = None; mic = None }

-- the reply to an own MIC: an empty token, as where the layer above has none to carry, says that
-- all is complete
abbrev pub last_read : List ℕ → Result NegResp NegRefusal
last_read [] = Ok completes
last_read (octet ∷ octets) = resp_read (octet ∷ octets)

-- the state is reject (RFC 4178 section 4.2.2)
abbrev pub is_state_reject : NegState → Bool
is_state_reject Completed = false
is_state_reject Incomplete = false
is_state_reject Reject = true
is_state_reject RequestMic = false

-- the state is accept-completed
abbrev pub is_state_completed : NegState → Bool
is_state_completed Completed = true
is_state_completed Incomplete = false
is_state_completed Reject = false
is_state_completed RequestMic = false

-- the state is request-mic
abbrev pub is_state_request : NegState → Bool
is_state_request Completed = false
is_state_request Incomplete = false
is_state_request Reject = false
is_state_request RequestMic = true

-- reject is said
abbrev pub rejects : Option NegState → Bool
rejects None = false
rejects (Some state) = is_state_reject state

-- accept-completed is said
abbrev pub says_completed : Option NegState → Bool
says_completed None = false
says_completed (Some state) = is_state_completed state

-- request-mic is said
abbrev pub asks_mic : Option NegState → Bool
asks_mic None = false
asks_mic (Some state) = is_state_request state

-- the last reply of an acceptor, once the initiator's MIC was verified (RFC 4178 section 5): to one
-- that says accept-completed with it nothing more is said, to another one that all is complete
abbrev pub last_octets : Option NegState → List ℕ
last_octets state = if says_completed state then [] else resp_octets completes
