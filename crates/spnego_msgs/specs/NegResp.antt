-- NegTokenResp, RFC 4178 section 4.2.2.
use Rattle.std.specs.Prelude.{ℕ, true, ◌==◌, if◌then◌else◌, List, [], ◌∷◌, Option, Result, Ok}
use Rattle.der_core.specs.declared.refusal.DerRefusal.{DerRefusal}
use Rattle.der_core.specs.declared.refusal.DerWhy.TheVariants.{Value}
use Rattle.der_core.specs.Format.{Format, Content, place, refused}
use Rattle.der_core.specs.Element.{element, whole, explicit, octet_string}
use Rattle.der_core.specs.Fields.{done, with_optional, seen}
use Rattle.der_core.specs.Values.{object_identifier}
use Rattle.spnego_msgs.specs.declared.neg_state.NegState.{NegState}
use Rattle.spnego_msgs.specs.declared.neg_state.NegState.TheVariants.{Completed, Incomplete, Reject}
use Rattle.spnego_msgs.specs.declared.neg_state.NegState.TheVariants.{RequestMic}
use Rattle.spnego_msgs.specs.declared.neg_resp.NegResp.{NegResp}

-- accept-completed, accept-incomplete, reject, request-mic
abbrev pub state_number : NegState → ℕ
state_number Completed = 0
state_number Incomplete = 1
state_number Reject = 2
state_number RequestMic = 3

-- the state of a number, refused at a place if none has it
abbrev pub state_named : ℕ → ℕ → Result NegState DerRefusal
state_named at n =
    if n == 0 then Ok Completed else
    if n == 1 then Ok Incomplete else
    if n == 2 then Ok Reject else
    if n == 3 then Ok RequestMic else
    refused Value at

-- the state that the content names, which is one octet
abbrev pub state_of : ℕ → List ℕ → Result NegState DerRefusal
state_of at [] = refused Value at
state_of at (n ∷ []) = state_named at n
state_of at (a ∷ b ∷ os) = refused Value at

-- the content of negState, an ENUMERATED
abbrev pub state_content : Content NegState
state_content = record {
  read = λ i. state_of (place i) i.octets;
  spell = λ s. state_number s ∷ [];
  fits = λ s. true;
}

-- ENUMERATED
unfoldable pub neg_state : Format NegState
neg_state = element 0x0a state_content

-- negState [0] OPTIONAL, supportedMech [1] OPTIONAL, responseToken [2] OPTIONAL, mechListMIC [3]
-- OPTIONAL
abbrev pub neg_resp_fields : Content
    (Option NegState × (Option (List ℕ) × (Option (List ℕ) × (Option (List ℕ) × Unit {0}))))
neg_resp_fields =
    with_optional 0xa0 (explicit 0xa0 neg_state)
    (with_optional 0xa1 (explicit 0xa1 object_identifier)
    (with_optional 0xa2 (explicit 0xa2 octet_string)
    (with_optional 0xa3 (explicit 0xa3 octet_string)
    done)))

-- NegotiationToken ::= CHOICE negTokenResp [1]
unfoldable pub neg_resp : Content NegResp
neg_resp = whole (explicit 0xa1 (element 0x30 (seen
    (λ v. record { state = v.0; mech = v.1.0; token = v.1.1.0; mic = v.1.1.1.0 })
    (λ t. (t.state, (t.mech, (t.token, (t.mic, tt)))))
    neg_resp_fields)))
