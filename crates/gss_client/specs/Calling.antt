-- The calls of a client, RFC 2203 sections 5.2.2 and 5.3.1: the program and version of its terms,
-- RPCSEC_GSS's credential and verifier.
use Rattle.std.specs.Prelude.{ℕ, ◌*◌, List, []}
use Rattle.krb_tokens.specs.declared.end.Side.TheVariants.{Initiator}
use Rattle.krb_tokens.specs.declared.end.TokenEnd.{TokenEnd}
use Rattle.krb_tokens.specs.Mic.{mic_of}
use Rattle.rpc_msgs.specs.Words.{opaque}
use Rattle.rpc_msgs.specs.Auths.{AuthValue}
use Rattle.rpc_msgs.specs.Calls.{header_octets, call_octets, secure_call}
use Rattle.rpc_msgs.specs.declared.numbers.TheConstants.{AUTH_NONE, RPCSEC_GSS}
use Rattle.rpc_msgs.specs.declared.numbers.TheConstants.{NULL}
use Rattle.rpcsec_bodies.specs.declared.service.Service.{Service}
use Rattle.gss_client.specs.declared.terms.Terms.{Terms}
use Rattle.rpcsec_bodies.specs.Protection.{protected}
use Rattle.rpcsec_bodies.specs.Service.{number_of}
use Rattle.rpcsec_msgs.specs.Cred.{CredValue, cred_octets}
use Rattle.rpcsec_msgs.specs.declared.numbers.TheConstants.{RPCSEC_GSS_DATA, RPCSEC_GSS_DESTROY}
use Rattle.rpcsec_msgs.specs.declared.numbers.TheConstants.{RPC_GSS_SVC_NONE}
use Rattle.spnego_core.specs.Outcome.{token_end}
use Rattle.gss_client.specs.Session.{SessionState}

-- creation is procedure 1 at first and 2 afterwards (section 5.2.2); such a call has number 0, the
-- session's service, and no verifier
abbrev pub creation_cred : Terms → ℕ → List ℕ → CredValue
creation_cred terms proc handle =
    record { proc = proc; seq = 0; service = number_of terms.service; context = handle }

-- a creation call: the server's handle in its credential, a token as its argument (section 5.2.2)
unfoldable pub creation_call : Terms → ℕ → ℕ → List ℕ → List ℕ → List ℕ
creation_call terms xid proc handle token =
    call_octets (secure_call xid terms.program terms.version NULL
    (cred_octets (creation_cred terms proc handle)) (record { flavour = AUTH_NONE; body = [] })
    (opaque token))

-- the initiator's end of a context
abbrev pub own_end : SessionState → TokenEnd
own_end s = token_end s.outcome Initiator

-- the credential of a session's next call, with this procedure and service (section 5.3.1)
abbrev pub own_cred : SessionState → ℕ → ℕ → CredValue
own_cred s proc service =
    record { proc = proc; seq = s.number; service = service; context = s.handle }

-- a call up to the end of its credential
unfoldable pub header_of : SessionState → ℕ → ℕ → ℕ → List ℕ
header_of s proc service procedure =
    header_octets s.xid s.terms.program s.terms.version procedure
    (record { flavour = RPCSEC_GSS; body = cred_octets (own_cred s proc service) })

-- its verifier: the MIC over these octets; numbers of tokens are twice a call's number, and one
-- more for its body
unfoldable pub verifier_of : SessionState → ℕ → ℕ → ℕ → AuthValue
verifier_of s proc service procedure = record {
  flavour = RPCSEC_GSS;
  body =
      mic_of (own_end s) (2 * s.number) (header_of s proc service procedure);
}

-- a call of a context with its verifier, and with this body behind it (section 5.3.1)
unfoldable pub signed_call : SessionState → ℕ → ℕ → ℕ → List ℕ → List ℕ
signed_call s proc service procedure body =
    call_octets (secure_call s.xid s.terms.program s.terms.version procedure
    (cred_octets (own_cred s proc service)) (verifier_of s proc service procedure) body)

-- the arguments as the service sends them (section 5.3.2)
abbrev pub body_of : SessionState → List ℕ → List ℕ → Service → List ℕ
body_of s args confounder service = protected (own_end s) service s.number confounder args

-- a call of a context, and the call that destroys it, which has no arguments and is the program's
-- procedure NULL
unfoldable pub data_call : SessionState → ℕ → List ℕ → List ℕ → List ℕ
data_call s procedure args confounder = signed_call s RPCSEC_GSS_DATA (number_of s.terms.service)
    procedure (body_of s args confounder s.terms.service)

-- the call that destroys a context
unfoldable pub destroy_call : SessionState → List ℕ
destroy_call s = signed_call s RPCSEC_GSS_DESTROY RPC_GSS_SVC_NONE NULL []
