-- What was written of a request is its token.
use Rattle.std.proofs.Common.{◌≡◌, ℕ, List, ◌∷◌, Option, Ok, refl, ap, ◌∙◌}
use Rattle.gss_base.specs.declared.mech.MechKind.TheVariants.{Kerberos}
use Rattle.gss_base.specs.Mech.{oid_of}
use Rattle.gss_base.specs.Bindings.{hash_of}
use Rattle.der_core.specs.Format.{all_of}
use Rattle.der_core.specs.Frame.{framed}
use Rattle.krb_derive.specs.declared.key.Key.{Key}
use Rattle.krb_derive.specs.Key.{type_of_key}
use Rattle.krb_msgs.specs.declared.ticket.Ticket.{Ticket}
use Rattle.krb_msgs.specs.Authenticator.{authenticator}
use Rattle.krb_msgs.specs.ApReq.{ap_req}
use Rattle.krb_msgs.specs.Ticket.{ticket}
use Rattle.krb_files.specs.Granted.{Granted}
use Rattle.ap_exchange.specs.declared.refusal.Part.TheVariants as parts
use Rattle.ap_exchange.specs.Steps.{der_in}
use Rattle.ap_exchange.specs.Tokens.{ap_req_id, token_of}
use Rattle.ap_exchange.specs.Draws.{drawn_subkey}
use Rattle.ap_exchange.specs.Request.{label_of, own_subkey, authenticator_with, ap_req_with, WritesRequest, request_token, request_of}

request_is : (credential : Granted) (stamp : ℕ) (draws : List ℕ) (bindings : Option (List ℕ)) (subkey : Key) (hash token : List ℕ) → subkey ≡ own_subkey credential draws → hash ≡ hash_of bindings → WritesRequest credential stamp draws subkey hash token → token ≡ request_token credential stamp draws bindings
unfolding request_token token_of
request_is credential stamp draws bindings subkey hash token s h w =
    w.frames.spells ∙ ap (λ (m : List ℕ). framed.spell (oid_of Kerberos, ap_req_id ∷ 0 ∷ m))
    (w.requests.spells ∙ ap (λ (o : List ℕ). ap_req.spell (ap_req_with credential.ticket credential.session draws o))
    (w.sealed.spells
    ∙ ap (λ (k : Key). authenticator.spell (authenticator_with credential.client stamp k hash)) s
    ∙ ap (λ (x : List ℕ). authenticator.spell (authenticator_with credential.client stamp (own_subkey credential draws) x)) h))

pub started : (credential : Granted) (stamp : ℕ) (draws : List ℕ) (bindings : Option (List ℕ)) (granted : Ticket) (session subkey : Key) (initiator acceptor hash token : List ℕ) → der_in parts.Ticket (ticket.read (all_of credential.ticket)) ≡ Ok granted → session ≡ credential.session → subkey ≡ drawn_subkey (type_of_key session) draws → initiator ≡ label_of credential.client → acceptor ≡ label_of credential.server → hash ≡ hash_of bindings → WritesRequest credential stamp draws subkey hash token → request_of credential stamp draws bindings ≡ Ok (record { session = session; subkey = subkey; stamp = stamp; initiator = initiator; acceptor = acceptor; hash = hash }, token)
unfolding request_of
started credential stamp draws bindings granted session subkey initiator acceptor hash token g s k i a h w =
    let own : subkey ≡ own_subkey credential draws = k ∙ ap (λ (x : Key). drawn_subkey (type_of_key x) draws) s in
    let written : token ≡ request_token credential stamp draws bindings = request_is credential stamp draws bindings subkey hash token own h w in
    rw (g, s, own, i, a, h, written) refl
