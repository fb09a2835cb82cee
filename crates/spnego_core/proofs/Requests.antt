-- A request that was sent leaves the end that waits for its reply.
use Rattle.std.proofs.Common.{◌≡◌, ℕ, List, Option, Result, Ok, Err}
use Rattle.der_core.specs.Format.{all_of}
use Rattle.krb_files.specs.Granted.{Granted}
use Rattle.krb_msgs.specs.declared.ticket.Ticket.{Ticket}
use Rattle.krb_msgs.specs.Ticket.{ticket}
use Rattle.ap_exchange.specs.declared.refusal.ApRefusal.{ApRefusal}
use Rattle.ap_exchange.specs.declared.refusal.Part.TheVariants as parts
use Rattle.ap_exchange.specs.declared.request.ApInit.{ApInit}
use Rattle.ap_exchange.specs.Steps.{◌>>=◌, der_in}
use Rattle.ap_exchange.specs.Request.{waiting, request_token, request_of}

sent-is : (read : Result Ticket ApRefusal) (end : ApInit) (token : List ℕ) (sent : ApInit × List ℕ) → (read >>= (λ one. Ok (end, token))) ≡ Ok sent → sent.0 ≡ end
sent-is (Ok one) end token sent e = let both : (end, token) ≡ sent = cc in cc
sent-is (Err refusal) end token sent e = cc

pub request-waits : (credential : Granted) (stamp : ℕ) (draws : List ℕ) (bindings : Option (List ℕ)) (sent : ApInit × List ℕ) → request_of credential stamp draws bindings ≡ Ok sent → sent.0 ≡ waiting credential stamp draws bindings
unfolding request_of
request-waits credential stamp draws bindings sent e =
    sent-is (der_in parts.Ticket (ticket.read (all_of credential.ticket))) (waiting credential stamp draws bindings) (request_token credential stamp draws bindings) sent e

sent-token : (read : Result Ticket ApRefusal) (end : ApInit) (token : List ℕ) (sent : ApInit × List ℕ) → (read >>= (λ one. Ok (end, token))) ≡ Ok sent → sent.1 ≡ token
sent-token (Ok one) end token sent e = let both : (end, token) ≡ sent = cc in cc
sent-token (Err refusal) end token sent e = cc

pub request-token : (credential : Granted) (stamp : ℕ) (draws : List ℕ) (bindings : Option (List ℕ)) (sent : ApInit × List ℕ) → request_of credential stamp draws bindings ≡ Ok sent → sent.1 ≡ request_token credential stamp draws bindings
unfolding request_of
request-token credential stamp draws bindings sent e =
    sent-token (der_in parts.Ticket (ticket.read (all_of credential.ticket))) (waiting credential stamp draws bindings) (request_token credential stamp draws bindings) sent e
