-- The request of an initiator, RFC 4120 section 3.2.2 and RFC 4121 section 4.1.1.
use Rattle.std.specs.Prelude.{◌≡◌, true, ℕ, ◌*◌, ◌/◌, ◌%◌, pos, List, [], ◌∷◌, ◌++◌, length, Option}
use Rattle.std.specs.Prelude.{Some, None, unwrap_or, Result, Ok}
use Rattle.gss_base.specs.Name.{Name}
use Rattle.gss_base.specs.Bindings.{hash_of}
use Rattle.gss_base.specs.Principal.{text_form}
use Rattle.gss_base.specs.declared.mech.MechKind.TheVariants.{Kerberos}
use Rattle.gss_base.specs.Mech.{oid_of}
use Rattle.der_core.specs.Format.{all_of, WritesWhole}
use Rattle.der_core.specs.Frame.{framed}
use Rattle.krb_derive.specs.declared.key.Key.{Key}
use Rattle.krb_derive.specs.Key.{type_of_key}
use Rattle.krb_derive.specs.Making.{Making, sealed_making}
use Rattle.krb_msgs.specs.declared.principal_name.PrincipalName.{PrincipalName}
use Rattle.krb_msgs.specs.declared.checksum.Checksum.{Checksum}
use Rattle.krb_msgs.specs.declared.authenticator.Authenticator.{Authenticator}
use Rattle.krb_msgs.specs.declared.ap_req.ApReq.{ApReq}
use Rattle.krb_msgs.specs.Authenticator.{authenticator}
use Rattle.krb_msgs.specs.ApReq.{ap_req}
use Rattle.krb_msgs.specs.Ticket.{ticket}
use Rattle.krb_files.specs.Granted.{Granted}
use Rattle.ap_exchange.specs.declared.refusal.Part.TheVariants.{Ticket}
use Rattle.ap_exchange.specs.declared.refusal.ApRefusal.{ApRefusal}
use Rattle.ap_exchange.specs.declared.request.ApInit.{ApInit}
use Rattle.ap_exchange.specs.Steps.{◌>>=◌, der_in}
use Rattle.ap_exchange.specs.Tokens.{ap_req_id, token_of}
use Rattle.ap_exchange.specs.Keys.{authenticator_usage, key_value, sealed_data, SealedOpens}
use Rattle.ap_exchange.specs.Draws.{drawn_subkey, drawn_confounder}

-- a name as this project writes it: of type 1
abbrev pub name_value : Name → PrincipalName
name_value name = record { name_type = pos 1; name_string = name.parts }

-- the text of a name
abbrev pub label_of : Name → List ℕ
label_of name = text_form name.realm name.parts

-- the whole seconds of a moment, as a moment; the rest are its microseconds
abbrev pub seconds_of : ℕ → ℕ
seconds_of moment = moment / 1000000 * 1000000

-- the microseconds of a moment, beside its whole seconds
abbrev pub micros_of : ℕ → ℕ
micros_of moment = moment % 1000000

-- the number of an end's first token, as its message states it, else 0 (RFC 4120 sections 5.5.1 and
-- 5.5.2, RFC 4121 section 4.2)
abbrev pub number_stated : Option ℕ → ℕ
number_stated number = unwrap_or number 0

-- the checksum of RFC 4121 section 4.1.1: the hash's length, the hash, the flags, both numbers in
-- 32 bits with the least significant octet first. The flags are 2 mutual authentication, 16
-- confidentiality, 32 integrity
abbrev pub checksum_for : List ℕ → Checksum
checksum_for hash =
    record { cksumtype = pos 32771; checksum = 16 ∷ 0 ∷ 0 ∷ 0 ∷ hash ++ 50 ∷ 0 ∷ 0 ∷ 0 ∷ [] }

-- the subkey of an initiator, of the session key's type
abbrev pub own_subkey : Granted → List ℕ → Key
own_subkey credential draws = drawn_subkey (type_of_key credential.session) draws

-- an authenticator of this client at this moment, with a subkey and the hash of bindings
abbrev pub authenticator_with : Name → ℕ → Key → List ℕ → Authenticator
authenticator_with client stamp subkey hash = record {
  crealm = client.realm;
  cname = name_value client;
  cksum = Some (checksum_for hash);
  cusec = micros_of stamp;
  ctime = seconds_of stamp;
  subkey = Some (key_value subkey);
  seq_number = Some 0;
  authorization_data = None;
}

-- what a request's authenticator says: a function of the facts alone
abbrev pub authenticator_of : Granted → ℕ → List ℕ → Option (List ℕ) → Authenticator
authenticator_of credential stamp draws bindings =
    authenticator_with credential.client stamp (own_subkey credential draws) (hash_of bindings)

-- the octets of what the authenticator says, which are sealed
abbrev pub authenticator_octets : Granted → ℕ → List ℕ → Option (List ℕ) → List ℕ
authenticator_octets credential stamp draws bindings =
    authenticator.spell (authenticator_of credential stamp draws bindings)

-- mutual-required, the ticket as it is, the sealed authenticator
abbrev pub ap_req_with : List ℕ → Key → List ℕ → List ℕ → ApReq
ap_req_with granted session draws octets = record {
  ap_options = 0x20000000;
  ticket = granted;
  authenticator = sealed_data session None authenticator_usage (drawn_confounder draws) octets;
}

-- the request by a credential, stamp, draws and bindings: its ticket, the sealed authenticator
abbrev pub ap_req_of : Granted → ℕ → List ℕ → Option (List ℕ) → ApReq
ap_req_of credential stamp draws bindings =
    ap_req_with credential.ticket credential.session draws
    (authenticator_octets credential stamp draws bindings)

-- the state of an initiator whose request was sent
abbrev pub waiting : Granted → ℕ → List ℕ → Option (List ℕ) → ApInit
waiting credential stamp draws bindings = record {
  session = credential.session;
  subkey = own_subkey credential draws;
  stamp = stamp;
  initiator = label_of credential.client;
  acceptor = label_of credential.server;
  hash = hash_of bindings;
}

-- the token with the request, for the acceptor
unfoldable pub request_token : Granted → ℕ → List ℕ → Option (List ℕ) → List ℕ
request_token credential stamp draws bindings =
    token_of ap_req_id (ap_req.spell (ap_req_of credential stamp draws bindings))

-- the state and the token, where the credential's ticket is a Ticket
unfoldable pub request_of : Granted → ℕ → List ℕ → Option (List ℕ)
    → Result (ApInit × List ℕ) ApRefusal
request_of credential stamp draws bindings = do
  one ← der_in Ticket (ticket.read (all_of credential.ticket))
  Ok (waiting credential stamp draws bindings, request_token credential stamp draws bindings)

-- what is handed out with the token: a function of the facts alone
abbrev pub request_making : Granted → ℕ → List ℕ → Option (List ℕ) → Making
request_making credential stamp draws bindings =
    sealed_making credential.session authenticator_usage
    (authenticator_octets credential stamp draws bindings)

-- the one thing that is handed out with the token, as a list
abbrev pub request_makes : Granted → ℕ → List ℕ → Option (List ℕ) → List Making
request_makes credential stamp draws bindings = request_making credential stamp draws bindings ∷ []

-- a request's token was written: of what it seals, of the message and of the token there is a
-- spelling
pub record WritesRequest (credential : Granted) (stamp : ℕ) (draws : List ℕ) (subkey : Key)
    (hash token : List ℕ) : Type 0 where
  pub octets : List ℕ
  pub sealed : WritesWhole authenticator (authenticator_with credential.client stamp subkey hash)
      octets
  pub message : List ℕ
  pub requests : WritesWhole ap_req (ap_req_with credential.ticket credential.session draws octets)
      message
  pub opens : SealedOpens credential.session authenticator_usage (drawn_confounder draws) octets
  pub frames : WritesWhole framed (oid_of Kerberos, ap_req_id ∷ 0 ∷ message) token

-- what holds of a request that was made: all that is written has a spelling, what is sealed opens
-- again, the hash has its length
pub record RequestFits (credential : Granted) (stamp : ℕ) (draws : List ℕ)
    (bindings : Option (List ℕ)) : Type 0 where
  pub sealed : authenticator.fits (authenticator_of credential stamp draws bindings) ≡ true
  pub opens : SealedOpens credential.session authenticator_usage (drawn_confounder draws)
      (authenticator_octets credential stamp draws bindings)
  pub hash : length (hash_of bindings) ≡ 16
  pub message : ap_req.fits (ap_req_of credential stamp draws bindings) ≡ true
  pub token : framed.fits (
    oid_of Kerberos,
    ap_req_id ∷ 0
        ∷ ap_req.spell (ap_req_of credential stamp draws bindings),
  ) ≡ true
