-- A mechanism of one message under a shared key. It is no standard's: it shows what an object may
-- be, and that whoever steps objects knows nothing of the mechanism.
use Rattle.std.specs.Prelude.{ℕ, false, nat_le, List, [], ◌∷◌, ◌++◌, length, take, None, Result, Ok}
use Rattle.std.specs.Prelude.{Err, if◌then◌else◌}
use Rattle.sec_base.specs.Moment.{greatest_moment}
use Rattle.gss_base.specs.Bindings.{hash_of}
use Rattle.mac_sha1.specs.Mac.{hmac}
use Rattle.krb_derive.specs.declared.key.Key.TheVariants.{Aes128}
use Rattle.krb_tokens.specs.declared.done.MechDone.{MechDone}
use Rattle.scram_mech.specs.declared.refusal.ScramRefusal.TheVariants.{Text, NoUser}
use Rattle.spnego_core.specs.declared.refusal.MechRefusal.{MechRefusal}
use Rattle.spnego_core.specs.declared.refusal.MechRefusal.TheVariants.{Scram}
use Rattle.spnego_core.specs.declared.setup.MechCred.{MechCred}
use Rattle.spnego_core.specs.declared.setup.MechCred.TheVariants as creds
use Rattle.mech_objects.specs.declared.ask.MechAsk.{MechAsk}
use Rattle.mech_objects.specs.declared.ask.MechMove.{MechMove}
use Rattle.mech_objects.specs.declared.ask.MechMove.TheVariants.{Done}
use Rattle.mech_objects.specs.Meaning.{MechTalk}

-- the object identifier 2.999.1, of the arc for examples (ITU-T X.660), by its content
abbrev pub example_oid : List ℕ
example_oid = 0x88 ∷ 0x37 ∷ 0x01 ∷ []

-- the code of the drawn octets and the user's name, under the password
abbrev pub code_of : List ℕ → List ℕ → List ℕ → List ℕ
code_of user password draws = hmac password (draws ++ user)

-- the one message: the name, an octet 00, the drawn octets, the code
abbrev pub message_of : List ℕ → List ℕ → List ℕ → List ℕ
message_of user password draws = user ++ 0 ∷ draws ++ code_of user password draws

-- what the exchange gives. Its key is of the code of the code, which nobody sends; it carries no
-- channel bindings, and names no acceptor
abbrev pub done_of : List ℕ → List ℕ → List ℕ → MechDone
done_of user password draws = record {
  key = Aes128 (take 16 (hmac password (code_of user password draws)));
  subkey = false;
  initiator = user;
  acceptor = [];
  hash = hash_of None;
  ends = greatest_moment;
  first = 0;
}

-- a name of at most 255 octets, else it is refused behind so many
abbrev pub for_name : {X : Type 0} → List ℕ → X → Result X MechRefusal
for_name user value = if nat_le (length user) 255 then Ok value else Err (Scram (Text 255))

-- the first token, by the credential: one of Kerberos has no user
abbrev pub first_said : MechCred → MechAsk → Result (List ℕ) MechRefusal
first_said (creds.Kerberos name credential) ask = Err (Scram NoUser)
first_said (creds.Scram user password) ask = for_name user (message_of user password ask.draws)

-- what is made of a token: an empty one is the acceptor's consent, and any other is refused
abbrev pub consented : MechCred → MechAsk → List ℕ → Result MechMove MechRefusal
consented cred ask (octet ∷ rest) = Err (Scram (Text 0))
consented (creds.Kerberos name credential) ask [] = Err (Scram NoUser)
consented (creds.Scram user password) ask [] =
    for_name user (Done (done_of user password ask.draws))

-- what the mechanism says with a credential
abbrev pub shared_key : MechCred → MechTalk
shared_key cred = record {
  first = first_said cred;
  next = λ ask taken token. consented cred ask token;
}
