-- Keys, proofs and signatures, RFC 5802 section 3; the key of the context, section 8.2.
use Rattle.std.specs.Prelude.{ℕ, List, ◌++◌, codes, drop}
use Rattle.sha1.specs.Sha1.{sha1}
use Rattle.mac_sha1.specs.Mac.{hmac}
use Rattle.mac_sha1.specs.Hi.{hi, add_octets}
use Rattle.krb_derive.specs.declared.key.Key.{Key}
use Rattle.krb_derive.specs.declared.key.Key.TheVariants.{Aes128}

-- a password, a salt and rounds
pub record Secret : Type 0 where
  pub password : List ℕ
  pub salt : List ℕ
  pub rounds : ℕ

-- SaltedPassword
unfoldable pub salted : Secret → List ℕ
salted s = hi s.password s.salt s.rounds

-- ClientKey, which a proof masks
unfoldable pub client_key : Secret → List ℕ
client_key s = hmac (salted s) (codes "Client Key")

-- StoredKey, by which the acceptor checks a proof
unfoldable pub stored_key : Secret → List ℕ
stored_key s = sha1 (client_key s)

-- ServerKey, by which the acceptor signs
unfoldable pub server_key : Secret → List ℕ
server_key s = hmac (salted s) (codes "Server Key")

-- AuthMessage: the first text, the second, and the third without its proof
unfoldable pub auth_message : List ℕ → List ℕ → List ℕ → List ℕ
auth_message first second bare = first ++ codes "," ++ second ++ codes "," ++ bare

-- the octets of a key masked by the code of an AuthMessage under the stored key, and unmasked
unfoldable pub masked : List ℕ → List ℕ → List ℕ → List ℕ
masked stored auth key = add_octets key (hmac stored auth)

-- ClientProof
unfoldable pub proof_of : Secret → List ℕ → List ℕ
proof_of s auth = masked (stored_key s) auth (client_key s)

-- ServerSignature
unfoldable pub signature_of : List ℕ → List ℕ → List ℕ
signature_of server auth = hmac server auth

-- the key of the context, by the stored key and the proof: the last 16 octets of a code over the
-- client key and the AuthMessage
unfoldable pub key_of_client : List ℕ → List ℕ → List ℕ → Key
key_of_client stored client auth =
    Aes128 (drop 4 (hmac stored (codes "GSS-API session key" ++ client ++ auth)))

-- the same key as the acceptor has it, who takes the client key from the proof
unfoldable pub context_key : List ℕ → List ℕ → List ℕ → Key
context_key stored proof auth = key_of_client stored (masked stored auth proof) auth
