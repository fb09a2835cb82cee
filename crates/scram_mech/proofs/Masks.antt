-- A mask over a mask takes it off.
use Rattle.std.proofs.Common.{◌≡◌, ℕ, zero, suc, ◌*◌, ◌/◌, ◌≤◌, List, [], ◌∷◌, ◌++◌, length, get_or, refl, sym, ap, ◌∙◌, arith, length-append}
use Rattle.std.specs.Int.{w32, to_be_bytes}
use Rattle.std.specs.Int.Bits.{bit_xor, xor_assoc, xor_self, xor_zero_r}
use Rattle.sha1.specs.Sha1.{sha1, digest_bytes, hash_after, padded_message}
use Rattle.mac_sha1.specs.Mac.{hmac, inner_pad, outer_pad}
use Rattle.mac_sha1.specs.Hi.{add_octets}
use Rattle.base64.specs.GeneralPurpose.{IsBytes}
use Rattle.std.proofs.lemmas.Nat.{xor_of_8}
use Rattle.mac_sha1.proofs.Adding.{length-add_octets}
use Rattle.scram_mech.specs.Secrets.{Secret, client_key, stored_key, masked, proof_of, signature_of, key_of_client, context_key}

-- what is added twice goes
cancel : (a b : ℕ) → bit_xor (bit_xor a b) b ≡ a
cancel a b = xor_assoc a b b ∙ ap (λ (x : ℕ). bit_xor a x) (xor_self b) ∙ xor_zero_r a

length-digest : (h : List ℕ) (n : ℕ) → length (digest_bytes h n) ≡ 4 * n
unfolding digest_bytes
length-digest h zero = refl
length-digest h (suc n) = omega (arith, length-append (digest_bytes h n) (to_be_bytes w32 (get_or h n 0)), length-digest h n)

pub length-sha1 : (m : List ℕ) → length (sha1 m) ≡ 20
unfolding sha1
length-sha1 m = length-digest (hash_after (padded_message m) (length (padded_message m) / 64)) 5

pub length-hmac : (key message : List ℕ) → length (hmac key message) ≡ 20
unfolding hmac
length-hmac key message = length-sha1 (outer_pad key ++ sha1 (inner_pad key ++ message))

pub length-client : (s : Secret) → length (client_key s) ≡ 20
unfolding client_key
length-client s = length-hmac _ _

pub length-masked : (stored auth key : List ℕ) → length key ≡ 20 → length (masked stored auth key) ≡ 20
unfolding masked
length-masked stored auth key long = omega (arith, length-add_octets key (hmac stored auth), length-hmac stored auth)

add_twice : (xs ys : List ℕ) → length xs ≤ length ys → add_octets (add_octets xs ys) ys ≡ xs
unfolding add_octets
add_twice [] ys short = refl
add_twice (x ∷ xs) [] short = absurd (omega arith)
add_twice (x ∷ xs) (y ∷ ys) short = rw (cancel x y, add_twice xs ys (omega arith)) refl

pub masked-twice : (stored auth key : List ℕ) → length key ≡ 20 → masked stored auth (masked stored auth key) ≡ key
unfolding masked
masked-twice stored auth key long = add_twice key (hmac stored auth) (omega (arith, length-hmac stored auth))

-- the client key that a proof gives back
pub proof-gives : (s : Secret) (auth : List ℕ) → masked (stored_key s) auth (proof_of s auth) ≡ client_key s
unfolding proof_of
proof-gives s auth = masked-twice (stored_key s) auth (client_key s) (length-client s)

pub length-proof : (s : Secret) (auth : List ℕ) → length (proof_of s auth) ≡ 20
unfolding proof_of
length-proof s auth = length-masked (stored_key s) auth (client_key s) (length-client s)

-- both ends' key
pub same-key : (s : Secret) (auth : List ℕ) → key_of_client (stored_key s) (client_key s) auth ≡ context_key (stored_key s) (proof_of s auth) auth
unfolding context_key
same-key s auth = ap (λ (c : List ℕ). key_of_client (stored_key s) c auth) (sym (proof-gives s auth))

-- ---- octets are below 256

bytes-append : (xs ys : List ℕ) → IsBytes xs → IsBytes ys → IsBytes (xs ++ ys)
bytes-append [] ys a b i = b i
bytes-append (x ∷ xs) ys a b zero = a zero
bytes-append (x ∷ xs) ys a b (suc i) = bytes-append xs ys (λ j. a (suc j)) b i

word_bytes : (n : ℕ) → IsBytes (to_be_bytes w32 n)
word_bytes n zero = omega arith
word_bytes n (suc zero) = omega arith
word_bytes n (suc (suc zero)) = omega arith
word_bytes n (suc (suc (suc zero))) = omega arith
word_bytes n (suc (suc (suc (suc i)))) = omega arith

digest_octets : (h : List ℕ) (n : ℕ) → IsBytes (digest_bytes h n)
unfolding digest_bytes
digest_octets h zero = λ i. omega arith
digest_octets h (suc n) = bytes-append (digest_bytes h n) (to_be_bytes w32 (get_or h n 0)) (digest_octets h n) (word_bytes (get_or h n 0))

sha1_octets : (m : List ℕ) → IsBytes (sha1 m)
unfolding sha1
sha1_octets m = digest_octets (hash_after (padded_message m) (length (padded_message m) / 64)) 5

pub hmac-octets : (key message : List ℕ) → IsBytes (hmac key message)
unfolding hmac
hmac-octets key message = sha1_octets (outer_pad key ++ sha1 (inner_pad key ++ message))

add_bytes : (xs ys : List ℕ) → IsBytes xs → IsBytes ys → IsBytes (add_octets xs ys)
unfolding add_octets
add_bytes [] ys a b i = omega arith
add_bytes (x ∷ xs) [] a b i = omega arith
add_bytes (x ∷ xs) (y ∷ ys) a b zero = xor_of_8 x y (a zero) (b zero)
add_bytes (x ∷ xs) (y ∷ ys) a b (suc i) = add_bytes xs ys (λ j. a (suc j)) (λ j. b (suc j)) i

pub proof-octets : (s : Secret) (auth : List ℕ) → IsBytes (proof_of s auth)
unfolding proof_of masked client_key
proof-octets s auth = add_bytes _ _ (hmac-octets _ _) (hmac-octets _ _)

pub signature-octets : (server auth : List ℕ) → IsBytes (signature_of server auth)
unfolding signature_of
signature-octets server auth = hmac-octets server auth

pub length-signature : (server auth : List ℕ) → length (signature_of server auth) ≡ 20
unfolding signature_of
length-signature server auth = length-hmac server auth
