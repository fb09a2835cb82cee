-- The line of the user in the file of verifiers is read as it is written.
use Rattle.std.proofs.Common.{◌≡◌, ℕ, zero, suc, ◌/◌, List, [], ◌∷◌, ◌++◌, length, get_or, refl, sym, arith, codes, Ok, append-nil}
use Rattle.std.specs.Int.{w32, to_be_bytes}
use Rattle.sha1.specs.Sha1.{sha1, digest_bytes, hash_after, padded_message}
use Rattle.base64.specs.GeneralPurpose.{IsBytes}
use Rattle.scram_mech.specs.Formats.{pieces, pieces_of}
use Rattle.scram_mech.specs.Grammar.{AreOctets}
use Rattle.scram_mech.specs.Judging.{judged}
use Rattle.scram_mech.specs.Laws.{Laws}
use Rattle.scram_mech.specs.Secrets.{Secret, client_key, stored_key, salted}
use Rattle.scram_mech.specs.Secrets as secrets
use Rattle.scram_mech.specs.Values.{value_at, progress}
use Rattle.scram_mech.specs.VerifierFile.{IsLine}
use Rattle.scram_mech.specs.Verifiers.{made_line, line_text, line_with, verifiers_of}
use Rattle.scram_mech.proofs.Masks.{length-sha1, length-hmac, hmac-octets}
use Rattle.drill_plan.specs.Setting.{user_name, user_secret, drill_verifiers}

-- ---- the octets of a digest

bytes-append : (xs ys : List ℕ) → IsBytes xs → IsBytes ys → IsBytes (xs ++ ys)
bytes-append [] ys a b i = b i
bytes-append (x ∷ xs) ys a b zero = a zero
bytes-append (x ∷ xs) ys a b (suc i) = bytes-append xs ys (λ j. a (suc j)) b i

word_bytes : (n : ℕ) → IsBytes (to_be_bytes w32 n)
word_bytes n zero = omega arith
word_bytes n (suc zero) = omega arith
word_bytes n (suc (suc zero)) = omega arith
word_bytes n (suc (suc (suc zero))) = omega arith
word_bytes n (suc (suc (suc (suc i)))) = omega arith

digest_octets : (h : List ℕ) (n : ℕ) → IsBytes (digest_bytes h n)
unfolding digest_bytes
digest_octets h zero = λ i. omega arith
digest_octets h (suc n) = bytes-append (digest_bytes h n) (to_be_bytes w32 (get_or h n 0)) (digest_octets h n) (word_bytes (get_or h n 0))

sha1_octets : (m : List ℕ) → IsBytes (sha1 m)
unfolding sha1
sha1_octets m = digest_octets (hash_after (padded_message m) (length (padded_message m) / 64)) 5

-- ---- the line of the user

stored_is : (s : Secret) → AreOctets 20 20 (stored_key s)
unfolding stored_key
stored_is s = record { each = sha1_octets (client_key s); enough = omega (arith, length-sha1 (client_key s)); few = omega (arith, length-sha1 (client_key s)) }

server_is : (s : Secret) → AreOctets 20 20 (secrets.server_key s)
unfolding secrets.server_key
server_is s = record { each = hmac-octets _ _; enough = omega (arith, length-hmac (salted s) (codes "Server Key")); few = omega (arith, length-hmac (salted s) (codes "Server Key")) }

pub drill_bytes : IsBytes (codes "drill")
drill_bytes zero = omega arith
drill_bytes (suc zero) = omega arith
drill_bytes (suc (suc zero)) = omega arith
drill_bytes (suc (suc (suc zero))) = omega arith
drill_bytes (suc (suc (suc (suc zero)))) = omega arith
drill_bytes (suc (suc (suc (suc (suc i))))) = omega arith

line_is : IsLine (line_with user_name user_secret)
line_is = record { named = record { each = refl; some = omega arith; few = omega arith }; ranged = refl; salted = record { each = drill_bytes; enough = omega arith; few = omega arith }; stored = stored_is user_secret; server = server_is user_secret }

pub line-read : Laws → verifiers_of (line_text (line_with user_name user_secret)) ≡ Ok drill_verifiers
line-read laws = laws.file_only _ _ (record { each = (line_is, tt); single = (tt, tt); same = sym (append-nil _) })

pub line-made : made_line user_name user_name (codes "drill") 4096 ≡ Ok (line_text (line_with user_name user_secret))
unfolding made_line judged pieces_of pieces value_at progress
line-made = refl
