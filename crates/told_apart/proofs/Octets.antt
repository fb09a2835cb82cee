-- By their form octets are told from a list of mechanisms, and from the header of a call.
use Rattle.std.proofs.Common.{◌≡◌, ℕ, ◌+◌, ◌<◌, ◌≤◌, ◌^◌, lit<, true, List, ◌++◌, length, replicate, Result, Ok, Err, is_ok, refl, sym, ap, subst, ◌∙◌, append_assoc, length-append, arith}
use Rattle.std.proofs.lemmas.Nat.{from_be_bytes-to_be_bytes_4}
use Rattle.gss_base.specs.declared.mech.KerberosName.TheVariants.{Standard, Microsoft}
use Rattle.gss_base.specs.declared.mech.MechName.{MechName}
use Rattle.gss_base.specs.declared.mech.MechName.TheVariants as names
use Rattle.der_core.specs.Header.{tlv, length_octets}
use Rattle.der_core.specs.Values.{object_identifier}
use Rattle.rpc_msgs.specs.Words.{word, opaque, padding_length}
use Rattle.rpc_msgs.specs.Xdr.{whole, opaque_at, end_at}
use Rattle.rpc_msgs.specs.declared.xdr_reader.XdrRefusal.{XdrRefusal}
use Rattle.rpc_msgs.proofs.WordLengths.{length-word}
use Rattle.rpc_msgs.proofs.XdrLaws.{bind_ok}
use Rattle.rpc_msgs.specs.Opaque.{opaque_alone}
use Rattle.rpc_msgs.proofs.Alone.{none-left}
use Rattle.told_apart.specs.Apart.{first_word, oid_word, NoHeader, NoList}
use Rattle.told_apart.proofs.Places.{word_of, opaque-at}

-- a mechanism's identifier begins with a high word
oid-high : (name : MechName) → 65536 < oid_word name
unfolding object_identifier tlv length_octets
oid-high (names.Kerberos Standard) = lit< tt
oid-high (names.Kerberos Microsoft) = lit< tt
oid-high names.Scram = lit< tt

-- ---- no list

low-apart : (octets : List ℕ) → (4 < length octets → length octets < 96 → first_word octets ≤ 65536) → NoList octets
low-apart octets low = record { other = λ name long few same. (let high = oid-high name in let l = low long few in omega (arith, high, l, same)) }

pub few-apart : (octets : List ℕ) → length octets ≤ 4 → NoList octets
few-apart octets few = low-apart octets (λ long short. absurd (omega (arith, few, long)))

pub many-apart : (octets : List ℕ) → 96 ≤ length octets → NoList octets
many-apart octets many = low-apart octets (λ long few. absurd (omega (arith, many, few)))

pub word-apart : (number : ℕ) → NoList (word number)
word-apart number = few-apart (word number) (omega (arith, length-word number))

first-is : (number : ℕ) (rest : List ℕ) → number < 2 ^ 32 → first_word (word number ++ rest) ≡ number
unfolding word
first-is number rest h = from_be_bytes-to_be_bytes_4 number h

pub tagged-apart : (number : ℕ) (rest : List ℕ) → number ≤ 65536 → NoList (word number ++ rest)
tagged-apart number rest low = low-apart (word number ++ rest) (λ long few. (let is = first-is number rest (omega (arith, low)) in omega (arith, low, is)))

-- an opaque's length stands in front, whatever stands behind it
behind-length : (count : ℕ) (front rest : List ℕ) → count ≤ length front → NoList (word count ++ (front ++ rest))
behind-length count front rest all = low-apart (word count ++ (front ++ rest)) (λ long few. (
    let whole = length-append (word count) (front ++ rest) in
    let part = length-append front rest in
    let short : count < 96 = omega (arith, few, all, whole, part) in
    let is = first-is count (front ++ rest) (omega (arith, short)) in
    omega (arith, short, is)))

pub opaque-apart : (octets : List ℕ) → NoList (opaque octets)
unfolding opaque
opaque-apart octets = behind-length (length octets) octets _ (omega arith)

pub followed-apart : (octets rest : List ℕ) → NoList (opaque octets ++ rest)
unfolding opaque
followed-apart octets rest =
    let filler : List ℕ = replicate (padding_length (length octets)) 0 in
    let same : (word (length octets) ++ (octets ++ filler)) ++ rest ≡ word (length octets) ++ (octets ++ (filler ++ rest)) = simp append_assoc in
    subst NoList (sym same) (behind-length (length octets) octets (filler ++ rest) (omega arith))

-- ---- octets that are read as one opaque

-- how many octets it has stands in front, and nothing stands after it
record IsOne (octets : List ℕ) : Type 0 where
  size : ℕ
  first : size ≡ word_of 0 octets
  all : length octets ≡ 4 + size + padding_length size

one-read : (octets : List ℕ) (limit : ℕ) (r : Result (List ℕ) XdrRefusal) → opaque_alone limit octets ≡ r → is_ok r ≡ true → IsOne octets
unfolding opaque_alone
one-read octets limit (Err refusal) e ok = absurd cc
one-read octets limit (Ok value) e ok =
    let b = bind_ok (opaque_at limit (whole octets)) _ value e in
    let t = opaque-at octets 0 limit (whole octets) b.0.0 b.0.1 refl b.1 in
    let c = bind_ok (end_at b.0.1) _ value b.2 in
    let done : length b.0.1.octets ≡ 0 = ap length (none-left b.0.1 c.0 c.1) in
    let all = t.all in
    record { size = t.size; first = t.size_is; all = omega (arith, done, all) }

pub read-apart : (octets : List ℕ) (limit : ℕ) → is_ok (opaque_alone limit octets) ≡ true → NoList octets
read-apart octets limit ok =
    let one = one-read octets limit (opaque_alone limit octets) refl ok in
    low-apart octets (λ long few. (let first = one.first in let all = one.all in omega (arith, few, first, all)))

pub read-header : (octets : List ℕ) (limit : ℕ) → is_ok (opaque_alone limit octets) ≡ true → NoHeader octets
read-header octets limit ok =
    let one = one-read octets limit (opaque_alone limit octets) refl ok in
    record { few = λ call version. short one.size (one.first ∙ call) one.all }
  where
    short : (n : ℕ) → n ≡ 0 → length octets ≡ 4 + n + padding_length n → length octets < 44
    short n e f = let g : length octets ≡ 4 + 0 + padding_length 0 = f ∙ ap (λ k. 4 + k + padding_length k) e in omega (arith, g)

pub ruleset apart = (few-apart, many-apart, word-apart, opaque-apart, tagged-apart, followed-apart, read-apart, read-header)
