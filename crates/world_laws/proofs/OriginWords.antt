-- The words of a call's header, and of a body's octets.
use Rattle.std.proofs.Common.{◌≡◌, ℕ, ◌+◌, ◌<◌, ◌≤◌, ◌^◌, lit<, List, ◌++◌, length, drop, refl, arith}
use Rattle.std.proofs.lemmas.List.{length-append}
use Rattle.std.proofs.lemmas.Nat.{from_be_bytes-to_be_bytes_4}
use Rattle.rpc_msgs.specs.Words.{word, opaque}
use Rattle.gss_client.specs.Calling.{header_of}
use Rattle.gss_client.specs.Session.{SessionState}
use Rattle.told_apart.proofs.Places.{word_of}

-- ---- the words of a caller's header

pub header-kind : (s : SessionState) (proc service p : ℕ) → word_of 4 (header_of s proc service p) ≡ 0
unfolding header_of word opaque
header-kind s proc service p = from_be_bytes-to_be_bytes_4 0 (lit< tt)

pub header-version : (s : SessionState) (proc service p : ℕ) → word_of 8 (header_of s proc service p) ≡ 2
unfolding header_of word opaque
header-version s proc service p = from_be_bytes-to_be_bytes_4 2 (lit< tt)

pub header-procedure : (s : SessionState) (proc service p : ℕ) → p < 2 ^ 32 → word_of 20 (header_of s proc service p) ≡ p
unfolding header_of word opaque
header-procedure s proc service p h = from_be_bytes-to_be_bytes_4 p h

pub header-proc : (s : SessionState) (proc service p : ℕ) → proc < 2 ^ 32 → word_of 36 (header_of s proc service p) ≡ proc
unfolding header_of word opaque
header-proc s proc service p h = from_be_bytes-to_be_bytes_4 proc h

pub header-seq : (s : SessionState) (proc service p : ℕ) → s.number < 2 ^ 32 → word_of 40 (header_of s proc service p) ≡ s.number
unfolding header_of word opaque
header-seq s proc service p h = from_be_bytes-to_be_bytes_4 s.number h

pub header-service : (s : SessionState) (proc service p : ℕ) → service < 2 ^ 32 → word_of 44 (header_of s proc service p) ≡ service
unfolding header_of word opaque
header-service s proc service p h = from_be_bytes-to_be_bytes_4 service h

long-front : (n : ℕ) (front back : List ℕ) → length front ≡ n → n ≤ length (front ++ back)
long-front n front back e = let all = length-append front back in omega (arith, e, all)

pub header-long : (s : SessionState) (proc service p : ℕ) → 48 ≤ length (header_of s proc service p)
unfolding header_of word opaque
header-long s proc service p = omega arith

-- ---- a body's octets

pub number-first : (n : ℕ) (args : List ℕ) → n < 2 ^ 32 → word_of 0 (word n ++ args) ≡ n
unfolding word
number-first n args h = from_be_bytes-to_be_bytes_4 n h

pub args-behind : (n : ℕ) (args : List ℕ) → drop 4 (word n ++ args) ≡ args
unfolding word
args-behind n args = refl
