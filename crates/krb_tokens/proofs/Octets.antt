-- Octets of tokens are below 256.
use Rattle.std.proofs.Common.{ℕ, zero, suc, ◌^◌, ◌/◌, ◌<◌, Bool, true, false, arith, List, [], ◌∷◌, ◌++◌}
use Rattle.std.specs.Int.{w16, w64, byte_at, bytes_high_first, to_be_bytes}
use Rattle.std.proofs.lemmas.Nat.{mod_below}
use Rattle.aes_cts.specs.Cipher.{IsOctets}
use Rattle.aes_cts.proofs.Restored.{append-IsOctets}
use Rattle.krb_derive.specs.declared.key.Key.{Key}
use Rattle.krb_tokens.specs.declared.end.Side.{Side}
use Rattle.krb_tokens.specs.declared.end.Side.TheVariants.{Initiator, Acceptor}
use Rattle.krb_tokens.specs.declared.end.TokenEnd.{TokenEnd}
use Rattle.krb_tokens.specs.End.{flags_of}
use Rattle.krb_tokens.specs.Wrap.{wrap_header}
use Rattle.krb_tokens.specs.Tokens.{wrap_header_with}

pub octets_nil : IsOctets []
octets_nil i = omega arith

pub octets_cons : (x : ℕ) (xs : List ℕ) → x < 256 → IsOctets xs → IsOctets (x ∷ xs)
octets_cons x xs h hs zero = h
octets_cons x xs h hs (suc i) = hs i

byte_at-small : (k n : ℕ) → byte_at k n < 256
byte_at-small zero n = mod_below n 256 (omega arith)
byte_at-small (suc k) n = mod_below (n / 256 ^ suc k) 256 (omega arith)

bytes_high_first-IsOctets : (k n : ℕ) → IsOctets (bytes_high_first k n)
bytes_high_first-IsOctets zero n = octets_nil
bytes_high_first-IsOctets (suc k) n =
    octets_cons (byte_at k n) (bytes_high_first k n) (byte_at-small k n) (bytes_high_first-IsOctets k n)

pub flags_of-small : (key : Key) (side : Side) (subkey sealed : Bool) → flags_of (record { key = key; side = side; subkey = subkey }) sealed < 256
flags_of-small key Initiator true true = omega arith
flags_of-small key Initiator true false = omega arith
flags_of-small key Initiator false true = omega arith
flags_of-small key Initiator false false = omega arith
flags_of-small key Acceptor true true = omega arith
flags_of-small key Acceptor true false = omega arith
flags_of-small key Acceptor false true = omega arith
flags_of-small key Acceptor false false = omega arith

pub wrap_header_with-IsOctets : (flags extra rotation number : ℕ) → flags < 256 → IsOctets (wrap_header_with flags extra rotation number)
unfolding wrap_header_with
wrap_header_with-IsOctets flags extra rotation number h =
    let counts : List ℕ = to_be_bytes w16 extra ++ to_be_bytes w16 rotation ++ to_be_bytes w64 number in
    let small : IsOctets counts =
    append-IsOctets (to_be_bytes w16 extra ++ to_be_bytes w16 rotation) (to_be_bytes w64 number)
    (append-IsOctets (to_be_bytes w16 extra) (to_be_bytes w16 rotation) (bytes_high_first-IsOctets 2 extra) (bytes_high_first-IsOctets 2 rotation))
    (bytes_high_first-IsOctets 8 number) in
    octets_cons 5 (4 ∷ flags ∷ 255 ∷ counts) (omega arith) (octets_cons 4 (flags ∷ 255 ∷ counts) (omega arith)
    (octets_cons flags (255 ∷ counts) h (octets_cons 255 counts (omega arith) small)))

pub wrap_header-IsOctets : (end : TokenEnd) (sealed : Bool) (extra rotation number : ℕ) → IsOctets (wrap_header end sealed extra rotation number)
unfolding wrap_header wrap_header_with
wrap_header-IsOctets end sealed extra rotation number =
    wrap_header_with-IsOctets (flags_of end sealed) extra rotation number (flags_of-small end.key end.side end.subkey sealed)
