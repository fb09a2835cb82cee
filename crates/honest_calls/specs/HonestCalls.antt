-- What an honest call is answered, whatever lease shows its context.
use Rattle.aes_cts.specs.Cipher.{IsOctets}
use Rattle.krb_derive.specs.declared.key.Key.{Key}
use Rattle.krb_derive.specs.Key.{key_octets}
use Rattle.accept_book.specs.declared.book_answer.Lease.{Lease}
use Rattle.accept_book.specs.Honest.{HonestLaw}

-- each octet of the key is below 256, as the octets of each key that a program has are
abbrev pub HasOctets : Key → Type 0
HasOctets key = IsOctets (key_octets key)

-- an honest call is answered as it is due, by each lease
abbrev pub HonestCallsLaw : Type 0
HonestCallsLaw = (lease : Lease) → HasOctets lease.outcome.key → HonestLaw lease
