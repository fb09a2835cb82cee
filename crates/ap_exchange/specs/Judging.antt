-- What an acceptor answers to a request, RFC 4120 section 3.2.3 and RFC 4121 section 4.1.1: the
-- first refusal in the order of the steps.
use Rattle.std.specs.Prelude.{ℕ, ℤ, negsuc, false, ◌^◌, ◌+◌, ◌/◌, ◌%◌, min, nat_eq, nat_le, pos}
use Rattle.std.specs.Prelude.{Bool, true, not, ◌==◌, ◌&&◌, if◌then◌else◌, List, [], ◌∷◌, length}
use Rattle.std.specs.Prelude.{take, drop, Option, Some, None, unwrap_or, Result, Ok, Err}
use lib.Pointwise.{pointwise}
use Rattle.sec_base.specs.Moment.{greatest_moment}
use Rattle.gss_base.specs.Name.{Name}
use Rattle.gss_base.specs.SameName.{same_name}
use Rattle.gss_base.specs.Bindings.{hash_of}
use Rattle.gss_base.specs.declared.mark.Mark.{Mark}
use Rattle.gss_base.specs.Mark.{mark_for}
use Rattle.krb_derive.specs.declared.key.Key.{Key}
use Rattle.krb_msgs.specs.declared.checksum.Checksum.{Checksum}
use Rattle.krb_msgs.specs.declared.authenticator.Authenticator.{Authenticator}
use Rattle.krb_msgs.specs.declared.enc_ticket_part.EncTicketPart.{EncTicketPart}
use Rattle.krb_files.specs.declared.keytab.Entry.{Entry}
use Rattle.ap_exchange.specs.declared.refusal.ApRefusal.{ApRefusal}
use Rattle.ap_exchange.specs.declared.refusal.ApRefusal.TheVariants as refusals
use Rattle.ap_exchange.specs.declared.judged.Judged.{Judged}
use Rattle.ap_exchange.specs.Steps.{◌>>=◌, due}
use Rattle.ap_exchange.specs.Keys.{subkey_in}
use Rattle.ap_exchange.specs.Request.{label_of, number_stated}
use Rattle.ap_exchange.specs.Exchange.{name_in_realm, exchange_of}

-- 300 seconds
abbrev pub skew : ℕ
skew = 300000000

-- the client that a ticket names, and the one that an authenticator names
abbrev pub client_granted : EncTicketPart → Name
client_granted part = name_in_realm part.crealm part.cname

-- the client that an authenticator names
abbrev pub client_said : Authenticator → Name
client_said said = name_in_realm said.crealm said.cname

-- the moment that an authenticator carries, with its microseconds
abbrev pub stamp_of : Authenticator → ℕ
stamp_of said = said.ctime + said.cusec

-- type 8003 (hexadecimal) of RFC 4121 section 4.1.1
abbrev pub is_checksum_type : ℤ → Bool
is_checksum_type (pos number) = number == 32771
is_checksum_type (negsuc number) = false

-- a checksum with 16 as the hash's length, in 32 bits with the least significant octet first, and
-- whole up to its flags; any flags and any octets behind them
abbrev pub is_checksum : Checksum → Bool
is_checksum sum = is_checksum_type sum.cksumtype && (nat_le 24 (length sum.checksum)
    && pointwise nat_eq (take 4 sum.checksum) (16 ∷ 0 ∷ 0 ∷ 0 ∷ []))

-- the hash of the initiator's bindings
abbrev pub hash_carried : Option Checksum → Result (List ℕ) ApRefusal
hash_carried None = Err refusals.ChecksumType
hash_carried (Some sum) =
    if is_checksum sum then Ok (take 16 (drop 4 sum.checksum)) else Err refusals.ChecksumType

-- an acceptor without bindings takes any hash
abbrev pub is_bound : Option (List ℕ) → List ℕ → Bool
is_bound None hash = true
is_bound (Some application) hash = pointwise nat_eq hash (hash_of (Some application))

-- no more than 300 seconds apart
abbrev pub is_near : ℕ → ℕ → Bool
is_near now stamp = nat_le stamp (now + skew) && nat_le now (stamp + skew)

-- INVALID, bit 7 of a ticket's flags, counted from the most significant
abbrev pub is_invalid : ℕ → Bool
is_invalid flags = flags / 2 ^ 24 % 2 == 1

-- when a ticket begins
abbrev pub start_of : EncTicketPart → ℕ
start_of part = unwrap_or part.starttime part.authtime

-- begun at most 300 seconds after now, and not INVALID
abbrev pub is_begun : ℕ → EncTicketPart → Bool
is_begun now part = nat_le (start_of part) (now + skew) && not (is_invalid part.flags)

-- ended at most 300 seconds before now, or not yet
abbrev pub is_lasting : ℕ → EncTicketPart → Bool
is_lasting now part = nat_le now (part.endtime + skew)

-- the end of a context: 300 seconds after the ticket's end
abbrev pub end_of : EncTicketPart → ℕ
end_of part = min (part.endtime + skew) greatest_moment

-- the moments of a request, in this order
unfoldable pub timely : ℕ → EncTicketPart → Authenticator → Result (Unit {0}) ApRefusal
timely now part said = do
  near ← due refusals.Skew (is_near now (stamp_of said))
  begun ← due refusals.NotYet (is_begun now part)
  due refusals.Expired (is_lasting now part)

-- what the authenticator says beside its moment: the subkey's type, the client's name, the checksum
-- and its hash
unfoldable pub hash_claimed : Option (List ℕ) → EncTicketPart → Authenticator
    → Result (List ℕ) ApRefusal
hash_claimed bindings part said = do
  subkey ← subkey_in said.subkey
  named ← due refusals.NameMatch (same_name (client_said said) (client_granted part))
  hash ← hash_carried said.cksum
  bound ← due refusals.Bindings (is_bound bindings hash)
  Ok hash

-- what is kept of a request that is taken
abbrev pub judged_as : Name → Key → EncTicketPart → Authenticator → List ℕ → Judged
judged_as own session part said hash = record {
  session = session;
  initiator = label_of (client_granted part);
  acceptor = label_of own;
  stamp = stamp_of said;
  hash = hash;
  ends = end_of part;
  first = number_stated said.seq_number;
}

-- what a request is judged as whose ticket and authenticator say this
unfoldable pub claim_judged : Name → ℕ → Option (List ℕ) → Key → EncTicketPart → Authenticator
    → Result Judged ApRefusal
claim_judged own now bindings session part said = do
  hash ← hash_claimed bindings part said
  moments ← timely now part said
  Ok (judged_as own session part said hash)

-- what the request in a token is judged as, by keytab, own name, moment and bindings, or the first
-- refusal
unfoldable pub judged : List Entry → Name → ℕ → Option (List ℕ) → List ℕ → Result Judged ApRefusal
judged keytab own now bindings token = do
  x ← exchange_of keytab own token
  claim_judged own now bindings x.session x.part x.said

-- the mark by which a repeat is known
abbrev pub judged_mark : Judged → Mark
judged_mark j = mark_for j.acceptor j.initiator j.stamp
