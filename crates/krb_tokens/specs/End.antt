-- What both tokens have in common, RFC 4121 section 4.2.
use Rattle.std.specs.Prelude.{ℕ, ◌+◌, ◌/◌, ◌%◌, ◌==◌, ◌&&◌, nat_le, not, Bool, List, length}
use Rattle.std.specs.Prelude.{slice_index, if◌then◌else◌}
use Rattle.std.specs.List.{list_all}
use Rattle.krb_tokens.specs.declared.end.Side.{Side}
use Rattle.krb_tokens.specs.declared.end.Side.TheVariants.{Initiator, Acceptor}
use Rattle.krb_tokens.specs.declared.end.TokenEnd.{TokenEnd}

-- the side that faces this one
abbrev pub other_side : Side → Side
other_side Initiator = Acceptor
other_side Acceptor = Initiator

-- the key usages of section 2
abbrev pub seal_usage : Side → ℕ
seal_usage Acceptor = 22
seal_usage Initiator = 24

-- the usage of a MIC token's checksum, by the side that makes it (section 2)
abbrev pub sign_usage : Side → ℕ
sign_usage Acceptor = 23
sign_usage Initiator = 25

-- the end at the other side, which reads what this one makes
abbrev pub facing : TokenEnd → TokenEnd
facing end = record { key = end.key; side = other_side end.side; subkey = end.subkey }

-- the flags of section 4.2.2: 1 the acceptor sent it, 2 it is sealed, 4 the acceptor's subkey
-- protects it
abbrev pub sender_flag : Side → ℕ
sender_flag Initiator = 0
sender_flag Acceptor = 1

-- the flags of a token that this end makes, sealed or not
abbrev pub flags_of : TokenEnd → Bool → ℕ
flags_of end sealed =
    sender_flag end.side + (if sealed then 2 else 0) + (if end.subkey then 4 else 0)

-- the other side sent it
abbrev pub is_from_other : TokenEnd → ℕ → Bool
is_from_other end flags = flags % 2 == sender_flag (other_side end.side)

-- the flags say that it is sealed
abbrev pub is_sealed : ℕ → Bool
is_sealed flags = flags / 2 % 2 == 1

-- the subkey's flag is the end's
abbrev pub has_subkey : TokenEnd → ℕ → Bool
has_subkey end flags = flags / 4 % 2 == (if end.subkey then 1 else 0)

-- two octets or more, of which the first two name another kind of token
abbrev pub is_other_kind : ℕ → List ℕ → Bool
is_other_kind kind token =
    nat_le 2 (length token) && not (slice_index token 0 == kind && slice_index token 1 == 4)

-- each is FF
abbrev pub all_filler : List ℕ → Bool
all_filler octets = list_all (λ octet. octet == 255) octets
