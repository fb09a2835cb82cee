-- Classes of octets, RFC 5802 section 7.
use Rattle.std.specs.Prelude.{ℕ, ◌+◌, ◌-◌, Bool, not, ◌==◌, ◌&&◌, ◌||◌, nat_le, Option, Some, None}
use Rattle.std.specs.Prelude.{if◌then◌else◌}

-- an octet of a range, both ends included
abbrev pub is_between : ℕ → ℕ → ℕ → Bool
is_between low high octet = nat_le low octet && nat_le octet high

-- printable ASCII
abbrev pub is_printable : ℕ → Bool
is_printable octet = is_between 0x20 0x7e octet

-- an octet of a value: printable, no comma
abbrev pub is_value : ℕ → Bool
is_value octet = is_printable octet && not (octet == 44)

-- an octet of a nonce: printable, no comma and no space
abbrev pub is_nonce : ℕ → Bool
is_nonce octet = is_value octet && not (octet == 32)

-- an octet of a name in a verifier file: printable, no colon
abbrev pub is_line_name : ℕ → Bool
is_line_name octet = is_printable octet && not (octet == 58)

-- a decimal digit
abbrev pub is_digit : ℕ → Bool
is_digit octet = is_between 48 57 octet

-- the letters of the named parts: c, e, i, m, n, p, r, s, v
abbrev pub is_named : ℕ → Bool
is_named octet =
    (octet == 99) || (octet == 101) || (octet == 105) || (octet == 109) || (octet == 110)
    || (octet == 112) || (octet == 114) || (octet == 115) || (octet == 118)

-- a letter that a further part may have
abbrev pub is_free : ℕ → Bool
is_free octet = (is_between 97 122 octet || is_between 65 90 octet) && not (is_named octet)

-- the six bits that a sign of base64 stands for, RFC 4648 section 4
unfoldable pub sextet_of : ℕ → Option ℕ
sextet_of octet =
    if is_between 65 90 octet then Some (octet - 65)
    else if is_between 97 122 octet then Some (octet - 97 + 26)
    else if is_between 48 57 octet then Some (octet - 48 + 52)
    else if octet == 43 then Some 62
    else if octet == 47 then Some 63
    else None
