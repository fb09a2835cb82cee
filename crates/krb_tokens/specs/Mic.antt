-- MIC tokens, RFC 4121 section 4.2.6.1.
use Rattle.std.specs.Prelude.{ℕ, ◌==◌, nat_eq, not, false, List, ◌∷◌, ◌++◌, length, take, drop}
use Rattle.std.specs.Prelude.{slice_index, Result, Ok, Err, if◌then◌else◌}
use Rattle.std.specs.Int.{w64, to_be_bytes}
use lib.Pointwise.{pointwise}
use Rattle.krb_derive.specs.Sealing.{checksum_of}
use Rattle.krb_tokens.specs.declared.end.TokenEnd.{TokenEnd}
use Rattle.krb_tokens.specs.declared.end.TokenRefusal.{TokenRefusal}
use Rattle.krb_tokens.specs.declared.end.TokenRefusal.TheVariants.{Length, Kind, Direction, Subkey}
use Rattle.krb_tokens.specs.declared.end.TokenRefusal.TheVariants.{Filler, BadChecksum}
use Rattle.krb_tokens.specs.End.{other_side, sign_usage, flags_of, is_from_other, has_subkey}
use Rattle.krb_tokens.specs.End.{is_other_kind, all_filler}

-- octets 0 to 15
unfoldable pub mic_header : TokenEnd → ℕ → List ℕ
mic_header end number =
    4 ∷ 4 ∷ flags_of end false ∷ 255 ∷ 255 ∷ 255 ∷ 255 ∷ 255 ∷ to_be_bytes w64 number

-- the header, and the checksum over the octets and the header
unfoldable pub mic_of : TokenEnd → ℕ → List ℕ → List ℕ
mic_of end number octets = mic_header end number
    ++ checksum_of end.key (sign_usage end.side) (octets ++ mic_header end number)

-- what a token is for an end, over these octets: the first cause that applies, in this order
unfoldable pub checked_mic : TokenEnd → List ℕ → List ℕ → Result (Unit {0}) TokenRefusal
checked_mic end token octets =
    if is_other_kind 4 token then Err Kind
    else if not (length token == 28) then Err Length
    else if not (is_from_other end (slice_index token 2)) then Err Direction
    else if not (has_subkey end (slice_index token 2)) then Err Subkey
    else if not (all_filler (take 5 (drop 3 token))) then Err Filler
    else if pointwise nat_eq (checksum_of end.key (sign_usage (other_side end.side))
    (octets ++ take 16 token)) (drop 16 token) then Ok tt
    else Err BadChecksum
