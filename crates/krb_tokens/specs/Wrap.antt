-- Wrap tokens, RFC 4121 section 4.2.6.2.
use Rattle.std.specs.Prelude.{ℕ, ◌+◌, ◌-◌, ◌*◌, ◌%◌, ◌==◌, nat_eq, nat_lt, not, Bool, true, false}
use Rattle.std.specs.Prelude.{List, ◌∷◌, ◌++◌, length, take, drop, slice_index, Result, Ok, Err}
use Rattle.std.specs.Prelude.{if◌then◌else◌}
use Rattle.std.specs.Int.{w16, w64, to_be_bytes}
use lib.Pointwise.{pointwise}
use Rattle.krb_derive.specs.declared.sealing.OpenRefusal.{OpenRefusal}
use Rattle.krb_derive.specs.Sealing.{checksum_of, seal_of, opened}
use Rattle.krb_tokens.specs.declared.end.TokenEnd.{TokenEnd}
use Rattle.krb_tokens.specs.declared.end.TokenRefusal.{TokenRefusal}
use Rattle.krb_tokens.specs.declared.end.TokenRefusal.TheVariants.{Length, Kind, Direction, Subkey}
use Rattle.krb_tokens.specs.declared.end.TokenRefusal.TheVariants.{Filler, BadChecksum, ExtraCount}
use Rattle.krb_tokens.specs.declared.end.TokenRefusal.TheVariants.{InnerHeader}
use Rattle.krb_tokens.specs.declared.wrap.Unwrapped.{Unwrapped}
use Rattle.krb_tokens.specs.End.{other_side, seal_usage, flags_of, is_from_other, is_sealed}
use Rattle.krb_tokens.specs.End.{has_subkey, is_other_kind}

-- octets 0 to 15, with the extra count EC and the right rotation count RRC
unfoldable pub wrap_header : TokenEnd → Bool → ℕ → ℕ → ℕ → List ℕ
wrap_header end sealed extra rotation number =
    5 ∷ 4 ∷ flags_of end sealed ∷ 255 ∷ to_be_bytes w16 extra ++ to_be_bytes w16 rotation
    ++ to_be_bytes w64 number

-- the body of a sealed token, as it is made here with no extra octets: the octets and the header
-- with RRC 0, sealed
unfoldable pub sealed_body : TokenEnd → ℕ → List ℕ → List ℕ → List ℕ
sealed_body end number confounder octets =
    seal_of end.key (seal_usage end.side) confounder (octets ++ wrap_header end true 0 0 number)

-- the body of one that isn't sealed: the octets, and the checksum over them and the header with EC
-- and RRC 0
unfoldable pub signed_body : TokenEnd → ℕ → List ℕ → List ℕ
signed_body end number octets =
    octets ++ checksum_of end.key (seal_usage end.side) (octets ++ wrap_header end false 0 0 number)

-- a Wrap token as it is made here: RRC is 0, and EC 0 if it is sealed, else the checksum's length
unfoldable pub wrap_of : TokenEnd → ℕ → Bool → List ℕ → List ℕ → List ℕ
wrap_of end number sealed confounder octets =
    if sealed then wrap_header end true 0 0 number ++ sealed_body end number confounder octets
    else wrap_header end false 12 0 number ++ signed_body end number octets

-- a body turned right by that count
abbrev pub turned_right : ℕ → List ℕ → List ℕ
turned_right count body =
    drop (length body - count % length body) body ++ take (length body - count % length body) body

-- a token whose body was turned right by that count, which its RRC then says, as RFC 4121 section
-- 4.2.5 lets any sender do
unfoldable pub rotated : ℕ → List ℕ → List ℕ
rotated rotation token = take 6 token ++ to_be_bytes w16 rotation ++ take 8 (drop 8 token)
    ++ turned_right rotation (drop 16 token)

-- ---- reading

-- two octets of a token as a number
abbrev pub word_of : List ℕ → ℕ → ℕ
word_of token at = 256 * slice_index token at + slice_index token (at + 1)

-- EC of a token
abbrev pub extra_count : List ℕ → ℕ
extra_count token = word_of token 4

-- the body turned left by the token's RRC, modulo its length
abbrev pub turned_back : List ℕ → List ℕ → List ℕ
turned_back token body =
    drop (word_of token 6 % length body) body ++ take (word_of token 6 % length body) body

-- what stands behind a token's header, turned back
abbrev pub body_of : List ℕ → List ℕ
body_of token = turned_back token (drop 16 token)

-- the header with RRC 0, and with EC and RRC 0
abbrev pub unturned_header : List ℕ → List ℕ
unturned_header token = take 6 token ++ 0 ∷ 0 ∷ take 8 (drop 8 token)

-- a token's header with EC and RRC 0, as the checksum of one that isn't sealed covers it
abbrev pub bare_header : List ℕ → List ℕ
bare_header token = take 4 token ++ 0 ∷ 0 ∷ 0 ∷ 0 ∷ take 8 (drop 8 token)

-- a token that isn't sealed
unfoldable pub unwrapped_signed : TokenEnd → List ℕ → Result Unwrapped TokenRefusal
unwrapped_signed end token =
    let body : List ℕ = body_of token in
    let count : ℕ = length body - 12 in
    if not (extra_count token == 12) then Err ExtraCount
    else if pointwise nat_eq (checksum_of end.key (seal_usage (other_side end.side))
    (take count body ++ bare_header token)) (drop count body)
    then Ok (record { sealed = false; content = take count body }) else Err BadChecksum

-- what stands behind the content: EC octets and the header with RRC 0
unfoldable pub unwrapped_plain : List ℕ → List ℕ → Result Unwrapped TokenRefusal
unwrapped_plain token plain =
    if nat_lt (length plain) (extra_count token + 16) then Err ExtraCount
    else if pointwise nat_eq (drop (length plain - 16) plain) (unturned_header token)
    then Ok (record { sealed = true; content = take (length plain - 16 - extra_count token) plain })
    else Err InnerHeader

-- a sealed token by what its body opened to; any refusal to open it is a bad checksum
abbrev pub unwrapped_opened : List ℕ → Result (List ℕ) OpenRefusal → Result Unwrapped TokenRefusal
unwrapped_opened token (Ok plain) = unwrapped_plain token plain
unwrapped_opened token (Err refusal) = Err BadChecksum

-- a sealed one
unfoldable pub unwrapped_sealed : TokenEnd → List ℕ → Result Unwrapped TokenRefusal
unwrapped_sealed end token =
    unwrapped_opened token (opened end.key (seal_usage (other_side end.side)) (body_of token))

-- what a token is for an end: the first cause that applies, in this order
unfoldable pub unwrapped : TokenEnd → List ℕ → Result Unwrapped TokenRefusal
unwrapped end token =
    let flags : ℕ = slice_index token 2 in
    if is_other_kind 5 token then Err Kind
    else if nat_lt (length token) (if is_sealed flags then 60 else 28) then Err Length
    else if not (is_from_other end flags) then Err Direction
    else if not (has_subkey end flags) then Err Subkey
    else if not (slice_index token 3 == 255) then Err Filler
    else if is_sealed flags then unwrapped_sealed end token else unwrapped_signed end token
