-- The tokens that an end could have made, RFC 4121 section 4.2: with any number and, beside the
-- flags that a receiver compares, any flags (section 4.2.2). A Wrap token's body may be turned by
-- any count (section 4.2.5), and a sealed one may have extra octets behind its content (section
-- 4.2.3).
use Rattle.std.specs.Prelude.{◌≡◌, ℕ, ◌/◌, ◌%◌, ◌^◌, ◌<◌, Bool, true, false, List, ◌∷◌, ◌++◌}
use Rattle.std.specs.Prelude.{length, if◌then◌else◌}
use Rattle.std.specs.Int.{w16, w64, to_be_bytes}
use Rattle.aes_cts.specs.Cipher.{IsOctets}
use Rattle.krb_derive.specs.Sealing.{checksum_of, seal_of}
use Rattle.krb_tokens.specs.declared.end.TokenEnd.{TokenEnd}
use Rattle.krb_tokens.specs.End.{seal_usage, sign_usage, sender_flag, is_sealed}
use Rattle.krb_tokens.specs.Wrap.{turned_right}

-- the flags of the sender and of the subkey are the end's
pub record HasFlags (end : TokenEnd) (flags : ℕ) : Type 0 where
  pub octet : flags < 256
  pub sender : flags % 2 ≡ sender_flag end.side
  pub subkey : flags / 4 % 2 ≡ (if end.subkey then 1 else 0)

-- octets 0 to 15 of a MIC token with these flags
unfoldable pub mic_header_with : ℕ → ℕ → List ℕ
mic_header_with flags number = 4 ∷ 4 ∷ flags ∷ 255 ∷ 255 ∷ 255 ∷ 255 ∷ 255 ∷ to_be_bytes w64 number

-- a MIC token of this end over these octets
pub record IsMicOf (end : TokenEnd) (octets token : List ℕ) : Type 0 where
  pub flags : ℕ
  pub number : ℕ
  pub flagged : HasFlags end flags
  pub small : number < 2 ^ 64
  pub spelled : token ≡ mic_header_with flags number
      ++ checksum_of end.key (sign_usage end.side) (octets ++ mic_header_with flags number)

-- octets 0 to 15 of a Wrap token with these flags
unfoldable pub wrap_header_with : ℕ → ℕ → ℕ → ℕ → List ℕ
wrap_header_with flags extra rotation number = 5 ∷ 4 ∷ flags ∷ 255 ∷ to_be_bytes w16 extra
    ++ to_be_bytes w16 rotation ++ to_be_bytes w64 number

-- a content sealed with a confounder, extra octets and this header behind it
pub record IsSealedBody (end : TokenEnd) (header : List ℕ) (extra : ℕ)
    (content body : List ℕ) : Type 0 where
  pub confounder : List ℕ
  pub filling : List ℕ
  pub octets : IsOctets (confounder ++ (content ++ filling))
  pub block : length confounder ≡ 16
  pub count : length filling ≡ extra
  pub sealed : body
      ≡ seal_of end.key (seal_usage end.side) confounder ((content ++ filling) ++ header)

-- a content and its checksum with this header, whose length is then the extra count
pub record IsSignedBody (end : TokenEnd) (header : List ℕ) (extra : ℕ)
    (content body : List ℕ) : Type 0 where
  pub count : extra ≡ 12
  pub signed : body ≡ content ++ checksum_of end.key (seal_usage end.side) (content ++ header)

-- the body before it is turned: the sealed header has RRC 0, the signed one EC and RRC 0 (section
-- 4.2.4)
abbrev pub IsBody : TokenEnd → Bool → ℕ → ℕ → ℕ → List ℕ → List ℕ → Type 0
IsBody end true flags extra number content body =
    IsSealedBody end (wrap_header_with flags extra 0 number) extra content body
IsBody end false flags extra number content body =
    IsSignedBody end (wrap_header_with flags 0 0 number) extra content body

-- a Wrap token of this end with that content
pub record IsWrapOf (end : TokenEnd) (sealed : Bool) (content token : List ℕ) : Type 0 where
  pub flags : ℕ
  pub extra : ℕ
  pub rotation : ℕ
  pub number : ℕ
  pub body : List ℕ
  pub flagged : HasFlags end flags
  pub sealing : is_sealed flags ≡ sealed
  pub few : extra < 2 ^ 16
  pub turns : rotation < 2 ^ 16
  pub small : number < 2 ^ 64
  pub made : IsBody end sealed flags extra number content body
  pub spelled : token ≡ wrap_header_with flags extra rotation number ++ turned_right rotation body
