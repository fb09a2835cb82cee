-- Context tokens of Kerberos, RFC 4121 section 4.1: the frame of RFC 2743 section 3.1 with one of
-- Kerberos's two object identifiers, and in it two octets that tell what the token is, then the
-- message. What we write has Kerberos's own.
use Rattle.std.specs.Prelude.{ℕ, ◌-◌, Bool, false, ◌==◌, ◌&&◌, if◌then◌else◌, List, [], ◌∷◌, length}
use Rattle.std.specs.Prelude.{drop, Option, Some, None, Result, Ok, Err}
use Rattle.gss_base.specs.declared.mech.MechKind.{MechKind}
use Rattle.gss_base.specs.declared.mech.MechKind.TheVariants.{Kerberos}
use Rattle.gss_base.specs.Mech.{oid_of, mech_of, is_kerberos}
use Rattle.der_core.specs.declared.refusal.DerWhy.TheVariants.{Value}
use Rattle.der_core.specs.Format.{all_of}
use Rattle.der_core.specs.Frame.{framed}
use Rattle.ap_exchange.specs.declared.refusal.Part.TheVariants.{Token}
use Rattle.ap_exchange.specs.declared.refusal.ApRefusal.{ApRefusal}
use Rattle.ap_exchange.specs.declared.refusal.ApRefusal.TheVariants as refusals
use Rattle.ap_exchange.specs.Steps.{◌>>=◌, der_in}

-- the mechanism, where there is one, is Kerberos
abbrev pub is_kerberos_kind : Option MechKind → Bool
is_kerberos_kind None = false
is_kerberos_kind (Some kind) = is_kerberos kind

-- whether an object identifier's content names Kerberos, under either of its names
abbrev pub names_kerberos : List ℕ → Bool
names_kerberos content = is_kerberos_kind (mech_of content)

-- what stands in a token's frame; another mechanism's identifier is refused at its content, which
-- stands right before
unfoldable pub inner_of : List ℕ → Result (List ℕ) ApRefusal
inner_of token = do
  frame ← der_in Token (framed.read (all_of token))
  if names_kerberos frame.0 then Ok frame.1
      else Err (refusals.Der Token (length token - length frame.1 - length frame.0) Value)

-- the first of the two octets that tell what a token is; the second is 00
abbrev pub ap_req_id : ℕ
ap_req_id = 1

-- the same of a reply
abbrev pub ap_rep_id : ℕ
ap_rep_id = 2

-- the same of an error
abbrev pub error_id : ℕ
error_id = 3

-- whether what stands in a frame is of this kind
abbrev pub is_kind : ℕ → List ℕ → Bool
is_kind id [] = false
is_kind id (a ∷ []) = false
is_kind id (a ∷ b ∷ message) = (a == id) && (b == 0)

-- the message behind the two octets
abbrev pub message_of : List ℕ → List ℕ
message_of inner = drop 2 inner

-- the token of a message
unfoldable pub token_of : ℕ → List ℕ → List ℕ
token_of id message = framed.spell (oid_of Kerberos, id ∷ 0 ∷ message)
