-- The ticket of a drill is short.
use Rattle.std.proofs.Common.{◌≡◌, ℕ, ◌+◌, ◌≤◌, lit≤, Bool, true, false, refl, arith, List, [], ◌∷◌, ◌++◌, length, Result, Ok, Some, ◌/◌, ◌%◌, nat_lt}
use Rattle.std.specs.Prelude.{if◌then◌else◌, pos}
use Rattle.std.proofs.lemmas.Bool.{le-leb}
use Rattle.std.proofs.lemmas.List.{length-append}
use Rattle.der_core.specs.Header.{tlv, length_octets}
use Rattle.der_core.specs.Element.{octet_string, explicit}
use Rattle.der_core.specs.Integer.{int32, uint32, natural, least}
use Rattle.der_core.specs.Time.{time}
use Rattle.der_core.specs.Values.{text, flags}
use Rattle.krb_derive.specs.Sealing.{seal_of}
use Rattle.krb_files.specs.Granted.{Granted}
use Rattle.krb_msgs.specs.Constant.{constant}
use Rattle.krb_msgs.specs.PrincipalName.{principal_name, name_parts, name_in}
use Rattle.krb_msgs.specs.EncryptedData.{encrypted_data}
use Rattle.krb_msgs.specs.EncryptionKey.{encryption_key}
use Rattle.krb_msgs.specs.TransitedEncoding.{transited_encoding}
use Rattle.krb_msgs.specs.EncTicketPart.{enc_ticket_part, enc_ticket_part_element}
use Rattle.krb_msgs.specs.declared.enc_ticket_part.EncTicketPart.{EncTicketPart}
use Rattle.krb_msgs.specs.Ticket.{ticket, ticket_element}
use Rattle.krb_tokens.proofs.Unwrapping.{length-seal_of}
use Rattle.ap_exchange.specs.Draws.{drawn_confounder}
use Rattle.ap_exchange.specs.Keys.{ticket_usage}
use Rattle.ap_exchange.specs.Request.{name_value}
use Rattle.ap_exchange.specs.SealedTicket.{sealed_ticket}
use Rattle.files_command.specs.Making.{ticket_for, credential_for, ticket_part, whole_second}
use Rattle.drill_plan.specs.Setting.{client_name, server_name, server_key, ticket_draws, drill_ticket}

few-if : (b : Bool) (x y : List ℕ) (n : ℕ) → length x ≤ n → length y ≤ n → length (if b then x else y) ≤ n
few-if true x y n f g = f
few-if false x y n f g = g

few-length : (n : ℕ) → length (length_octets n) ≤ 5
unfolding length_octets
few-length n =
    let fifth : List ℕ = 132 ∷ (n / 16777216) ∷ (n / 65536 % 256) ∷ (n / 256 % 256) ∷ (n % 256) ∷ [] in
    let fourth : List ℕ = 131 ∷ (n / 65536) ∷ (n / 256 % 256) ∷ (n % 256) ∷ [] in
    let third : List ℕ = 130 ∷ (n / 256) ∷ (n % 256) ∷ [] in
    let second : List ℕ = 129 ∷ n ∷ [] in
    let from_fourth : List ℕ = if nat_lt n 16777216 then fourth else fifth in
    let from_third : List ℕ = if nat_lt n 65536 then third else from_fourth in
    let from_second : List ℕ = if nat_lt n 256 then second else from_third in
    few-if (nat_lt n 128) (n ∷ []) from_second 5 (lit≤ tt)
    (few-if (nat_lt n 256) second from_third 5 (lit≤ tt)
    (few-if (nat_lt n 65536) third from_fourth 5 (lit≤ tt)
    (few-if (nat_lt n 16777216) fourth fifth 5 (lit≤ tt) (lit≤ tt))))

in-tlv : (tag : ℕ) (content : List ℕ) (n : ℕ) → length content ≤ n → length (tlv tag content) ≤ n + 6
unfolding tlv
in-tlv tag content n few = omega (arith, few, few-length (length content), length-append (length_octets (length content)) content)

in-append : (xs ys : List ℕ) (m n : ℕ) → length xs ≤ m → length ys ≤ n → length (xs ++ ys) ≤ m + n
in-append xs ys m n few less = omega (arith, few, less, length-append xs ys)

none-few : length {A = ℕ} [] ≤ 0
none-few = lit≤ tt

version-few : length ((explicit 0xa0 (constant 5)).spell tt) ≤ 100
unfolding tlv length_octets natural least
version-few = lit≤ tt

realm-few : length ((explicit 0xa1 text).spell server_name.realm) ≤ 100
unfolding tlv length_octets text
realm-few = lit≤ tt

name-few : length ((explicit 0xa2 (name_in server_name.realm)).spell (name_value server_name)) ≤ 100
unfolding tlv length_octets text principal_name name_parts int32 least
name-few = lit≤ tt

etype-few : length ((explicit 0xa0 int32).spell (pos 17)) ≤ 100
unfolding tlv length_octets int32 least
etype-few = lit≤ tt

kvno-few : length ((explicit 0xa1 uint32).spell 1) ≤ 100
unfolding tlv length_octets natural least
kvno-few = lit≤ tt

le-step : (a m n : ℕ) → a ≤ m → m ≤ n → a ≤ n
le-step a m n few less = omega (arith, few, less)

-- a ticket whose cipher has so many octets
ticket-few : (cipher : List ℕ) (n : ℕ) → length cipher ≤ n → length (ticket.spell (record { realm = server_name.realm; sname = name_value server_name; enc_part = record { etype = pos 17; kvno = Some 1; cipher = cipher } })) ≤ n + 1000
unfolding ticket_element encrypted_data octet_string
ticket-few cipher n few =
    le-step _ _ _ (in-tlv 0x61 _ _ (in-tlv 0x30 _ _ (in-append _ _ _ _ version-few (in-append _ _ _ _ realm-few (in-append _ _ _ _ name-few (in-append _ _ _ _
    (in-tlv 0xa3 _ _ (in-tlv 0x30 _ _ (in-append _ _ _ _ etype-few (in-append _ _ _ _ kvno-few (in-append _ _ _ _ (in-tlv 0xa2 _ _ (in-tlv 4 cipher n few)) none-few)))))
    none-few)))))) (omega arith)

-- what the ticket seals
abbrev pub drill_part : EncTicketPart
drill_part = ticket_part client_name drill_ticket.session (whole_second 1000000) (whole_second 1086400)

part-few : length (enc_ticket_part.spell drill_part) ≤ 2000
unfolding tlv length_octets enc_ticket_part_element text int32 least flags encryption_key octet_string principal_name name_parts transited_encoding time
part-few = lit≤ tt

conf-long : length (drawn_confounder ticket_draws) ≡ 16
conf-long = refl

abbrev pub drill_cipher : List ℕ
drill_cipher = seal_of server_key.key ticket_usage (drawn_confounder ticket_draws) (enc_ticket_part.spell drill_part)

cipher-few : length drill_cipher ≤ 2028
cipher-few = omega (arith, part-few, length-seal_of server_key.key ticket_usage (drawn_confounder ticket_draws) (enc_ticket_part.spell drill_part) conf-long)

pub spelled-few : length (ticket.spell (sealed_ticket server_key.key server_key.kvno server_name drill_part (drawn_confounder ticket_draws))) ≤ 3028
spelled-few = ticket-few drill_cipher 2028 cipher-few

drill-few : length drill_ticket.ticket ≤ 60000
unfolding ticket_for
drill-few = omega (arith, spelled-few)

pub credential-is : credential_for client_name server_key 1000000 1086400 ticket_draws ≡ Ok drill_ticket
unfolding credential_for
credential-is = rw (le-leb _ _ drill-few) refl

ok-same : {A E : Type 0} (x y : A) (r : Result A E) → r ≡ Ok x → r ≡ Ok y → x ≡ y
ok-same x y r e f = cc

pub granted-is : (granted : Granted) → credential_for client_name server_key 1000000 1086400 ticket_draws ≡ Ok granted → granted ≡ drill_ticket
granted-is granted e = ok-same granted drill_ticket _ e credential-is
