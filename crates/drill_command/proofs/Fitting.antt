-- The facts of a drill's two ends fit.
use Rattle.std.proofs.Common.{◌≡◌, ℕ, zero, suc, ◌+◌, ◌*◌, ◌/◌, ◌%◌, ◌^◌, ◌≤◌, ◌<◌, ◌&&◌, lit≤, Bool, true, false, refl, ap, arith, List, [], ◌∷◌, ◌++◌, length, take, drop, Some, None, Ok, is_ok, codes, nat_lt}
use Rattle.std.specs.Prelude.{pos}
use Rattle.std.specs.List.{AllByRecursion}
use Rattle.std.proofs.lemmas.Bool.{le-leb}
use Rattle.std.proofs.lemmas.Bool.Decides.{nat_tests}
use Rattle.std.proofs.lemmas.List.{length-append}
use Rattle.base64.specs.GeneralPurpose.{IsBytes}
use Rattle.gss_base.specs.declared.mech.MechKind.{MechKind}
use Rattle.gss_base.specs.declared.mech.MechKind.TheVariants as kinds
use Rattle.der_core.specs.Header.{tlv, length_octets}
use Rattle.der_core.specs.Format.{all_of}
use Rattle.der_core.specs.Element.{octet_string, explicit}
use Rattle.der_core.specs.Integer.{int32, natural, least, uint32}
use Rattle.der_core.specs.Time.{time}
use Rattle.der_core.specs.Values.{text, flags, is_text}
use Rattle.std.specs.Str.{is_utf8, chars}
use lib.Utf8.{encode}
use Rattle.krb_derive.specs.declared.key.Etype.TheVariants.{Aes128}
use Rattle.krb_msgs.specs.Constant.{constant}
use Rattle.krb_msgs.specs.PrincipalName.{principal_name, name_parts, name_in}
use Rattle.krb_msgs.specs.EncryptedData.{encrypted_data}
use Rattle.krb_msgs.specs.EncryptionKey.{encryption_key}
use Rattle.krb_msgs.specs.TransitedEncoding.{transited_encoding}
use Rattle.krb_msgs.specs.EncTicketPart.{enc_ticket_part, enc_ticket_part_element}
use Rattle.krb_msgs.specs.declared.ticket.Ticket.{Ticket}
use Rattle.krb_msgs.specs.Ticket.{ticket, ticket_element}
use Rattle.krb_msgs.proofs.MessageLaws.{ticket_law, enc_ticket_part_law}
use Rattle.ap_exchange.specs.Draws.{drawn_confounder}
use Rattle.ap_exchange.specs.Laws.{Fits}
use Rattle.ap_exchange.specs.Request.{name_value, request_of}
use Rattle.ap_exchange.specs.SealedTicket.{sealed_ticket}
use Rattle.scram_mech.specs.Initiator.{init_started}
use Rattle.scram_mech.specs.Judging.{judged}
use Rattle.scram_mech.specs.Formats.{pieces, pieces_of}
use Rattle.scram_mech.specs.Values.{value_at, progress}
use Rattle.files_command.specs.Making.{ticket_for}
use Rattle.gss_base.specs.declared.mech.KerberosName.TheVariants.{Standard}
use Rattle.spnego_core.specs.declared.setup.MechCred.TheVariants as creds
use Rattle.spnego_core.specs.Exchange.{Occasion, UserFits}
use Rattle.spnego_core.specs.InitMech.{init_begun}
use Rattle.spnego_core.specs.Initiating.{init_start}
use Rattle.spnego_core.proofs.ShortTexts.{nonce_length}
use Rattle.pair_laws.specs.Meeting.{CredMeets, Meets}
use Rattle.drill_plan.specs.Generator.{stepped, octets_from}
use Rattle.drill_plan.specs.Sessions.{moment_of, kind_of}
use Rattle.drill_plan.specs.Setting.{server_name, server_key, ticket_draws, drill_ticket, drill_keytab, drill_acceptor, drill_setup, user_name}
use Rattle.drill_command.specs.Fitting.{IsGiven, tokens_for, FitLaw}
use Rattle.drill_plan.specs.Setting.{CredOpens}
use Rattle.drill_plan.proofs.Ticket.{spelled-few, drill_part, drill_cipher}
use Rattle.drill_plan.proofs.Verifying.{drill_bytes}

-- ---- what is drawn

drop-bytes : (n : ℕ) (xs : List ℕ) → IsBytes xs → IsBytes (drop n xs)
drop-bytes zero xs b = b
drop-bytes (suc n) [] b = b
drop-bytes (suc n) (x ∷ xs) b = drop-bytes n xs (λ i. b (suc i))

pub take-bytes : (n : ℕ) (xs : List ℕ) → IsBytes xs → IsBytes (take n xs)
take-bytes zero xs b i = omega arith
take-bytes (suc n) [] b i = b i
take-bytes (suc n) (x ∷ xs) b zero = b zero
take-bytes (suc n) (x ∷ xs) b (suc i) = take-bytes n xs (λ j. b (suc j)) i

top-small : (y : ℕ) → (y % 2 ^ 64) / 2 ^ 56 < 256
top-small y = omega arith

pub length-drawn : (n x : ℕ) → length (octets_from n x) ≡ n
length-drawn zero x = refl
length-drawn (suc n) x = ap suc (length-drawn n (stepped x))

pub drawn-bytes : (n x : ℕ) → IsBytes (octets_from n x)
drawn-bytes zero x i = omega arith
drawn-bytes (suc n) x zero = top-small (x * 6364136223846793005 + 1442695040888963407)
drawn-bytes (suc n) x (suc i) = drawn-bytes n (stepped x) i

-- ---- the ticket has a spelling, and so has its part

record Sized (octets : List ℕ) (fits : Bool) : Type 0 where
  holds : length octets < 2 ^ 32 → fits ≡ true

both_hold : {a b : Bool} → a ≡ true → b ≡ true → (a && b) ≡ true
both_hold e f = rw (e, f) refl

below : (n m : ℕ) → n < m → nat_lt n m ≡ true
below n m h = grind (arith, nat_tests)

in_element : (tag : ℕ) (content : List ℕ) → length content ≤ length (tlv tag content)
unfolding tlv
in_element tag content = omega (arith, length-append (length_octets (length content)) content)

element_sized : (tag : ℕ) {content : List ℕ} {fits : Bool} → Sized content fits → Sized (tlv tag content) (fits && nat_lt (length content) (2 ^ 32))
element_sized tag {content} {fits} s = record {
  holds = λ h.
      let few : length content < 2 ^ 32 = omega (arith, h, in_element tag content) in
      both_hold (s.holds few) (below (length content) (2 ^ 32) few);
}

both_sized : {xs ys : List ℕ} {a b : Bool} → Sized xs a → Sized ys b → Sized (xs ++ ys) (a && b)
both_sized {xs} {ys} s t = record {
  holds = λ h. both_hold (s.holds (omega (arith, h, length-append xs ys))) (t.holds (omega (arith, h, length-append xs ys)));
}

any_sized : {octets : List ℕ} → Sized octets true
any_sized = record { holds = λ h. refl }

version-fits : (explicit 0xa0 (constant 5)).fits tt ≡ true
unfolding tlv length_octets natural least
version-fits = refl

realm-fits : (explicit 0xa1 text).fits server_name.realm ≡ true
unfolding tlv length_octets text is_text is_utf8 chars encode
realm-fits = refl

name-fits : (explicit 0xa2 (name_in server_name.realm)).fits (name_value server_name) ≡ true
unfolding tlv length_octets text principal_name name_parts int32 least is_text is_utf8 chars encode
name-fits = refl

etype-fits : (explicit 0xa0 int32).fits (pos 17) ≡ true
unfolding tlv length_octets int32 least
etype-fits = refl

kvno-fits : (explicit 0xa1 uint32).fits 1 ≡ true
unfolding tlv length_octets natural least
kvno-fits = refl

fixed : (octets : List ℕ) {fits : Bool} → fits ≡ true → Sized octets fits
fixed octets e = record { holds = λ h. e }

granted_by : List ℕ → Ticket
granted_by cipher = record { realm = server_name.realm; sname = name_value server_name; enc_part = record { etype = pos 17; kvno = Some 1; cipher = cipher } }

ticket-sized : (cipher : List ℕ) → Sized (ticket.spell (granted_by cipher)) (ticket.fits (granted_by cipher))
unfolding ticket_element encrypted_data octet_string granted_by
ticket-sized cipher =
    element_sized 0x61 (element_sized 0x30 (both_sized (fixed ((explicit 0xa0 (constant 5)).spell tt) version-fits) (both_sized (fixed ((explicit 0xa1 text).spell server_name.realm) realm-fits) (both_sized (fixed ((explicit 0xa2 (name_in server_name.realm)).spell (name_value server_name)) name-fits) (both_sized
    (element_sized 0xa3 (element_sized 0x30 (both_sized (fixed ((explicit 0xa0 int32).spell (pos 17)) etype-fits) (both_sized (fixed ((explicit 0xa1 uint32).spell 1) kvno-fits) (both_sized (element_sized 0xa2 (element_sized 4 (any_sized {octets = cipher}))) (any_sized {octets = []}))))))
    (any_sized {octets = []}))))))

part-fits : enc_ticket_part.fits drill_part ≡ true
unfolding tlv length_octets enc_ticket_part_element text int32 least flags encryption_key octet_string principal_name name_parts transited_encoding time is_text is_utf8 chars encode
part-fits = refl

-- ---- by Kerberos

ticket-read : ticket.read (all_of drill_ticket.ticket) ≡ Ok (sealed_ticket server_key.key server_key.kvno server_name drill_part (drawn_confounder ticket_draws))
unfolding ticket_for granted_by
ticket-read =
    let fits = (ticket-sized drill_cipher).holds (omega (arith, spelled-few)) in
    ticket_law.again (length drill_ticket.ticket) (sealed_ticket server_key.key server_key.kvno server_name drill_part (drawn_confounder ticket_draws)) fits

ticket-fits : (number : ℕ) → number < 86400 → CredOpens kinds.Kerberos → Fits drill_keytab server_name (moment_of number) None drill_ticket (moment_of number) None
ticket-fits number day opens = record {
  granted = sealed_ticket server_key.key server_key.kvno server_name drill_part (drawn_confounder ticket_draws);
  service = server_key.key;
  etype = Aes128;
  octets = enc_ticket_part.spell drill_part;
  part = drill_part;
  is_ticket = ticket-read;
  server = refl;
  credential_server = refl;
  type_is = refl;
  key = refl;
  opens = opens.opens;
  says = enc_ticket_part_law.again _ drill_part part-fits;
  session = refl;
  client = refl;
  near = both_hold (le-leb (moment_of number) (moment_of number + 300000000) (omega arith)) (le-leb (moment_of number) (moment_of number + 300000000) (omega arith));
  begun = both_hold (le-leb 1000000000000 (moment_of number + 300000000) (omega arith)) refl;
  lasting = le-leb (moment_of number) 1086700000000 (omega (arith, day));
  bound = refl;
}

tickets-meet : (number : ℕ) (draws : List ℕ) → number < 86400 → CredOpens kinds.Kerberos → (occasions : List Occasion) → AllByRecursion (IsGiven number) occasions
    → AllByRecursion (CredMeets drill_acceptor (drill_setup kinds.Kerberos (moment_of number) draws) (creds.Kerberos Standard drill_ticket)) occasions
tickets-meet number draws day opens [] given = tt
tickets-meet number draws day opens (occasion ∷ occasions) given =
    (rw given.0.now (ticket-fits number day opens), tickets-meet number draws day opens occasions given.1)

request-begins : (stamp : ℕ) (draws : List ℕ) → is_ok (init_start (drill_setup kinds.Kerberos stamp draws)) ≡ true
unfolding init_begun request_of
request-begins stamp draws = rw ticket-read refl

-- ---- by SCRAM

text-begins : (stamp : ℕ) (draws : List ℕ) → is_ok (init_start (drill_setup kinds.Scram stamp draws)) ≡ true
unfolding init_begun init_started judged pieces_of pieces value_at progress
text-begins stamp draws = refl

pub user-fits : (stamp : ℕ) (draws : List ℕ) (occasion : Occasion) → length draws ≡ 66 → IsBytes draws → length occasion.drawn ≡ 66 → IsBytes occasion.drawn
    → UserFits drill_acceptor (drill_setup kinds.Scram stamp draws) user_name user_name occasion
user-fits stamp draws occasion long bytes other others = record {
  salt = codes "drill";
  rounds = 4096;
  honest = record {
    named = refl;
    some = lit≤ tt;
    few = lit≤ tt;
    opened = refl;
    any = lit≤ tt;
    most = lit≤ tt;
    drawn = nonce_length draws long;
    draw_octets = take-bytes 18 (drop 48 draws) (drop-bytes 48 draws bytes);
    other_drawn = nonce_length occasion.drawn other;
    other_octets = take-bytes 18 (drop 48 occasion.drawn) (drop-bytes 48 occasion.drawn others);
    data_few = lit≤ tt;
    data_octets = λ i. omega arith;
    carries = refl;
    salted = lit≤ tt;
    salt_few = lit≤ tt;
    salt_octets = drill_bytes;
    ranged = refl;
    line = refl;
  };
  bound = refl;
}

users-meet : (number : ℕ) (draws : List ℕ) → length draws ≡ 66 → IsBytes draws → (occasions : List Occasion) → AllByRecursion (IsGiven number) occasions
    → AllByRecursion (CredMeets drill_acceptor (drill_setup kinds.Scram (moment_of number) draws) (creds.Scram user_name user_name)) occasions
users-meet number draws long bytes [] given = tt
users-meet number draws long bytes (occasion ∷ occasions) given =
    (user-fits (moment_of number) draws occasion long bytes given.0.drawn given.0.octets, users-meet number draws long bytes occasions given.1)

-- ---- by both

meets-by : (kind : MechKind) (number : ℕ) (draws : List ℕ) → length draws ≡ 66 → IsBytes draws → number < 86400 → CredOpens kind → (occasions : List Occasion) → length occasions ≡ tokens_for kind → AllByRecursion (IsGiven number) occasions
    → Meets drill_acceptor (drill_setup kind (moment_of number) draws) kind occasions
meets-by kinds.Kerberos number draws long bytes day opens occasions counted given = record {
  begins = request-begins (moment_of number) draws;
  chosen = refl;
  cred = creds.Kerberos Standard drill_ticket;
  is_cred = refl;
  counted = counted;
  facts = tickets-meet number draws day opens occasions given;
  bare = λ e. absurd (let f : true ≡ false = e in cc);
}
meets-by kinds.Scram number draws long bytes day opens occasions counted given = record {
  begins = text-begins (moment_of number) draws;
  chosen = refl;
  cred = creds.Scram user_name user_name;
  is_cred = refl;
  counted = counted;
  facts = users-meet number draws long bytes occasions given;
  bare = λ e. absurd (let f : true ≡ false = e in cc);
}

pub fit-law : (number seed : ℕ) → CredOpens (kind_of number) → FitLaw number (drill_setup (kind_of number) (moment_of number) (octets_from 66 seed))
fit-law number seed opens occasions day counted given =
    meets-by (kind_of number) number (octets_from 66 seed) (length-drawn 66 seed) (drawn-bytes 66 seed) day opens occasions counted given
