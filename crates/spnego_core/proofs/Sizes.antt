-- How many octets the tokens have at most.
use Rattle.std.proofs.Common.{◌≡◌, ℕ, ◌+◌, ◌*◌, ◌/◌, ◌≤◌, ◌&&◌, Bool, true, false, ltb, leb, if◌then◌else◌, refl, sym, arith, List, [], ◌∷◌, ◌++◌, length, take, drop, ℤ, pos, negsuc, Option, Some, None, Ok, Err}
use Rattle.std.proofs.lemmas.List.{length-append, length-take-le, length-take, length-drop}
use Rattle.std.proofs.lemmas.Bool.{leb-true}
use Rattle.gss_base.specs.declared.principal.NameRefusal.TheVariants.{PartCount, TooLong}
use Rattle.aes_cts.specs.Stealing.{cts_encrypted}
use Rattle.aes_cts.proofs.Restored.{length-cts_encrypted}
use Rattle.gss_base.specs.declared.mech.MechKind.TheVariants.{Kerberos}
use Rattle.gss_base.specs.Mech.{oid_of}
use Rattle.gss_base.specs.Name.{Name}
use Rattle.gss_base.specs.Bindings.{hash_of}
use Rattle.gss_base.specs.Principal.{is_mark, quoted, further, joined, text_form, is_count, is_found, name_unless_zero, zero_from, is_named}
use Rattle.der_core.specs.Header.{length_octets, tlv}
use Rattle.der_core.specs.Integer.{least, signed_octets, natural, int32}
use Rattle.der_numbers.specs.Number.{flipped}
use Rattle.der_core.specs.Time.{civil_of, digits, time}
use Rattle.der_core.specs.Values.{text, object_identifier, flags}
use Rattle.der_core.specs.Element.{octet_string}
use Rattle.der_core.specs.Fields.{many_spelling}
use Rattle.krb_derive.specs.declared.key.Etype.{Etype}
use Rattle.krb_derive.specs.declared.key.Etype.TheVariants as types
use Rattle.krb_derive.specs.declared.key.Key.{Key}
use Rattle.krb_derive.specs.declared.derivation.Part.TheVariants.{Encrypt, Integrity, Check}
use Rattle.krb_derive.specs.Key.{number_of_etype, type_of_key, key_octets}
use Rattle.krb_derive.specs.Derivation.{derived}
use Rattle.krb_derive.specs.Sealing.{tag_of, checksum_of, seal_of}
use Rattle.krb_derive.proofs.Opened.{length-tag_of}
use Rattle.krb_msgs.specs.declared.encryption_key.EncryptionKey.{EncryptionKey}
use Rattle.krb_msgs.specs.declared.checksum.Checksum.{Checksum}
use Rattle.krb_msgs.specs.EncryptionKey.{encryption_key}
use Rattle.krb_msgs.specs.EncryptedData.{encrypted_data}
use Rattle.krb_msgs.specs.Checksum.{checksum}
use Rattle.krb_msgs.specs.PrincipalName.{name_parts, principal_name}
use Rattle.krb_msgs.specs.Authenticator.{authenticator_element}
use Rattle.krb_msgs.specs.ApReq.{ap_req_element, ap_req}
use Rattle.krb_msgs.specs.EncApRepPart.{enc_ap_rep_part_element}
use Rattle.krb_msgs.specs.ApRep.{ap_rep_element, ap_rep}
use Rattle.krb_tokens.specs.declared.end.TokenEnd.{TokenEnd}
use Rattle.krb_tokens.specs.End.{sign_usage}
use Rattle.krb_tokens.specs.Mic.{mic_header, mic_of}
use Rattle.krb_files.specs.Granted.{Granted}
use Rattle.ap_exchange.specs.declared.judged.Judged.{Judged}
use Rattle.der_core.specs.Frame.{framed}
use Rattle.ap_exchange.specs.Tokens.{token_of}
use Rattle.ap_exchange.specs.Keys.{key_value, sealed_data}
use Rattle.ap_exchange.specs.Draws.{drawn_subkey, drawn_confounder}
use Rattle.ap_exchange.specs.Request.{seconds_of, micros_of, name_value, checksum_for, own_subkey, authenticator_octets, ap_req_of, request_token}
use Rattle.ap_exchange.specs.Answer.{acceptor_subkey, reply_octets, ap_rep_of, answer_token}

-- at most so many octets
pub record Within (octets : List ℕ) (n : ℕ) : Type 0 where
  pub most : length octets ≤ n

pub more : {octets : List ℕ} {m : ℕ} (n : ℕ) → m ≤ n → Within octets m → Within octets n
more n h w = record { most = omega (arith, w.most) }

pub none : Within [] 0
none = record { most = omega arith }

pub both : {xs ys : List ℕ} {m n : ℕ} → Within xs m → Within ys n → Within (xs ++ ys) (m + n)
both {xs} {ys} v w = record { most = omega (arith, length-append xs ys, v.most, w.most) }

first : (x : ℕ) {xs : List ℕ} {n : ℕ} → Within xs n → Within (x ∷ xs) (n + 1)
first x w = record { most = omega (arith, w.most) }

chosen : (b : Bool) {xs ys : List ℕ} {n : ℕ} → Within xs n → Within ys n → Within (if b then xs else ys) n
chosen true v w = v
chosen false v w = w

five : (xs : List ℕ) → length xs ≤ 5 → Within xs 5
five xs h = record { most = h }

length_within : (n : ℕ) → Within (length_octets n) 5
unfolding length_octets
length_within n =
    chosen (ltb n 128) (five _ (omega arith)) (chosen (ltb n 256) (five _ (omega arith)) (chosen (ltb n 65536) (five _ (omega arith)) (chosen (ltb n 16777216) (five _ (omega arith)) (five _ (omega arith)))))

pub element_within : (tag : ℕ) {content : List ℕ} {n : ℕ} → Within content n → Within (tlv tag content) (n + 6)
unfolding tlv
element_within tag {content} {n} w = record { most = omega (arith, length-append (length_octets (length content)) content, (length_within (length content)).most, w.most) }

least_within : (n : ℕ) → Within (least n) 5
unfolding least
least_within n =
    chosen (ltb n 128) (five _ (omega arith)) (chosen (ltb n 32768) (five _ (omega arith)) (chosen (ltb n 8388608) (five _ (omega arith)) (chosen (ltb n 2147483648) (five _ (omega arith)) (five _ (omega arith)))))

length-flipped : (octets : List ℕ) → length (flipped octets) ≡ length octets
length-flipped [] = refl
length-flipped (o ∷ os) = omega (arith, length-flipped os)

signed_within : (z : ℤ) → Within (signed_octets z) 5
signed_within (pos n) = least_within n
signed_within (negsuc n) = record { most = omega (arith, length-flipped (least n), (least_within n).most) }

natural_within : (low high n : ℕ) → Within ((natural low high).spell n) 11
unfolding natural
natural_within low high n = element_within 2 (least_within n)

int_within : (z : ℤ) → Within (int32.spell z) 11
unfolding int32
int_within z = element_within 2 (signed_within z)

time_within : (t : ℕ) → Within (time.spell t) 21
unfolding time
time_within t =
    let all : Within (digits (civil_of (t / 1000000)) ++ 90 ∷ []) 15 = record { most = omega (arith, length-append (digits (civil_of (t / 1000000))) (90 ∷ [])) } in
    element_within 0x18 all

pub string_within : (octets : List ℕ) {n : ℕ} → Within octets n → Within (octet_string.spell octets) (n + 6)
unfolding octet_string
string_within octets w = element_within 4 w

flags_within : (n : ℕ) → Within (flags.spell n) 11
unfolding flags
flags_within n = element_within 3 (five _ (omega arith))

-- ---- keys and sealed octets

key_within : (key : EncryptionKey) {n : ℕ} → Within key.keyvalue n → Within (encryption_key.spell key) (n + 35)
unfolding encryption_key
key_within key {n} w =
    more (n + 35) (omega arith) (element_within 0x30 (both (element_within 0xa0 (int_within key.keytype)) (both (element_within 0xa1 (string_within key.keyvalue w)) none)))

sum_within : (sum : Checksum) {n : ℕ} → Within sum.checksum n → Within (checksum.spell sum) (n + 35)
unfolding checksum
sum_within sum {n} w =
    more (n + 35) (omega arith) (element_within 0x30 (both (element_within 0xa0 (int_within sum.cksumtype)) (both (element_within 0xa1 (string_within sum.checksum w)) none)))

data_within : (key : Key) (cipher : List ℕ) (etype : ℤ) {n : ℕ} → Within cipher n → Within (encrypted_data.spell (record { etype = etype; kvno = None; cipher = cipher })) (n + 35)
unfolding encrypted_data
data_within key cipher etype {n} w =
    more (n + 35) (omega arith) (element_within 0x30 (both (element_within 0xa0 (int_within etype)) (both none (both (element_within 0xa2 (string_within cipher w)) none))))

seal_within : (key : Key) (usage : ℕ) (confounder octets : List ℕ) {n : ℕ} → length confounder ≡ 16 → Within octets n → Within (seal_of key usage confounder octets) (n + 28)
unfolding seal_of
seal_within key usage confounder octets {n} long w =
    let whole : List ℕ = confounder ++ octets in
    let size : length (confounder ++ octets) ≡ length confounder + length octets = length-append confounder octets in
    let cipher : length (cts_encrypted (key_octets (derived key usage Encrypt)) (confounder ++ octets)) ≡ length (confounder ++ octets) = length-cts_encrypted (key_octets (derived key usage Encrypt)) (confounder ++ octets) (omega arith) in
    record { most = omega (arith, length-append (cts_encrypted (key_octets (derived key usage Encrypt)) (confounder ++ octets)) (tag_of (derived key usage Integrity) (confounder ++ octets)), length-tag_of (derived key usage Integrity) (confounder ++ octets), cipher, size, w.most) }

confounder-length : (draws : List ℕ) → length draws ≡ 66 → length (drawn_confounder draws) ≡ 16
confounder-length draws long = length-take-le 16 (drop 32 draws) (omega (arith, length-drop 32 draws))

take_within : (n : ℕ) (octets : List ℕ) → Within (take n octets) n
take_within n octets = record { most = omega (arith, length-take n octets) }

subkey_within : (etype : Etype) (draws : List ℕ) → Within (key_octets (drawn_subkey etype draws)) 32
subkey_within types.Aes128 draws = more 32 (omega arith) (take_within 16 draws)
subkey_within types.Aes256 draws = take_within 32 draws

-- ---- names

marked : (b : Bool) (o : ℕ) (os out : List ℕ) → length os ≤ length out → length (o ∷ os) ≤ length (if b then 92 ∷ o ∷ out else o ∷ out)
marked true o os out h = omega arith
marked false o os out h = omega arith

length-quoted : (octets : List ℕ) → length octets ≤ length (quoted octets)
length-quoted [] = omega arith
length-quoted (o ∷ os) = marked (is_mark o) o os (quoted os) (length-quoted os)

-- the parts as they stand in a message, against the text form
texts_within : (parts : List (List ℕ)) → length (many_spelling text parts) ≤ length (further parts) + 6 * length parts
unfolding text
texts_within [] = omega arith
texts_within (part ∷ parts) =
    let own : Within part (length part) = record { most = omega arith } in
    let one : Within (tlv 0x1b part) (length part + 6) = element_within 0x1b own in
    omega (arith, length-append (tlv 0x1b part) (many_spelling text parts), one.most, length-append (quoted part) (further parts), length-quoted part, texts_within parts)

right_holds : (a b : Bool) → (a && b) ≡ true → b ≡ true
right_holds true b e = e
right_holds false b e = cc

form_within : (name : Name) → is_named name.realm name.parts ≡ true → (length (text_form name.realm name.parts) ≤ 255) × (length name.parts ≤ 8)
form_within name e = counted (is_count name.parts) refl e
  where
    within : (b : Bool) → b ≡ leb (length (text_form name.realm name.parts)) 255 → is_found (if b then Ok (record { realm = name.realm; parts = name.parts }) else Err TooLong) ≡ true → length (text_form name.realm name.parts) ≤ 255
    within true f g = leb-true (length (text_form name.realm name.parts)) 255 (sym f)
    within false f g = absurd (let h : false ≡ true = g in cc)

    zero : (z : Option ℕ) → is_found (name_unless_zero z name.realm name.parts) ≡ true → length (text_form name.realm name.parts) ≤ 255
    zero None g = within (leb (length (text_form name.realm name.parts)) 255) refl g
    zero (Some at) g = absurd (let h : false ≡ true = g in cc)

    counted : (c : Bool) → is_count name.parts ≡ c → is_found (if c then name_unless_zero (zero_from 0 (text_form name.realm name.parts)) name.realm name.parts else Err PartCount) ≡ true → (length (text_form name.realm name.parts) ≤ 255) × (length name.parts ≤ 8)
    counted true f g = (zero (zero_from 0 (text_form name.realm name.parts)) g, leb-true (length name.parts) 8 (right_holds (leb 1 (length name.parts)) (leb (length name.parts) 8) f))
    counted false f g = absurd (let h : false ≡ true = g in cc)

length-joined : (parts : List (List ℕ)) → length (further parts) ≤ length (joined parts) + 1
length-joined [] = omega arith
length-joined (part ∷ parts) = omega arith

name_within_message : (name : Name) → is_named name.realm name.parts ≡ true → Within (principal_name.spell (name_value name)) 339
unfolding principal_name name_parts
name_within_message name e =
    let f : (length (text_form name.realm name.parts) ≤ 255) × (length name.parts ≤ 8) = form_within name e in
    let size : length (text_form name.realm name.parts) ≡ length (joined name.parts) + length (64 ∷ quoted name.realm) = length-append (joined name.parts) (64 ∷ quoted name.realm) in
    let texts : Within (many_spelling text name.parts) 304 = record { most = omega (arith, texts_within name.parts, length-joined name.parts, f.0, f.1, size) } in
    more 339 (omega arith) (element_within 0x30 (both (element_within 0xa0 (int_within (pos 1))) (both (element_within 0xa1 (element_within 0x30 texts)) none)))

realm_within : (name : Name) → is_named name.realm name.parts ≡ true → Within name.realm 255
realm_within name e =
    let f : (length (text_form name.realm name.parts) ≤ 255) × (length name.parts ≤ 8) = form_within name e in
    record { most = omega (arith, f.0, length-append (joined name.parts) (64 ∷ quoted name.realm), length-quoted name.realm) }

text_within : (octets : List ℕ) {n : ℕ} → Within octets n → Within (text.spell octets) (n + 6)
unfolding text
text_within octets w = element_within 0x1b w

pub oid_within : (oid : List ℕ) {n : ℕ} → Within oid n → Within (object_identifier.spell oid) (n + 6)
unfolding object_identifier
oid_within oid w = element_within 6 w

-- ---- the request

authenticator_within : (credential : Granted) (stamp : ℕ) (draws : List ℕ) (bindings : Option (List ℕ)) → is_named credential.client.realm credential.client.parts ≡ true → length (hash_of bindings) ≡ 16 → Within (authenticator_octets credential stamp draws bindings) 860
unfolding authenticator_element
authenticator_within credential stamp draws bindings named long =
    let sum : Within (16 ∷ 0 ∷ 0 ∷ 0 ∷ (hash_of bindings ++ 50 ∷ 0 ∷ 0 ∷ 0 ∷ [])) 24 = record { most = omega (arith, length-append (hash_of bindings) (50 ∷ 0 ∷ 0 ∷ 0 ∷ []), long) } in
    more 860 (omega arith) (element_within 0x62 (element_within 0x30
    (both (element_within 0xa0 (natural_within 5 5 5))
    (both (element_within 0xa1 (text_within credential.client.realm (realm_within credential.client named)))
    (both (element_within 0xa2 (name_within_message credential.client named))
    (both (element_within 0xa3 (sum_within (checksum_for (hash_of bindings)) sum))
    (both (element_within 0xa4 (natural_within 0 999999 (micros_of stamp)))
    (both (element_within 0xa5 (time_within (seconds_of stamp)))
    (both (element_within 0xa6 (key_within (key_value (own_subkey credential draws)) (subkey_within (type_of_key credential.session) draws)))
    (both (element_within 0xa7 (natural_within 0 4294967295 0))
    (both none none)))))))))))

sealed_within : (key : Key) (usage : ℕ) (confounder octets : List ℕ) {n : ℕ} → length confounder ≡ 16 → Within octets n → Within (encrypted_data.spell (sealed_data key None usage confounder octets)) (n + 63)
sealed_within key usage confounder octets {n} long w =
    more (n + 63) (omega arith) (data_within key (seal_of key usage confounder octets) (pos (number_of_etype (type_of_key key))) (seal_within key usage confounder octets long w))

frame_within : (id : ℕ) (message : List ℕ) {n : ℕ} → Within message n → Within (token_of id message) (n + 23)
unfolding token_of framed
frame_within id message {n} w =
    more (n + 23) (omega arith) (element_within 0x60 (both (oid_within (oid_of Kerberos) nine) (first id (first 0 w))))
  where
    nine : Within (oid_of Kerberos) 9
    nine = record { most = omega arith }

pub request_within : (credential : Granted) (stamp : ℕ) (draws : List ℕ) (bindings : Option (List ℕ)) → length draws ≡ 66 → length credential.ticket ≤ 60000 → is_named credential.client.realm credential.client.parts ≡ true → length (hash_of bindings) ≡ 16 → Within (request_token credential stamp draws bindings) 61040
unfolding request_token ap_req_element
request_within credential stamp draws bindings drawn ticket named long =
    let granted : Within credential.ticket 60000 = record { most = ticket } in
    more 61040 (omega arith) (frame_within 1 (ap_req.spell (ap_req_of credential stamp draws bindings)) (element_within 0x6e (element_within 0x30
    (both (element_within 0xa0 (natural_within 5 5 5))
    (both (element_within 0xa1 (natural_within 14 14 14))
    (both (element_within 0xa2 (flags_within 0x20000000))
    (both (element_within 0xa3 granted)
    (both (element_within 0xa4 (sealed_within credential.session 11 (drawn_confounder draws) (authenticator_octets credential stamp draws bindings) (confounder-length draws drawn) (authenticator_within credential stamp draws bindings named long)))
    none))))))))

-- ---- the answer

part_within : (j : Judged) (draws : List ℕ) → Within (reply_octets j draws) 160
unfolding enc_ap_rep_part_element
part_within j draws =
    more 160 (omega arith) (element_within 0x7b (element_within 0x30
    (both (element_within 0xa0 (time_within (seconds_of j.stamp)))
    (both (element_within 0xa1 (natural_within 0 999999 (micros_of j.stamp)))
    (both (element_within 0xa2 (key_within (key_value (acceptor_subkey j draws)) (subkey_within (type_of_key j.session) draws)))
    (both (element_within 0xa3 (natural_within 0 4294967295 0))
    none))))))

pub answer_within : (j : Judged) (draws : List ℕ) → length draws ≡ 66 → Within (answer_token j draws) 400
unfolding answer_token ap_rep_element
answer_within j draws drawn =
    more 400 (omega arith) (frame_within 2 (ap_rep.spell (ap_rep_of j draws)) (element_within 0x6f (element_within 0x30
    (both (element_within 0xa0 (natural_within 5 5 5))
    (both (element_within 0xa1 (natural_within 15 15 15))
    (both (element_within 0xa2 (sealed_within j.session 12 (drawn_confounder draws) (reply_octets j draws) (confounder-length draws drawn) (part_within j draws)))
    none))))))

-- ---- MICs

pub mic_within : (end : TokenEnd) (number : ℕ) (octets : List ℕ) → Within (mic_of end number octets) 28
unfolding mic_of mic_header checksum_of
mic_within end number octets =
    record { most = omega (arith, length-append (mic_header end number) (tag_of (derived end.key (sign_usage end.side) Check) (octets ++ mic_header end number)), length-tag_of (derived end.key (sign_usage end.side) Check) (octets ++ mic_header end number)) }
