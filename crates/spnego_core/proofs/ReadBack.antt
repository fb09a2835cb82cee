-- What requests and their answers say is read back.
use Rattle.std.proofs.Common.{◌≡◌, ℕ, ◌+◌, ◌*◌, ◌/◌, ◌%◌, ◌^◌, ◌<◌, ◌≤◌, ◌==◌, Bool, true, false, leb, ltb, if◌then◌else◌, refl, sym, ap, ◌∙◌, subst, arith, List, [], ◌∷◌, ◌++◌, length, take, pos, Option, Some, None, Result, Ok, eq-eqb}
use Rattle.std.proofs.Math.Bool.{and-false}
use Rattle.std.proofs.lemmas.Bool.{ltb-true, le-leb, lt-ltb, and_from}
use Rattle.std.proofs.lemmas.List.{length-take, length-append}
use Rattle.std.proofs.Math.Seq.{take-append_seam}
use Rattle.gss_base.specs.Bindings.{bindings_octets, hash_of}
use Rattle.md5.proofs.StandardFacts.{length-md5}
use Rattle.der_core.specs.Format.{Format, Content, all_of}
use Rattle.der_core.specs.Element.{element, whole, explicit, octet_string, plain, any_octets}
use Rattle.der_core.specs.Fields.{done, with_field, with_optional, seen}
use Rattle.der_core.specs.Integer.{least, int32, int32_content, natural, natural_content, uint32}
use Rattle.der_core.specs.Time.{time, time_content, civil_of, digits}
use Rattle.krb_derive.specs.declared.key.Etype.{Etype}
use Rattle.krb_derive.specs.declared.key.Etype.TheVariants as types
use Rattle.krb_derive.specs.declared.key.Key.{Key}
use Rattle.krb_derive.specs.declared.key.Key.TheVariants as keys
use Rattle.krb_derive.specs.Key.{number_of_etype, type_of_key, key_octets}
use Rattle.krb_msgs.specs.declared.authenticator.Authenticator.{Authenticator}
use Rattle.krb_msgs.specs.declared.enc_ap_rep_part.EncApRepPart.{EncApRepPart}
use Rattle.krb_msgs.specs.declared.encryption_key.EncryptionKey.{EncryptionKey}
use Rattle.krb_msgs.specs.EncryptionKey.{encryption_key_fields, encryption_key}
use Rattle.krb_msgs.specs.Authenticator.{authenticator_element, authenticator}
use Rattle.krb_msgs.specs.EncApRepPart.{enc_ap_rep_part_fields, enc_ap_rep_part_element, enc_ap_rep_part}
use Rattle.krb_msgs.proofs.MessageLaws.{authenticator_law, enc_ap_rep_part_law}
use Rattle.krb_files.specs.Granted.{Granted}
use Rattle.ap_exchange.specs.declared.refusal.ApRefusal.{ApRefusal}
use Rattle.ap_exchange.specs.declared.refusal.ApRefusal.TheVariants as refusals
use Rattle.ap_exchange.specs.declared.judged.Judged.{Judged}
use Rattle.ap_exchange.specs.Steps.{◌>>=◌, or_refuse}
use Rattle.ap_exchange.specs.Keys.{subkey_in, key_value}
use Rattle.ap_exchange.specs.Draws.{drawn_subkey}
use Rattle.ap_exchange.specs.Request.{seconds_of, micros_of, checksum_for, authenticator_of, authenticator_octets}
use Rattle.ap_exchange.specs.Judging.{client_said, stamp_of, hash_carried}
use Rattle.ap_exchange.specs.Answer.{acceptor_subkey, reply_part_with, reply_part_of, reply_octets}
use Rattle.spnego_core.proofs.Sizes.{Within, none, both, element_within}

-- ---- values of a format, with how many octets they have at most

record Fits {A : Type 0} (format : Format A) (v : A) (n : ℕ) : Type 0 where
  fits : format.fits v ≡ true
  within : Within (format.spell v) n

record FitsAll {A : Type 0} (content : Content A) (v : A) (n : ℕ) : Type 0 where
  fits : content.fits v ≡ true
  within : Within (content.spell v) n

element-fits : {A : Type 0} (t : ℕ) (content : Content A) (v : A) (n : ℕ) → n < 4294967296 → FitsAll content v n → Fits (element t content) v (n + 6)
element-fits t content v n few f = record {
  fits = and_from (content.fits v) _ f.fits (lt-ltb (length (content.spell v)) (2 ^ 32) (omega (arith, f.within.most)));
  within = element_within t f.within;
}

whole-fits : {A : Type 0} (format : Format A) (v : A) (n : ℕ) → Fits format v n → FitsAll (whole format) v n
whole-fits format v n f = record { fits = f.fits; within = f.within }

explicit-fits : {A : Type 0} (t : ℕ) (format : Format A) (v : A) (n : ℕ) → n < 4294967296 → Fits format v n → Fits (explicit t format) v (n + 6)
explicit-fits t format v n few f = element-fits t (whole format) v n few (whole-fits format v n f)

field-fits : {A B : Type 0} (format : Format A) (fields : Content B) (a : A) (b : B) (m n : ℕ) → Fits format a m → FitsAll fields b n → FitsAll (with_field format fields) (a, b) (m + n)
field-fits format fields a b m n f g = record { fits = and_from (format.fits a) (fields.fits b) f.fits g.fits; within = both f.within g.within }

given-fits : {A B : Type 0} (t : ℕ) (format : Format A) (fields : Content B) (a : A) (b : B) (m n : ℕ) → Fits format a m → FitsAll fields b n → FitsAll (with_optional t format fields) (Some a, b) (m + n)
given-fits t format fields a b m n f g = record { fits = and_from (format.fits a) (fields.fits b) f.fits g.fits; within = both f.within g.within }

done-fits : FitsAll done tt 0
done-fits = record { fits = refl; within = none }

-- ---- parts of an answer

chosen : (b : Bool) {xs ys : List ℕ} {n : ℕ} → Within xs n → Within ys n → Within (if b then xs else ys) n
chosen true v w = v
chosen false v w = w

five : (xs : List ℕ) → length xs ≤ 5 → Within xs 5
five xs h = record { most = h }

least-within : (n : ℕ) → Within (least n) 5
unfolding least
least-within n =
    chosen (ltb n 128) (five _ (omega arith)) (chosen (ltb n 32768) (five _ (omega arith)) (chosen (ltb n 8388608) (five _ (omega arith)) (chosen (ltb n 2147483648) (five _ (omega arith)) (five _ (omega arith)))))

time-fits : (t : ℕ) → t % 1000000 ≡ 0 → t < 253402300800 * 1000000 → Fits time t 21
unfolding time
time-fits t whole small =
    let spelled : Within (digits (civil_of (t / 1000000)) ++ 90 ∷ []) 15 = record { most = omega (arith, length-append (digits (civil_of (t / 1000000))) (90 ∷ [])) } in
    element-fits 0x18 time_content t 15 (omega arith) (record { fits = and_from (t % 1000000 == 0) (ltb t (253402300800 * 1000000)) (eq-eqb (t % 1000000) 0 whole) (lt-ltb t (253402300800 * 1000000) small); within = spelled })

small-natural : (high n : ℕ) → n ≤ high → Within ((natural_content 0 high).spell n) 5 → Fits (natural 0 high) n 11
unfolding natural
small-natural high n few w =
    element-fits 2 (natural_content 0 high) n 5 (omega arith) (record { fits = and_from (leb 0 n) (leb n high) (le-leb 0 n (omega arith)) (le-leb n high few); within = w })

number-fits : (etype : Etype) → Fits int32 (pos (number_of_etype etype)) 11
unfolding int32
number-fits types.Aes128 = element-fits 2 int32_content (pos 17) 5 (omega arith) (record { fits = refl; within = least-within 17 })
number-fits types.Aes256 = element-fits 2 int32_content (pos 18) 5 (omega arith) (record { fits = refl; within = least-within 18 })

string-fits : (octets : List ℕ) (n : ℕ) → n < 4294967296 → Within octets n → Fits octet_string octets (n + 6)
unfolding octet_string
string-fits octets n few w = element-fits 4 (plain any_octets) octets n few (record { fits = refl; within = w })

key-fits : (key : Key) → Within (key_octets key) 32 → Fits encryption_key (key_value key) 67
unfolding encryption_key
key-fits key w =
    let shape : FitsAll encryption_key_fields (pos (number_of_etype (type_of_key key)), (key_octets key, tt)) 61 =
    field-fits (explicit 0xa0 int32) (with_field (explicit 0xa1 octet_string) done) (pos (number_of_etype (type_of_key key))) (key_octets key, tt) 17 44
    (explicit-fits 0xa0 int32 (pos (number_of_etype (type_of_key key))) 11 (omega arith) (number-fits (type_of_key key)))
    (field-fits (explicit 0xa1 octet_string) done (key_octets key) tt 44 0 (explicit-fits 0xa1 octet_string (key_octets key) 38 (omega arith) (string-fits (key_octets key) 32 (omega arith) w)) done-fits) in
    element-fits 0x30 _ (key_value key) 61 (omega arith) (record { fits = shape.fits; within = shape.within })

part-shape : (seconds micros : ℕ) (key : Key) → seconds % 1000000 ≡ 0 → seconds < 253402300800 * 1000000 → micros ≤ 999999 → Within (key_octets key) 32
    → FitsAll enc_ap_rep_part_fields (seconds, (micros, (Some (key_value key), (Some 0, tt)))) 134
part-shape seconds micros key whole small few w =
    field-fits (explicit 0xa0 time) (with_field (explicit 0xa1 (natural 0 999999)) (with_optional 0xa2 (explicit 0xa2 encryption_key) (with_optional 0xa3 (explicit 0xa3 uint32) done))) seconds (micros, (Some (key_value key), (Some 0, tt))) 27 107
    (explicit-fits 0xa0 time seconds 21 (omega arith) (time-fits seconds whole small))
    (field-fits (explicit 0xa1 (natural 0 999999)) (with_optional 0xa2 (explicit 0xa2 encryption_key) (with_optional 0xa3 (explicit 0xa3 uint32) done)) micros (Some (key_value key), (Some 0, tt)) 17 90
    (explicit-fits 0xa1 (natural 0 999999) micros 11 (omega arith) (small-natural 999999 micros few (least-within micros)))
    (given-fits 0xa2 (explicit 0xa2 encryption_key) (with_optional 0xa3 (explicit 0xa3 uint32) done) (key_value key) (Some 0, tt) 73 17
    (explicit-fits 0xa2 encryption_key (key_value key) 67 (omega arith) (key-fits key w))
    (given-fits 0xa3 (explicit 0xa3 uint32) done 0 tt 17 0 (explicit-fits 0xa3 uint32 0 11 (omega arith) (small-natural 4294967295 0 (omega arith) (least-within 0))) done-fits)))

part-fits : (stamp : ℕ) (key : Key) → seconds_of stamp < 253402300800 * 1000000 → Within (key_octets key) 32 → enc_ap_rep_part.fits (reply_part_with stamp key) ≡ true
unfolding enc_ap_rep_part_element
part-fits stamp key small w =
    let shape : FitsAll enc_ap_rep_part_fields (seconds_of stamp, (micros_of stamp, (Some (key_value key), (Some 0, tt)))) 134 = part-shape (seconds_of stamp) (micros_of stamp) key (omega arith) small (omega arith) w in
    (explicit-fits 0x7b (element 0x30 (seen
    (λ (v : ℕ × (ℕ × ((Option EncryptionKey) × ((Option ℕ) × Unit {0})))). record { ctime = v.0; cusec = v.1.0; subkey = v.1.1.0; seq_number = v.1.1.1.0 })
    (λ (p : EncApRepPart). (p.ctime, (p.cusec, (p.subkey, (p.seq_number, tt)))))
    enc_ap_rep_part_fields)) (reply_part_with stamp key) 140 (omega arith)
    (element-fits 0x30 _ (reply_part_with stamp key) 134 (omega arith) (record { fits = shape.fits; within = shape.within }))).fits

-- ---- what was spelled is read back

ok-is : {A E : Type 0} (x y : A) (r : Result A E) → r ≡ Ok x → r ≡ Ok y → x ≡ y
ok-is x y r e f = cc

authenticator-back : (octets : List ℕ) (v said : Authenticator) → authenticator.fits v ≡ true → octets ≡ authenticator.spell v → authenticator.read (all_of octets) ≡ Ok said → said ≡ v
authenticator-back octets v said fits same reads =
    ok-is said v (authenticator.read (all_of octets)) reads (subst (λ (os : List ℕ). authenticator.read (all_of os) ≡ Ok v) (sym same) (authenticator_law.again (length (authenticator.spell v)) v fits))

part-back : (octets : List ℕ) (v said : EncApRepPart) → enc_ap_rep_part.fits v ≡ true → octets ≡ enc_ap_rep_part.spell v → enc_ap_rep_part.read (all_of octets) ≡ Ok said → said ≡ v
part-back octets v said fits same reads =
    ok-is said v (enc_ap_rep_part.read (all_of octets)) reads (subst (λ (os : List ℕ). enc_ap_rep_part.read (all_of os) ≡ Ok v) (sym same) (enc_ap_rep_part_law.again (length (enc_ap_rep_part.spell v)) v fits))

-- a time that has a spelling lies before the year 10000
unless_false : (t : Bool) → (t ≡ false → false ≡ true) → t ≡ true
unless_false true f = refl
unless_false false f = f refl

time-small : (a : Authenticator) → authenticator.fits a ≡ true → a.ctime < 253402300800 * 1000000
unfolding authenticator_element time
time-small a e = ltb-true a.ctime (253402300800 * 1000000) (unless_false (ltb a.ctime (253402300800 * 1000000)) (λ f. simp (f, and-false) at e))

-- ---- a request

carried-back : (hash : List ℕ) → length hash ≡ 16 → hash_carried (Some (checksum_for hash)) ≡ Ok hash
carried-back hash long =
    let whole : List ℕ = hash ++ 50 ∷ 0 ∷ 0 ∷ 0 ∷ [] in
    let size : length whole ≡ 20 = length-append hash (50 ∷ 0 ∷ 0 ∷ 0 ∷ []) ∙ omega arith in
    let enough : leb 24 (length (16 ∷ 0 ∷ 0 ∷ 0 ∷ whole)) ≡ true = le-leb 24 (length (16 ∷ 0 ∷ 0 ∷ 0 ∷ whole)) (omega arith) in
    let front : take 16 whole ≡ hash = subst (λ (n : ℕ). take n whole ≡ hash) long (take-append_seam hash (50 ∷ 0 ∷ 0 ∷ 0 ∷ [])) in
    rw (enough, front) refl

hash-length : (bindings : Option (List ℕ)) → length (hash_of bindings) ≡ 16
unfolding hash_of
hash-length None = refl
hash-length (Some application) = length-md5 (bindings_octets application)

-- what an acceptor reads in an initiator's authenticator
pub record Heard (credential : Granted) (stamp : ℕ) (bindings : Option (List ℕ)) (said : Authenticator) (hash : List ℕ) : Type 0 where
  pub client : client_said said ≡ credential.client
  pub stamp_is : stamp_of said ≡ stamp
  pub hash_is : hash ≡ hash_of bindings
  pub small : stamp < 253402300800 * 1000000
  pub number : said.seq_number ≡ Some 0

heard-it : (credential : Granted) (stamp : ℕ) (draws : List ℕ) (bindings : Option (List ℕ)) (hash : List ℕ) → seconds_of stamp < 253402300800 * 1000000
    → hash_carried (authenticator_of credential stamp draws bindings).cksum ≡ Ok hash → Heard credential stamp bindings (authenticator_of credential stamp draws bindings) hash
heard-it credential stamp draws bindings hash small e = record {
  client = refl;
  stamp_is = omega arith;
  hash_is = ok-is hash (hash_of bindings) (hash_carried (Some (checksum_for (hash_of bindings)))) e (carried-back (hash_of bindings) (hash-length bindings));
  small = omega arith;
  number = refl;
}

pub heard : (credential : Granted) (stamp : ℕ) (draws : List ℕ) (bindings : Option (List ℕ)) (octets : List ℕ) (said : Authenticator) (hash : List ℕ)
    → authenticator.fits (authenticator_of credential stamp draws bindings) ≡ true → octets ≡ authenticator_octets credential stamp draws bindings
    → authenticator.read (all_of octets) ≡ Ok said → hash_carried said.cksum ≡ Ok hash → Heard credential stamp bindings said hash
heard credential stamp draws bindings octets said hash fits same reads e =
    let own : Authenticator = authenticator_of credential stamp draws bindings in
    let is : said ≡ own = authenticator-back octets own said fits same reads in
    subst (λ (a : Authenticator). Heard credential stamp bindings a hash) (sym is)
    (heard-it credential stamp draws bindings hash (time-small own fits) (subst (λ (a : Authenticator). hash_carried a.cksum ≡ Ok hash) is e))

-- ---- an answer

abbrev subkey_with : Option Key → Result (Option Key) ApRefusal
subkey_with key = or_refuse refusals.KeyType key >>= (λ known. Ok (Some known))

known-step : (b : Bool) (key : Key) (subkey : Option Key) → (subkey_with (if b then Some key else None)) ≡ Ok subkey → subkey ≡ Some key
known-step true key subkey e = cc
known-step false key subkey e = absurd cc

subkey-back : (key : Key) (subkey : Option Key) → subkey_in (Some (key_value key)) ≡ Ok subkey → subkey ≡ Some key
subkey-back (keys.Aes128 octets) subkey e = known-step (length octets == 16) (keys.Aes128 octets) subkey e
subkey-back (keys.Aes256 octets) subkey e = known-step (length octets == 32) (keys.Aes256 octets) subkey e

subkey-within : (etype : Etype) (draws : List ℕ) → Within (key_octets (drawn_subkey etype draws)) 32
subkey-within types.Aes128 draws = record { most = omega (arith, length-take 16 draws) }
subkey-within types.Aes256 draws = record { most = omega (arith, length-take 32 draws) }

-- what an initiator reads in an acceptor's answer
pub record Answered (j : Judged) (draws : List ℕ) (stamp : ℕ) (subkey : Option Key) : Type 0 where
  pub stamp_is : j.stamp ≡ stamp
  pub subkey_is : subkey ≡ Some (acceptor_subkey j draws)

pub answered : (j : Judged) (draws octets : List ℕ) (said : EncApRepPart) (stamp : ℕ) (subkey : Option Key) → j.stamp < 253402300800 * 1000000 → octets ≡ reply_octets j draws
    → enc_ap_rep_part.read (all_of octets) ≡ Ok said → said.ctime + said.cusec ≡ stamp → subkey_in said.subkey ≡ Ok subkey → Answered j draws stamp subkey
answered j draws octets said stamp subkey small same reads stamped sent =
    let own : EncApRepPart = reply_part_of j draws in
    let is : said ≡ own = part-back octets own said (part-fits j.stamp (acceptor_subkey j draws) (omega arith) (subkey-within (type_of_key j.session) draws)) same reads in
    let stamps : own.ctime + own.cusec ≡ stamp = subst (λ (p : EncApRepPart). p.ctime + p.cusec ≡ stamp) is stamped in
    record {
      stamp_is = omega (arith, stamps);
      subkey_is = subkey-back (acceptor_subkey j draws) subkey (subst (λ (p : EncApRepPart). subkey_in p.subkey ≡ Ok subkey) is sent);
    }

-- the number that it states
pub answered_number : (j : Judged) (draws octets : List ℕ) (said : EncApRepPart) → j.stamp < 253402300800 * 1000000 → octets ≡ reply_octets j draws
    → enc_ap_rep_part.read (all_of octets) ≡ Ok said → said.seq_number ≡ Some 0
answered_number j draws octets said small same reads =
    ap (λ (p : EncApRepPart). p.seq_number)
    (part-back octets (reply_part_of j draws) said (part-fits j.stamp (acceptor_subkey j draws) (omega arith) (subkey-within (type_of_key j.session) draws)) same reads)
