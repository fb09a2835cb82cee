-- Sealed octets open to what was sealed.
use Rattle.std.proofs.Common.{◌≡◌, ℕ, ◌+◌, ◌-◌, ◌<◌, ◌≤◌, true, refl, sym, ap, ◌∙◌, arith, List, ◌++◌, length, take, drop}
use Rattle.std.specs.Prelude.{Ok, Err, nat_eq}
use Rattle.std.proofs.lemmas.Bool.{le-ltb, lt-ltb}
use Rattle.std.proofs.lemmas.List.{length-append, length-take-le, take_at, drop_at}
use lib.Pointwise.{pointwise}
use Rattle.sha1.specs.Sha1.{sha1, digest_bytes}
use Rattle.mac_sha1.specs.Mac.{hmac}
use Rattle.aes_cts.specs.Cipher.{IsOctets}
use Rattle.aes_cts.specs.Schedule.{key_schedule, rounds_of}
use Rattle.aes_cts.specs.Stealing.{cts_encrypted, cts_decrypted}
use Rattle.aes_cts.proofs.Undoing.{AreKeys}
use Rattle.aes_cts.proofs.Blocks.{cipher_key-AreKeys}
use Rattle.aes_cts.proofs.Restored.{length-cts_encrypted, cts_decrypted-cts_encrypted}
use Rattle.krb_derive.specs.declared.key.Key.{Key}
use Rattle.krb_derive.specs.declared.derivation.Part.TheVariants.{Encrypt, Integrity}
use Rattle.krb_derive.specs.declared.sealing.OpenRefusal.TheVariants.{Short}
use Rattle.krb_derive.specs.Key.{key_octets}
use Rattle.krb_derive.specs.Derivation.{derived}
use Rattle.krb_derive.specs.Sealing.{tag_of, seal_of, deciphered, opened}
use Rattle.krb_derive.specs.declared.sealing.SealKeys.{SealKeys}
use Rattle.krb_derive.specs.Kept.{ForSealing}
use Rattle.krb_derive.proofs.Tags.{same_tag}

length-sha1 : (message : List ℕ) → length (sha1 message) ≡ 20
unfolding sha1 digest_bytes
length-sha1 message = refl

pub length-hmac : (key message : List ℕ) → length (hmac key message) ≡ 20
unfolding hmac
length-hmac key message = length-sha1 _

pub length-tag_of : (key : Key) (octets : List ℕ) → length (tag_of key octets) ≡ 12
unfolding tag_of
length-tag_of key octets = length-take-le 12 (hmac (key_octets key) octets) (omega (arith, length-hmac (key_octets key) octets))

pub opened-short : (key : Key) (usage : ℕ) (octets : List ℕ) → length octets < 28 → opened key usage octets ≡ Err Short
unfolding opened
opened-short key usage octets h = rw (lt-ltb (length octets) 28 h) refl

-- what is answered once the tag is compared
pub opened-good : (key : Key) (usage : ℕ) (octets plain : List ℕ) → 28 ≤ length octets → plain ≡ deciphered key usage octets
    → pointwise nat_eq (tag_of (derived key usage Integrity) plain) (drop (length octets - 12) octets) ≡ true → opened key usage octets ≡ Ok (drop 16 plain)
unfolding opened
opened-good key usage octets plain h e good = rw (le-ltb (length octets) 28 h, ← e, good) refl

deciphered-is : (key : Key) (usage : ℕ) (octets : List ℕ) (n : ℕ) → length octets - 12 ≡ n
    → deciphered key usage octets ≡ cts_decrypted (key_octets (derived key usage Encrypt)) (take n octets)
unfolding deciphered
deciphered-is key usage octets n e = rw e refl

pub opened-seal_of : (key : Key) (usage : ℕ) (confounder plain : List ℕ)
    → AreKeys (key_schedule (key_octets (derived key usage Encrypt))) (rounds_of (key_octets (derived key usage Encrypt)))
    → length confounder ≡ 16 → IsOctets (confounder ++ plain) → opened key usage (seal_of key usage confounder plain) ≡ Ok plain
unfolding seal_of
opened-seal_of key usage confounder plain keys long octets =
    let whole : List ℕ = confounder ++ plain in
    let cipher : List ℕ = cts_encrypted (key_octets (derived key usage Encrypt)) whole in
    let tag : List ℕ = tag_of (derived key usage Integrity) whole in
    let longw : length whole ≡ 16 + length plain = length-append confounder plain ∙ omega arith in
    let longc : length cipher ≡ length whole = length-cts_encrypted (key_octets (derived key usage Encrypt)) whole (omega arith) in
    let longt : length tag ≡ 12 = length-tag_of (derived key usage Integrity) whole in
    let longs : length (cipher ++ tag) ≡ length cipher + 12 = length-append cipher tag ∙ omega arith in
    let end : length (cipher ++ tag) - 12 ≡ length cipher = omega arith in
    let body : deciphered key usage (cipher ++ tag) ≡ whole =
    deciphered-is key usage (cipher ++ tag) (length cipher) end
    ∙ ap (cts_decrypted (key_octets (derived key usage Encrypt))) (take_at cipher tag (length cipher) refl)
    ∙ cts_decrypted-cts_encrypted (key_octets (derived key usage Encrypt)) keys whole octets (omega arith) in
    let rest : drop (length (cipher ++ tag) - 12) (cipher ++ tag) ≡ tag = rw end (drop_at cipher tag (length cipher) refl) in
    opened-good key usage (cipher ++ tag) whole (omega arith) (sym body) (rw rest (same_tag tag tag refl))
    ∙ ap Ok (drop_at confounder plain 16 long)

-- ---- with keys that were kept

pub kept_opens : (kept : SealKeys) (key : Key) (usage : ℕ) (confounder plain octets : List ℕ) → ForSealing kept key usage → length confounder ≡ 16
    → IsOctets (confounder ++ plain) → octets ≡ seal_of key usage confounder plain → opened key usage octets ≡ Ok plain
kept_opens kept key usage confounder plain octets for long small e =
    let keys : AreKeys (key_schedule (key_octets (derived key usage Encrypt))) (rounds_of (key_octets (derived key usage Encrypt))) =
    rw for.cipher at (cipher_key-AreKeys kept.cipher) in
    ap (opened key usage) e ∙ opened-seal_of key usage confounder plain keys long small
