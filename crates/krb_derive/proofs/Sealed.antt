-- What is sealed or opened where it stands.
use Rattle.std.proofs.Common.{◌≡◌, ℕ, ◌+◌, ◌-◌, ◌≤◌, ◌∙◌, Bool, refl, sym, ap, arith, List, [], ◌++◌, length, take, drop}
use Rattle.std.specs.Prelude.{Ok, Err, nat_eq, if◌then◌else◌}
use Rattle.std.proofs.lemmas.Bool.{le-ltb}
use Rattle.std.proofs.lemmas.List.{length-drop, length-take-le, drop-take, take-append-le, drop-append-le, take-append-drop, take_at, drop_at, append-nil}
use lib.Pointwise.{pointwise}
use Rattle.mac_sha1.specs.Mac.{hmac}
use Rattle.aes_cts.specs.AesKey.{cipher_key}
use Rattle.aes_cts.specs.Stealing.{cts_encrypted, cts_decrypted}
use Rattle.aes_cts.proofs.Resealed.{length-cts_decrypted}
use Rattle.krb_derive.specs.declared.key.Key.{Key}
use Rattle.krb_derive.specs.declared.derivation.Part.TheVariants.{Encrypt, Integrity}
use Rattle.krb_derive.specs.declared.sealing.OpenRefusal.TheVariants.{BadChecksum}
use Rattle.krb_derive.specs.declared.sealing.SealKeys.{SealKeys}
use Rattle.krb_derive.specs.Key.{key_octets}
use Rattle.krb_derive.specs.Derivation.{derived}
use Rattle.krb_derive.specs.Sealing.{tag_of, seal_of, deciphered, opened}
use Rattle.krb_derive.specs.Kept.{ForSealing}

-- a list whose octets from `start` on were sealed, after the tag was put behind them
pub sealed_behind : (kept : SealKeys) (key : Key) (usage start end : ℕ) (list shown tag both out : List ℕ) → ForSealing kept key usage
    → start + 16 ≤ length list → end ≡ length list → shown ≡ drop start list → tag ≡ take 12 (hmac (key_octets (derived key usage Integrity)) (shown ++ []))
    → both ≡ list ++ tag
    → out ≡ take start both ++ (cts_encrypted (cipher_key kept.cipher) (take (end - start) (drop start both)) ++ drop end both)
    → out ≡ take start list ++ seal_of key usage (take 16 (drop start list)) (drop 16 (drop start list))
unfolding seal_of tag_of
sealed_behind kept key usage start end list shown tag both out for long ee es et eb eo =
    let rest : List ℕ = drop start list in
    let count : length rest ≡ length list - start = length-drop start list in
    let front : take start (list ++ tag) ≡ take start list = take-append-le start list tag (omega arith) in
    let behind : drop start (list ++ tag) ≡ rest ++ tag = drop-append-le start list tag (omega arith) in
    let body : take (length list - start) (rest ++ tag) ≡ rest = take_at rest tag (length list - start) count in
    let behind_all : drop (length list) (list ++ tag) ≡ tag = drop_at list tag (length list) refl in
    let whole : take 16 rest ++ drop 16 rest ≡ rest = take-append-drop 16 rest in
    let made : tag ≡ take 12 (hmac (key_octets (derived key usage Integrity)) rest) = et ∙ rw (es, append-nil rest) refl in
    let sealed : take start both ++ (cts_encrypted (cipher_key kept.cipher) (take (end - start) (drop start both)) ++ drop end both)
    ≡ take start list ++ (cts_encrypted (key_octets (derived key usage Encrypt)) rest ++ take 12 (hmac (key_octets (derived key usage Integrity)) rest)) =
    rw (eb, ee, front, behind, body, behind_all, for.cipher) (ap (λ (t : List ℕ). take start list ++ (cts_encrypted (key_octets (derived key usage Encrypt)) rest ++ t)) made) in
    eo ∙ sealed ∙ rw whole refl

-- what sealed octets open to, after their front was deciphered and the tag compared
pub front_opens : (kept : SealKeys) (key : Key) (usage n : ℕ) (octets out shown tag held : List ℕ) (answer : Bool) → ForSealing kept key usage → 28 ≤ length octets
    → n ≡ length octets - 12 → out ≡ cts_decrypted (cipher_key kept.cipher) (take n octets) ++ drop n octets → shown ≡ take n out
    → tag ≡ take 12 (hmac (key_octets (derived key usage Integrity)) (shown ++ [])) → held ≡ drop n out → answer ≡ pointwise nat_eq tag held
    → opened key usage octets ≡ (if answer then Ok (drop 16 (take n out)) else Err BadChecksum)
unfolding opened deciphered tag_of
front_opens kept key usage n octets out shown tag held answer for long en eo es et eh ea =
    let front : length (take n octets) ≡ n = length-take-le n octets (omega arith) in
    let count : length (cts_decrypted (cipher_key kept.cipher) (take n octets)) ≡ n = length-cts_decrypted (cipher_key kept.cipher) (take n octets) (omega arith) ∙ front in
    let plain : take n out ≡ cts_decrypted (key_octets (derived key usage Encrypt)) (take n octets) =
    ap (take n) eo ∙ take_at (cts_decrypted (cipher_key kept.cipher) (take n octets)) (drop n octets) n count ∙ rw for.cipher refl in
    let rest : drop n out ≡ drop n octets = ap (drop n) eo ∙ drop_at (cts_decrypted (cipher_key kept.cipher) (take n octets)) (drop n octets) n count in
    let made : tag ≡ take 12 (hmac (key_octets (derived key usage Integrity)) (take n out)) = et ∙ rw (es, append-nil (take n out)) refl in
    let verdict : answer ≡ pointwise nat_eq (take 12 (hmac (key_octets (derived key usage Integrity)) (take n out))) (drop n octets) = ea ∙ rw (made, eh, rest) refl in
    rw (le-ltb (length octets) 28 long, ← en, ← plain, ← verdict) refl

-- a part of a list behind its first 16
pub behind_first : (list : List ℕ) (end : ℕ) → 16 ≤ end → take (end - 16) (drop 16 list) ≡ drop 16 (take end list)
behind_first list end h =
    let e : 16 + (end - 16) ≡ end = omega arith in
    sym (rw e at (drop-take 16 (end - 16) list))

-- a list that was sealed from its first octet on
pub seal_whole : (key : Key) (usage : ℕ) (list confounder octets : List ℕ) → length confounder ≡ 16 → list ≡ confounder ++ octets
    → take 0 list ++ seal_of key usage (take 16 (drop 0 list)) (drop 16 (drop 0 list)) ≡ seal_of key usage confounder octets
seal_whole key usage list confounder octets block e =
    rw (e, take_at confounder octets 16 block, drop_at confounder octets 16 block) refl
