-- What opens was sealed: sealing it again, with the confounder that it had, gives the same octets.
use Rattle.std.proofs.Common.{◌≡◌, ℕ, zero, suc, ◌-◌, ◌*◌, ◌≤◌, ◌∙◌, Bool, true, false, refl, sym, ap, arith, List, ◌++◌, length, take, drop, inl, inr}
use Rattle.std.specs.Prelude.{Result, Ok, Err, nat_eq, nat_lt, if◌then◌else◌}
use Rattle.std.proofs.lemmas.Bool.{cases_lt, ltb-false}
use Rattle.std.proofs.lemmas.List.{length-take-le, take-append-drop}
use lib.Pointwise.{pointwise, bytes_decides}
use Rattle.aes_cts.specs.Cipher.{IsOctets, inverse_cipher}
use Rattle.aes_cts.specs.Schedule.{key_schedule, rounds_of}
use Rattle.aes_cts.specs.Stealing.{add_octets, block_at, before, unchained, given_back, blocks_before_last, cts_encrypted, cts_decrypted}
use Rattle.aes_cts.proofs.Undoing.{AreKeys}
use Rattle.aes_cts.proofs.Blocks.{cipher_key-AreKeys}
use Rattle.aes_cts.proofs.Restored.{add_octets-IsOctets, take-IsOctets, drop-IsOctets, append-IsOctets, replicate-IsOctets, cts_decrypted-more, cts_decrypted-single}
use Rattle.aes_cts.proofs.Resealed.{inverse_cipher-IsOctets, cts_encrypted-cts_decrypted, length-cts_decrypted}
use Rattle.krb_derive.specs.declared.key.Key.{Key}
use Rattle.krb_tokens.proofs.Octets.{octets_nil}
use Rattle.krb_derive.specs.declared.derivation.Part.TheVariants.{Encrypt, Integrity}
use Rattle.krb_derive.specs.declared.sealing.OpenRefusal.{OpenRefusal}
use Rattle.krb_derive.specs.declared.sealing.OpenRefusal.TheVariants.{Short, BadChecksum}
use Rattle.krb_derive.specs.declared.sealing.SealKeys.{SealKeys}
use Rattle.krb_derive.specs.Key.{key_octets}
use Rattle.krb_derive.specs.Derivation.{derived}
use Rattle.krb_derive.specs.Sealing.{tag_of, seal_of, deciphered, opened}
use Rattle.krb_derive.specs.Kept.{ForSealing}

module _ (key : List ℕ) (keys : AreKeys (key_schedule key) (rounds_of key)) where
  before-IsOctets : (octets : List ℕ) → IsOctets octets → (n : ℕ) → IsOctets (before octets n)
  before-IsOctets octets h zero = replicate-IsOctets 16
  before-IsOctets octets h (suc n) = take-IsOctets 16 (drop (16 * n) octets) (drop-IsOctets (16 * n) octets h)

  unchained-IsOctets : (octets : List ℕ) → IsOctets octets → (n : ℕ) → IsOctets (unchained key octets n)
  unfolding unchained
  unchained-IsOctets octets h zero = octets_nil
  unchained-IsOctets octets h (suc n) =
      append-IsOctets (unchained key octets n) (add_octets (inverse_cipher key (block_at octets n)) (before octets n)) (unchained-IsOctets octets h n)
      (add_octets-IsOctets (inverse_cipher key (block_at octets n)) (before octets n)
      (inverse_cipher-IsOctets key keys (block_at octets n) (take-IsOctets 16 (drop (16 * n) octets) (drop-IsOctets (16 * n) octets h))) (before-IsOctets octets h n))

  given_back-IsOctets : (octets : List ℕ) → IsOctets octets → (n : ℕ) → IsOctets (given_back key octets n)
  given_back-IsOctets octets h n =
      let block : List ℕ = block_at octets (n - 1) in
      let whole : List ℕ = inverse_cipher key block in
      let end : List ℕ = drop (16 * n) octets in
      let front : List ℕ = take (16 * (n - 1)) octets in
      let smallw : IsOctets whole = inverse_cipher-IsOctets key keys block (take-IsOctets 16 (drop (16 * (n - 1)) octets) (drop-IsOctets (16 * (n - 1)) octets h)) in
      let smalle : IsOctets end = drop-IsOctets (16 * n) octets h in
      let smallf : IsOctets (front ++ end ++ drop (length end) whole) =
      append-IsOctets (front ++ end) (drop (length end) whole) (append-IsOctets front end (take-IsOctets (16 * (n - 1)) octets h) smalle) (drop-IsOctets (length end) whole smallw) in
      append-IsOctets (unchained key (front ++ end ++ drop (length end) whole) n) (add_octets end whole)
      (unchained-IsOctets (front ++ end ++ drop (length end) whole) smallf n) (add_octets-IsOctets end whole smalle smallw)

  pub cts_decrypted-IsOctets : (octets : List ℕ) → IsOctets octets → IsOctets (cts_decrypted key octets)
  cts_decrypted-IsOctets octets h = elim (cases_lt 16 (length octets)) [
    | inl more ↦ rw (cts_decrypted-more key octets more) (given_back-IsOctets octets h (blocks_before_last octets))
    | inr single ↦ rw (cts_decrypted-single key octets single) (inverse_cipher-IsOctets key keys octets h)
  ]

-- ---- what was opened

abbrev answer_of : Bool → Bool → List ℕ → Result (List ℕ) OpenRefusal
answer_of short tag plain = if short then Err Short else if tag then Ok plain else Err BadChecksum

abbrev refused : OpenRefusal → Result (List ℕ) OpenRefusal
refused refusal = Err refusal

not_opened : (refusal : OpenRefusal) (plain : List ℕ) → refused refusal ≡ Ok plain → ⊥
not_opened refusal plain e = cc

good : (short tag : Bool) (whole plain : List ℕ) → answer_of short tag whole ≡ Ok plain → (short ≡ false) × (tag ≡ true) × (plain ≡ whole)
good true tag whole plain e = absurd (not_opened Short plain e)
good false false whole plain e = absurd (not_opened BadChecksum plain e)
good false true whole plain e = (refl, refl, cc)

record Opens (key : Key) (usage : ℕ) (octets plain : List ℕ) : Type 0 where
  long : 28 ≤ length octets
  tag : tag_of (derived key usage Integrity) (deciphered key usage octets) ≡ drop (length octets - 12) octets
  plain_is : plain ≡ drop 16 (deciphered key usage octets)

opens : (key : Key) (usage : ℕ) (octets plain : List ℕ) → opened key usage octets ≡ Ok plain → Opens key usage octets plain
unfolding opened
opens key usage octets plain e =
    let made : List ℕ = tag_of (derived key usage Integrity) (deciphered key usage octets) in
    let held : List ℕ = drop (length octets - 12) octets in
    let p : (nat_lt (length octets) 28 ≡ false) × (pointwise nat_eq made held ≡ true) × (plain ≡ drop 16 (deciphered key usage octets)) =
    good (nat_lt (length octets) 28) (pointwise nat_eq made held) (drop 16 (deciphered key usage octets)) plain e in
    record { long = ltb-false (length octets) 28 p.0; tag = (bytes_decides made held).0 p.1; plain_is = p.2 }

-- sealed octets, their confounder and what they open to
pub record Resealed (key : Key) (usage : ℕ) (octets plain : List ℕ) : Type 0 where
  pub confounder : List ℕ
  pub block : length confounder ≡ 16
  pub small : IsOctets (confounder ++ plain)
  pub sealed : octets ≡ seal_of key usage confounder plain

pub resealed : (kept : SealKeys) (key : Key) (usage : ℕ) (octets plain : List ℕ) → ForSealing kept key usage → IsOctets octets
    → opened key usage octets ≡ Ok plain → Resealed key usage octets plain
unfolding seal_of deciphered
resealed kept key usage octets plain for small e =
    let o = opens key usage octets plain e in
    let cipher : List ℕ = key_octets (derived key usage Encrypt) in
    let body : List ℕ = take (length octets - 12) octets in
    let whole : List ℕ = cts_decrypted cipher body in
    let keys : AreKeys (key_schedule cipher) (rounds_of cipher) = rw for.cipher at (cipher_key-AreKeys kept.cipher) in
    let smallb : IsOctets body = take-IsOctets (length octets - 12) octets small in
    let longb : length body ≡ length octets - 12 = length-take-le (length octets - 12) octets (omega arith) in
    let longw : length whole ≡ length body = length-cts_decrypted cipher body (omega (arith, o.long)) in
    let both : take 16 whole ++ plain ≡ whole = ap (λ (x : List ℕ). take 16 whole ++ x) o.plain_is ∙ take-append-drop 16 whole in
    let again : cts_encrypted cipher whole ≡ body = cts_encrypted-cts_decrypted cipher keys body smallb (omega (arith, o.long)) in
    record {
      confounder = take 16 whole;
      block = length-take-le 16 whole (omega (arith, o.long));
      small = rw both (cts_decrypted-IsOctets cipher keys body smallb);
      sealed = sym (rw (both, again, o.tag) (take-append-drop (length octets - 12) octets));
    }
