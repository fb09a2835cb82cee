-- Keys that were derived once and kept.
use Rattle.std.specs.Prelude.{◌≡◌, ℕ, []}
use Rattle.aes_cts.specs.AesKey.{cipher_key}
use Rattle.mac_sha1.specs.Mac.{Begun}
use Rattle.mac_sha1.specs.Ready.{Ready}
use Rattle.krb_derive.specs.declared.key.Key.{Key}
use Rattle.krb_derive.specs.declared.derivation.Part.TheVariants.{Encrypt, Integrity, Check}
use Rattle.krb_derive.specs.declared.checks.CheckKey.{CheckKey}
use Rattle.krb_derive.specs.declared.sealing.SealKeys.{SealKeys}
use Rattle.krb_derive.specs.Key.{key_octets}
use Rattle.krb_derive.specs.Derivation.{derived}

-- what is kept is the checksum key of this key and usage
pub record ForChecks (kept : CheckKey) (key : Key) (usage : ℕ) : Type 0 where
  pub code : Begun kept.code (key_octets (derived key usage Check)) []
  pub ready : Ready kept.ready (key_octets (derived key usage Check))

-- what is kept are the sealing keys of this key and usage
pub record ForSealing (kept : SealKeys) (key : Key) (usage : ℕ) : Type 0 where
  pub cipher : cipher_key kept.cipher ≡ key_octets (derived key usage Encrypt)
  pub code : Begun kept.code (key_octets (derived key usage Integrity)) []
