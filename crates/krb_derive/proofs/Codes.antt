-- Checksums by codes that are made side by side.
use Rattle.std.proofs.Common.{◌≡◌, ℕ, List, ◌∙◌, ap, take}
use Rattle.mac_sha1.specs.Ready.{Ready}
use Rattle.mac_sha1.specs.Four.{IsCodeOf, AreShort, GoBeside}
use Rattle.mac_sha1.specs.declared.four.MacTask.{MacTask}
use Rattle.krb_derive.specs.declared.derivation.Part.TheVariants.{Check}
use Rattle.krb_derive.specs.declared.side_by_side.CheckTask.{CheckTask}
use Rattle.krb_derive.specs.Key.{key_octets}
use Rattle.krb_derive.specs.Derivation.{derived}
use Rattle.krb_derive.specs.Sealing.{tag_of, checksum_of}
use Rattle.krb_derive.specs.SideBySide.{AsksFor, IsBeside, IsChecksumOf, IsShort}

pub checksum_by : (code : MacTask) (task : CheckTask) (octets tag : List ℕ) → AsksFor code task → IsCodeOf code octets → tag ≡ take 12 octets → IsChecksumOf task tag
unfolding checksum_of tag_of
checksum_by code task octets tag same coded cut = λ key usage kept.
    let due : List ℕ = key_octets (derived key usage Check) in
    let ready : Ready code.key.now due = rw same.key kept.ready in
    cut ∙ ap (take 12) (rw (same.front, same.back) at (coded due ready))

pub short_by : (code : MacTask) (task : CheckTask) → AsksFor code task → IsShort task → AreShort code.front.now code.back.now
short_by code task same short = rw (same.front, same.back) short

pub beside_by : (size : ℕ) (code : MacTask) (task : CheckTask) → AsksFor code task → IsBeside size task → GoBeside size code.front.now code.back.now
beside_by size code task same beside = rw (same.front, same.back) beside
