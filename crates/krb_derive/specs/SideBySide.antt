-- Checksums that are made side by side.
use Rattle.std.specs.Prelude.{◌≡◌, ℕ, List, ◌++◌}
use Rattle.mac_sha1.specs.declared.four.MacTask.{MacTask}
use Rattle.mac_sha1.specs.Four.{AreShort, GoBeside}
use Rattle.krb_derive.specs.declared.key.Key.{Key}
use Rattle.krb_derive.specs.declared.side_by_side.CheckTask.{CheckTask}
use Rattle.krb_derive.specs.Sealing.{checksum_of}
use Rattle.krb_derive.specs.Kept.{ForChecks}

-- the octets whose checksum is due
abbrev pub octets_of : CheckTask → List ℕ
octets_of task = task.front.now ++ task.back.now

-- the tag is the checksum that is due, whatever key and usage the task's key was derived from
abbrev pub IsChecksumOf : CheckTask → List ℕ → Type 0
IsChecksumOf task tag =
    (key : Key) (usage : ℕ) → ForChecks task.key.now key usage
    → tag ≡ checksum_of key usage (octets_of task)

-- the code is the one whose front that checksum is
pub record AsksFor (code : MacTask) (task : CheckTask) : Type 0 where
  pub key : code.key.now ≡ task.key.now.ready
  pub front : code.front.now ≡ task.front.now
  pub back : code.back.now ≡ task.back.now

-- both pieces have at most 128 octets
abbrev pub IsShort : CheckTask → Type 0
IsShort task = AreShort task.front.now task.back.now

-- its octets are about as many as a message of that size has
abbrev pub IsBeside : ℕ → CheckTask → Type 0
IsBeside size task = GoBeside size task.front.now task.back.now
