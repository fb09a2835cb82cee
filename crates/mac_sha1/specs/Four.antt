-- Codes that are made side by side.
use Rattle.std.specs.Prelude.{◌≡◌, ℕ, ◌+◌, ◌≤◌, List, ◌++◌, length}
use Rattle.mac_sha1.specs.Mac.{hmac}
use Rattle.mac_sha1.specs.Ready.{Ready}
use Rattle.mac_sha1.specs.declared.four.MacTask.{MacTask}

-- the octets whose code is due
abbrev pub octets_of : MacTask → List ℕ
octets_of task = task.front.now ++ task.back.now

-- the code is the one that is due, whatever key the task's was made ready from
abbrev pub IsCodeOf : MacTask → List ℕ → Type 0
IsCodeOf task code = (key : List ℕ) → Ready task.key.now key → code ≡ hmac key (octets_of task)

-- both pieces have at most 128 octets
abbrev pub AreShort : List ℕ → List ℕ → Type 0
AreShort front back = length front + length back ≤ 128

-- the first piece is as long as a message of that size, and both are at most 65 octets longer
pub record GoBeside (size : ℕ) (front back : List ℕ) : Type 0 where
  pub least : size ≤ length front
  pub most : length front + length back ≤ size + 65
