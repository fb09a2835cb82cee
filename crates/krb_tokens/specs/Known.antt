-- Checksums of MIC tokens that are known before they are asked for.
use Rattle.std.specs.Prelude.{◌≡◌, ℕ, ◌+◌, ◌≤◌, List, [], ◌∷◌, ◌++◌, ⊤, length}
use Rattle.krb_derive.specs.declared.key.Key.{Key}
use Rattle.krb_derive.specs.declared.side_by_side.CheckTask.{CheckTask}
use Rattle.krb_derive.specs.Kept.{ForChecks}
use Rattle.krb_derive.specs.Sealing.{checksum_of}
use Rattle.krb_tokens.specs.declared.known.MicTask.{MicTask}
use Rattle.krb_tokens.specs.declared.known.KnownMic.{KnownMic}
use Rattle.krb_tokens.specs.End.{sign_usage}

-- the tag is the token's checksum under that key
abbrev pub IsTagOf : Key → MicTask → List ℕ → Type 0
IsTagOf key task tag =
    tag ≡ checksum_of key (sign_usage task.side) (task.message.now ++ task.header)

-- what is known is the token's checksum under that key
pub record IsKnown (key : Key) (task : MicTask) (known : KnownMic) : Type 0 where
  pub under : known.key ≡ key
  pub about : known.task ≡ task

-- the checksum of each of the tokens is known, in their order, and no other
abbrev pub AreKnown : Key → List MicTask → List KnownMic → Type 0
AreKnown key [] [] = ⊤
AreKnown key [] (known ∷ more) = ⊥
AreKnown key (task ∷ tasks) [] = ⊥
AreKnown key (task ∷ tasks) (known ∷ more) = IsKnown key task known × AreKnown key tasks more

-- the checksum that is computed is the token's under that key
pub record ChecksFor (key : Key) (task : MicTask) (check : CheckTask) : Type 0 where
  pub kept : ∥ ForChecks check.key.now key (sign_usage task.side) ∥₁
  pub front : check.front.now ≡ task.message.now
  pub back : check.back.now ≡ task.header
  pub long : length check.back.now ≡ 16

-- the message is short enough to be taken in beside three others
abbrev pub IsShort : MicTask → Type 0
IsShort task = length task.message.now ≤ 112

-- the message is as long as octets of that number, or a little longer
pub record IsAbout (size : ℕ) (task : MicTask) : Type 0 where
  pub least : size ≤ length task.message.now
  pub most : length task.message.now ≤ size + 49
