-- What a crash may leave of contents of which some ranges were written since the last sync.
use Rattle.std.specs.Prelude.{◌≡◌, ◌⊎◌, ℕ, List, [], ◌∷◌, length, drop}
use mathlib.Core.Logic.{inl, inr}
use Rattle.replay_journal.specs.Disks.{Torn}
use Rattle.replay_journal.specs.declared.memory.Range.{Range}
use Rattle.replay_journal.specs.declared.memory.Stage.{Stage}

-- after the writes of these ranges, the oldest first
abbrev pub MayLeave : List ℕ → List Range → List ℕ → Type 0
MayLeave base [] c = c ≡ base
MayLeave base (range ∷ ranges) c = (d : List ℕ) × Torn range.at range.count base d
    × MayLeave d ranges c

-- one of the stages might have left this
abbrev pub HadBeen : List Stage → List ℕ → Type 0
HadBeen [] c = ⊥
HadBeen (stage ∷ past) c = MayLeave stage.base.items stage.ranges.items c ⊎ HadBeen past c

none_since : (past : List Stage) (c : List ℕ) → HadBeen (drop (length past) past) c → ⊥
none_since [] c had = had
none_since (stage ∷ past) c had = none_since past c had

-- since the last of them there is what is there now
pub only_since : (past : List Stage) (now : Type 0) (c : List ℕ) → now
    ⊎ HadBeen (drop (length past) past) c → now
only_since past now c (inl here) = here
only_since past now c (inr had) = absurd (none_since past c had)
