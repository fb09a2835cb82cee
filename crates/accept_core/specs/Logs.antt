-- A log: its entries, oldest first, and the limits under which it was kept.
use Rattle.std.specs.Prelude.{◌≡◌, ℕ, zero, suc, ◌≤◌, List, [], ◌∷◌, length, reverse, Vec}
use Rattle.std.specs.Prelude.{vec_capacity, false, Option, None, Some, IfSome, if◌then◌else◌}
use Rattle.std.specs.Global.{Global}
use Rattle.accept_core.specs.declared.entry.Entry.{Entry}
use Rattle.accept_core.specs.declared.entry.Keeping.{Keeping}
use Rattle.accept_core.specs.Chains.{digest_of}

-- how many entries a log may have at most, 2 ^ 62: at a million a second some 146,000 years
abbrev pub greatest_log : ℕ
greatest_log = 4611686018427387904

-- a log as contracts see it; the numbers are the width of the windows, and how many entries,
-- contexts and marks there may be. Of the entries it has in memory what its keeping says
pub record LogOf : Type 0 where
  pub entries : List Entry
  pub keeping : Keeping
  pub width : ℕ
  pub limit : ℕ
  pub contexts : ℕ
  pub marks : ℕ

-- the digest of its entries, where it is kept
abbrev pub kept_digest : LogOf → Option (List ℕ)
kept_digest log = if log.keeping.digest then Some (digest_of (reverse log.entries)) else None

-- a log without entries, whose limits are all 0, and which has nothing in memory
abbrev pub no_log : LogOf
no_log = record {
  entries = [];
  keeping =
      record { entries = false; digest = false };
  width = 0;
  limit =
      0;
  contexts = 0;
  marks = 0;
}

-- a list begins with the newest of a history, so many as there are of these
abbrev pub Begins : ℕ → List Entry → List Entry → Type 0
Begins zero history last = Unit {0}
Begins (suc n) [] last = Unit {0}
Begins (suc n) (entry ∷ history) [] = ⊥
Begins (suc n) (entry ∷ history) (x ∷ last) = (x ≡ entry) × Begins n history last

-- a log: its count is that of the entries, they are few enough, and its newest four are at hand;
-- the digest that it keeps is theirs, and where it keeps them, all are in memory, with room for as
-- many as there may be
pub record IsLog (limit count : ℕ) (digest : Option (List ℕ)) (last : List Entry)
    (kept : Option (Vec Entry Global)) (entries : List Entry) : Type 0 where
  pub counted : count ≡ length entries
  pub few : length entries ≤ limit
  pub small : limit ≤ greatest_log
  pub committed : IfSome digest (λ d. d ≡ digest_of (reverse entries))
  pub recent : Begins 4 (reverse entries) last
  pub all : IfSome kept (λ v. v.items ≡ entries)
  pub room : IfSome kept (λ v. limit ≤ vec_capacity v)
