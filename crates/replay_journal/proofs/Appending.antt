-- What a crash leaves at any moment of an append, call by call.
use Rattle.std.proofs.Common.{◌≡◌, inl, inr, ℕ, ◌+◌, ◌*◌, List, ◌∷◌, ◌++◌, length, sym, subst}
use Rattle.replay_journal.specs.Disks.{Torn, Follows, Only, Elapses, LeavesOnly}
use Rattle.replay_journal.specs.Files.{Rests, blocks, Sized}
use Rattle.replay_journal.specs.Journals.{BeforeOrAll}
use Rattle.replay_journal.proofs.Crash.{Staged, body_crash, gate_crash, staged_rests}
use Rattle.replay_journal.proofs.Moments.{started, goes_on}

module _ {K : Type 0} (moment : K → ℕ) (left_since : K → ℕ → List ℕ → Type 0) (records : List (List ℕ)) (count : ℕ) (counts : count ≡ length records) (new : List (List ℕ)) (body : List ℕ) (first : 0x4a ∷ body ≡ blocks new) (sized : Sized new) where
  abbrev pub Both : List ℕ → Type 0
  Both = BeforeOrAll records new

  pub body_written : (d0 d1 : K) (n : ℕ) (file : List ℕ) (old after : List ℕ → Type 0) → Rests records file → Only file old → ((c : List ℕ) → left_since d0 (moment d0) c → old c)
      → Follows (Torn (9 + 45 * count) n) old after → Elapses (moment d0) (moment d1) (left_since d0) (left_since d1) after → LeavesOnly moment left_since d0 d1 Both
  body_written d0 d1 n file old after rests only now follows time =
      goes_on moment left_since d0 d0 d1 Both after (started moment left_since d0 Both (λ c left. inl (subst (Rests records) (sym (only c (now c left))) rests))) time (λ c left. inl (body_crash records count counts n file old after rests only follows c left))

  pub body_unsynced : (d0 d1 d2 : K) (n : ℕ) (file : List ℕ) (old after later : List ℕ → Type 0) → Rests records file → Only file old → LeavesOnly moment left_since d0 d1 Both
      → Follows (Torn (9 + 45 * count) n) old after → ((c : List ℕ) → later c → after c) → Elapses (moment d1) (moment d2) (left_since d1) (left_since d2) later → LeavesOnly moment left_since d0 d2 Both
  body_unsynced d0 d1 d2 n file old after later rests only so_far follows less time =
      goes_on moment left_since d0 d1 d2 Both later so_far time (λ c left. inl (body_crash records count counts n file old after rests only follows c (less c left)))

  pub body_synced : (d0 d1 d2 : K) (file : List ℕ) (later : List ℕ → Type 0) → Staged records body file → LeavesOnly moment left_since d0 d1 Both
      → Only file later → Elapses (moment d1) (moment d2) (left_since d1) (left_since d2) later → LeavesOnly moment left_since d0 d2 Both
  body_synced d0 d1 d2 file later staged so_far only time =
      goes_on moment left_since d0 d1 d2 Both later so_far time (λ c left. inl (subst (Rests records) (sym (only c left)) (staged_rests records count counts body file staged)))

  pub gate_written : (d0 d2 d3 : K) (file : List ℕ) (old after : List ℕ → Type 0) → Staged records body file → Only file old → LeavesOnly moment left_since d0 d2 Both
      → Follows (Torn (8 + 45 * count) 1) old after → Elapses (moment d2) (moment d3) (left_since d2) (left_since d3) after → LeavesOnly moment left_since d0 d3 Both
  gate_written d0 d2 d3 file old after staged only so_far follows time =
      goes_on moment left_since d0 d2 d3 Both after so_far time (gate_crash records count counts new body file old after first sized staged only follows)

  pub gate_unsynced : (d0 d3 d4 : K) (file : List ℕ) (old after later : List ℕ → Type 0) → Staged records body file → Only file old → LeavesOnly moment left_since d0 d3 Both
      → Follows (Torn (8 + 45 * count) 1) old after → ((c : List ℕ) → later c → after c) → Elapses (moment d3) (moment d4) (left_since d3) (left_since d4) later → LeavesOnly moment left_since d0 d4 Both
  gate_unsynced d0 d3 d4 file old after later staged only so_far follows less time =
      goes_on moment left_since d0 d3 d4 Both later so_far time (λ c left. gate_crash records count counts new body file old after first sized staged only follows c (less c left))

  pub gate_synced : (d0 d3 d4 : K) (file : List ℕ) (later : List ℕ → Type 0) → Rests (records ++ new) file → LeavesOnly moment left_since d0 d3 Both
      → Only file later → Elapses (moment d3) (moment d4) (left_since d3) (left_since d4) later → LeavesOnly moment left_since d0 d4 Both
  gate_synced d0 d3 d4 file later rests so_far only time =
      goes_on moment left_since d0 d3 d4 Both later so_far time (λ c left. inr (subst (Rests (records ++ new)) (sym (only c left)) rests))
