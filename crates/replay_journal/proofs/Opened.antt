-- What an opening comes to, and what a crash in it leaves.
use Rattle.std.proofs.Common.{◌≡◌, inl, inr, ℕ, ◌+◌, ◌*◌, ◌≤◌, ◌<◌, true, false, nat_lt, IsTrue, List, [], length, None, refl, sym, ◌∙◌, ap, subst, arith}
use Rattle.std.proofs.lemmas.Bool.{cases_Bool, lt-ltb, ltb-true}
use Rattle.replay_journal.specs.declared.disk.Disk as disks
use Rattle.replay_journal.specs.declared.opening.JournalRefusal.{JournalRefusal}
use Rattle.replay_journal.specs.declared.opening.JournalRefusal.TheVariants.{DiskFault, BadJournal, TooMany, NoMemory}
use Rattle.replay_journal.specs.Disks.{Only, LeavesOnly}
use Rattle.replay_journal.specs.Files.{counted, is_bad, greatest_of}
use Rattle.replay_journal.specs.Journals.{Based, HasBase, IsRenewal, recent_marks, records_of}
use Rattle.replay_journal.specs.Openings.{greatest_at_start, recent_count, refusal_of, RefusedBy, IsMostlyStale, Tries}
use Rattle.replay_journal.proofs.Blocks.{counted-rests}
use Rattle.replay_journal.proofs.Moments.{goes_as, goes_then}

pub refused-read : (file : List ℕ) (capacity start : ℕ) (why : JournalRefusal) → (why ≡ BadJournal → is_bad file ≡ true) → (why ≡ TooMany → ⊥) → RefusedBy (refusal_of file capacity start) why
refused-read file capacity start DiskFault bad many = inr (inl refl)
refused-read file capacity start BadJournal bad many = inl (rw (bad refl) refl)
refused-read file capacity start TooMany bad many = absurd (many refl)
refused-read file capacity start NoMemory bad many = inr (inr refl)

-- how many marks are recent, by what was read
pub count-same : (file image : List ℕ) (greatest start : ℕ) → counted file ≡ counted image → greatest ≡ greatest_of start (counted file) → length (recent_marks greatest 0 [] (counted file)) ≡ recent_count image start
count-same file image greatest start same is =
    ap (λ (n : ℕ). length (recent_marks n 0 [] (counted file))) is ∙ ap (λ (r : List (List ℕ)). length (recent_marks (greatest_of start r) 0 [] r)) same

pub refused-many : (file : List ℕ) (capacity start : ℕ) → is_bad file ≡ false → capacity + 1 ≤ recent_count file start → RefusedBy (refusal_of file capacity start) TooMany
refused-many file capacity start good many = inl (rw (good, lt-ltb capacity (recent_count file start) (omega (arith, many))) refl)

pub accepted-file : (file : List ℕ) (capacity start : ℕ) → is_bad file ≡ false → recent_count file start ≤ capacity → refusal_of file capacity start ≡ None
accepted-file file capacity start good few = elim (cases_Bool (nat_lt capacity (recent_count file start))) [
  | inl many ↦ absurd (omega (arith, few, ltb-true capacity (recent_count file start) many))
  | inr room ↦ rw (good, room) refl
]

based-as : (due due' : Type 0) (greatest greatest' : ℕ) (records records' base : List (List ℕ)) → (due → due') → greatest ≡ greatest' → records ≡ records' → Based due greatest records base → Based due' greatest' records' base
based-as due due' greatest greatest' records records' base then_ one two (inl is) = inl (is ∙ two)
based-as due due' greatest greatest' records records' base then_ one two (inr renewal) =
    inr (then_ renewal.0, subst (λ (n : ℕ). IsRenewal n records' base) one (subst (λ (r : List (List ℕ)). IsRenewal greatest r base) two renewal.1))

-- what was found of an image: its records, the greatest moment, and how many marks are held
pub record IsFound (file image : List ℕ) (start greatest held count : ℕ) : Type 0 where
  pub same : counted file ≡ counted image
  pub greatest_is : greatest ≡ greatest_of start (counted file)
  pub held_is : held ≡ length (recent_marks greatest 0 [] (counted file))
  pub count_is : count ≡ length (counted file)

pub based-opened : (file image : List ℕ) (start greatest held count : ℕ) (records base : List (List ℕ)) → IsFound file image start greatest held count → records ≡ counted file → Based (2 * held + 1 < count) greatest records base
    → Based (IsMostlyStale image start) (greatest_at_start image start) (counted image) base
based-opened file image start greatest held count records base found is based =
    let held_ : held ≡ recent_count image start = found.held_is ∙ count-same file image greatest start found.same found.greatest_is in
    let count_ : count ≡ length (counted image) = found.count_is ∙ ap length found.same in
    based-as (2 * held + 1 < count) (IsMostlyStale image start) greatest (greatest_at_start image start) records (counted image) base
    (λ due. omega (arith, due, held_, count_)) (found.greatest_is ∙ ap (greatest_of start) found.same) (is ∙ found.same) based

module _ {K : Type 0} (d : disks.Ghosts K) where
  -- the file was read, and nothing else
  pub tries-read : (image : List ℕ) (start : ℕ) (disk last : K) → IsTrue (d.tells disk) → d.contents disk ≡ image → Only image (d.may_leave disk) → LeavesOnly d.moment d.left_since disk last (λ c. counted c ≡ counted image)
      → Tries d image start disk last
  tries-read image start disk last told read left images = record {
    told = told;
    read = read;
    left = left;
    images = goes_as d.moment d.left_since disk last (λ (c : List ℕ). counted c ≡ counted image) (λ (c : List ℕ). Based (IsMostlyStale image start) (greatest_at_start image start) (counted image) (counted c)) images (λ c is. inl is);
  }

  -- and then it was made anew where most of it is stale
  pub tries-refreshed : (file image : List ℕ) (start greatest held count : ℕ) (disk mid last : K) → IsTrue (d.tells disk) → d.contents disk ≡ image → Only image (d.may_leave disk) → LeavesOnly d.moment d.left_since disk mid (λ c. counted c ≡ counted image)
      → IsFound file image start greatest held count → records_of d mid ≡ counted file → LeavesOnly d.moment d.left_since mid last (HasBase (2 * held + 1 < count) greatest (records_of d mid)) → Tries d image start disk last
  tries-refreshed file image start greatest held count disk mid last told read left images found is later = record {
    told = told;
    read = read;
    left = left;
    images = goes_then d.moment d.left_since disk mid last (λ (c : List ℕ). counted c ≡ counted image) (HasBase (2 * held + 1 < count) greatest (records_of d mid))
        (λ (c : List ℕ). Based (IsMostlyStale image start) (greatest_at_start image start) (counted image) (counted c)) images later (λ c is. inl is)
        (λ c has. subst (λ (r : List (List ℕ)). Based (IsMostlyStale image start) (greatest_at_start image start) (counted image) r) (sym (counted-rests has.base c has.rests))
        (based-opened file image start greatest held count (records_of d mid) has.base found is has.based));
  }
