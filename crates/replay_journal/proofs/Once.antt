-- No mark is taken twice.
use Rattle.std.proofs.Common.{◌≡◌, ◌⊎◌, inl, inr, ℕ, ◌≤◌, true, false, List, [], ◌∷◌, ◌++◌, IsTrue, refl, sym, ◌∙◌, ap, subst, append_assoc}
use Rattle.std.proofs.lemmas.List.{append-nil}
use Rattle.std.proofs.lemmas.Bool.{cases_Bool}
use Rattle.gss_base.specs.declared.mark.Mark.{Mark}
use Rattle.replay_cache.specs.Taking.{same_mark}
use Rattle.replay_cache.proofs.Indexing.{same-equal}
use Rattle.replay_journal.specs.declared.disk.Disk as disks
use Rattle.replay_journal.specs.Files.{counted, mark_in, body_of}
use Rattle.replay_journal.specs.Journals.{JournalOf, BeforeOrAfter, BeforeOrAll, Based, HasMore, Fresh, most, greatest_at, records_of}
use Rattle.replay_journal.specs.Openings.{Opens, IsMostlyStale, greatest_at_start}
use Rattle.replay_journal.specs.Runs.{Call, Keeps, KeepsTogether, AreKept, AreLost, AllFresh, Step, Alone, Together, Does, DoesAll, Run, Between, Inside, Opening, Runs, Without, Distinct, answered, taken_in, taken_marks, marks_of, after_calls, after_steps, after_runs}
use Rattle.replay_journal.specs.Groups.{Due, bodies_of}
use Rattle.replay_journal.specs.declared.journal.JournalVerdict.{JournalVerdict}
use Rattle.replay_journal.specs.declared.journal.JournalVerdict.TheVariants.{Taken, Stale, Repeat, Full, DiskFault, Closed, NoMemory}
use Rattle.replay_journal.proofs.Blocks.{counted-rests}
use Rattle.replay_journal.proofs.Marks.{same-self}

-- each of these marks is in a record
abbrev pub Recorded : List Mark → List (List ℕ) → Type 0
Recorded [] records = Unit {0}
Recorded (mark ∷ more) records = (Fresh mark records → ⊥) × Recorded more records

fresh-before : (mark : Mark) (records : List (List ℕ)) (body : List ℕ) → Fresh mark (records ++ body ∷ []) → Fresh mark records
fresh-before mark [] body fresh = tt
fresh-before mark (b ∷ more) body fresh = (fresh.0, fresh.1, fresh-before mark more body fresh.2)

fresh-last : (mark : Mark) (records : List (List ℕ)) (body : List ℕ) → Fresh mark (records ++ body ∷ []) → same_mark (mark_in body) mark ≡ false
fresh-last mark [] body fresh = fresh.0
fresh-last mark (b ∷ more) body fresh = fresh-last mark more body fresh.2

recorded-more : (marks : List Mark) (records : List (List ℕ)) (body : List ℕ) → Recorded marks records → Recorded marks (records ++ body ∷ [])
recorded-more [] records body recorded = tt
recorded-more (m ∷ marks) records body recorded = ((λ fresh. recorded.0 (fresh-before m records body fresh)), recorded-more marks records body recorded.1)

without-recorded : (mark : Mark) (marks : List Mark) (records : List (List ℕ)) → Fresh mark records → Recorded marks records → Without mark marks
without-recorded mark [] records fresh recorded = tt
without-recorded mark (m ∷ marks) records fresh recorded = (
  elim (cases_Bool (same_mark mark m)) [
    | inr other ↦ other
    | inl same ↦ absurd (recorded.0 (subst (λ (x : Mark). Fresh x records) (same-equal mark m same) fresh))
  ],
  without-recorded mark marks records fresh recorded.1,
)

-- what was answered so far, and what is recorded: the newest mark first
pub record Told (marks : List Mark) (records : List (List ℕ)) : Type 0 where
  pub distinct : Distinct marks
  pub recorded : Recorded marks records

told-lost : (marks : List Mark) (records : List (List ℕ)) (body : List ℕ) → Told marks records → Told marks (records ++ body ∷ [])
told-lost marks records body told = record { distinct = told.distinct; recorded = recorded-more marks records body told.recorded }

told-taken : (marks : List Mark) (records : List (List ℕ)) (body : List ℕ) (mark : Mark) → Fresh mark records → mark_in body ≡ mark → Told marks records → Told (mark ∷ marks) (records ++ body ∷ [])
told-taken marks records body mark fresh back told = record {
  distinct = (without-recorded mark marks records fresh told.recorded, told.distinct);
  recorded = ((λ f. never (fresh-last mark records body f)), recorded-more marks records body told.recorded);
}
  where
    never : same_mark (mark_in body) mark ≡ false → ⊥
    never other = let yes : same_mark (mark_in body) mark ≡ true = subst (λ (m : Mark). same_mark m mark ≡ true) (sym back) (same-self mark) in let no : true ≡ false = sym yes ∙ other in cc

recorded-known : (marks : List Mark) (records base : List (List ℕ)) → ((mark : Mark) → Fresh mark base → Fresh mark records) → Recorded marks records → Recorded marks base
recorded-known [] records base known recorded = tt
recorded-known (m ∷ marks) records base known recorded = ((λ fresh. recorded.0 (known m fresh)), recorded-known marks records base known recorded.1)

-- what was told is known to the records that a file made anew has
told-base : (due : Type 0) (greatest : ℕ) (marks : List Mark) (records base : List (List ℕ)) → Based due greatest records base → Told marks records → Told marks base
told-base due greatest marks records base (inl is) told = subst (Told marks) (sym is) told
told-base due greatest marks records base (inr renewal) told = record { distinct = told.distinct; recorded = recorded-known marks records base renewal.1.known told.recorded }

told-more : (marks : List Mark) (records : List (List ℕ)) (body c : List ℕ) → BeforeOrAfter records body c → Told marks records → Told marks (counted c)
told-more marks records body c (inl rests) told = subst (Told marks) (sym (counted-rests records c rests)) told
told-more marks records body c (inr rests) told = subst (Told marks) (sym (counted-rests (records ++ body ∷ []) c rests)) (told-lost marks records body told)

told-image : (due : Type 0) (greatest : ℕ) (marks : List Mark) (records : List (List ℕ)) (body c : List ℕ) → HasMore due greatest records body c → Told marks records → Told marks (counted c)
told-image due greatest marks records body c has told = told-more marks has.base body c has.rests (told-base due greatest marks records has.base has.based told)

-- of several marks more
told-lost-all : (marks : List Mark) (records new : List (List ℕ)) → Told marks records → Told marks (records ++ new)
told-lost-all marks records [] told = subst (Told marks) (sym (append-nil records)) told
told-lost-all marks records (body ∷ new) told = subst (Told marks) (append_assoc records (body ∷ []) new) (told-lost-all marks (records ++ body ∷ []) new (told-lost marks records body told))

told-all : (marks : List Mark) (records new : List (List ℕ)) (c : List ℕ) → BeforeOrAll records new c → Told marks records → Told marks (counted c)
told-all marks records new c (inl rests) told = subst (Told marks) (sym (counted-rests records c rests)) told
told-all marks records new c (inr rests) told = subst (Told marks) (sym (counted-rests (records ++ new) c rests)) (told-lost-all marks records new told)

-- the newest mark first
abbrev pushed : List Mark → List Mark → List Mark
pushed [] marks = marks
pushed (mark ∷ more) marks = pushed more (mark ∷ marks)

after-pushed : (calls : List Call) (marks : List Mark) → after_calls calls marks ≡ pushed (taken_marks calls) marks
after-pushed [] marks = refl
after-pushed (call ∷ calls) marks = after-pushed calls (answered call.answer call.mark marks) ∙ of-answer call.answer call.mark (taken_marks calls) marks
  where
    of-answer : (answer : JournalVerdict) (mark : Mark) (more marks : List Mark) → pushed more (answered answer mark marks) ≡ pushed (taken_in answer mark more) marks
    of-answer Taken mark more marks = refl
    of-answer (Stale greatest) mark more marks = refl
    of-answer (Repeat place) mark more marks = refl
    of-answer Full mark more marks = refl
    of-answer DiskFault mark more marks = refl
    of-answer Closed mark more marks = refl
    of-answer NoMemory mark more marks = refl

told-dues : (marks : List Mark) (records : List (List ℕ)) (dues : List Due) → AllFresh dues records → Told marks records → Told (pushed (marks_of dues) marks) (records ++ bodies_of dues)
told-dues marks records [] fresh told = subst (Told marks) (sym (append-nil records)) told
told-dues marks records (due ∷ dues) fresh told =
    subst (Told (pushed (marks_of dues) (due.mark ∷ marks))) (append_assoc records (body_of due.mark due.greatest ∷ []) (bodies_of dues))
    (told-dues (due.mark ∷ marks) (records ++ body_of due.mark due.greatest ∷ []) dues fresh.2
    (told-taken marks records (body_of due.mark due.greatest) due.mark fresh.0 fresh.1 told))

-- all that a journal may leave has what was answered
abbrev pub Safe : {K : Type 0} → disks.Ghosts K → List Mark → JournalOf K → Type 0
Safe d marks j = (c : List ℕ) → d.may_leave j.disk c → Told marks (counted c)

-- a journal that was opened: what it may leave has what was answered, and while it isn't closed that is what it reads
pub record Going {K : Type 0} (d : disks.Ghosts K) (marks : List Mark) (j : JournalOf K) : Type 0 where
  pub told : IsTrue (d.tells j.disk)
  pub safe : Safe d marks j
  pub reads : j.closed ≡ false → Told marks (records_of d j.disk)

module _ {K : Type 0} (d : disks.Ghosts K) (counts : (file : K) (t : ℕ) (c : List ℕ) → t ≤ d.moment file → d.may_leave file c → d.left_since file t c) where
  -- a crash at any moment of a call, before it answers
  inside : (marks : List Mark) (old new : JournalOf K) (call : Call) → Going d marks old → Keeps d old call new → (c : List ℕ) → d.left_since new.disk (d.moment old.disk) c
      → ((c : List ℕ) → d.left_since old.disk (d.moment old.disk) c → d.may_leave old.disk c) → Told marks (counted c)
  inside marks old new call going keeps c left only = elim (cases_Bool old.closed) [
    | inr open_ ↦ told-image (most ≤ old.count) (greatest_at old call.now) marks (records_of d old.disk) (body_of call.mark (greatest_at old call.now)) c ((keeps.images open_).each c left) (going.reads open_)
    | inl shut ↦ going.safe c (only c (subst (λ (j : JournalOf K). d.left_since j.disk (d.moment old.disk) c) (keeps.still shut) left))
  ]

  -- what is left after a call that answered
  lost : (marks : List Mark) (old new : JournalOf K) (call : Call) → Going d marks old → Keeps d old call new → ((c : List ℕ) → d.left_since old.disk (d.moment old.disk) c → d.may_leave old.disk c)
      → Safe d marks new
  lost marks old new call going keeps only c left = elim (cases_Bool old.closed) [
    | inr open_ ↦
        let images = keeps.images open_ in
        inside marks old new call going keeps c (counts new.disk (d.moment old.disk) c images.later left) only
    | inl shut ↦ subst (λ (j : JournalOf K). (c : List ℕ) → d.may_leave j.disk c → Told marks (counted c)) (sym (keeps.still shut)) going.safe c left
  ]

  abbrev Only_now : K → Type 0
  Only_now disk = (c : List ℕ) → d.left_since disk (d.moment disk) c → d.may_leave disk c

  -- nothing was kept
  quiet : (marks : List Mark) (old new : JournalOf K) (call : Call) → Going d marks old → Keeps d old call new → d.contents new.disk ≡ d.contents old.disk → Only_now old.disk → Going d marks new
  quiet marks old new call going keeps same only = record {
    told = keeps.tells ∙ going.told;
    safe = lost marks old new call going keeps only;
    reads = λ shut. elim (cases_Bool old.closed) [
      | inr open_ ↦ subst (λ (f : List ℕ). Told marks (counted f)) (sym same) (going.reads open_)
      | inl closed ↦
          let too : new.closed ≡ true = ap (λ (j : JournalOf K). j.closed) (keeps.still closed) ∙ closed in
          let never : true ≡ false = sym too ∙ shut in
          cc
    ];
  }

  one-answer : (marks : List Mark) (old new : JournalOf K) (now : ℕ) (mark : Mark) (answer : JournalVerdict) → Going d marks old → Keeps d old (record { now = now; mark = mark; answer = answer }) new
      → ((c : List ℕ) → d.left_since old.disk (d.moment old.disk) c → d.may_leave old.disk c) → Going d (answered answer mark marks) new
  one-answer marks old new now mark Taken going keeps only =
      let taken = keeps.taken refl in
      let base = told-base (most ≤ old.count) (greatest_at old now) marks (records_of d old.disk) taken.base taken.based (going.reads (keeps.unclosed refl)) in
      let told : Told (mark ∷ marks) (records_of d new.disk) = subst (Told (mark ∷ marks)) (sym taken.records)
      (told-taken marks taken.base (body_of mark (greatest_at old now)) mark taken.fresh taken.back base) in
      record {
        told = keeps.tells ∙ going.told;
        safe = λ c left. subst (λ (f : List ℕ). Told (mark ∷ marks) (counted f)) (sym (taken.durable c left)) told;
        reads = λ shut. told;
      }
  one-answer marks old new now mark (Stale greatest) going keeps only = quiet marks old new _ going keeps (keeps.same (λ is. cc) (λ is. cc)) only
  one-answer marks old new now mark (Repeat place) going keeps only = quiet marks old new _ going keeps (keeps.same (λ is. cc) (λ is. cc)) only
  one-answer marks old new now mark Full going keeps only = quiet marks old new _ going keeps (keeps.same (λ is. cc) (λ is. cc)) only
  one-answer marks old new now mark Closed going keeps only = quiet marks old new _ going keeps (keeps.same (λ is. cc) (λ is. cc)) only
  one-answer marks old new now mark NoMemory going keeps only = quiet marks old new _ going keeps (keeps.same (λ is. cc) (λ is. cc)) only
  one-answer marks old new now mark DiskFault going keeps only = record {
    told = keeps.tells ∙ going.told;
    safe = lost marks old new (record { now = now; mark = mark; answer = DiskFault }) going keeps only;
    reads = λ open_. absurd (shut-open (sym (keeps.shut refl) ∙ open_));
  }
    where
      shut-open : true ≡ false → ⊥
      shut-open is = cc

  -- a crash at any moment of a call that keeps marks together, before it answers
  inside-together : (marks : List Mark) (old new : JournalOf K) (calls : List Call) → Going d marks old → KeepsTogether d old calls new → (c : List ℕ) → d.left_since new.disk (d.moment old.disk) c → Told marks (counted c)
  inside-together marks old new calls going keeps c left =
      told-all marks (records_of d old.disk) (bodies_of keeps.dues) c (keeps.images.each c left) (going.reads keeps.unclosed)

  together-answers : (marks : List Mark) (old new : JournalOf K) (calls : List Call) → Going d marks old → (keeps : KeepsTogether d old calls new) → AreKept d old calls keeps.dues new ⊎ AreLost calls new → Going d (after_calls calls marks) new
  together-answers marks old new calls going keeps (inl kept) =
      let told : Told (pushed (marks_of keeps.dues) marks) (records_of d new.disk) =
      subst (Told (pushed (marks_of keeps.dues) marks)) (sym kept.records) (told-dues marks (records_of d old.disk) keeps.dues keeps.fresh (going.reads keeps.unclosed)) in
      let all : Told (after_calls calls marks) (records_of d new.disk) =
      subst (λ (ms : List Mark). Told ms (records_of d new.disk)) (sym (after-pushed calls marks ∙ ap (λ (ms : List Mark). pushed ms marks) kept.marks)) told in
      record {
        told = keeps.tells ∙ going.told;
        safe = λ c left. subst (λ (f : List ℕ). Told (after_calls calls marks) (counted f)) (sym (kept.durable c left)) all;
        reads = λ shut. all;
      }
  together-answers marks old new calls going keeps (inr lost_) =
      let same : after_calls calls marks ≡ marks = after-pushed calls marks ∙ ap (λ (ms : List Mark). pushed ms marks) lost_.none in
      subst (λ (ms : List Mark). Going d ms new) (sym same) (record {
        told = keeps.tells ∙ going.told;
        safe = λ c left. inside-together marks old new calls going keeps c (counts new.disk (d.moment old.disk) c keeps.images.later left);
        reads = λ open_. absurd (shut-open (sym lost_.shut ∙ open_));
      })
    where
      shut-open : true ≡ false → ⊥
      shut-open is = cc

  module _ (only_now : (file : K) (c : List ℕ) → d.left_since file (d.moment file) c → d.may_leave file c) where
    steps-go : (marks : List Mark) (old new : JournalOf K) (steps : List Step) → Going d marks old → DoesAll d old steps new → Going d (after_steps steps marks) new
    steps-go marks old new [] going all = subst (Going d marks) (sym all) going
    steps-go marks old new (Alone call ∷ steps) going all =
        steps-go (answered call.answer call.mark marks) all.0 new steps (one-answer marks old all.0 call.now call.mark call.answer going all.1 (only_now old.disk)) all.2
    steps-go marks old new (Together calls ∷ steps) going all =
        steps-go (after_calls calls marks) all.0 new steps (together-answers marks old all.0 calls going all.1 all.1.outcome) all.2

    inside-step : (marks : List Mark) (old new : JournalOf K) (step : Step) → Going d marks old → Does d old step new → (c : List ℕ) → d.left_since new.disk (d.moment old.disk) c → Told marks (counted c)
    inside-step marks old new (Alone call) going does c left = inside marks old new call going does c left (only_now old.disk)
    inside-step marks old new (Together calls) going does c left = inside-together marks old new calls going does c left

    opened-goes : (marks : List Mark) (image : List ℕ) (start : ℕ) (disk : K) (first : JournalOf K) → Told marks (counted image) → Opens d image start disk first → Going d marks first
    opened-goes marks image start disk first told opens =
        let reads = told-base (IsMostlyStale image start) (greatest_at_start image start) marks (counted image) (records_of d first.disk) opens.records told in
        record {
          told = opens.tells;
          safe = λ c left. subst (λ (f : List ℕ). Told marks (counted f)) (sym (opens.durable c left)) reads;
          reads = λ shut. reads;
        }

    run-goes : (marks : List Mark) (image : List ℕ) (steps : List Step) (left : List ℕ) → Told marks (counted image) → Run d image steps left → Told (after_steps steps marks) (counted left)
    run-goes marks image steps left told (Between start disk first last opens all may) =
        (steps-go marks first last steps (opened-goes marks image start disk first told opens) all).safe left may
    run-goes marks image steps left told (Inside start disk first last next step opens all does since) =
        let going = steps-go marks first last steps (opened-goes marks image start disk first told opens) all in
        inside-step (after_steps steps marks) last next step going does left since
    run-goes marks image steps left told (Opening start disk last tries none since) =
        subst (λ (ss : List Step). Told (after_steps ss marks) (counted left)) (sym none)
        (told-base (IsMostlyStale image start) (greatest_at_start image start) marks (counted image) (counted left) (tries.images.each left since) told)

    pub runs-go : (marks : List Mark) (image : List ℕ) (runs : List (List Step)) → Told marks (counted image) → Runs d image runs → Distinct (after_runs runs marks)
    runs-go marks image [] told all = told.distinct
    runs-go marks image (steps ∷ runs) told all = runs-go (after_steps steps marks) all.0 runs (run-goes marks image steps all.0 told all.1) all.2
