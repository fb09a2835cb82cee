-- The count of faults of the disk that a run gives back.
use Rattle.std.proofs.Common.{◌≡◌, ◌≢◌, ◌∙◌, inl, inr, ℕ, ◌<◌, ◌≤◌, Bool, true, false, is_some, Option, Some, None, refl, ap, sym, subst, arith}
use Rattle.sec_base.specs.Answers.{Rose}
use Rattle.replay_journal.specs.Openings.{refusal_of, RefusedBy}
use Rattle.replay_journal.specs.declared.disk.Disk as disks
use Rattle.replay_journal.specs.declared.opening.JournalRefusal.{JournalRefusal}
use Rattle.replay_journal.specs.declared.opening.JournalRefusal.TheVariants as refusals
use Rattle.journal_gate.specs.Withheld.{disk_faults}
use Rattle.server_command.specs.Runs.{most_held, end_of_journal, StopsAt, JournalStops, HasJournal}
use Rattle.server_options.specs.declared.ending.RunEnd.{RunEnd}
use Rattle.server_options.specs.declared.ending.RunEnd.TheVariants.{NoMemory, Usage}
use Rattle.server_options.specs.declared.options.Options.{Options}
use Rattle.server_command.proofs.Completions.{rose-back}

-- a count that rose on the disk which comes back rose on what it is put into; where none comes back, none rose
pub carried : {K : Type 0} (faults : K → ℕ) (back new : Option K) (counted before : ℕ) → (is_some back ≡ true → before ≤ counted) → (is_some back ≡ true → new ≡ back) → Rose counted (disk_faults faults back)
    → Rose before (disk_faults faults new)
carried {K} faults (Some disk) new counted before le same r = subst (λ (o : Option K). Rose before (disk_faults faults o)) (sym (same refl)) (rose-back (le refl) r)
carried faults None new counted before le same r = absurd (let bad : counted < 0 = r (omega arith) in omega (arith, bad))

-- no run is ended by a journal that can be opened, on a disk whose count didn't rise
unstopped-by : (due : Option JournalRefusal) (why : JournalRefusal) → due ≡ None → RefusedBy due why → (why ≡ refusals.DiskFault → ⊥) → (why ≡ refusals.NoMemory → ⊥) → ⊥
unstopped-by due why none (inl e) fault memory = let bad : ◌≡◌ {A = Option JournalRefusal} None (Some why) = sym none ∙ e in cc
unstopped-by due why none (inr (inl e)) fault memory = fault e
unstopped-by due why none (inr (inr e)) fault memory = memory e

pub unstopped : {K : Type 0} (disk : disks.Ghosts K) (held back : Option K) (start : ℕ) (options : Options) (end : RunEnd) → HasJournal disk held start options → (Rose (disk_faults disk.faults held) (disk_faults disk.faults back) → ⊥) → end ≢ NoMemory
    → JournalStops disk held back start options end → ⊥
unstopped disk None back start options end has steady other stops = stops.1
unstopped disk (Some held) back start options end has steady other stops =
    let h = has stops.0 in
    let s = stops.1 in
    unstopped-by (refusal_of (disk.contents held) most_held start) s.why h.1 (s.refused h.0) (λ e. steady (s.fault e)) (λ e. other (s.ends ∙ ap end_of_journal e))

-- a disk that was there is back, whether a journal was opened on it or not
pub back-again : {K : Type 0} (journaled : Bool) (old opened new : Option K) → (journaled ≡ true → is_some old ≡ true) → (journaled ≡ false → opened ≡ old) → (journaled ≡ true → is_some new ≡ true) → (journaled ≡ false → new ≡ opened) → is_some new ≡ is_some old
back-again true old opened new filled untouched back same = back refl ∙ sym (filled refl)
back-again {K} false old opened new filled untouched back same = ap (λ (o : Option K). is_some o) (same refl ∙ untouched refl)

-- no journal ends a run by its words
stop-other : (why : JournalRefusal) → end_of_journal why ≢ Usage
stop-other refusals.DiskFault e = cc
stop-other refusals.BadJournal e = cc
stop-other refusals.TooMany e = cc
stop-other refusals.NoMemory e = cc

pub stops-other : {K : Type 0} (disk : disks.Ghosts K) (old new : Option K) (start : ℕ) (end : RunEnd) → StopsAt disk old new start end → end ≢ Usage
stops-other disk None new start end stops = absurd stops
stops-other disk (Some held) new start end stops = λ e. stop-other stops.why (sym stops.ends ∙ e)
