use Rattle.std.proofs.Common.{◌≡◌, [], Result, Ok, Err, None, subst}
use Rattle.server_options.specs.declared.ending.Counts.{Counts}
use Rattle.server_options.specs.declared.options.Options.{Options}
use Rattle.cli_base.specs.declared.given.WordsRefusal.{WordsRefusal}
use Rattle.server_options.specs.Lines.{Named}
use Rattle.server_command.specs.Runs.{AreValid, HasJournal}
use Rattle.server_command.proofs.Disks.{unstopped}
use Rattle.server_command.proofs.Completions.{completed}
use Rattle.server_command.proofs.Sides.{begun-served, side-served}
use Rattle.server_command.proofs.server.run_server.Goals as goal

nothing : Counts
nothing = record { connections = 0; records = 0; entries = 0; digest = None }

unnamed : Named
unnamed = record { keytab = []; verifiers = []; journal = []; own = [] }

same-options : {one other : Options} {read : Result Options WordsRefusal} → read ≡ Ok one → read ≡ Ok other → other ≡ one
same-options here there = cc

not-refused : {options : Options} {refusal : WordsRefusal} {read : Result Options WordsRefusal} → read ≡ Ok options → read ≡ Err refusal → ⊥
not-refused here there = cc

pub returns-in-Ok-clause-status : goal.returns-in-Ok-clause-status
returns-in-Ok-clause-status g c = c.run_with.ensures.status

pub returns-in-Ok-clause-sink_fault : goal.returns-in-Ok-clause-sink_fault
returns-in-Ok-clause-sink_fault g c = c.run_with.ensures.sink_fault

pub returns-in-Ok-clause-usage : goal.returns-in-Ok-clause-usage
returns-in-Ok-clause-usage g c = λ usage. absurd (c.run_with.ensures.other usage)

pub returns-in-Ok-clause-always_usage : goal.returns-in-Ok-clause-always_usage
returns-in-Ok-clause-always_usage g c = λ is memory. absurd (not-refused c.in-Ok.ensures.value is)

pub returns-in-Ok-clause-unasked : goal.returns-in-Ok-clause-unasked
returns-in-Ok-clause-unasked g c = λ refusal is. absurd (not-refused c.in-Ok.ensures.value is)

pub returns-in-Ok-clause-idle : goal.returns-in-Ok-clause-idle
returns-in-Ok-clause-idle g c = c.run_with.ensures.idle

pub returns-in-Ok-clause-unloaded : goal.returns-in-Ok-clause-unloaded
returns-in-Ok-clause-unloaded g c = λ usage. absurd (c.run_with.ensures.other usage)

pub returns-in-Ok-clause-named_files : goal.returns-in-Ok-clause-named_files
returns-in-Ok-clause-named_files g c = rw c.in-Ok.ensures.value c.run_with.ensures.named_files

pub returns-in-Ok-clause-begins : goal.returns-in-Ok-clause-begins
returns-in-Ok-clause-begins g c = λ options is memory. rw (same-options c.in-Ok.ensures.value is) c.run_with.ensures.begins

pub returns-in-Ok-clause-count : goal.returns-in-Ok-clause-count
returns-in-Ok-clause-count g c = c.run_with.ensures.count

pub returns-in-Ok-clause-named : goal.returns-in-Ok-clause-named
returns-in-Ok-clause-named g c = c.run_with.ensures.named

pub returns-in-Ok-clause-legal : goal.returns-in-Ok-clause-legal
returns-in-Ok-clause-legal g c = c.run_with.ensures.legal

pub returns-in-Ok-clause-limits : goal.returns-in-Ok-clause-limits
returns-in-Ok-clause-limits g c = λ options is begun. rw (same-options c.in-Ok.ensures.value is) (c.run_with.ensures.limits begun)

pub returns-in-Ok-clause-booked : goal.returns-in-Ok-clause-booked
returns-in-Ok-clause-booked g c = λ options is. rw (same-options c.in-Ok.ensures.value is) c.run_with.ensures.booked

pub returns-in-Ok-clause-said : goal.returns-in-Ok-clause-said
returns-in-Ok-clause-said g c = λ t. rw c.in-Ok.ensures.value (c.run_with.ensures.said t)

pub returns-in-Err-Usage-clause-status : goal.returns-in-Err-Usage-clause-status
returns-in-Err-Usage-clause-status g c = c.refused.ensures.status

pub returns-in-Err-Usage-clause-sink_fault : goal.returns-in-Err-Usage-clause-sink_fault
returns-in-Err-Usage-clause-sink_fault g c = c.refused.ensures.sink_fault

pub returns-in-Err-Usage-clause-said : goal.returns-in-Err-Usage-clause-said
returns-in-Err-Usage-clause-said g c = λ t. rw c.refused.ensures.end (c.refused.ensures.said t unnamed nothing)

pub returns-in-Err-NoMemory-clause-status : goal.returns-in-Err-NoMemory-clause-status
returns-in-Err-NoMemory-clause-status g c = c.refused-in-Err-NoMemory.ensures.status

pub returns-in-Err-NoMemory-clause-sink_fault : goal.returns-in-Err-NoMemory-clause-sink_fault
returns-in-Err-NoMemory-clause-sink_fault g c = c.refused-in-Err-NoMemory.ensures.sink_fault

pub returns-in-Err-NoMemory-clause-said : goal.returns-in-Err-NoMemory-clause-said
returns-in-Err-NoMemory-clause-said g c = λ t. rw c.refused-in-Err-NoMemory.ensures.end (c.refused-in-Err-NoMemory.ensures.said t unnamed nothing)

pub returns-in-Ok-clause-complete : goal.returns-in-Ok-clause-complete
returns-in-Ok-clause-complete g c = λ options is valid journal steady kept ports other.
    completed _ _ _ _ _ _ _ _ c.in-Ok.options c.run_with.result.end c.run_with.ensures.begins
    (subst (λ (o : Options). AreValid (g.F.Shelf.tells c.args.shelf.now) (g.F.Shelf.files c.args.shelf.now) o.files o.name) (same-options c.in-Ok.ensures.value is) valid) steady
    (unstopped g.M.Disk c.args.disk.now c.run_with.new.disk c.args.start c.in-Ok.options c.run_with.result.end
    (subst (λ (o : Options). HasJournal g.M.Disk c.args.disk.now c.args.start o) (same-options c.in-Ok.ensures.value is) journal) kept other)
    (begun-served c.run_with.ensures.booked (λ idle. idle.0) (λ one. side-served one.2 ports other)) other

pub returns-in-Ok-clause-seen : goal.returns-in-Ok-clause-seen
returns-in-Ok-clause-seen g c = λ options is. rw (same-options c.in-Ok.ensures.value is) c.run_with.ensures.seen
