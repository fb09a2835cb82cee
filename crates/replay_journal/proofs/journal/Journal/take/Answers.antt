use Rattle.std.proofs.Common.{◌≡◌, ℕ, ◌≤◌, List, ◌∙◌, ap, subst, arith}
use Rattle.replay_cache.specs.Taking.{Cached}
use Rattle.replay_journal.specs.Disks.{LeavesOnly}
use Rattle.replay_journal.specs.Files.{body_of}
use Rattle.replay_journal.specs.Journals.{records_of, most, greatest_at, BeforeOrAfter, HasBase, HasMore}
use Rattle.replay_journal.proofs.Moments.{goes_then, goes_as}
use Rattle.replay_journal.proofs.Putting.{more-of, more-on, taken-put}
use Rattle.replay_journal.proofs.journal.Journal.take.Goals as goal

pub returns-in-Err-clause-images : goal.returns-in-Err-clause-images
returns-in-Err-clause-images g c t =
    let old = c.args.self.now in
    let records = records_of g.K.Disk old.disk in
    let body : List ℕ = body_of c.args.mark old.cache.greatest in
    let there : old.cache.greatest ≡ greatest_at old c.args.now = omega (arith, c.requires.raised) in
    subst (λ (n : ℕ). LeavesOnly g.K.Disk.moment g.K.Disk.left_since old.disk c.make_room.new.self.disk (HasMore (most ≤ old.count) n records (body_of c.args.mark n))) there
    (goes_as g.K.Disk.moment g.K.Disk.left_since old.disk c.make_room.new.self.disk (HasBase (most ≤ old.count) old.cache.greatest records) (HasMore (most ≤ old.count) old.cache.greatest records body)
    (c.make_room.ensures.images t) (more-of (most ≤ old.count) old.cache.greatest records body))

pub returns-in-Ok-clause-images : goal.returns-in-Ok-clause-images
returns-in-Ok-clause-images g c t =
    let old = c.args.self.now in
    let mid = c.make_room.new.self in
    let records = records_of g.K.Disk old.disk in
    let greatest : mid.cache.greatest ≡ old.cache.greatest = ap (λ (k : Cached). k.greatest) c.make_room.ensures.cache in
    let body : List ℕ = body_of c.args.mark old.cache.greatest in
    let there : old.cache.greatest ≡ greatest_at old c.args.now = omega (arith, c.requires.raised) in
    let based = c.in-Ok.ensures.based t in
    let put = subst (λ (n : ℕ). LeavesOnly g.K.Disk.moment g.K.Disk.left_since mid.disk c.put.new.self.disk (BeforeOrAfter (records_of g.K.Disk mid.disk) (body_of c.args.mark n))) greatest (c.put.ensures.images (c.make_room.ensures.tells ∙ t)) in
    subst (λ (n : ℕ). LeavesOnly g.K.Disk.moment g.K.Disk.left_since old.disk c.put.new.self.disk (HasMore (most ≤ old.count) n records (body_of c.args.mark n))) there
    (goes_then g.K.Disk.moment g.K.Disk.left_since old.disk mid.disk c.put.new.self.disk (HasBase (most ≤ old.count) old.cache.greatest records) (BeforeOrAfter (records_of g.K.Disk mid.disk) body)
    (HasMore (most ≤ old.count) old.cache.greatest records body) (c.make_room.ensures.images t) put (more-of (most ≤ old.count) old.cache.greatest records body)
    (λ c' rests. more-on (most ≤ old.count) old.cache.greatest records (records_of g.K.Disk mid.disk) body c' based rests))

pub returns-in-Ok-clause-taken : goal.returns-in-Ok-clause-taken
returns-in-Ok-clause-taken g c t is =
    let mid = c.make_room.new.self in
    taken-put g.K.Disk c.args.self.now mid c.put.new.self c.args.now c.args.mark (ap (λ (k : Cached). k.greatest) c.make_room.ensures.cache) c.requires.raised
    (c.in-Ok.ensures.based t) (c.put.ensures.taken (c.make_room.ensures.tells ∙ t) is)
