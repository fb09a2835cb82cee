use Rattle.std.proofs.Common.{◌≡◌, true, false, ℕ, ◌≤◌, max, refl, sym, ◌∙◌, subst, arith}
use Rattle.replay_journal.specs.Disks.{LeavesOnly}
use Rattle.replay_journal.specs.Files.{body_of}
use Rattle.replay_journal.specs.Journals.{JournalOf, Leaves, records_of, most, HasMore}
use Rattle.replay_journal.proofs.Standing.{stands-later, still-leaves, quiet-keeps}
use Rattle.replay_journal.proofs.Putting.{taken-later}
use Rattle.replay_journal.proofs.journal.Journal.keep.Goals as goal

pub invariant_of-self : goal.invariant_of-self
invariant_of-self g c = record {
  small = c.self.invariant.small;
  stands = λ is t. stands-later g.K.Disk c.self.inside.disk c.self.inside.cache c.raise.new.self c.self.inside.count (omega (arith, c.raise.ensures.greatest)) c.raise.ensures.holds (c.self.invariant.stands is t);
}

pub invariant_of-self-in-Repeat : goal.invariant_of-self-in-Repeat
invariant_of-self-in-Repeat g c = record {
  small = c.self.invariant.small;
  stands = λ is t. stands-later g.K.Disk c.self.inside.disk c.self.inside.cache c.raise.new.self c.self.inside.count (omega (arith, c.raise.ensures.greatest)) c.raise.ensures.holds (c.self.invariant.stands is t);
}

pub invariant_of-self-in-Full : goal.invariant_of-self-in-Full
invariant_of-self-in-Full g c = record {
  small = c.self.invariant.small;
  stands = λ is t. stands-later g.K.Disk c.self.inside.disk c.self.inside.cache c.raise.new.self c.self.inside.count (omega (arith, c.raise.ensures.greatest)) c.raise.ensures.holds (c.self.invariant.stands is t);
}

pub invariant_of-self-in-Taken : goal.invariant_of-self-in-Taken
invariant_of-self-in-Taken g c = record {
  small = c.self.invariant.small;
  stands = λ is t. stands-later g.K.Disk c.self.inside.disk c.self.inside.cache c.raise.new.self c.self.inside.count (omega (arith, c.raise.ensures.greatest)) c.raise.ensures.holds (c.self.invariant.stands is t);
}

pub returns-in-Stale-clause-images : goal.returns-in-Stale-clause-images
returns-in-Stale-clause-images g c t is =
    let t0 : g.K.Disk.tells c.self.inside.disk ≡ true = rw (← c.self.view_is) at t in
    let j : JournalOf _ = record { disk = c.self.inside.disk; cache = c.self.inside.cache; count = c.self.inside.count; closed = c.self.inside.closed } in
    subst (λ (o : JournalOf _). LeavesOnly g.K.Disk.moment g.K.Disk.left_since o.disk c.self.inside.disk (Leaves g.K.Disk o c.args.now c.args.mark)) c.self.view_is
    (still-leaves g.K.Disk j c.args.now c.args.mark (g.met.K.Disk.only_now c.self.inside.disk) (c.self.invariant.stands c.if-self.false t0))

pub returns-in-Stale-clause-keeps : goal.returns-in-Stale-clause-keeps
returns-in-Stale-clause-keeps g c t =
    let t0 : g.K.Disk.tells c.self.inside.disk ≡ true = rw (← c.self.view_is) at t in
    let j : JournalOf _ = record { disk = c.self.inside.disk; cache = c.self.inside.cache; count = c.self.inside.count; closed = c.self.inside.closed } in
    rw (← c.self.view_is) (quiet-keeps g.K.Disk j _ c.args.now c.args.mark _ c.if-self.false refl
    (still-leaves g.K.Disk j c.args.now c.args.mark (g.met.K.Disk.only_now c.self.inside.disk) (c.self.invariant.stands c.if-self.false t0)) (λ is. cc) (λ is. cc))

pub returns-in-Repeat-clause-images : goal.returns-in-Repeat-clause-images
returns-in-Repeat-clause-images g c t is =
    let t0 : g.K.Disk.tells c.self.inside.disk ≡ true = rw (← c.self.view_is) at t in
    let j : JournalOf _ = record { disk = c.self.inside.disk; cache = c.self.inside.cache; count = c.self.inside.count; closed = c.self.inside.closed } in
    subst (λ (o : JournalOf _). LeavesOnly g.K.Disk.moment g.K.Disk.left_since o.disk c.self.inside.disk (Leaves g.K.Disk o c.args.now c.args.mark)) c.self.view_is
    (still-leaves g.K.Disk j c.args.now c.args.mark (g.met.K.Disk.only_now c.self.inside.disk) (c.self.invariant.stands c.if-self.false t0))

pub returns-in-Repeat-clause-keeps : goal.returns-in-Repeat-clause-keeps
returns-in-Repeat-clause-keeps g c t =
    let t0 : g.K.Disk.tells c.self.inside.disk ≡ true = rw (← c.self.view_is) at t in
    let j : JournalOf _ = record { disk = c.self.inside.disk; cache = c.self.inside.cache; count = c.self.inside.count; closed = c.self.inside.closed } in
    rw (← c.self.view_is) (quiet-keeps g.K.Disk j _ c.args.now c.args.mark _ c.if-self.false refl
    (still-leaves g.K.Disk j c.args.now c.args.mark (g.met.K.Disk.only_now c.self.inside.disk) (c.self.invariant.stands c.if-self.false t0)) (λ is. cc) (λ is. cc))

pub returns-in-Full-clause-images : goal.returns-in-Full-clause-images
returns-in-Full-clause-images g c t is =
    let t0 : g.K.Disk.tells c.self.inside.disk ≡ true = rw (← c.self.view_is) at t in
    let j : JournalOf _ = record { disk = c.self.inside.disk; cache = c.self.inside.cache; count = c.self.inside.count; closed = c.self.inside.closed } in
    subst (λ (o : JournalOf _). LeavesOnly g.K.Disk.moment g.K.Disk.left_since o.disk c.self.inside.disk (Leaves g.K.Disk o c.args.now c.args.mark)) c.self.view_is
    (still-leaves g.K.Disk j c.args.now c.args.mark (g.met.K.Disk.only_now c.self.inside.disk) (c.self.invariant.stands c.if-self.false t0))

pub returns-in-Full-clause-keeps : goal.returns-in-Full-clause-keeps
returns-in-Full-clause-keeps g c t =
    let t0 : g.K.Disk.tells c.self.inside.disk ≡ true = rw (← c.self.view_is) at t in
    let j : JournalOf _ = record { disk = c.self.inside.disk; cache = c.self.inside.cache; count = c.self.inside.count; closed = c.self.inside.closed } in
    rw (← c.self.view_is) (quiet-keeps g.K.Disk j _ c.args.now c.args.mark _ c.if-self.false refl
    (still-leaves g.K.Disk j c.args.now c.args.mark (g.met.K.Disk.only_now c.self.inside.disk) (c.self.invariant.stands c.if-self.false t0)) (λ is. cc) (λ is. cc))

pub returns-in-Taken-clause-images : goal.returns-in-Taken-clause-images
returns-in-Taken-clause-images g c t is =
    let t0 : g.K.Disk.tells c.self.inside.disk ≡ true = rw (← c.self.view_is) at t in
    let same : max c.raise.new.self.greatest c.args.now ≡ max c.self.inside.cache.greatest c.args.now = omega (arith, c.raise.ensures.greatest) in
    let there = subst (λ (n : ℕ). LeavesOnly g.K.Disk.moment g.K.Disk.left_since c.self.inside.disk c.take.new.self.disk (HasMore (most ≤ c.self.inside.count) n (records_of g.K.Disk c.self.inside.disk) (body_of c.args.mark n))) same (c.take.ensures.images t0) in
    subst (λ (o : JournalOf _). LeavesOnly g.K.Disk.moment g.K.Disk.left_since o.disk c.take.new.self.disk (Leaves g.K.Disk o c.args.now c.args.mark)) c.self.view_is there

pub returns-in-Taken-clause-taken : goal.returns-in-Taken-clause-taken
returns-in-Taken-clause-taken g c t is =
    let t0 : g.K.Disk.tells c.self.inside.disk ≡ true = rw (← c.self.view_is) at t in
    let same : max c.raise.new.self.greatest c.args.now ≡ max c.self.inside.cache.greatest c.args.now = omega (arith, c.raise.ensures.greatest) in
    let j : JournalOf _ = record { disk = c.self.inside.disk; cache = c.self.inside.cache; count = c.self.inside.count; closed = c.self.inside.closed } in
    let mid : JournalOf _ = record { disk = c.self.inside.disk; cache = c.raise.new.self; count = c.self.inside.count; closed = c.self.inside.closed } in
    rw (← c.self.view_is) (taken-later g.K.Disk j mid c.take.new.self c.args.now c.args.mark refl refl same (c.take.ensures.taken t0 is))

both : true ≡ false → ⊥
both is = cc

pub returns-in-Taken-clause-keeps : goal.returns-in-Taken-clause-keeps
returns-in-Taken-clause-keeps g c t = record {
  tells = rw (← c.self.view_is) c.take.ensures.tells;
  unclosed = λ is. rw (← c.self.view_is) c.if-self.false;
  images = returns-in-Taken-clause-images g c t;
  taken = returns-in-Taken-clause-taken g c t;
  same = λ a b. rw (← c.self.view_is) (c.take.ensures.same (rw (← c.self.view_is) at t) a b);
  shut = c.take.ensures.shut;
  still = λ shut. absurd (both (sym (rw (← c.self.view_is) at shut) ∙ c.if-self.false));
}
