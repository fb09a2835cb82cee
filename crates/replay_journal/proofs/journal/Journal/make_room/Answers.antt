use Rattle.std.proofs.Common.{◌≡◌, inr, false, ℕ, ◌≤◌, ◌<◌, List, length, sym, ◌∙◌, subst, arith, rules}
use Rattle.replay_cache.specs.Taking.{skew}
use Rattle.replay_journal.specs.Journals.{JournalOf, records_of, most, IsRenewed, IsRenewal}
use Rattle.replay_journal.specs.Files.{renewed}
use Rattle.replay_journal.proofs.Blocks.{counted-rests}
use Rattle.replay_journal.proofs.Putting.{early-full}
use Rattle.replay_journal.proofs.Standing.{stands-renewed, stands-read}
use Rattle.replay_journal.proofs.journal.Journal.make_room.Goals as goal

pub returns-then-total-le-SKEW-clause-full : goal.returns-then-total-le-SKEW-clause-full
returns-then-total-le-SKEW-clause-full g c t is =
    let unclosed : c.self.inside.closed ≡ false = rw (← c.self.view_is) at c.requires.unclosed in
    let t0 : g.K.Disk.tells c.self.inside.disk ≡ _ = rw (← c.self.view_is) at t in
    let stands = c.self.invariant.stands unclosed t0 in
    let many : most ≤ length (records_of g.K.Disk c.self.inside.disk) = omega (arith, c.if-self-lt-MOST.false, stands.counts) in
    let early : c.self.inside.cache.greatest ≤ skew = omega (arith, c.if-total-le-SKEW.true, c.total.ensures.value, c.greatest-greatest.ensures) in
    subst (λ (j : JournalOf _). most ≤ length (renewed j.cache.greatest (records_of g.K.Disk j.disk))) c.self.view_is (early-full c.self.inside.cache.greatest (records_of g.K.Disk c.self.inside.disk) early many)

pub invariant_of-self : goal.invariant_of-self
invariant_of-self g c =
    let unclosed : c.self.inside.closed ≡ false = rw (← c.self.view_is) at c.requires.unclosed in
    record {
      small = omega (arith, c.in-Ok.ensures.room);
      stands = λ is t.
          let t0 = sym c.renew.ensures.tells ∙ t in
          let late : skew < c.self.inside.cache.greatest = omega (arith, c.if-total-le-SKEW.false, c.total.ensures.value, c.greatest-greatest.ensures) in
          let done = subst (λ (n : ℕ). IsRenewed g.K.Disk c.self.inside.disk c.renew.new.disk n c.in-Ok.count) c.greatest-greatest.ensures (c.in-Ok.ensures.done t0) in
          stands-renewed g.K.Disk c.self.inside.disk c.renew.new.disk c.self.inside.cache c.self.inside.count c.in-Ok.count late done (c.self.invariant.stands unclosed t0);
    }

pub invariant_of-self-in-Err : goal.invariant_of-self-in-Err
invariant_of-self-in-Err g c =
    let unclosed : c.self.inside.closed ≡ false = rw (← c.self.view_is) at c.requires.unclosed in
    record {
      small = c.self.invariant.small;
      stands = λ is t.
          let t0 = sym c.renew.ensures.tells ∙ t in
          let read = c.in-Err.ensures.same t0 (search rules) (search rules) in
          stands-read g.K.Disk c.self.inside.disk c.renew.new.disk c.self.inside.cache c.self.inside.count read.0 read.1 (c.self.invariant.stands unclosed t0);
    }

pub returns-in-Ok-clause-based : goal.returns-in-Ok-clause-based
returns-in-Ok-clause-based g c t =
    let t0 : g.K.Disk.tells c.self.inside.disk ≡ _ = rw (← c.self.view_is) at t in
    let done = subst (λ (n : ℕ). IsRenewed g.K.Disk c.self.inside.disk c.renew.new.disk n c.in-Ok.count) c.greatest-greatest.ensures (c.in-Ok.ensures.done t0) in
    let greatest = c.self.inside.cache.greatest in
    let old = records_of g.K.Disk c.self.inside.disk in
    let records : records_of g.K.Disk c.renew.new.disk ≡ renewed greatest old = counted-rests (renewed greatest old) (g.K.Disk.contents c.renew.new.disk) done.rests in
    let many : most ≤ c.self.inside.count = omega (arith, c.if-self-lt-MOST.false) in
    rw (← c.self.view_is) (inr (many, subst (λ (r : List (List ℕ)). IsRenewal greatest old r) (sym records) done.renewal))
