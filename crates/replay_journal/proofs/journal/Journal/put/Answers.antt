use Rattle.std.proofs.Common.{◌≡◌, true, false, ℕ, ◌≤◌, ◌<◌, List, [], ◌∷◌, ◌++◌, max, sym, ◌∙◌, ap, subst, arith}
use Rattle.replay_cache.specs.declared.cache.TakenMark.{TakenMark}
use Rattle.replay_cache.specs.declared.cache.CacheVerdict.{CacheVerdict}
use Rattle.replay_cache.specs.declared.cache.CacheVerdict.TheVariants.{Taken}
use Rattle.replay_cache.specs.Taking.{Holds, cache_verdict, with_taken}
use Rattle.replay_journal.specs.Disks.{LeavesOnly}
use Rattle.replay_journal.specs.Files.{body_of, mark_in}
use Rattle.replay_journal.specs.Journals.{records_of, BeforeOrAfter}
use Rattle.replay_journal.proofs.Blocks.{behind-one, counted-rests}
use Rattle.replay_journal.proofs.Marks.{taken-fresh, taken-ahead}
use Rattle.replay_journal.proofs.Standing.{stands-more}
use Rattle.replay_journal.proofs.journal.Journal.put.Goals as goal

pub invariant_of-self-in-Ok : goal.invariant_of-self-in-Ok
invariant_of-self-in-Ok g c =
    let room : c.self.inside.count < 2000000 = rw (← c.self.view_is) at c.requires.room in
    record {
      small = omega (arith, room);
      stands = λ is t.
          let t0 : g.K.Disk.tells c.self.inside.disk ≡ true = sym c.append.ensures.tells ∙ t in
          let behind = behind-one (body_of c.args.mark c.greatest.result) c.behind_gate-octets.result c.behind_gate-octets.ensures.value c.behind_gate-octets.ensures.size in
          let done = c.in-Ok.ensures.done t0 (body_of c.args.mark c.greatest.result ∷ []) behind in
          let before = c.self.invariant.stands is t0 in
          let greatest : c.greatest.result ≡ c.self.inside.cache.greatest = c.greatest.ensures in
          let raised : c.args.now ≤ c.self.inside.cache.greatest = rw (← c.self.view_is) at c.requires.raised in
          let same : max c.self.inside.cache.greatest c.args.now ≡ c.self.inside.cache.greatest = omega (arith, raised) in
          let verdicts : (taken : List TakenMark) → Holds c.self.inside.cache taken → cache_verdict c.self.inside.cache.capacity c.self.inside.cache.greatest taken c.args.mark ≡ Taken = rw (← c.self.view_is) at c.requires.taken in
          stands-more g.K.Disk c.self.inside.disk c.append.new.disk c.self.inside.cache c.admit.new.self c.self.inside.count (body_of c.args.mark c.greatest.result) c.args.mark
          (omega (arith, c.admit.ensures.greatest)) c.behind_gate-octets.ensures.back
          (taken-ahead c.self.inside.cache.capacity c.self.inside.cache.greatest before.taken c.args.mark (verdicts before.taken before.holds))
          (c.behind_gate-octets.ensures.told ∙ greatest) done.0 done.1
          (λ taken h.
          let verdict : c.admit.result ≡ Taken = c.admit.ensures.verdict taken h ∙ ap (λ (n : ℕ). cache_verdict c.self.inside.cache.capacity n taken c.args.mark) same ∙ verdicts taken h in
          subst (λ (v : CacheVerdict). Holds c.admit.new.self (with_taken v taken (record { mark = c.args.mark; place = c.self.inside.count }))) verdict (c.admit.ensures.holds taken h))
          before;
    }

pub returns-in-Err-clause-images : goal.returns-in-Err-clause-images
returns-in-Err-clause-images g c t =
    let t0 : g.K.Disk.tells c.self.inside.disk ≡ true = rw (← c.self.view_is) at t in
    let behind = behind-one (body_of c.args.mark c.greatest.result) c.behind_gate-octets.result c.behind_gate-octets.ensures.value c.behind_gate-octets.ensures.size in
    rw (← c.self.view_is) (subst (λ (n : ℕ). LeavesOnly g.K.Disk.moment g.K.Disk.left_since c.self.inside.disk c.append.new.disk (BeforeOrAfter (records_of g.K.Disk c.self.inside.disk) (body_of c.args.mark n))) c.greatest.ensures (c.append.ensures.images t0 (body_of c.args.mark c.greatest.result ∷ []) behind))

pub returns-in-Ok-clause-images : goal.returns-in-Ok-clause-images
returns-in-Ok-clause-images g c t =
    let t0 : g.K.Disk.tells c.self.inside.disk ≡ true = rw (← c.self.view_is) at t in
    let behind = behind-one (body_of c.args.mark c.greatest.result) c.behind_gate-octets.result c.behind_gate-octets.ensures.value c.behind_gate-octets.ensures.size in
    rw (← c.self.view_is) (subst (λ (n : ℕ). LeavesOnly g.K.Disk.moment g.K.Disk.left_since c.self.inside.disk c.append.new.disk (BeforeOrAfter (records_of g.K.Disk c.self.inside.disk) (body_of c.args.mark n))) c.greatest.ensures (c.append.ensures.images t0 (body_of c.args.mark c.greatest.result ∷ []) behind))

pub returns-in-Ok-clause-taken : goal.returns-in-Ok-clause-taken
returns-in-Ok-clause-taken g c t is =
    let unclosed : c.self.inside.closed ≡ false = rw (← c.self.view_is) at c.requires.unclosed in
    let t0 : g.K.Disk.tells c.self.inside.disk ≡ true = rw (← c.self.view_is) at t in
    let behind = behind-one (body_of c.args.mark c.greatest.result) c.behind_gate-octets.result c.behind_gate-octets.ensures.value c.behind_gate-octets.ensures.size in
    let done = c.in-Ok.ensures.done t0 (body_of c.args.mark c.greatest.result ∷ []) behind in
    let stands = c.self.invariant.stands unclosed t0 in
    let due : cache_verdict c.self.inside.cache.capacity c.self.inside.cache.greatest stands.taken c.args.mark ≡ Taken = rw (← c.self.view_is) at c.requires.taken stands.taken stands.holds in
    rw (← c.self.view_is) record {
      records = counted-rests (records_of g.K.Disk c.self.inside.disk ++ body_of c.args.mark c.greatest.result ∷ []) (g.K.Disk.contents c.append.new.disk) done.0
          ∙ ap (λ (n : ℕ). records_of g.K.Disk c.self.inside.disk ++ body_of c.args.mark n ∷ []) c.greatest.ensures;
      durable = done.1;
      fresh = taken-fresh c.self.inside.cache.capacity c.self.inside.cache.greatest stands.taken c.args.mark (records_of g.K.Disk c.self.inside.disk) stands.covers stands.near due;
      back = ap (λ (n : ℕ). mark_in (body_of c.args.mark n)) (sym c.greatest.ensures) ∙ c.behind_gate-octets.ensures.back;
    }
