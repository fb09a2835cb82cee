use Rattle.std.proofs.Common.{◌≡◌, ℕ, ◌+◌, ◌*◌, ◌<◌, List, [], length, refl, sym, ◌∙◌, ap, subst}
use Rattle.replay_journal.specs.Files.{Rests, counted, greatest_of}
use Rattle.replay_journal.specs.Journals.{AllNear, Filled, IsRefreshed, recent_marks, records_of}
use Rattle.replay_journal.proofs.Blocks.{counted-rests}
use Rattle.replay_journal.proofs.Opened.{IsFound, based-opened, tries-refreshed}
use Rattle.replay_journal.proofs.Standing.{stands-opened}
use Rattle.replay_journal.proofs.journal.Journal.open.Goals as goal

pub refresh-requires-clause-stands : goal.refresh-requires-clause-stands
refresh-requires-clause-stands g c t =
    let file = c.in-Ok.found.file.items in
    let mid = c.read_in.new.disk in
    let t0 = sym c.read_in.ensures.tells ∙ t in
    let rests = c.in-Ok.ensures.rests t0 in
    let records : records_of g.K.Disk mid ≡ counted file = counted-rests (counted file) (g.K.Disk.contents mid) rests in (
      subst (λ (r : List (List ℕ)). Rests r (g.K.Disk.contents mid)) (sym records) rests,
      c.in-Ok.ensures.durable t0,
      c.in-Ok.ensures.counts ∙ ap length (sym records),
      subst (AllNear c.in-Ok.found.greatest) (sym records) c.in-Ok.ensures.near,
    )

pub invariant_of-result : goal.invariant_of-result
invariant_of-result g c = record {
  small = c.in-Ok-refresh.ensures.small;
  stands = λ is t.
      let file = c.in-Ok.found.file.items in
      let mid = c.read_in.new.disk in
      let t1 = sym c.refresh.ensures.tells ∙ t in
      let rests = c.in-Ok.ensures.rests (sym c.read_in.ensures.tells ∙ t1) in
      let records : records_of g.K.Disk mid ≡ counted file = counted-rests (counted file) (g.K.Disk.contents mid) rests in
      let filled : Filled c.fill.new.cache (counted file) = subst (λ (f : List ℕ). Filled c.fill.new.cache (counted f)) c.deref.ensures.value (c.fill.ensures.filled c.if-not-fill.false) in
      let refreshed = subst (λ (n : ℕ). IsRefreshed g.K.Disk (2 * c.held.result + 1 < c.in-Ok.found.count) mid c.refresh.new.disk n c.in-Ok-refresh.count) (sym c.fill.ensures.same) (c.in-Ok-refresh.ensures.stands t1) in
      stands-opened g.K.Disk (2 * c.held.result + 1 < c.in-Ok.found.count) mid c.refresh.new.disk c.fill.new.cache c.in-Ok-refresh.count (counted file) records refreshed filled;
}

pub returns-in-Ok-refresh-clause-opened : goal.returns-in-Ok-refresh-clause-opened
returns-in-Ok-refresh-clause-opened g c t only =
    let file = c.in-Ok.found.file.items in
    let image = g.K.Disk.contents c.args.disk in
    let mid = c.read_in.new.disk in
    let t1 = c.read_in.ensures.tells ∙ t in
    let records : records_of g.K.Disk mid ≡ counted file = counted-rests (counted file) (g.K.Disk.contents mid) (c.in-Ok.ensures.rests t) in
    let filled : Filled c.fill.new.cache (counted file) = subst (λ (f : List ℕ). Filled c.fill.new.cache (counted f)) c.deref.ensures.value (c.fill.ensures.filled c.if-not-fill.false) in
    let found : IsFound file image c.args.start c.in-Ok.found.greatest c.held.result c.in-Ok.found.count = record {
      same = c.in-Ok.ensures.read t;
      greatest_is = c.in-Ok.ensures.greatest;
      held_is = c.held.ensures ∙ ap length (filled.holds.kept ∙ filled.all) ∙ ap (λ (n : ℕ). length (recent_marks n 0 [] (counted file))) c.fill.ensures.same;
      count_is = c.in-Ok.ensures.counts;
    } in
    let tries = tries-refreshed g.K.Disk file image c.args.start c.in-Ok.found.greatest c.held.result c.in-Ok.found.count c.args.disk mid c.refresh.new.disk t refl only (c.read_in.ensures.images t only) found records (c.refresh.ensures.images t1) in
    let refreshed = c.in-Ok-refresh.ensures.stands t1 in
    record {
      tries = tries;
      tells = c.refresh.ensures.tells ∙ t1;
      records = based-opened file image c.args.start c.in-Ok.found.greatest c.held.result c.in-Ok.found.count (records_of g.K.Disk mid) (records_of g.K.Disk c.refresh.new.disk) found records refreshed.based;
      durable = refreshed.durable;
      greatest = c.fill.ensures.same ∙ c.in-Ok.ensures.greatest ∙ ap (greatest_of c.args.start) (c.in-Ok.ensures.read t);
    }

pub returns-in-Ok-refresh-clause-tries : goal.returns-in-Ok-refresh-clause-tries
returns-in-Ok-refresh-clause-tries g c t only =
    let file = c.in-Ok.found.file.items in
    let image = g.K.Disk.contents c.args.disk in
    let mid = c.read_in.new.disk in
    let t1 = c.read_in.ensures.tells ∙ t in
    let records : records_of g.K.Disk mid ≡ counted file = counted-rests (counted file) (g.K.Disk.contents mid) (c.in-Ok.ensures.rests t) in
    let filled : Filled c.fill.new.cache (counted file) = subst (λ (f : List ℕ). Filled c.fill.new.cache (counted f)) c.deref.ensures.value (c.fill.ensures.filled c.if-not-fill.false) in
    let found : IsFound file image c.args.start c.in-Ok.found.greatest c.held.result c.in-Ok.found.count = record {
      same = c.in-Ok.ensures.read t;
      greatest_is = c.in-Ok.ensures.greatest;
      held_is = c.held.ensures ∙ ap length (filled.holds.kept ∙ filled.all) ∙ ap (λ (n : ℕ). length (recent_marks n 0 [] (counted file))) c.fill.ensures.same;
      count_is = c.in-Ok.ensures.counts;
    } in
    let tries = tries-refreshed g.K.Disk file image c.args.start c.in-Ok.found.greatest c.held.result c.in-Ok.found.count c.args.disk mid c.refresh.new.disk t refl only (c.read_in.ensures.images t only) found records (c.refresh.ensures.images t1) in
    tries

pub returns-clause-tries : goal.returns-clause-tries
returns-clause-tries g c t only =
    let file = c.in-Ok.found.file.items in
    let image = g.K.Disk.contents c.args.disk in
    let mid = c.read_in.new.disk in
    let t1 = c.read_in.ensures.tells ∙ t in
    let records : records_of g.K.Disk mid ≡ counted file = counted-rests (counted file) (g.K.Disk.contents mid) (c.in-Ok.ensures.rests t) in
    let filled : Filled c.fill.new.cache (counted file) = subst (λ (f : List ℕ). Filled c.fill.new.cache (counted f)) c.deref.ensures.value (c.fill.ensures.filled c.if-not-fill.false) in
    let found : IsFound file image c.args.start c.in-Ok.found.greatest c.held.result c.in-Ok.found.count = record {
      same = c.in-Ok.ensures.read t;
      greatest_is = c.in-Ok.ensures.greatest;
      held_is = c.held.ensures ∙ ap length (filled.holds.kept ∙ filled.all) ∙ ap (λ (n : ℕ). length (recent_marks n 0 [] (counted file))) c.fill.ensures.same;
      count_is = c.in-Ok.ensures.counts;
    } in
    let tries = tries-refreshed g.K.Disk file image c.args.start c.in-Ok.found.greatest c.held.result c.in-Ok.found.count c.args.disk mid c.refresh.new.disk t refl only (c.read_in.ensures.images t only) found records (c.refresh.ensures.images t1) in
    tries
