use Rattle.std.proofs.Common.{◌≡◌, true, ℕ, ◌+◌, ◌-◌, ◌≤◌, ◌<◌, List, [], ◌++◌, length, map, drop, take, refl, sym, ◌∙◌, ap, subst, arith, rules, length-drop}
use Rattle.std.proofs.lemmas.List.{take_all}
use Rattle.std.proofs.lemmas.Bool.Decides.{nat_tests}
use Rattle.replay_cache.specs.declared.cache.TakenMark.{TakenMark}
use Rattle.replay_journal.specs.declared.journal.JournalVerdict.{JournalVerdict}
use Rattle.replay_journal.specs.Files.{AreBehind, blocks}
use Rattle.replay_journal.specs.Groups.{Due, bodies_of, dues_on, taken_on, verdicts_on}
use Rattle.replay_journal.specs.Journals.{JournalOf, kept_by, most, records_of}
use Rattle.replay_journal.proofs.Grouped.{Knows, no-dues, behind-dues, known-more, all-known, stands-known, stands-all, together-quiet, together-kept, together-lost}
use Rattle.replay_journal.proofs.journal.Journal.keep_all.Goals as goal

pub judge_each-next-requires-clause-few : goal.judge_each-next-requires-clause-few
judge_each-next-requires-clause-few g c =
    let yes : c.has_room.result ≡ true = search rules in
    c.has_room.ensures.room yes

pub invariant_of-self : goal.invariant_of-self
invariant_of-self g c = record {
  small = c.self.invariant.small;
  stands = λ is t.
      let stands = c.self.invariant.stands is t in
      let old = c.self.inside in
      let asked = c.args.asked.now in
      let judged = c.judge_each-next.ensures.judged stands.taken stands.holds in
      let octets = c.judge_each-next.new.octets in
      let dues : List Due = dues_on old.cache.capacity old.cache.greatest stands.taken old.count asked in
      let empty : length octets.items ≡ 0 = grind (arith, nat_tests, c.is_empty.ensures, c.if-is_empty.true, octets.ok) in
      let none : dues ≡ [] = no-dues c.in-Ok-with_capacity.octets.items octets.items dues c.in-Ok-with_capacity.ensures.items judged.writes empty in
      let after : List TakenMark = taken_on old.cache.capacity old.cache.greatest stands.taken old.count asked in
      let known = known-more old.cache.capacity old.cache.greatest stands.taken old.count asked (records_of g.K.Disk old.disk) none (record { covers = stands.covers; near = stands.near }) in
      stands-known g.K.Disk old.disk old.cache c.judge_each-next.new.cache old.count after judged.holds
      (subst (λ (n : ℕ). Knows n after (records_of g.K.Disk old.disk)) (sym c.judge_each-next.ensures.greatest) known) stands;
}

pub returns-then-is_empty-clause-room : goal.returns-then-is_empty-clause-room
returns-then-is_empty-clause-room g c many =
    let yes : c.has_room.result ≡ true = search rules in
    let few : c.self.inside.count + length c.args.asked.now ≤ 2000000 = c.has_room.ensures.room yes in
    let over : most < c.self.inside.count + length c.args.asked.now = rw (← c.self.view_is) at many in
    absurd (omega (arith, few, over))

pub returns-then-is_empty-clause-together : goal.returns-then-is_empty-clause-together
returns-then-is_empty-clause-together g c t =
    let t0 : g.K.Disk.tells c.self.inside.disk ≡ true = rw (← c.self.view_is) at t in
    let stands = c.self.invariant.stands c.if-self.false t0 in
    let old = c.self.inside in
    let asked = c.args.asked.now in
    let judged = c.judge_each-next.ensures.judged stands.taken stands.holds in
    let octets = c.judge_each-next.new.octets in
    let dues : List Due = dues_on old.cache.capacity old.cache.greatest stands.taken old.count asked in
    let empty : length octets.items ≡ 0 = grind (arith, nat_tests, c.is_empty.ensures, c.if-is_empty.true, octets.ok) in
    let none : dues ≡ [] = no-dues c.in-Ok-with_capacity.octets.items octets.items dues c.in-Ok-with_capacity.ensures.items judged.writes empty in
    let says = judged.says ∙ ap (λ (l : List JournalVerdict). l ++ map kept_by (verdicts_on old.cache.capacity old.cache.greatest stands.taken old.count asked)) c.in-Ok.ensures.items in
    let j : JournalOf _ = record { disk = c.self.inside.disk; cache = c.self.inside.cache; count = c.self.inside.count; closed = c.self.inside.closed } in
    rw (← c.self.view_is) (together-quiet g.K.Disk j _ asked c.judge_each-next.new.answers.items c.if-self.false refl (g.met.K.Disk.only_now c.self.inside.disk) stands none says)

pub invariant_of-self-in-Ok-append : goal.invariant_of-self-in-Ok-append
invariant_of-self-in-Ok-append g c =
    let yes : c.has_room.result ≡ true = search rules in
    let few : c.self.inside.count + length c.args.asked.now ≤ 2000000 = c.has_room.ensures.room yes in
    record {
      small = omega (arith, few, c.judge_each-next.ensures.next);
      stands = λ is t.
          let t0 : g.K.Disk.tells c.self.inside.disk ≡ true = sym c.append.ensures.tells ∙ t in
          let stands = c.self.invariant.stands is t0 in
          let old = c.self.inside in
          let asked = c.args.asked.now in
          let judged = c.judge_each-next.ensures.judged stands.taken stands.holds in
          let octets = c.judge_each-next.new.octets in
          let dues : List Due = dues_on old.cache.capacity old.cache.greatest stands.taken old.count asked in
          let some : 0 < length octets.items = grind (arith, nat_tests, c.is_empty.ensures, c.if-is_empty.false, octets.ok) in
          let wrote : octets.items ≡ blocks (bodies_of dues) = judged.writes ∙ ap (λ (l : List ℕ). l ++ blocks (bodies_of dues)) c.in-Ok-with_capacity.ensures.items in
          let sliced : take (length c.deref.result.now - 1) (drop 1 c.deref.result.now) ≡ drop 1 c.deref.result.now = take_all (length c.deref.result.now - 1) (drop 1 c.deref.result.now) (omega (arith, length-drop 1 c.deref.result.now)) in
          let behind = subst (AreBehind (bodies_of dues)) (sym sliced) (subst (λ (l : List ℕ). AreBehind (bodies_of dues) (drop 1 l)) (sym (c.deref.ensures.value ∙ c.push_reserved.ensures.items)) (behind-dues dues octets.items wrote some judged.written)) in
          let after : List TakenMark = taken_on old.cache.capacity old.cache.greatest stands.taken old.count asked in
          let known = all-known old.cache.capacity old.cache.greatest stands.taken old.count asked (records_of g.K.Disk old.disk) (record { covers = stands.covers; near = stands.near }) judged.written in
          let done = c.in-Ok-append.ensures.done t0 (bodies_of dues) behind in
          stands-all g.K.Disk old.disk c.append.new.disk old.cache c.judge_each-next.new.cache old.count c.judge_each-next.result asked after dues judged.next judged.holds
          (subst (λ (n : ℕ). Knows n after (records_of g.K.Disk old.disk ++ bodies_of dues)) (sym c.judge_each-next.ensures.greatest) known) done.0 done.1 stands;
    }

pub returns-in-Ok-append-clause-together : goal.returns-in-Ok-append-clause-together
returns-in-Ok-append-clause-together g c t =
    let t0 : g.K.Disk.tells c.self.inside.disk ≡ true = rw (← c.self.view_is) at t in
    let stands = c.self.invariant.stands c.if-self.false t0 in
    let old = c.self.inside in
    let asked = c.args.asked.now in
    let judged = c.judge_each-next.ensures.judged stands.taken stands.holds in
    let octets = c.judge_each-next.new.octets in
    let dues : List Due = dues_on old.cache.capacity old.cache.greatest stands.taken old.count asked in
    let some : 0 < length octets.items = grind (arith, nat_tests, c.is_empty.ensures, c.if-is_empty.false, octets.ok) in
    let wrote : octets.items ≡ blocks (bodies_of dues) = judged.writes ∙ ap (λ (l : List ℕ). l ++ blocks (bodies_of dues)) c.in-Ok-with_capacity.ensures.items in
    let sliced : take (length c.deref.result.now - 1) (drop 1 c.deref.result.now) ≡ drop 1 c.deref.result.now = take_all (length c.deref.result.now - 1) (drop 1 c.deref.result.now) (omega (arith, length-drop 1 c.deref.result.now)) in
    let behind = subst (AreBehind (bodies_of dues)) (sym sliced) (subst (λ (l : List ℕ). AreBehind (bodies_of dues) (drop 1 l)) (sym (c.deref.ensures.value ∙ c.push_reserved.ensures.items)) (behind-dues dues octets.items wrote some judged.written)) in
    let says = judged.says ∙ ap (λ (l : List JournalVerdict). l ++ map kept_by (verdicts_on old.cache.capacity old.cache.greatest stands.taken old.count asked)) c.in-Ok.ensures.items in
    let j : JournalOf _ = record { disk = c.self.inside.disk; cache = c.self.inside.cache; count = c.self.inside.count; closed = c.self.inside.closed } in
    let done = c.in-Ok-append.ensures.done t0 (bodies_of dues) behind in
    rw (← c.self.view_is) (together-kept g.K.Disk j _ asked c.judge_each-next.new.answers.items c.if-self.false c.append.ensures.tells stands judged.written says (c.append.ensures.images t0 (bodies_of dues) behind) done.0 done.1)

pub returns-in-Err-clause-lost : goal.returns-in-Err-clause-lost
returns-in-Err-clause-lost g c t is =
    let t0 : g.K.Disk.tells c.self.inside.disk ≡ true = rw (← c.self.view_is) at t in
    let stands = c.self.invariant.stands c.if-self.false t0 in
    let old = c.self.inside in
    let asked = c.args.asked.now in
    let judged = c.judge_each-next.ensures.judged stands.taken stands.holds in
    let octets = c.judge_each-next.new.octets in
    let dues : List Due = dues_on old.cache.capacity old.cache.greatest stands.taken old.count asked in
    let some : 0 < length octets.items = grind (arith, nat_tests, c.is_empty.ensures, c.if-is_empty.false, octets.ok) in
    let wrote : octets.items ≡ blocks (bodies_of dues) = judged.writes ∙ ap (λ (l : List ℕ). l ++ blocks (bodies_of dues)) c.in-Ok-with_capacity.ensures.items in
    let sliced : take (length c.deref.result.now - 1) (drop 1 c.deref.result.now) ≡ drop 1 c.deref.result.now = take_all (length c.deref.result.now - 1) (drop 1 c.deref.result.now) (omega (arith, length-drop 1 c.deref.result.now)) in
    let behind = subst (AreBehind (bodies_of dues)) (sym sliced) (subst (λ (l : List ℕ). AreBehind (bodies_of dues) (drop 1 l)) (sym (c.deref.ensures.value ∙ c.push_reserved.ensures.items)) (behind-dues dues octets.items wrote some judged.written)) in
    let j : JournalOf _ = record { disk = c.self.inside.disk; cache = c.self.inside.cache; count = c.self.inside.count; closed = c.self.inside.closed } in
    rw (← c.self.view_is) (together-lost g.K.Disk j _ asked c.if-self.false refl c.append.ensures.tells stands judged.written (c.append.ensures.images t0 (bodies_of dues) behind))
