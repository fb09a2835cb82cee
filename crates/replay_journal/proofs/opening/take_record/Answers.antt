use Rattle.std.proofs.Common.{◌≡◌, ℕ, ◌+◌, ◌≤◌, List, [], ◌∷◌, ◌++◌, length, take, drop, max, sym, ◌∙◌, ap, subst, arith}
use Rattle.gss_base.specs.declared.mark.Mark.{Mark}
use Rattle.replay_cache.specs.declared.cache.TakenMark.{TakenMark}
use Rattle.replay_cache.specs.Taking.{Holds, cache_verdict, with_taken}
use Rattle.replay_journal.specs.Files.{mark_in, is_moment}
use Rattle.replay_journal.specs.Journals.{recent_marks}
use Rattle.replay_journal.proofs.Filling.{fill-one, fill-full}
use Rattle.replay_cache.specs.declared.cache.CacheVerdict.TheVariants.{Full}
use Rattle.replay_journal.proofs.Reading.{mark-some}
use Rattle.replay_journal.proofs.opening.take_record.Goals as goal

pub returns-in_default-admit : goal.returns-in_default-admit
returns-in_default-admit c = record {
  greatest = c.admit.ensures.greatest ∙ omega (arith, c.requires.greatest);
  capacity = c.admit.ensures.capacity;
  taken = λ yes records count filled.
      let body : List ℕ = take 44 (drop 1 c.args.rest.now) in
      let old = c.args.cache.now in
      let marks : List TakenMark = recent_marks old.greatest 0 [] records in
      let same : max old.greatest c.args.greatest ≡ old.greatest = omega (arith, c.requires.greatest) in
      let mark_is : c.in-Some.mark ≡ mark_in body = (mark-some (is_moment (drop 20 body)) (mark_in body) c.in-Some.mark (sym c.mark_at.ensures ∙ c.in-Some.is)).1 in
      fill-one old c.admit.new.self records body c.args.number c.admit.result (c.admit.ensures.greatest ∙ same) c.admit.ensures.capacity count
      (omega (arith, c.requires.near, c.requires.greatest))
      (c.admit.ensures.verdict marks filled.holds ∙ ap (λ (n : ℕ). cache_verdict old.capacity n marks c.in-Some.mark) same ∙ ap (λ (m : Mark). cache_verdict old.capacity old.greatest marks m) mark_is)
      c.in_default-admit.not-Full
      (subst (λ (m : Mark). Holds c.admit.new.self (with_taken c.admit.result marks (record { mark = m; place = c.args.number }))) mark_is (c.admit.ensures.holds marks filled.holds))
      filled;
  full = λ no. cc;
}

pub returns-in-Full-clause-full : goal.returns-in-Full-clause-full
returns-in-Full-clause-full c refused records count filled =
    let body : List ℕ = take 44 (drop 1 c.args.rest.now) in
    let old = c.args.cache.now in
    let marks : List TakenMark = recent_marks old.greatest 0 [] records in
    let same : max old.greatest c.args.greatest ≡ old.greatest = omega (arith, c.requires.greatest) in
    let mark_is : c.in-Some.mark ≡ mark_in body = (mark-some (is_moment (drop 20 body)) (mark_in body) c.in-Some.mark (sym c.mark_at.ensures ∙ c.in-Some.is)).1 in
    let due = c.admit.ensures.verdict marks filled.holds ∙ ap (λ (n : ℕ). cache_verdict old.capacity n marks c.in-Some.mark) same ∙ ap (λ (m : Mark). cache_verdict old.capacity old.greatest marks m) mark_is in
    let full : cache_verdict old.capacity old.greatest marks (mark_in body) ≡ Full = sym due ∙ c.in-Full.is in
    subst (λ (n : ℕ). old.capacity + 1 ≤ length (recent_marks n 0 [] (records ++ body ∷ []))) c.requires.greatest (fill-full old records body full filled)
