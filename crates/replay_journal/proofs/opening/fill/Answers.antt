use Rattle.std.proofs.Common.{◌≡◌, true, false, ◌+◌, ◌-◌, ◌++◌, ◌∷◌, [], ℕ, List, length, drop, take, sym, ◌∙◌, ap, subst, arith, rules, length-drop, length-append, refl, append_assoc}
use Rattle.std.proofs.lemmas.List.{take_all, append-nil}
use Rattle.replay_journal.specs.Files.{bodies, counted}
use Rattle.replay_journal.specs.Journals.{Filled, recent_marks}
use Rattle.replay_journal.proofs.Filling.{marks-longer}
use Rattle.replay_journal.proofs.Scanning.{read-step, near-here, genuine-here, counted-here, bodies-shut}
use Rattle.replay_journal.proofs.opening.fill.Goals as goal

pub loop-rest-init : goal.loop-rest-init
loop-rest-init c =
    let file = c.args.file.now in
    let whole : take (length file - 8) (drop 8 file) ≡ drop 8 file = take_all (length file - 8) (drop 8 file) (omega (arith, length-drop 8 file)) in
    let none : length file ≡ length file - 0 = omega arith in
    let filled : Filled c.args.cache.now [] = record { holds = c.requires.empty; covers = tt; all = refl; few = omega arith } in
    ([], (λ i. bodies (none i) (sym whole i)), omega (arith, ap length whole, length-drop 8 file, c.requires.long), filled, c.requires.greatest, refl, refl)

pub take_record-requires-clause-near : goal.take_record-requires-clause-near
take_record-requires-clause-near c =
    let file = c.args.file.now in
    let inv = c.loop-rest.invariant in
    near-here c.args.greatest file c.loop-rest.rest.now inv.0 c.loop-rest.number (sym c.starts_open.ensures ∙ c.loop-rest-test.true) inv.2 inv.1 c.requires.near

pub take_record-requires-clause-genuine : goal.take_record-requires-clause-genuine
take_record-requires-clause-genuine c =
    let file = c.args.file.now in
    let inv = c.loop-rest.invariant in
    genuine-here file c.loop-rest.rest.now inv.0 c.loop-rest.number (sym c.starts_open.ensures ∙ c.loop-rest-test.true) inv.2 inv.1 c.requires.genuine

pub loop-rest-preserved : goal.loop-rest-preserved
loop-rest-preserved c =
    let file = c.args.file.now in
    let rest = c.loop-rest.rest.now in
    let inv = c.loop-rest.invariant in
    let opens = sym c.starts_open.ensures ∙ c.loop-rest-test.true in
    let step = read-step file rest (take (length rest - 45) (drop 45 rest)) inv.0 c.loop-rest.number opens inv.2 inv.1 (take_all (length rest - 45) (drop 45 rest) (omega (arith, length-drop 45 rest))) in
    let yes : c.take_record.result ≡ true = search rules in
    (inv.0 ++ take 44 (drop 1 rest) ∷ [], step.1, step.0, c.take_record.ensures.taken yes inv.0 inv.6 inv.3, c.take_record.ensures.greatest, c.take_record.ensures.capacity ∙ inv.5, omega (arith, inv.6, length-append inv.0 (take 44 (drop 1 rest) ∷ [])))

pub returns-then-not-take_record-clause-full : goal.returns-then-not-take_record-clause-full
returns-then-not-take_record-clause-full c is =
    let file = c.args.file.now in
    let rest = c.loop-rest.rest.now in
    let body : List ℕ = take 44 (drop 1 rest) in
    let inv = c.loop-rest.invariant in
    let opens = sym c.starts_open.ensures ∙ c.loop-rest-test.true in
    let no : c.take_record.result ≡ false = search rules in
    let more : List (List ℕ) = bodies (length file - (c.loop-rest.number + 1)) (drop 45 rest) in
    let all : counted file ≡ (inv.0 ++ body ∷ []) ++ more = counted-here file rest inv.0 c.loop-rest.number opens inv.2 inv.1 ∙ sym (append_assoc inv.0 (body ∷ []) more) in
    let here = c.take_record.ensures.full no inv.0 inv.6 inv.3 in
    let longer = marks-longer c.args.greatest 0 [] (inv.0 ++ body ∷ []) more in
    omega (arith, here, longer, inv.5, ap (λ (l : List (List ℕ)). length (recent_marks c.args.greatest 0 [] l)) all)

pub returns-clause-filled : goal.returns-clause-filled
returns-clause-filled c is =
    let file = c.args.file.now in
    let rest = c.loop-rest.rest.now in
    let inv = c.loop-rest.invariant in
    let shut = sym c.starts_open.ensures ∙ c.loop-rest-test.false in
    let all : counted file ≡ inv.0 = inv.1 ∙ ap (λ (l : List (List ℕ)). inv.0 ++ l) (bodies-shut (length file - c.loop-rest.number) rest shut) ∙ append-nil inv.0 in
    subst (Filled c.loop-rest.cache) (sym all) inv.3
