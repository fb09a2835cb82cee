use Rattle.std.proofs.Common.{◌≡◌, ◌-◌, ◌++◌, ◌∷◌, [], ℕ, List, length, drop, take, sym, ◌∙◌, ap, subst, arith, length-drop, length-append, max, refl}
use Rattle.std.proofs.lemmas.List.{take_all, append-nil}
use Rattle.replay_journal.specs.Files.{bodies, counted, greatest_in, greatest_of, is_genuine, all_genuine}
use Rattle.replay_journal.specs.Journals.{AllNear}
use Rattle.replay_journal.proofs.Scanning.{read-step, near-more, bodies-shut, bad-here, genuine-more, genuine-near, greatest-more}
use Rattle.replay_journal.proofs.Reading.{some-if, none-if}
use Rattle.replay_journal.proofs.opening.scan.Goals as goal

pub loop-rest-init : goal.loop-rest-init
loop-rest-init c =
    let file = c.args.file.now in
    let whole : take (length file - 8) (drop 8 file) ≡ drop 8 file = take_all (length file - 8) (drop 8 file) (omega (arith, length-drop 8 file)) in
    let none : length file ≡ length file - 0 = omega arith in
    ([], (λ i. bodies (none i) (sym whole i)), omega (arith, ap length whole, length-drop 8 file, c.requires), tt, omega arith, omega arith, refl, refl)

pub loop-rest-preserved : goal.loop-rest-preserved
loop-rest-preserved c =
    let file = c.args.file.now in
    let rest = c.loop-rest.rest.now in
    let body : List ℕ = take 44 (drop 1 rest) in
    let inv = c.loop-rest.invariant in
    let opens = sym c.starts_open.ensures ∙ c.loop-rest-test.true in
    let step = read-step file rest (take (length rest - 45) (drop 45 rest)) inv.0 c.loop-rest.count opens inv.2 inv.1 (take_all (length rest - 45) (drop 45 rest) (omega (arith, length-drop 45 rest))) in
    let some = some-if (is_genuine body) (max c.loop-rest.greatest (greatest_in body)) c.in-Some.then (sym c.greater_moment.ensures ∙ c.in-Some.is) in (
      inv.0 ++ body ∷ [],
      step.1,
      step.0,
      near-more c.loop-rest.greatest c.in-Some.then inv.0 body (omega (arith, some.1)) (omega (arith, some.1, genuine-near body some.0)) (omega (arith, some.1)) inv.3,
      omega (arith, inv.4, length-append inv.0 (body ∷ [])),
      omega (arith, inv.5, some.1),
      sym some.1 ∙ ap (λ (n : ℕ). max n (greatest_in body)) inv.6 ∙ sym (greatest-more c.args.start inv.0 body),
      genuine-more inv.0 body inv.7 some.0,
    )

pub returns-in-None-clause-bad : goal.returns-in-None-clause-bad
returns-in-None-clause-bad c is =
    let file = c.args.file.now in
    let rest = c.loop-rest.rest.now in
    let body : List ℕ = take 44 (drop 1 rest) in
    let inv = c.loop-rest.invariant in
    let opens = sym c.starts_open.ensures ∙ c.loop-rest-test.true in
    bad-here file rest inv.0 c.loop-rest.count opens inv.2 inv.1 (none-if (is_genuine body) (max c.loop-rest.greatest (greatest_in body)) (sym c.greater_moment.ensures ∙ c.in-None.is))

pub returns : goal.returns
returns c =
    let file = c.args.file.now in
    let rest = c.loop-rest.rest.now in
    let inv = c.loop-rest.invariant in
    let shut = sym c.starts_open.ensures ∙ c.loop-rest-test.false in
    let all : counted file ≡ inv.0 = inv.1 ∙ ap (λ (l : List (List ℕ)). inv.0 ++ l) (bodies-shut (length file - c.loop-rest.count) rest shut) ∙ append-nil inv.0 in
    record { count = sym inv.4 ∙ ap length (sym all); near = subst (AllNear c.loop-rest.greatest) (sym all) inv.3; start = inv.5; small = omega (arith, inv.2); greatest = inv.6 ∙ ap (greatest_of c.args.start) (sym all); genuine = ap all_genuine all ∙ inv.7; bad = λ is. cc }
