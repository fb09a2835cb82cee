use Rattle.std.proofs.Common.{◌≡◌, ◌+◌, ◌-◌, ◌≤◌, ◌<◌, ◌^◌, ◌++◌, ◌∷◌, [], ℕ, List, length, filter, drop, take, refl, sym, ◌∙◌, ap, arith, rules, length-drop, length-append}
use Rattle.std.proofs.lemmas.List.{take_all, take_at, append-nil}
use Rattle.replay_journal.specs.Files.{head, bodies, counted, front, blocks, body_of, no_mark, renewed, is_recent_body}
use Rattle.replay_journal.proofs.Renewing.{from-eight, front-begun, front-renewed, count-renewed, long-file}
use Rattle.replay_journal.proofs.Scanning.{read-step, bodies-shut, starts-long}
use Rattle.replay_journal.proofs.renewal.recent_file.Goals as goal

pub loop-rest-init : goal.loop-rest-init
loop-rest-init c =
    let file = c.args.file.now in
    let m = c.min.result in
    let whole : take (length file - m) (drop m file) ≡ drop 8 file = from-eight file m c.min.ensures in
    let none : length file ≡ length file - 0 = omega arith in
    let body : List ℕ = body_of no_mark c.args.greatest in
    let size : length body ≡ 44 = refl in
    let written : c.write_body.result ≡ body ++ 0 ∷ [] = c.write_body.ensures.value ∙ ap (λ (n : ℕ). body_of (record no_mark { at = n }) c.args.greatest ++ 0 ∷ []) c.start.ensures in
    let begun : c.extend_from_slice.new.self.items ≡ (head ++ 0x4a ∷ []) ++ take 44 c.write_body.result = search rules in
    let octets = begun ∙ ap (λ (l : List ℕ). (head ++ 0x4a ∷ []) ++ l) (ap (take 44) written ∙ take_at body (0 ∷ []) 44 size) ∙ front-begun body in (
      [],
      (λ i. bodies (none i) (sym whole i)),
      (λ long. omega (arith, ap length whole, length-drop 8 file, long)),
      (λ short. omega (arith, ap length whole, length-drop 8 file, short)),
      octets,
      refl,
      omega arith,
    )

pub copy_recent-requires-clause-long : goal.copy_recent-requires-clause-long
copy_recent-requires-clause-long c = omega (arith, starts-long c.loop-rest.rest.now (sym c.starts_open.ensures ∙ c.loop-rest-test.true))

pub overflow_add-count : goal.overflow_add-count
overflow_add-count c =
    let file = c.args.file.now in
    let rest = c.loop-rest.rest.now in
    let inv = c.loop-rest.invariant in
    let opens = sym c.starts_open.ensures ∙ c.loop-rest-test.true in
    let long : 8 ≤ length file = long-file file rest opens inv.3 in
    let bound : length file < 2 ^ 64 = search rules in
    let small : c.loop-rest.count + c.in_ok-count.field-0 < 2 ^ 64 = omega (arith, inv.2 long, inv.6, c.in_ok-count.ensures.one, starts-long rest opens, bound) in
    search rules

pub loop-rest-preserved : goal.loop-rest-preserved
loop-rest-preserved c =
    let file = c.args.file.now in
    let rest = c.loop-rest.rest.now in
    let inv = c.loop-rest.invariant in
    let body : List ℕ = take 44 (drop 1 rest) in
    let opens = sym c.starts_open.ensures ∙ c.loop-rest-test.true in
    let long : 8 ≤ length file = long-file file rest opens inv.3 in
    let step = read-step file rest (take (length rest - 45) (drop 45 rest)) inv.0 (length inv.0) opens (inv.2 long) inv.1 (take_all (length rest - 45) (drop 45 rest) (omega (arith, length-drop 45 rest))) in
    let count : length (inv.0 ++ body ∷ []) ≡ length inv.0 + 1 = length-append inv.0 (body ∷ []) in
    let next = take (length rest - 45) (drop 45 rest) in (
      inv.0 ++ body ∷ [],
      step.1 ∙ ap (λ (n : ℕ). (inv.0 ++ body ∷ []) ++ bodies (length file - n) next) (sym count),
      (λ l. omega (arith, step.0, count)),
      (λ short. absurd (omega (arith, long, short))),
      c.in_ok-count.ensures.octets ∙ ap (λ (l : List ℕ). l ++ blocks (filter (is_recent_body c.args.greatest) (body ∷ []))) inv.4 ∙ sym (front-renewed c.args.greatest inv.0 body),
      omega (arith, inv.5, c.in_ok-count.ensures.count, count-renewed c.args.greatest inv.0 body),
      omega (arith, inv.6, c.in_ok-count.ensures.one, count),
    )

pub returns-clause-octets : goal.returns-clause-octets
returns-clause-octets c =
    let file = c.args.file.now in
    let rest = c.loop-rest.rest.now in
    let inv = c.loop-rest.invariant in
    let shut = sym c.starts_open.ensures ∙ c.loop-rest-test.false in
    let all : counted file ≡ inv.0 = inv.1 ∙ ap (λ (l : List (List ℕ)). inv.0 ++ l) (bodies-shut (length file - length inv.0) rest shut) ∙ append-nil inv.0 in
    let pushed : c.push-2.new.self.items ≡ c.loop-rest.octets.items ++ 0 ∷ [] = search rules in
    pushed ∙ ap (λ (l : List ℕ). l ++ 0 ∷ []) inv.4 ∙ ap (λ (r : List (List ℕ)). front (renewed c.args.greatest r) ++ 0 ∷ []) (sym all)

pub returns-clause-count : goal.returns-clause-count
returns-clause-count c =
    let file = c.args.file.now in
    let rest = c.loop-rest.rest.now in
    let inv = c.loop-rest.invariant in
    let shut = sym c.starts_open.ensures ∙ c.loop-rest-test.false in
    let all : counted file ≡ inv.0 = inv.1 ∙ ap (λ (l : List (List ℕ)). inv.0 ++ l) (bodies-shut (length file - length inv.0) rest shut) ∙ append-nil inv.0 in
    inv.5 ∙ ap (λ (r : List (List ℕ)). length (renewed c.args.greatest r)) (sym all)
