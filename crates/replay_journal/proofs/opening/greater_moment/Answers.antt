use Rattle.std.proofs.Common.{◌≡◌, ◌+◌, ◌≤◌, ◌<◌, max, ℕ, List, take, drop, None, Some, refl, sym, ◌∙◌, ap, arith, rules}
use Rattle.gss_base.specs.declared.mark.Mark.{Mark}
use Rattle.replay_cache.specs.Taking.{skew}
use Rattle.replay_journal.specs.Files.{is_moment, moment_at, mark_in, greatest_in}
use Rattle.replay_journal.proofs.Filling.{later-read}
use Rattle.replay_journal.proofs.Reading.{some-if, none-if, mark-some, genuine-is, genuine-late, genuine-no}
use Rattle.replay_journal.proofs.opening.greater_moment.Goals as goal

pub returns-in_err-then : goal.returns-in_err-then
returns-in_err-then c =
    let rest = c.args.rest.now in
    let octets : List ℕ = take 12 (drop 33 rest) in
    let none : c.moment_in.result ≡ None = search rules in
    let bad = none-if (is_moment octets) (moment_at octets) (sym c.moment_in.ensures ∙ none) in
    rw (genuine-no (take 44 (drop 1 rest)) (ap is_moment (sym (later-read rest)) ∙ bad)) (search rules)

pub returns-then-total : goal.returns-then-total
returns-then-total c =
    let rest = c.args.rest.now in
    let octets : List ℕ = take 12 (drop 33 rest) in
    let body : List ℕ = take 44 (drop 1 rest) in
    let mark : c.mark_at.result ≡ Some c.in_ok-mark.mark = search rules in
    let one = mark-some (is_moment (drop 20 body)) (mark_in body) c.in_ok-mark.mark (sym c.mark_at.ensures ∙ mark) in
    let some : c.moment_in.result ≡ Some c.in_ok-then.then = search rules in
    let two = some-if (is_moment octets) (moment_at octets) c.in_ok-then.then (sym c.moment_in.ensures ∙ some) in
    let then_ : c.in_ok-then.then ≡ greatest_in body = sym two.1 ∙ ap moment_at (later-read rest) in
    let late : greatest_in body + skew < (mark_in body).at = omega (arith, c.if-total.true, c.total.ensures.value, c.total-2.ensures.value, ap (λ (m : Mark). m.at) one.1, then_) in
    rw (genuine-late body late) refl

pub returns-then-total-2 : goal.returns-then-total-2
returns-then-total-2 c =
    let rest = c.args.rest.now in
    let octets : List ℕ = take 12 (drop 33 rest) in
    let body : List ℕ = take 44 (drop 1 rest) in
    let mark : c.mark_at.result ≡ Some c.in_ok-mark.mark = search rules in
    let one = mark-some (is_moment (drop 20 body)) (mark_in body) c.in_ok-mark.mark (sym c.mark_at.ensures ∙ mark) in
    let some : c.moment_in.result ≡ Some c.in_ok-then.then = search rules in
    let two = some-if (is_moment octets) (moment_at octets) c.in_ok-then.then (sym c.moment_in.ensures ∙ some) in
    let then_ : c.in_ok-then.then ≡ greatest_in body = sym two.1 ∙ ap moment_at (later-read rest) in
    let near : (mark_in body).at ≤ greatest_in body + skew = omega (arith, c.if-total.false, c.total.ensures.value, c.total-2.ensures.value, ap (λ (m : Mark). m.at) one.1, then_) in
    let later : c.in_ok-then.then ≡ max c.args.greatest (greatest_in body) = omega (arith, then_, c.if-total-2.true, c.total-3.ensures.value, c.total-4.ensures.value) in
    rw (genuine-is body one.0 (ap is_moment (sym (later-read rest)) ∙ two.0) near) (ap Some later)

pub returns-else-total-2 : goal.returns-else-total-2
returns-else-total-2 c =
    let rest = c.args.rest.now in
    let octets : List ℕ = take 12 (drop 33 rest) in
    let body : List ℕ = take 44 (drop 1 rest) in
    let mark : c.mark_at.result ≡ Some c.in_ok-mark.mark = search rules in
    let one = mark-some (is_moment (drop 20 body)) (mark_in body) c.in_ok-mark.mark (sym c.mark_at.ensures ∙ mark) in
    let some : c.moment_in.result ≡ Some c.in_ok-then.then = search rules in
    let two = some-if (is_moment octets) (moment_at octets) c.in_ok-then.then (sym c.moment_in.ensures ∙ some) in
    let then_ : c.in_ok-then.then ≡ greatest_in body = sym two.1 ∙ ap moment_at (later-read rest) in
    let near : (mark_in body).at ≤ greatest_in body + skew = omega (arith, c.if-total.false, c.total.ensures.value, c.total-2.ensures.value, ap (λ (m : Mark). m.at) one.1, then_) in
    let later : c.args.greatest ≡ max c.args.greatest (greatest_in body) = omega (arith, then_, c.if-total-2.false, c.total-3.ensures.value, c.total-4.ensures.value) in
    rw (genuine-is body one.0 (ap is_moment (sym (later-read rest)) ∙ two.0) near) (ap Some later)
