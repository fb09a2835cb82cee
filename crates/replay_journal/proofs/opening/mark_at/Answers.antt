use Rattle.std.proofs.Common.{◌≡◌, true, false, ℕ, List, take, drop, None, Some, sym, ◌∙◌, rules}
use Rattle.replay_journal.specs.Files.{is_moment, moment_at}
use Rattle.replay_journal.proofs.Filling.{is-moment-read, moment-read, who-read}
use Rattle.replay_journal.proofs.Reading.{some-if, none-if}
use Rattle.replay_journal.proofs.opening.mark_at.Goals as goal

pub returns-in_err-at : goal.returns-in_err-at
returns-in_err-at c =
    let rest = c.args.rest.now in
    let octets : List ℕ = take 12 (drop 21 rest) in
    let none : c.moment_in.result ≡ None = search rules in
    let bad : is_moment (drop 20 (take 44 (drop 1 rest))) ≡ false = sym (is-moment-read rest) ∙ none-if (is_moment octets) (moment_at octets) (sym c.moment_in.ensures ∙ none) in
    rw bad (search rules)

pub returns : goal.returns
returns c =
    let rest = c.args.rest.now in
    let octets : List ℕ = take 12 (drop 21 rest) in
    let body : List ℕ = take 44 (drop 1 rest) in
    let some : c.moment_in.result ≡ Some c.in_ok-at.at = search rules in
    let both = some-if (is_moment octets) (moment_at octets) c.in_ok-at.at (sym c.moment_in.ensures ∙ some) in
    let good : is_moment (drop 20 body) ≡ true = sym (is-moment-read rest) ∙ both.0 in
    let at : c.in_ok-at.at ≡ moment_at (drop 20 body) = sym both.1 ∙ moment-read rest in
    let who : c.copy_from_slice.new.self ≡ take 20 body = c.copy_from_slice.ensures.after ∙ who-read rest in
    rw good (λ i. Some (record { who = who i; at = at i }))
