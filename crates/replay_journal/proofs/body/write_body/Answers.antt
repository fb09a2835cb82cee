use Rattle.std.proofs.Common.{◌≡◌, ◌<◌, ◌^◌, ℕ, List, [], ◌∷◌, ◌++◌, length, ap, rules, subst}
use Rattle.replay_journal.specs.Files.{moment_octets}
use Rattle.replay_journal.proofs.Twenty.{written_20}
use Rattle.replay_journal.proofs.Octets.{mark-back, greatest-back}
use Rattle.replay_journal.proofs.body.write_body.Goals as goal

pub returns-clause-value : goal.returns-clause-value
returns-clause-value c =
    let size : length c.args.mark.who ≡ 20 = search rules in
    rw (c.to_be_bytes.ensures, c.to_be_bytes-2.ensures, c.to_be_bytes-3.ensures, c.to_be_bytes-4.ensures, c.secs.ensures, c.micros.ensures, c.secs-2.ensures, c.micros-2.ensures)
    (ap (λ (l : List ℕ). l ++ moment_octets c.args.mark.at ++ moment_octets c.args.greatest ++ 0 ∷ []) (written_20 c.args.mark.who size))

pub returns-clause-back : goal.returns-clause-back
returns-clause-back c =
    let size : length c.args.mark.who ≡ 20 = search rules in
    let range : c.secs.result < 2 ^ 64 = search rules in
    mark-back c.args.mark c.args.greatest size (subst (λ (n : ℕ). n < 2 ^ 64) c.secs.ensures range)

pub returns-clause-greatest : goal.returns-clause-greatest
returns-clause-greatest c =
    let size : length c.args.mark.who ≡ 20 = search rules in
    let range : c.secs-2.result < 2 ^ 64 = search rules in
    greatest-back c.args.mark c.args.greatest size (subst (λ (n : ℕ). n < 2 ^ 64) c.secs-2.ensures range)
