use Rattle.std.proofs.Common.{◌≡◌, ◌-◌, ◌≤◌, ◌<◌, ◌++◌, ◌∷◌, [], ℕ, List, drop, take, refl, sym, ◌∙◌, ap, arith, rules}
use Rattle.std.proofs.lemmas.List.{append-nil}
use Rattle.replay_cache.specs.Taking.{skew}
use Rattle.replay_journal.specs.Files.{mark_in}
use Rattle.replay_journal.proofs.Filling.{moment-read}
use Rattle.replay_journal.proofs.Parts.{first-open}
use Rattle.replay_journal.proofs.Renewing.{old-body, recent-body}
use Rattle.replay_journal.proofs.renewal.copy_recent.Goals as goal

pub returns-then-age-gt-SKEW-clause-octets : goal.returns-then-age-gt-SKEW-clause-octets
returns-then-age-gt-SKEW-clause-octets c =
    let rest = c.args.rest.now in
    let body : List ℕ = take 44 (drop 1 rest) in
    let far : skew < c.args.greatest - (mark_in body).at = omega (arith, c.if-age-gt-SKEW.true, c.age.ensures, moment-read rest) in
    rw (old-body c.args.greatest body far) (sym (append-nil c.args.octets.now.items))

pub returns-then-age-gt-SKEW-clause-count : goal.returns-then-age-gt-SKEW-clause-count
returns-then-age-gt-SKEW-clause-count c =
    let rest = c.args.rest.now in
    let body : List ℕ = take 44 (drop 1 rest) in
    let far : skew < c.args.greatest - (mark_in body).at = omega (arith, c.if-age-gt-SKEW.true, c.age.ensures, moment-read rest) in
    rw (old-body c.args.greatest body far) refl

pub returns-clause-octets : goal.returns-clause-octets
returns-clause-octets c =
    let rest = c.args.rest.now in
    let body : List ℕ = take 44 (drop 1 rest) in
    let near : c.args.greatest - (mark_in body).at ≤ skew = omega (arith, c.if-age-gt-SKEW.false, c.age.ensures, moment-read rest) in
    let whole : take 45 rest ≡ 0x4a ∷ (body ++ []) = ap (λ (l : List ℕ). take 45 l) (first-open rest c.requires.stands) ∙ ap (λ (l : List ℕ). 0x4a ∷ l) (sym (append-nil body)) in
    let written : c.extend_from_slice.new.self.items ≡ c.args.octets.now.items ++ take 45 rest = search rules in
    rw (recent-body c.args.greatest body near) (written ∙ ap (λ (l : List ℕ). c.args.octets.now.items ++ l) whole)

pub returns-clause-count : goal.returns-clause-count
returns-clause-count c =
    let rest = c.args.rest.now in
    let body : List ℕ = take 44 (drop 1 rest) in
    let near : c.args.greatest - (mark_in body).at ≤ skew = omega (arith, c.if-age-gt-SKEW.false, c.age.ensures, moment-read rest) in
    rw (recent-body c.args.greatest body near) refl
