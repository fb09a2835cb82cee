use Rattle.std.proofs.Common.{◌≡◌, ◌≤◌, ℕ, List, [], length, sym, ◌∙◌, ap, arith}
use Rattle.replay_journal.specs.Files.{counted}
use Rattle.replay_journal.proofs.Cuts.{counted-short}
use Rattle.replay_journal.proofs.Moments.{goes_then}
use Rattle.replay_journal.proofs.opening.ready.Goals as goal

pub returns-in-Ok-clause-images : goal.returns-in-Ok-clause-images
returns-in-Ok-clause-images g c t only =
    let d0 = c.args.disk.now in
    let old = g.K.Disk.contents d0 in
    let told : c.in_ok-file.file.items ≡ old = c.in_ok-file.ensures.told t in
    let few : length old ≤ 9 = omega (arith, c.len.ensures, c.if-len-gt9.false, c.as_slice.ensures.len, ap length c.as_slice.ensures.value, ap length told) in
    let none : counted old ≡ [] = counted-short old (omega (arith, few)) in
    let two = c.make_anew.ensures.images (c.read_all.ensures.tells ∙ t) (c.in_ok-file.ensures.durable t) in
    goes_then g.K.Disk.moment g.K.Disk.left_since d0 c.read_all.new.disk c.make_anew.new.disk (λ (c' : List ℕ). c' ≡ old) (λ (c' : List ℕ). length c' ≤ 9) (λ (c' : List ℕ). counted c' ≡ counted old)
    (c.read_all.ensures.images t only) two (λ c' is. ap counted is) (λ c' short. counted-short c' (omega (arith, short)) ∙ sym none)

pub returns-clause-images : goal.returns-clause-images
returns-clause-images g c t only =
    let d0 = c.args.disk.now in
    let old = g.K.Disk.contents d0 in
    let told : c.in_ok-file.file.items ≡ old = c.in_ok-file.ensures.told t in
    let few : length old ≤ 9 = omega (arith, c.len.ensures, c.if-len-gt9.false, c.as_slice.ensures.len, ap length c.as_slice.ensures.value, ap length told) in
    let none : counted old ≡ [] = counted-short old (omega (arith, few)) in
    let two = c.make_anew.ensures.images (c.read_all.ensures.tells ∙ t) (c.in_ok-file.ensures.durable t) in
    goes_then g.K.Disk.moment g.K.Disk.left_since d0 c.read_all.new.disk c.make_anew.new.disk (λ (c' : List ℕ). c' ≡ old) (λ (c' : List ℕ). length c' ≤ 9) (λ (c' : List ℕ). counted c' ≡ counted old)
    (c.read_all.ensures.images t only) two (λ c' is. ap counted is) (λ c' short. counted-short c' (omega (arith, short)) ∙ sym none)
