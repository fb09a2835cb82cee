use Rattle.std.proofs.Common.{◌≡◌, ℕ, List, ◌∙◌, ap}
use Rattle.replay_journal.specs.Files.{counted}
use Rattle.replay_journal.proofs.Cuts.{read-same}
use Rattle.replay_journal.proofs.Moments.{goes_then}
use Rattle.replay_journal.proofs.opening.read_in.Goals as goal

pub returns-in_default-shut_cut-clause-images : goal.returns-in_default-shut_cut-clause-images
returns-in_default-shut_cut-clause-images g c t only =
    let d0 = c.args.disk.now in
    let old = g.K.Disk.contents d0 in
    let file = c.in_ok-file.file.items in
    let same : counted file ≡ counted old = read-same old file (c.in_ok-file.ensures.anew t) in
    let here : counted c.deref-3.result.now ≡ counted old = ap counted c.deref-3.ensures.value ∙ same in
    goes_then g.K.Disk.moment g.K.Disk.left_since d0 c.ready.new.disk c.shut_cut.new.disk (λ (c' : List ℕ). counted c' ≡ counted old) (λ (c' : List ℕ). counted c' ≡ counted c.deref-3.result.now) (λ (c' : List ℕ). counted c' ≡ counted old)
    (c.ready.ensures.images t only) (c.shut_cut.ensures.images (c.ready.ensures.tells ∙ t)) (λ c' is. is) (λ c' is. is ∙ here)

pub returns-clause-read : goal.returns-clause-read
returns-clause-read g c t = read-same (g.K.Disk.contents c.args.disk.now) c.in_ok-file.file.items (c.in_ok-file.ensures.anew t)

pub returns-clause-images : goal.returns-clause-images
returns-clause-images g c t only =
    let d0 = c.args.disk.now in
    let old = g.K.Disk.contents d0 in
    let file = c.in_ok-file.file.items in
    let same : counted file ≡ counted old = read-same old file (c.in_ok-file.ensures.anew t) in
    let here : counted c.deref-3.result.now ≡ counted old = ap counted c.deref-3.ensures.value ∙ same in
    goes_then g.K.Disk.moment g.K.Disk.left_since d0 c.ready.new.disk c.shut_cut.new.disk (λ (c' : List ℕ). counted c' ≡ counted old) (λ (c' : List ℕ). counted c' ≡ counted c.deref-3.result.now) (λ (c' : List ℕ). counted c' ≡ counted old)
    (c.ready.ensures.images t only) (c.shut_cut.ensures.images (c.ready.ensures.tells ∙ t)) (λ c' is. is) (λ c' is. is ∙ here)
