use Rattle.std.proofs.Common.{◌≡◌, ⊎_elim, ℕ, List, [], ◌∷◌, ◌++◌, length, sym, ◌∙◌, ap, subst}
use Rattle.replay_journal.specs.Files.{counted, front, renewed, Rests}
use Rattle.replay_journal.specs.Journals.{records_of, HasBase}
use Rattle.replay_journal.proofs.Moments.{goes_on, goes_as}
use Rattle.replay_journal.proofs.Renewing.{renewal-known, rests-renewed, near-renewed, new-base, old-base}
use Rattle.replay_journal.proofs.renewal.renew.Goals as goal

pub returns-in-Ok-replace-clause-images : goal.returns-in-Ok-replace-clause-images
returns-in-Ok-replace-clause-images g c t =
    let d0 = c.args.disk.now in
    let greatest = c.args.greatest in
    let records = records_of g.K.Disk d0 in
    let s = c.requires.stands t in
    let recs : counted c.deref.result.now ≡ records = ap counted (c.deref.ensures.value ∙ c.in_ok-file.ensures.told t) in
    let octets : c.deref-2.result.now ≡ front (renewed greatest records) ++ 0 ∷ [] = c.deref-2.ensures.value ∙ c.in-Ok.ensures.octets ∙ ap (λ (r : List (List ℕ)). front (renewed greatest r) ++ 0 ∷ []) recs in
    let renewal = renewal-known greatest records c.in-Ok.ensures.tells (c.requires.near t) in
    let old = (λ (c' : List ℕ) (is : c' ≡ g.K.Disk.contents d0). old-base greatest records c' (subst (Rests records) (sym is) s.0)) in
    let new = (λ (c' : List ℕ) (is : c' ≡ c.deref-2.result.now). new-base greatest records c' renewal (rests-renewed greatest records c' c.in-Ok.ensures.sized s.0.sized (is ∙ octets))) in
    let one = goes_as g.K.Disk.moment g.K.Disk.left_since d0 c.read_all.new.disk (λ (c' : List ℕ). c' ≡ g.K.Disk.contents d0) (HasBase (Unit {0}) greatest records) (c.read_all.ensures.images t s.1) old in
    goes_on g.K.Disk.moment g.K.Disk.left_since d0 c.read_all.new.disk c.replace.new.self (HasBase (Unit {0}) greatest records) (g.K.Disk.may_leave c.replace.new.self) one c.replace.ensures.time
    (λ c' left. new c' (c.in-Ok-replace.ensures.durable (c.read_all.ensures.tells ∙ t) c' left))

pub returns-in-Ok-replace-clause-done : goal.returns-in-Ok-replace-clause-done
returns-in-Ok-replace-clause-done g c t =
    let d0 = c.args.disk.now in
    let greatest = c.args.greatest in
    let records = records_of g.K.Disk d0 in
    let s = c.requires.stands t in
    let recs : counted c.deref.result.now ≡ records = ap counted (c.deref.ensures.value ∙ c.in_ok-file.ensures.told t) in
    let octets : c.deref-2.result.now ≡ front (renewed greatest records) ++ 0 ∷ [] = c.deref-2.ensures.value ∙ c.in-Ok.ensures.octets ∙ ap (λ (r : List (List ℕ)). front (renewed greatest r) ++ 0 ∷ []) recs in
    let renewal = renewal-known greatest records c.in-Ok.ensures.tells (c.requires.near t) in
    let told = c.in-Ok-replace.ensures.told (c.read_all.ensures.tells ∙ t) in
    record {
      renewal = renewal;
      rests = rests-renewed greatest records (g.K.Disk.contents c.replace.new.self) c.in-Ok.ensures.sized s.0.sized (told ∙ octets);
      durable = λ c' left. c.in-Ok-replace.ensures.durable (c.read_all.ensures.tells ∙ t) c' left ∙ sym told;
      counts = c.in-Ok.ensures.count ∙ ap (λ (r : List (List ℕ)). length (renewed greatest r)) recs;
      near = near-renewed greatest records c.in-Ok.ensures.nobody c.in-Ok.ensures.tells (c.requires.near t);
      nobody = c.in-Ok.ensures.nobody;
    }

pub returns-clause-images : goal.returns-clause-images
returns-clause-images g c t =
    let d0 = c.args.disk.now in
    let greatest = c.args.greatest in
    let records = records_of g.K.Disk d0 in
    let s = c.requires.stands t in
    let recs : counted c.deref.result.now ≡ records = ap counted (c.deref.ensures.value ∙ c.in_ok-file.ensures.told t) in
    let octets : c.deref-2.result.now ≡ front (renewed greatest records) ++ 0 ∷ [] = c.deref-2.ensures.value ∙ c.in-Ok.ensures.octets ∙ ap (λ (r : List (List ℕ)). front (renewed greatest r) ++ 0 ∷ []) recs in
    let renewal = renewal-known greatest records c.in-Ok.ensures.tells (c.requires.near t) in
    let old = (λ (c' : List ℕ) (is : c' ≡ g.K.Disk.contents d0). old-base greatest records c' (subst (Rests records) (sym is) s.0)) in
    let new = (λ (c' : List ℕ) (is : c' ≡ c.deref-2.result.now). new-base greatest records c' renewal (rests-renewed greatest records c' c.in-Ok.ensures.sized s.0.sized (is ∙ octets))) in
    let one = goes_as g.K.Disk.moment g.K.Disk.left_since d0 c.read_all.new.disk (λ (c' : List ℕ). c' ≡ g.K.Disk.contents d0) (HasBase (Unit {0}) greatest records) (c.read_all.ensures.images t s.1) old in
    goes_on g.K.Disk.moment g.K.Disk.left_since d0 c.read_all.new.disk c.replace.new.self (HasBase (Unit {0}) greatest records) (g.K.Disk.may_leave c.replace.new.self) one c.replace.ensures.time
    (λ c' left. ⊎_elim (λ was. old c' (c.in_ok-file.ensures.durable t c' was ∙ c.read_all.ensures.same)) (λ is. new c' is) (c.replace.ensures.crash c' left))
