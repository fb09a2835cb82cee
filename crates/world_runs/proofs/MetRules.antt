-- What the calls of a session are answered, by the keys of its context.
use Rattle.std.proofs.Common.{◌≡◌, sym, ap, ◌∙◌, subst, List, [], ◌∷◌, map, slice_get, slice_index_or, None}
use Rattle.std.proofs.lemmas.Option.{none-some, same_Some}
use Rattle.krb_derive.specs.declared.key.Key.{Key}
use Rattle.krb_derive.specs.declared.sealing.SealKeys.{SealKeys}
use Rattle.krb_derive.specs.Kept.{ForSealing}
use Rattle.spnego_core.specs.declared.outcome.Outcome.{Outcome}
use Rattle.accept_book.specs.declared.book_answer.Lease.{Lease}
use Rattle.accept_book.specs.Honest.{HonestLaw}
use Rattle.accept_book.proofs.HonestRecords.{honest-kept}
use Rattle.gss_client.specs.Session.{SessionState}
use Rattle.world_laws.specs.Stages.{StageSays}
use Rattle.world_laws.specs.Stages as stages
use Rattle.world_runs.specs.Objects.{StageMeans, StageAs, StagesAs}
use Rattle.world_runs.specs.Objects as objects
use Rattle.world_runs.specs.Carrying.{RulesCalls, RulesAt}

rules-calls : (keys : SealKeys) (lease : Lease) → ForSealing keys lease.outcome.key 24 → HonestLaw lease
rules-calls keys lease for = λ octets kept serves n procedure args honest id handle look. honest-kept keys octets kept serves n procedure args lease honest id for handle look

same-session : (s t : SessionState) → objects.Stands s ≡ objects.Stands t → s ≡ t
same-session s t e = cc

pub rules-of : (keys : SealKeys) (stage : StageMeans) (session : SessionState) (outcome : Outcome) → stage ≡ objects.Stands session → outcome ≡ session.outcome → ForSealing keys outcome.key 24 → RulesAt stage
rules-of keys stage session outcome is same for = λ s lease stands key.
    let one : session ≡ s = same-session session s (sym is ∙ stands) in
    let key_is : outcome.key ≡ lease.outcome.key = ap (λ (o : Outcome). o.key) same ∙ (ap (λ (x : SessionState). x.outcome.key) one ∙ sym key) in
    rules-calls keys lease (subst (λ (k : Key). ForSealing keys k 24) key_is for)

-- the first of the stages, where it is this one
pub first-rules : {A : Type 0} (means : A → StageMeans) (stage : A) (xs : List A) (plains : List StageSays) → StagesAs (map means xs) plains → RulesAt (means stage) → stage ≡ slice_index_or xs 0 stage → RulesCalls (slice_get plains 0)
first-rules means stage [] [] alike rules is = λ s lease there key. absurd (none-some (stages.Stands s) there)
first-rules means stage [] (plain ∷ plains) never rules is = absurd never
first-rules means stage (x ∷ xs) [] never rules is = absurd never
first-rules means stage (x ∷ xs) (plain ∷ plains) alike rules is =
    λ s lease there key. rules s lease (ap means is ∙ subst (λ (p : StageSays). StageAs (means x) p) (same_Some plain (stages.Stands s) there) alike.0) key

-- where there is none
pub none-rules : {A : Type 0} (means : A → StageMeans) (xs : List A) (plains : List StageSays) → StagesAs (map means xs) plains → slice_get xs 0 ≡ None → RulesCalls (slice_get plains 0)
none-rules means [] [] alike none = λ s lease there key. absurd (none-some (stages.Stands s) there)
none-rules means [] (plain ∷ plains) never none = absurd never
none-rules means (x ∷ xs) plains alike none = absurd (none-some x (sym none))
