-- While a question is due, no rule decides.
use Rattle.std.proofs.Common.{◌≡◌, ℕ, ◌≤◌, length, refl, sym, ◌∙◌, ap, arith, List, Option, Some, None, Result}
use Rattle.std.proofs.lemmas.Option.{none-some}
use Rattle.accept_core.specs.declared.answer.AdmitRefusal.{AdmitRefusal}
use Rattle.accept_core.specs.declared.answer.LookRefusal.{LookRefusal}
use Rattle.accept_book.specs.declared.book_answer.Lease.{Lease}
use Rattle.accept_book.specs.declared.book_answer.Negotiated.{Negotiated}
use Rattle.accept_book.specs.declared.book_answer.Admitted.{Admitted}
use Rattle.rpc_program.specs.Programs.{Serving}
use Rattle.accept_core.specs.declared.entry.Receipt.{Receipt}
use Rattle.accept_book.specs.RecordShown.{KeptAnswers, Question, Ruling}
use Rattle.accept_book.specs.RecordRule.{record_ruling}
use Rattle.world_laws.specs.declared.event.Happened.{Happened}
use Rattle.world_laws.specs.declared.event.Happened.TheVariants.{Sent, Completed, Stepped, Refused, Nothing}
use Rattle.world_laws.specs.Lanes.{IsAnswer}
use Rattle.world_laws.proofs.RulingPlan.{Late, Rules, Admits, Ends, Plan, Decides, Steps, Looks, late_by, plan_by, record-planned}

late-undecided : (late : Late) (a : Option (Result Admitted AdmitRefusal)) (e : Option (Result Receipt AdmitRefusal)) (q : Question) → (late_by late a e).due ≡ Some q → (late_by late a e).rule ≡ 0
late-undecided (Rules d) a e q due = absurd (none-some q due)
late-undecided (Admits lease seq service procedure args by) None e q due = refl
late-undecided (Admits lease seq service procedure args by) (Some answer) e q due = absurd (none-some q due)
late-undecided (Ends lease seq by) a None q due = refl
late-undecided (Ends lease seq by) a (Some answer) q due = absurd (none-some q due)

plan-undecided : (plan : Plan) (n : Option Negotiated) (l : Option (Result Lease LookRefusal)) (a : Option (Result Admitted AdmitRefusal)) (e : Option (Result Receipt AdmitRefusal)) (q : Question)
    → (plan_by plan n l a e).due ≡ Some q → (plan_by plan n l a e).rule ≡ 0
plan-undecided (Decides d) n l a e q due = absurd (none-some q due)
plan-undecided (Steps id token now draws by) None l a e q due = refl
plan-undecided (Steps id token now draws by) (Some answer) l a e q due = absurd (none-some q due)
plan-undecided (Looks id now by) n None a e q due = refl
plan-undecided (Looks id now by) n (Some answer) a e q due = late-undecided (by answer) a e q due

pub undecided : (octets : List ℕ) (kept : KeptAnswers) (serves : Serving) (q : Question) → (record_ruling octets kept serves).due ≡ Some q → (record_ruling octets kept serves).rule ≡ 0
undecided octets kept serves q due =
    let p = record-planned octets kept.now kept.draws serves in
    let is : record_ruling octets kept serves ≡ plan_by p.plan kept.negotiated kept.looked kept.admitted kept.ended = p.is kept.negotiated kept.looked kept.admitted kept.ended in
    ap (λ (r : Ruling). r.rule) is ∙ plan-undecided p.plan kept.negotiated kept.looked kept.admitted kept.ended q (sym (ap (λ (r : Ruling). r.due) is) ∙ due)

-- and at most one question was asked
late-few : (late : Late) (a : Option (Result Admitted AdmitRefusal)) (e : Option (Result Receipt AdmitRefusal)) (q : Question) → (late_by late a e).due ≡ Some q → length (late_by late a e).asked ≡ 0
late-few (Rules d) a e q due = absurd (none-some q due)
late-few (Admits lease seq service procedure args by) None e q due = refl
late-few (Admits lease seq service procedure args by) (Some answer) e q due = absurd (none-some q due)
late-few (Ends lease seq by) a None q due = refl
late-few (Ends lease seq by) a (Some answer) q due = absurd (none-some q due)

plan-few : (plan : Plan) (n : Option Negotiated) (l : Option (Result Lease LookRefusal)) (a : Option (Result Admitted AdmitRefusal)) (e : Option (Result Receipt AdmitRefusal)) (q : Question)
    → (plan_by plan n l a e).due ≡ Some q → length (plan_by plan n l a e).asked ≤ 1
plan-few (Decides d) n l a e q due = absurd (none-some q due)
plan-few (Steps id token now draws by) None l a e q due = omega arith
plan-few (Steps id token now draws by) (Some answer) l a e q due = absurd (none-some q due)
plan-few (Looks id now by) n None a e q due = omega arith
plan-few (Looks id now by) n (Some answer) a e q due = let few = late-few (by answer) a e q due in omega (arith, few)

pub few-asked : (octets : List ℕ) (kept : KeptAnswers) (serves : Serving) (q : Question) → (record_ruling octets kept serves).due ≡ Some q → length (record_ruling octets kept serves).asked ≤ 1
few-asked octets kept serves q due =
    let p = record-planned octets kept.now kept.draws serves in
    let is : record_ruling octets kept serves ≡ plan_by p.plan kept.negotiated kept.looked kept.admitted kept.ended = p.is kept.negotiated kept.looked kept.admitted kept.ended in
    let few = plan-few p.plan kept.negotiated kept.looked kept.admitted kept.ended q (sym (ap (λ (r : Ruling). r.due) is) ∙ due) in
    let same : length (record_ruling octets kept serves).asked ≡ length (plan_by p.plan kept.negotiated kept.looked kept.admitted kept.ended).asked = ap (λ (r : Ruling). length r.asked) is in
    omega (arith, few, same)

-- nothing is answered then, but that memory is wanted
pub unanswered : (r : Ruling) (answer : Option Happened) → r.rule ≡ 0 → IsAnswer r answer → answer ≡ None
unanswered r None zero is = refl
unanswered r (Some (Sent octets)) zero is = let low = is.1 in absurd (omega (arith, low, zero))
unanswered r (Some (Stepped rule)) zero is = let low = is.2 in absurd (omega (arith, low, zero))
unanswered r (Some (Completed outcome)) zero is = absurd is
unanswered r (Some Refused) zero is = absurd is
unanswered r (Some Nothing) zero is = absurd is
