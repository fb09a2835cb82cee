-- What an initiator over the objects of Kerberos and SCRAM does is what one by their credentials does.
use Rattle.std.proofs.Common.{◌≡◌, refl, sym, ap, subst, ◌∙◌, ℕ, ◌==◌, Bool, true, false, nat_le, List, [], Option, Some, None, Result, Ok, Err}
use Rattle.spnego_core.specs.declared.outcome.Outcome.{Outcome}
use Rattle.spnego_core.specs.declared.refusal.NegRefusal.{NegRefusal}
use Rattle.spnego_core.specs.Ends.{PlainSetup, EndSays}
use Rattle.spnego_core.specs.InitMech as plain_lists
use Rattle.spnego_core.specs.InitLaws.{own_of}
use Rattle.spnego_core.specs.Initiating.{Started, sent_of, init_start}
use Rattle.init_ends.specs.Ends.{EndMeans}
use Rattle.init_ends.specs.Initiating.{end_start, end_step}
use Rattle.init_ends.specs.Plain.{objects_of, StartsAs, plain_of, PlainLaw}
use Rattle.gss_client.specs.declared.refusal.ClientRefusal.{ClientRefusal}
use Rattle.gss_client.specs.Calling.{creation_call}
use Rattle.gss_client.specs.Creation.{CreatedMeans, CreatedSays}
use Rattle.gss_client.specs.Creation as created
use Rattle.gss_client.specs.Judging.{creation_by, creation_step}
use Rattle.gss_client.specs.Laws.{CreatesAs, PlainCreation}
use Rattle.gss_client.specs.Session.{SessionState, xid_after}
use Rattle.gss_client.specs.Talk.{begun}
use Rattle.world_laws.specs.declared.event.Happened.TheVariants.{Sent, Completed}
use Rattle.world_laws.specs.Stages.{StageSays, Ready, Asks, Stands, Left, Over}
use Rattle.world_laws.specs.Initiators.{Moved, starts, started_by, takes, created_by}
use Rattle.world_runs.specs.Served.{served, own_terms}
use Rattle.world_runs.specs.Passing.{started_from, taken_from, called_with, called_from}
use Rattle.world_runs.specs.Objects.{StageMeans, StageAs, may_go, plain_asks, plain_stage}
use Rattle.world_runs.specs.Objects as objects
use Rattle.world_runs.specs.ObjectMoves.{MovedMeans}
use Rattle.world_runs.specs.ObjectMoves as moves

-- ---- moves

-- both come to the same place with the same answer, and to the same one at want of memory
pub record MovedAs (moved : MovedMeans) (plain : Moved) : Type 0 where
  pub stage : StageAs moved.stage plain.stage
  pub lost : StageAs moved.lost plain.lost
  pub answer : moved.answer ≡ plain.answer

-- the same where there may be none
abbrev pub MoveAs : Option MovedMeans → Option Moved → Type 0
MoveAs None None = Unit {0}
MoveAs None (Some plain) = ⊥
MoveAs (Some moved) None = ⊥
MoveAs (Some moved) (Some plain) = MovedAs moved plain

starting : (r : Result (EndMeans × List ℕ) NegRefusal) (p : Result Started NegRefusal) → StartsAs r (sent_of p) → MovedAs (moves.started_by r) (started_by served p)
starting (Ok started) (Ok plain) both = record {
  stage = record { end = started.0; stage_is = refl; stands = both.0 };
  lost = refl;
  answer = ap (λ (token : List ℕ). Sent (creation_call own_terms 1 1 [] token)) both.1;
}
starting (Ok started) (Err refusal) never = absurd never
starting (Err refusal) (Ok plain) never = absurd never
starting (Err refusal) (Err plain) same = record { stage = refl; lost = refl; answer = refl }

taking : (first xid : ℕ) (end : EndSays) (octets : List ℕ) (r : Result CreatedMeans ClientRefusal) (p : Result CreatedSays ClientRefusal) → CreatesAs r p → MovedAs (moves.created_by first xid r) (created_by served first xid end octets p)
taking first xid end octets (Ok (created.Going offer)) (Ok (created.Going plain)) both = record {
  stage = record { end = offer.end; stage_is = refl; stands = both.0 };
  lost = refl;
  answer = ap (λ (handle : List ℕ). Sent (creation_call own_terms (xid_after xid) 2 handle offer.token)) both.1
      ∙ ap (λ (token : List ℕ). Sent (creation_call own_terms (xid_after xid) 2 plain.handle token)) both.2;
}
taking first xid end octets (Ok (created.Going offer)) (Ok (created.Stands outcome handle)) never = absurd never
taking first xid end octets (Ok (created.Stands outcome handle)) (Ok (created.Going plain)) never = absurd never
taking first xid end octets (Ok (created.Stands outcome handle)) (Ok (created.Stands plain own)) both = record {
  stage = ap (λ (o : Outcome). objects.Stands (begun own_terms first (xid_after xid) o handle)) both.0
      ∙ ap (λ (h : List ℕ). objects.Stands (begun own_terms first (xid_after xid) plain h)) both.1;
  lost = refl;
  answer = ap (λ (o : Outcome). Completed o) both.0;
}
taking first xid end octets (Ok what) (Err refusal) never = absurd never
taking first xid end octets (Err refusal) (Ok plain) never = absurd never
taking first xid end octets (Err refusal) (Err plain) same = record { stage = refl; lost = refl; answer = refl }

calling : (left last : Bool) (s : SessionState) (procedure : ℕ) (args : List ℕ) → MoveAs (moves.called_with left last s procedure args) (called_with left last s procedure args)
calling true last s procedure args = record { stage = refl; lost = refl; answer = refl }
calling false true s procedure args = record { stage = refl; lost = refl; answer = refl }
calling false false s procedure args = tt

-- ---- by where the initiator is

pub started-as : PlainLaw → (stage : StageMeans) (plain : StageSays) → StageAs stage plain → MoveAs (moves.started_from stage) (started_from plain)
started-as law stage (Ready own) alike = subst (λ (s : StageMeans). MoveAs (moves.started_from s) (Some (starts served own))) (sym alike) (starting (end_start (objects_of own)) (init_start own) (law.starts own))
started-as law stage (Asks xid end) alike = subst (λ (s : StageMeans). MoveAs (moves.started_from s) None) (sym alike.stage_is) tt
started-as law stage (Stands session) alike = subst (λ (s : StageMeans). MoveAs (moves.started_from s) None) (sym alike) tt
started-as law stage (Left session) alike = subst (λ (s : StageMeans). MoveAs (moves.started_from s) None) (sym alike) tt
started-as law stage Over alike = subst (λ (s : StageMeans). MoveAs (moves.started_from s) None) (sym alike) tt

pub taken-as : PlainCreation → (first : ℕ) (octets : List ℕ) (stage : StageMeans) (plain : StageSays) → StageAs stage plain → MoveAs (moves.taken_from first octets stage) (taken_from first octets plain)
taken-as law first octets stage (Ready own) alike = subst (λ (s : StageMeans). MoveAs (moves.taken_from first octets s) None) (sym alike) tt
taken-as law first octets stage (Asks xid end) alike = subst (λ (s : StageMeans). MoveAs (moves.taken_from first octets s) (Some (takes served first xid end octets))) (sym alike.stage_is)
    (taking first xid end octets (creation_by end_step alike.end xid octets) (creation_step end xid octets) (law.replies alike.end end xid octets alike.stands))
taken-as law first octets stage (Stands session) alike = subst (λ (s : StageMeans). MoveAs (moves.taken_from first octets s) None) (sym alike) tt
taken-as law first octets stage (Left session) alike = subst (λ (s : StageMeans). MoveAs (moves.taken_from first octets s) None) (sym alike) tt
taken-as law first octets stage Over alike = subst (λ (s : StageMeans). MoveAs (moves.taken_from first octets s) None) (sym alike) tt

pub called-as : (procedure : ℕ) (args : List ℕ) (stage : StageMeans) (plain : StageSays) → StageAs stage plain → MoveAs (moves.called_from procedure args stage) (called_from procedure args plain)
called-as procedure args stage (Ready own) alike = subst (λ (s : StageMeans). MoveAs (moves.called_from procedure args s) None) (sym alike) tt
called-as procedure args stage (Asks xid end) alike = subst (λ (s : StageMeans). MoveAs (moves.called_from procedure args s) None) (sym alike.stage_is) tt
called-as procedure args stage (Stands session) alike = subst (λ (s : StageMeans). MoveAs (moves.called_from procedure args s) (called_from procedure args (Stands session))) (sym alike)
    (calling (nat_le session.number 0x7fffffff) (session.number == 0x80000000) session procedure args)
called-as procedure args stage (Left session) alike = subst (λ (s : StageMeans). MoveAs (moves.called_from procedure args s) None) (sym alike) tt
called-as procedure args stage Over alike = subst (λ (s : StageMeans). MoveAs (moves.called_from procedure args s) None) (sym alike) tt

-- ---- the objects are as far as an event needs them

-- one that wasn't started has one or two credentials, of different mechanisms
abbrev pub HasList : StageSays → Type 0
HasList (Ready own) = plain_lists.is_own_list own.list ≡ true
HasList (Asks xid end) = Unit {0}
HasList (Stands session) = Unit {0}
HasList (Left session) = Unit {0}
HasList Over = Unit {0}

pub goes-as : PlainLaw → (stage : StageMeans) (plain : StageSays) → StageAs stage plain → HasList plain → may_go stage ≡ true
goes-as law stage (Ready own) alike list = ap may_go alike ∙ (law.lists own ∙ list)
goes-as law stage (Asks xid end) alike list = ap may_go alike.stage_is ∙ law.held alike.end end alike.stands
goes-as law stage (Stands session) alike list = ap may_go alike
goes-as law stage (Left session) alike list = ap may_go alike
goes-as law stage Over alike list = ap may_go alike

-- ---- where the initiator by credentials is, as a function

-- its end is of these facts
abbrev pub IsOf : PlainSetup → StageSays → Type 0
IsOf own (Ready plain) = plain ≡ own
IsOf own (Asks xid end) = own_of end ≡ own
IsOf own (Stands session) = Unit {0}
IsOf own (Left session) = Unit {0}
IsOf own Over = Unit {0}

pub plain-is : PlainLaw → (own : PlainSetup) (stage : StageMeans) (plain : StageSays) → StageAs stage plain → IsOf own plain → plain_stage own stage ≡ plain
plain-is law own stage (Ready plain) alike of = ap (λ (s : StageMeans). plain_stage own s) alike ∙ ap (λ (o : PlainSetup). Ready o) (sym of)
plain-is law own stage (Asks xid end) alike of = ap (λ (s : StageMeans). plain_stage own s) alike.stage_is
    ∙ ap (λ (e : Option EndSays). plain_asks xid e) (subst (λ (o : PlainSetup). plain_of o alike.end ≡ Some end) of (law.shown alike.end end alike.stands))
plain-is law own stage (Stands session) alike of = ap (λ (s : StageMeans). plain_stage own s) alike
plain-is law own stage (Left session) alike of = ap (λ (s : StageMeans). plain_stage own s) alike
plain-is law own stage Over alike of = ap (λ (s : StageMeans). plain_stage own s) alike
