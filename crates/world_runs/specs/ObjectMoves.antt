-- What initiators over objects do: they start, take replies to their creation calls, and call.
-- It isn't needed to read the headline.
use Rattle.std.specs.Prelude.{◌≡◌, ◌⊎◌, ℕ, ◌==◌, Bool, true, false, nat_le, List, [], replicate}
use Rattle.std.specs.Prelude.{slice_set, Option, Some, None, Result, Ok, Err}
use Rattle.spnego_core.specs.declared.refusal.NegRefusal.{NegRefusal}
use Rattle.init_ends.specs.Ends.{SetupMeans, EndMeans}
use Rattle.init_ends.specs.Initiating.{end_start, end_step}
use Rattle.gss_client.specs.declared.refusal.ClientRefusal.{ClientRefusal}
use Rattle.gss_client.specs.Creation.{CreatedMeans}
use Rattle.gss_client.specs.Creation as created
use Rattle.gss_client.specs.Calling.{creation_call, data_call, destroy_call}
use Rattle.gss_client.specs.Judging.{creation_by}
use Rattle.gss_client.specs.Session.{SessionState, session_after, xid_after}
use Rattle.gss_client.specs.Talk.{begun}
use Rattle.world_laws.specs.declared.event.Happened.{Happened}
use Rattle.world_laws.specs.declared.event.Happened.TheVariants.{Sent, Completed, Refused}
use Rattle.world_laws.specs.declared.event.Happened.TheVariants.{Nothing}
use Rattle.world_runs.specs.Objects.{StageMeans, Ready, Asks, Stands, Left, Over}
use Rattle.world_runs.specs.Served.{own_terms}

-- where the initiator is then, and where it is if memory is wanted; the answer
pub record MovedMeans : Type 0 where
  pub stage : StageMeans
  pub lost : StageMeans
  pub answer : Happened

-- it refused, and has ended
abbrev pub refused : MovedMeans
refused = record { stage = Over; lost = Over; answer = Refused }

-- ---- it starts

-- what it does by how its negotiation began: it sends its first creation call, or refused
abbrev pub started_by : Result (EndMeans × List ℕ) NegRefusal → MovedMeans
started_by (Err refusal) = refused
started_by (Ok started) = record {
  stage = Asks 1 started.0;
  lost = Over;
  answer = Sent (creation_call own_terms 1 1 [] started.1);
}

-- what an initiator does that starts with these objects
abbrev pub starts : SetupMeans → MovedMeans
starts setup = started_by (end_start setup)

-- ---- it takes a reply to its creation call

-- what it does by what the reply leads to: it has ended, makes the next creation call with the
-- handle that the reply gave, or its context stands, and its session's first call has this number
abbrev pub created_by : ℕ → ℕ → Result CreatedMeans ClientRefusal → MovedMeans
created_by first xid (Err refusal) = refused
created_by first xid (Ok (created.Going offer)) = record {
  stage = Asks (xid_after xid) offer.end;
  lost = Over;
  answer = Sent (creation_call own_terms (xid_after xid) 2 offer.handle offer.token);
}
created_by first xid (Ok (created.Stands outcome handle)) = record {
  stage = Stands (begun own_terms first (xid_after xid) outcome handle);
  lost = Over;
  answer = Completed outcome;
}

-- what an initiator does that takes octets as the reply to its call of this transaction number
abbrev pub takes : ℕ → ℕ → EndMeans → List ℕ → MovedMeans
takes first xid end octets = created_by first xid (creation_by end_step end xid octets)

-- ---- it calls

-- what an initiator does that makes its session's next call; if memory is wanted, it has ended
abbrev pub calls : SessionState → ℕ → List ℕ → MovedMeans
calls s procedure args = record {
  stage = Stands (session_after s);
  lost = Left s;
  answer = Sent (data_call s procedure args (replicate 16 0));
}

-- what an initiator does whose session has the number after those of calls: it ends its context
abbrev pub leaves : SessionState → MovedMeans
leaves s = record { stage = Left s; lost = Left s; answer = Sent (destroy_call s) }

-- ---- the move of an initiator by its stage, where the event is for it

-- a start, which is for one that wasn't started
abbrev pub started_from : StageMeans → Option MovedMeans
started_from (Ready setup) = Some (starts setup)
started_from (Asks xid end) = None
started_from (Stands s) = None
started_from (Left s) = None
started_from Over = None

-- a reply, which is for one that has a creation call out, and the number of its session's first
-- call
abbrev pub taken_from : ℕ → List ℕ → StageMeans → Option MovedMeans
taken_from first octets (Ready setup) = None
taken_from first octets (Asks xid end) = Some (takes first xid end octets)
taken_from first octets (Stands s) = None
taken_from first octets (Left s) = None
taken_from first octets Over = None

-- a session whose number is one of a call makes that call, and one with the number after these ends
-- its context
abbrev pub called_with : Bool → Bool → SessionState → ℕ → List ℕ → Option MovedMeans
called_with true last s procedure args = Some (calls s procedure args)
called_with false true s procedure args = Some (leaves s)
called_with false false s procedure args = None

-- a call, which is for one whose context stands
abbrev pub called_from : ℕ → List ℕ → StageMeans → Option MovedMeans
called_from procedure args (Ready setup) = None
called_from procedure args (Asks xid end) = None
called_from procedure args (Stands s) =
    called_with (nat_le s.number 0x7fffffff) (s.number == 0x80000000) s procedure args
called_from procedure args (Left s) = None
called_from procedure args Over = None

-- it moves so, or memory was wanted; without a move nothing happens
abbrev pub TurnsTo : Option MovedMeans → Option Happened → StageMeans → StageMeans → Type 0
TurnsTo None answer old new = (answer ≡ Some Nothing) × (new ≡ old)
TurnsTo (Some moved) answer old new =
    ((answer ≡ Some moved.answer) × (new ≡ moved.stage)) ⊎ ((answer ≡ None) × (new ≡ moved.lost))

-- the same of a call of a session that stands, by its number
abbrev pub CallsTo : SessionState → ℕ → List ℕ → StageMeans → Option Happened → Type 0
CallsTo s procedure args new answer =
    TurnsTo (called_with (nat_le s.number 0x7fffffff) (s.number == 0x80000000) s procedure args)
    answer (Stands s) new

-- the initiator of a place, where there is one
abbrev pub of_stage : (StageMeans → Option MovedMeans) → Option StageMeans → Option MovedMeans
of_stage move None = None
of_stage move (Some stage) = move stage

-- the initiator of this place moves so, or memory was wanted; without a move nothing happens
abbrev pub Turns : Option MovedMeans → ℕ → Option Happened → List StageMeans → List StageMeans
    → Type 0
Turns None i answer old new = (answer ≡ Some Nothing) × (new ≡ old)
Turns (Some moved) i answer old new =
    ((answer ≡ Some moved.answer) × (new ≡ slice_set old i moved.stage))
    ⊎ ((answer ≡ None) × (new ≡ slice_set old i moved.lost))
