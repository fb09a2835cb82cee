-- What initiators do: they start, take replies to their creation calls, and call.
use Rattle.std.specs.Prelude.{ℕ, ◌+◌, ◌*◌, ◌==◌, true, if◌then◌else◌, List, [], ◌∷◌, ◌++◌, map}
use Rattle.std.specs.Prelude.{replicate, take, Option, Some, None, Result, Ok, Err}
use Rattle.krb_derive.specs.Making.{Making, check_making}
use Rattle.krb_tokens.specs.declared.end.Side.TheVariants.{Acceptor}
use Rattle.krb_tokens.specs.End.{sign_usage}
use Rattle.krb_tokens.specs.Makings.{mic_making, wrap_making}
use Rattle.rpc_msgs.specs.Words.{word}
use Rattle.scram_mech.specs.MechMaking.{MechMaking, typed}
use Rattle.spnego_core.specs.declared.outcome.Outcome.{Outcome}
use Rattle.spnego_core.specs.declared.refusal.NegRefusal.{NegRefusal}
use Rattle.spnego_core.specs.Ends.{PlainSetup, EndSays}
use Rattle.spnego_core.specs.Initiating.{Started, Initiated, init_start, init_step}
use Rattle.gss_client.specs.declared.refusal.ClientRefusal.{ClientRefusal}
use Rattle.gss_client.specs.Creation.{CreatedSays}
use Rattle.gss_client.specs.Creation as created
use Rattle.rpcsec_bodies.specs.declared.service.Service.TheVariants.{Integrity}
use Rattle.rpc_program.specs.Programs.{Serving}
use Rattle.gss_client.specs.declared.terms.Terms.{Terms}
use Rattle.gss_client.specs.Calling.{creation_call, header_of, data_call, destroy_call, own_end}
use Rattle.gss_client.specs.Judging.{GrantedValue, granted_in, creation_step}
use Rattle.gss_client.specs.Session.{SessionState, session_after, xid_after}
use Rattle.gss_client.specs.Talk.{begun}
use Rattle.world_laws.specs.declared.event.Happened.{Happened}
use Rattle.world_laws.specs.declared.event.Happened.TheVariants.{Sent, Completed, Refused}
use Rattle.world_laws.specs.Stages.{StageSays}
use Rattle.world_laws.specs.Stages as stages
use Rattle.world_laws.specs.Deeds.{Deed, quiet}

-- where the initiator is then, and where it is if memory is wanted, in which case nothing else is
-- done; the answer; what is handed out and what was found verified
pub record Moved : Type 0 where
  pub stage : StageSays
  pub lost : StageSays
  pub answer : Happened
  pub makes : List MechMaking
  pub found : List MechMaking

-- what an event did whose initiator moved so: no ticket is opened, and no context is fixed
abbrev pub did : Moved → Deed
did moved =
    record (quiet (Some moved.answer)) { makes = moved.makes; found = moved.found }

-- it refused, and has ended
abbrev pub refused : Moved
refused =
    record { stage = stages.Over; lost = stages.Over; answer = Refused; makes = []; found = [] }

-- what it calls: the program that is served (RFC 5531 section 9), by integrity
abbrev pub own_terms : Serving → Terms
own_terms serves = record {
  service = Integrity;
  program = serves.program.id.number;
  version = serves.program.id.version;
}

-- ---- it starts: the first creation call has its first token

-- what it does by how its negotiation began: it sends its first creation call, or refused
abbrev pub started_by : Serving → Result Started NegRefusal → Moved
started_by serves (Err refusal) = refused
started_by serves (Ok started) = record {
  stage = stages.Asks 1 started.end;
  lost = stages.Over;
  answer = Sent (creation_call (own_terms serves) 1 1 [] started.token);
  makes = started.makes;
  found = [];
}

-- what an initiator does that starts with this setup
abbrev pub starts : Serving → PlainSetup → Moved
starts serves own = started_by serves (init_start own)

-- ---- it takes a reply to its creation call

-- the step of its end, where the reply came to one
abbrev pub initiated_by : Result Initiated NegRefusal → Option Initiated
initiated_by (Err refusal) = None
initiated_by (Ok taken) = Some taken

-- the same by what the reply granted, whose token the end takes
abbrev pub initiated_with : EndSays → Result GrantedValue ClientRefusal → Option Initiated
initiated_with end (Err refusal) = None
initiated_with end (Ok granted) = initiated_by (init_step end granted.result.token)

-- the same by the reply's octets, for the creation call of this transaction number
abbrev pub initiated : ℕ → EndSays → List ℕ → Option Initiated
initiated xid end octets = initiated_with end (granted_in xid octets)

-- what a step handed out, nothing where there was none
abbrev pub handed_out : Option Initiated → List MechMaking
handed_out None = []
handed_out (Some taken) = taken.makes

-- what a step found verified, nothing where there was none
abbrev pub verified : Option Initiated → List MechMaking
verified None = []
verified (Some taken) = taken.found

-- the MIC over the window in the last reply
abbrev pub window_found : Outcome → Result GrantedValue ClientRefusal → List MechMaking
window_found outcome (Err refusal) = []
window_found outcome (Ok granted) =
    typed (check_making outcome.key (sign_usage Acceptor)
    (word granted.result.window ++ take 16 granted.answer.verf)) ∷ []

-- what it does by what the reply leads to: it has ended, makes the next creation call with the
-- handle that the reply gave, or its context stands and the MIC over the window was found too; the
-- session's first call has the number `first`
abbrev pub created_by : Serving → ℕ → ℕ → EndSays → List ℕ → Result CreatedSays ClientRefusal
    → Moved
created_by serves first xid end octets (Err refusal) = refused
created_by serves first xid end octets (Ok (created.Going offer)) = record {
  stage = stages.Asks (xid_after xid) offer.end;
  lost = stages.Over;
  answer = Sent (creation_call (own_terms serves) (xid_after xid) 2 offer.handle offer.token);
  makes = handed_out (initiated xid end octets);
  found = verified (initiated xid end octets);
}
created_by serves first xid end octets (Ok (created.Stands outcome handle)) = record {
  stage = stages.Stands (begun (own_terms serves) first (xid_after xid) outcome handle);
  lost = stages.Over;
  answer = Completed outcome;
  makes = handed_out (initiated xid end octets);
  found = verified (initiated xid end octets) ++ window_found outcome (granted_in xid octets);
}

-- what an initiator does that takes octets as the reply to its call of this transaction number, and
-- whose session begins with this number of a call
abbrev pub takes : Serving → ℕ → ℕ → EndSays → List ℕ → Moved
takes serves first xid end octets =
    created_by serves first xid end octets (creation_step end xid octets)

-- ---- it calls, by integrity

-- the MIC over a header: of this procedure of RPCSEC_GSS, service, and procedure
abbrev pub header_making : SessionState → ℕ → ℕ → ℕ → Making
header_making s proc service procedure =
    mic_making (own_end s) (2 * s.number) (header_of s proc service procedure)

-- what a caller may hand out with a number: the headers of its call by each service that protects
-- it, which for procedure 0 may be none; the header of the destruction; the MIC over the number and
-- the arguments, and both sealed
abbrev pub call_makings : SessionState → ℕ → List ℕ → List Making
call_makings s procedure args =
    (if procedure == 0 then header_making s 0 1 procedure ∷ [] else [])
    ++ header_making s 0 2 procedure ∷ header_making s 0 3 procedure ∷ header_making s 3 1 0
    ∷ mic_making (own_end s) (2 * s.number + 1) (word s.number ++ args)
    ∷ wrap_making (own_end s) (2 * s.number + 1) true (word s.number ++ args) ∷ []

-- what an initiator does that makes its session's next call; if memory is wanted, it has ended
abbrev pub calls : SessionState → ℕ → List ℕ → Moved
calls s procedure args = record {
  stage = stages.Stands (session_after s);
  lost = stages.Left s;
  answer = Sent (data_call s procedure args (replicate 16 0));
  makes = map typed (call_makings s procedure args);
  found = [];
}

-- what an initiator does whose session has no number left for a call: it ends its context, with the
-- number after those of calls, and has left it, also if memory is wanted (RFC 2203, 5.3.1)
abbrev pub leaves : SessionState → Moved
leaves s = record {
  stage = stages.Left s;
  lost = stages.Left s;
  answer = Sent (destroy_call s);
  makes = typed (header_making s 3 1 0) ∷ [];
  found = [];
}
