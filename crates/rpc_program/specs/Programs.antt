-- What a program says of itself, who calls it, and what becomes of a call.
use Rattle.std.specs.Prelude.{◌≡◌, ◌≤◌, List, ℕ, Bool, length, Option, Some, None}
use Rattle.gss_base.specs.declared.mech.MechKind.{MechKind}
use Rattle.rpc_msgs.specs.declared.numbers.TheConstants.{PROG_UNAVAIL, PROC_UNAVAIL, GARBAGE_ARGS}
use Rattle.rpc_msgs.specs.declared.numbers.TheConstants.{SYSTEM_ERR}
use Rattle.rpcsec_bodies.specs.declared.service.Service.{Service}
use Rattle.rpc_program.specs.declared.limits.TheConstants.{MOST}
use Rattle.rpc_program.specs.declared.outcome.Outcome.{Outcome}
use Rattle.rpc_program.specs.declared.outcome.Outcome.TheVariants as outcomes
use Rattle.rpc_program.specs.declared.outcome.Unserved.{Unserved}
use Rattle.rpc_program.specs.declared.outcome.Unserved.TheVariants as stats
use Rattle.rpc_program.specs.declared.program.Caller.{Caller}
use Rattle.rpc_program.specs.declared.program.ProgramId.{ProgramId}

-- what a program says of itself: its number and version, which procedures it has, by which service
-- each is called at least, and which octets are a procedure's arguments
pub record ProgramSays : Type 0 where
  pub id : ProgramId
  pub has : ℕ → Bool
  pub needs : ℕ → Service
  pub takes : ℕ → List ℕ → Bool

-- what records are answered by: the program that is served, and the width of the windows
pub record Serving : Type 0 where
  pub program : ProgramSays
  pub width : ℕ

-- the procedure that no program has
abbrev pub NONE : ℕ
NONE = 0xffffffff

-- who calls: the initiator's name and the context's mechanism, the service of the call, and the
-- place of its entry in the log
pub record CallerOf : Type 0 where
  pub name : List ℕ
  pub mech : MechKind
  pub service : Service
  pub place : ℕ

-- the caller that a program is told
abbrev pub caller_of : Caller → CallerOf
caller_of caller = record {
  name = caller.name.now;
  mech = caller.mech;
  service = caller.service;
  place = caller.place;
}

-- the number of an accept stat without a result, RFC 5531 section 9
abbrev pub stat_number : Unserved → ℕ
stat_number stats.Program = PROG_UNAVAIL
stat_number stats.Procedure = PROC_UNAVAIL
stat_number stats.Arguments = GARBAGE_ARGS
stat_number stats.System = SYSTEM_ERR

-- the outcome is this result, of a call with these arguments, unless memory was wanted
abbrev pub Gives : List ℕ → List ℕ → Outcome → Type 0
Gives args result outcomes.Args = args ≡ result
Gives args result (outcomes.Done octets) = octets ≡ result
Gives args result (outcomes.Refused why) = ⊥
Gives args result (outcomes.Mismatch low high) = ⊥
Gives args result outcomes.Gone = ⊥
Gives args result outcomes.NoMemory = Unit {0}

-- the result of a call with these arguments, where there is one
abbrev pub result_in : List ℕ → Outcome → Option (List ℕ)
result_in args outcomes.Args = Some args
result_in args (outcomes.Done octets) = Some octets
result_in args (outcomes.Refused why) = None
result_in args (outcomes.Mismatch low high) = None
result_in args outcomes.Gone = None
result_in args outcomes.NoMemory = None

-- a result fits into a reply by each service
abbrev pub IsShort : Outcome → Type 0
IsShort outcomes.Args = Unit {0}
IsShort (outcomes.Done octets) = length octets ≤ MOST
IsShort (outcomes.Refused why) = Unit {0}
IsShort (outcomes.Mismatch low high) = Unit {0}
IsShort outcomes.Gone = Unit {0}
IsShort outcomes.NoMemory = Unit {0}
