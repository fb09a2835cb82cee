-- The calls that a drill draws.
use Rattle.std.specs.Prelude.{ℕ, zero, suc, ◌%◌, ◌==◌, Bool, true, false, if◌then◌else◌, List, []}
use Rattle.std.specs.Prelude.{◌∷◌}
use Rattle.rpc_msgs.specs.Words.{opaque}
use Rattle.rpc_msgs.specs.declared.numbers.TheConstants.{NULL}
use Rattle.posts_program.specs.declared.numbers.TheConstants.{ECHO, WHOAMI, POST}
use Rattle.posts_client.specs.declared.procedure.Procedure.{Procedure}
use Rattle.posts_client.specs.declared.procedure.Procedure.TheVariants.{Null, Echo, Whoami, Post}
use Rattle.posts_client.specs.declared.procedure.Procedure.TheVariants.{Count}
use Rattle.gss_client.specs.Conferring.{DueCall}
use Rattle.posts_client.specs.Procedure.{query_of}
use Rattle.drill_plan.specs.Generator.{stepped, top_of, octets_from, after_steps}

-- a call that was drawn, and the generator's value then
pub record Drawn : Type 0 where
  pub call : DueCall
  pub next : ℕ

-- the procedure of a number; COUNT is the last of them
abbrev pub procedure_of : ℕ → Procedure
procedure_of number =
    if number == NULL then Null
    else (if number == ECHO then Echo
    else (if number == WHOAMI then Whoami else (if number == POST then Post else Count)))

-- the argument of an echo and of a post is octets; the others have none
abbrev pub takes_octets : Procedure → Bool
takes_octets Null = false
takes_octets Echo = true
takes_octets Whoami = false
takes_octets Post = true
takes_octets Count = false

-- a call whose argument is so many octets, which are drawn
abbrev pub drawn_args : Procedure → ℕ → ℕ → Drawn
drawn_args procedure count x = record {
  call = record { query = query_of procedure; args = opaque (octets_from count x) };
  next = after_steps count x;
}

-- a call of this procedure: where its argument is octets, it is drawn how many they are, below 64,
-- and then they are
abbrev pub drawn_by : Procedure → ℕ → Drawn
drawn_by procedure x =
    if takes_octets procedure
    then drawn_args procedure (top_of (stepped x) % 64) (stepped x)
    else record { call = record { query = query_of procedure; args = [] }; next = x }

-- the next call: its procedure is drawn first, one of five
abbrev pub drawn_call : ℕ → Drawn
drawn_call x = drawn_by (procedure_of (top_of (stepped x) % 5)) (stepped x)

-- so many calls, drawn one after the other
abbrev pub calls_from : ℕ → ℕ → List DueCall
calls_from zero x = []
calls_from (suc count) x = (drawn_call x).call ∷ calls_from count (drawn_call x).next

-- the generator's value after so many calls
abbrev pub after_calls : ℕ → ℕ → ℕ
after_calls zero x = x
after_calls (suc count) x = after_calls count (drawn_call x).next
