-- The procedures of the program of posts (own), and how their results are spelled, RFC 4506.
use Rattle.std.specs.Prelude.{ℕ, Bool, false, ◌==◌, is_ok, List, length, Result, Ok, Err}
use Rattle.std.specs.Str.{is_utf8}
use Rattle.rpc_msgs.specs.declared.numbers.TheConstants.{NULL}
use Rattle.rpc_msgs.specs.declared.xdr_reader.XdrRefusal.{XdrRefusal}
use Rattle.posts_program.specs.declared.numbers.TheConstants.{ECHO, WHOAMI, POST, COUNT}
use Rattle.posts_program.specs.declared.numbers.TheConstants.{MOST_POSTED}
use Rattle.rpc_msgs.specs.Opaque.{opaque_alone}
use Rattle.posts_client.specs.declared.procedure.Procedure.{Procedure}
use Rattle.posts_client.specs.declared.procedure.Procedure.TheVariants as procedures
use Rattle.gss_client.specs.Query.{QuerySays}

-- the number of a procedure in a call
abbrev pub procedure_number : Procedure → ℕ
procedure_number procedures.Null = NULL
procedure_number procedures.Echo = ECHO
procedure_number procedures.Whoami = WHOAMI
procedure_number procedures.Post = POST
procedure_number procedures.Count = COUNT

-- the text was read, and is UTF-8
abbrev pub is_text : Result (List ℕ) XdrRefusal → Bool
is_text (Ok text) = is_utf8 text
is_text (Err refusal) = false

-- nothing; octets, at most 65,536; a text of at most 1,024 octets; a word; a word
unfoldable pub is_result : Procedure → List ℕ → Bool
is_result procedures.Null octets = length octets == 0
is_result procedures.Echo octets = is_ok (opaque_alone MOST_POSTED octets)
is_result procedures.Whoami octets = is_text (opaque_alone 1024 octets)
is_result procedures.Post octets = length octets == 4
is_result procedures.Count octets = length octets == 4

-- what a client asks by a procedure
abbrev pub query_of : Procedure → QuerySays
query_of procedure = record {
  number = procedure_number procedure;
  is_result = is_result procedure;
}
