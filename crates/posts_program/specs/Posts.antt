-- The program of posts (own): its arguments and results, RFC 4506, and its count.
use Rattle.std.specs.Prelude.{ℕ, ◌+◌, Bool, ◌==◌, ◌&&◌, nat_lt, if◌then◌else◌, List, [], length}
use Rattle.std.specs.Prelude.{is_ok}
use Rattle.rpc_msgs.specs.Words.{word, opaque}
use Rattle.rpc_msgs.specs.declared.numbers.TheConstants.{NULL}
use Rattle.rpcsec_bodies.specs.declared.service.Service.{Service}
use Rattle.rpcsec_bodies.specs.declared.service.Service.TheVariants as services
use Rattle.rpc_program.specs.Programs.{ProgramSays}
use Rattle.rpc_msgs.specs.Opaque.{opaque_alone}
use Rattle.posts_program.specs.declared.numbers.TheConstants.{PROGRAM, VERSION, ECHO, WHOAMI, POST}
use Rattle.posts_program.specs.declared.numbers.TheConstants.{COUNT, MOST_POSTED, MOST_POSTS}

-- the octets are one opaque of at most 65,536 octets (section 4.10), and nothing after it
abbrev pub is_one_opaque : List ℕ → Bool
is_one_opaque octets = is_ok (opaque_alone MOST_POSTED octets)

-- whether octets are the procedure's arguments: an opaque for ECHO and POST, nothing for the others
abbrev pub are_args : ℕ → List ℕ → Bool
are_args procedure args = if procedure == ECHO then is_one_opaque args
    else if procedure == POST then is_one_opaque args else length args == 0

-- the result: ECHO's argument, the caller's name for WHOAMI, the count of posts for POST and COUNT
abbrev pub result_of : ℕ → List ℕ → List ℕ → ℕ → List ℕ
result_of procedure args name posts =
    if procedure == NULL then [] else if procedure == ECHO then args
    else if procedure == WHOAMI then opaque name else word posts

-- how many posts there are after a call
abbrev pub posts_after : ℕ → ℕ → ℕ
posts_after posts procedure = if procedure == POST && nat_lt posts MOST_POSTS then posts + 1
    else posts

-- NULL is called by any service, the others by one that proves their arguments
abbrev pub posts_needs : ℕ → Service
posts_needs procedure = if procedure == NULL then services.None else services.Integrity

-- what the program says of itself
abbrev pub posts_says : ProgramSays
posts_says = record {
  id = record { number = PROGRAM; version = VERSION };
  has = λ procedure. nat_lt procedure (COUNT + 1);
  needs = posts_needs;
  takes = are_args;
}
