-- The program of posts, as a session's server: what it gives is what its client takes, and how its
-- count rises by a session's calls.
use Rattle.std.specs.Prelude.{◌≡◌, ℕ, ◌≤◌, true, List, [], ◌∷◌, length}
use Rattle.std.specs.Str.{is_utf8}
use Rattle.posts_program.specs.Posts.{are_args, result_of, posts_after, posts_says}
use Rattle.posts_client.specs.declared.procedure.Procedure.{Procedure}
use Rattle.posts_client.specs.Procedure.{procedure_number, query_of}
use Rattle.accept_core.specs.declared.entry.Entry.{Entry}
use Rattle.accept_core.specs.declared.entry.Entry.TheVariants.{Opened, Auth, Went, Settled, Call}
use Rattle.accept_core.specs.declared.entry.Entry.TheVariants.{Ended}
use Rattle.accept_book.specs.Honest.{IsOctets}
use Rattle.pair_laws.specs.Answering.{Server}
use Rattle.gss_client.specs.Conferring.{DueCall}
use Rattle.pair_laws.specs.Running.{IsResult}

-- a name's text has at most 255 octets, and is UTF-8
pub record IsName (name : List ℕ) : Type 0 where
  pub size : length name ≤ 255
  pub text : is_utf8 name ≡ true
  pub octets : IsOctets name

-- octets are the arguments of one of its procedures, and fit into a call
pub record IsPosted (procedure : Procedure) (args : List ℕ) : Type 0 where
  pub proper : are_args (procedure_number procedure) args ≡ true
  pub size : length args ≤ 65540
  pub octets : IsOctets args

-- the program's result of a call of one of its procedures by such a name, whatever the count, is a
-- result of what its client asks
abbrev pub PostsLaw : Type 0
PostsLaw =
    (procedure : Procedure) (args name : List ℕ) (count : ℕ) → IsPosted procedure args
    → IsName name
    → IsResult (query_of procedure) (result_of (procedure_number procedure) args name count)

-- how many posts a log has, newest first
abbrev pub posts_in : List Entry → ℕ
posts_in [] = 0
posts_in (Opened id at ∷ h) = posts_in h
posts_in (Auth id mark at ∷ h) = posts_in h
posts_in (Went id at ∷ h) = posts_in h
posts_in (Settled id mech names ends at ∷ h) = posts_in h
posts_in (Call id seq procedure args ∷ h) = posts_after (posts_in h) procedure
posts_in (Ended id cause ∷ h) = posts_in h

-- the server of posts, by windows of this width
abbrev pub posts_server : ℕ → Server
posts_server width = record {
  serving = record { program = posts_says; width = width };
  results = λ name procedure args log. result_of procedure args name (posts_in log);
}

-- how many posts there are after a call, and after these calls
abbrev pub posts_with : ℕ → DueCall → ℕ
posts_with count call = posts_after count call.query.number

abbrev pub posts_behind : ℕ → List DueCall → ℕ
posts_behind count [] = count
posts_behind count (call ∷ later) = posts_behind (posts_with count call) later

-- the results of these calls to a name, where nobody else posts: so many posts came before
abbrev pub posts_results : ℕ → List ℕ → List DueCall → List (List ℕ)
posts_results count name [] = []
posts_results count name (call ∷ later) =
    result_of call.query.number call.args name (posts_with count call)
    ∷ posts_results (posts_with count call) name later
