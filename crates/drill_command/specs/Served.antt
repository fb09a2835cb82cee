-- The program of posts behind a drill's gate, and who spells its results.
use Rattle.std.specs.Prelude.{◌≡◌, ℕ, List, Result, Ok}
use Rattle.rpc_program.specs.Programs.{CallerOf, Gives}
use Rattle.rpc_program.specs.declared.outcome.Outcome.{Outcome as CallOutcome}
use Rattle.rpc_program.specs.declared.program.Fault.{Fault}
use Rattle.posts_program.specs.Posts.{posts_after, result_of}
use Rattle.posts_program.specs.declared.posts.Posts.{Posts}

-- what entering a call gives and leaves: the count after it
abbrev pub PostsEnters : Posts → CallerOf → ℕ → List ℕ → Result ℕ Fault → Posts → Type 0
PostsEnters old caller procedure args entered new =
    (entered ≡ Ok new.posts) × (new.posts ≡ posts_after old.posts procedure)

-- what is spelled from such a count, by who spells it and stays as it was
abbrev pub PostsSpells : {S : Type 0} → S → CallerOf → ℕ → List ℕ → ℕ → CallOutcome → S → Type 0
PostsSpells old caller procedure args ticket outcome new =
    Gives args (result_of procedure args caller.name ticket) outcome × (new ≡ old)
