-- The run of a client over datagrams.
use Rattle.std.specs.Prelude.{◌≡◌, ◌≢◌, ◌⊎◌, ℕ, true, IsTrue, List, [], Option, None, Result}
use Rattle.std.specs.Prelude.{Ok, Err}
use Rattle.sec_base.specs.declared.clock.Clock as clocks
use Rattle.sec_base.specs.declared.draw.Draw as draws
use Rattle.sec_base.specs.declared.shelf.Shelf as shelves
use Rattle.spnego_core.specs.declared.outcome.Outcome.{Outcome}
use Rattle.spnego_core.specs.declared.setup.MechCred.{MechCred}
use Rattle.client_command.specs.Loading.{CredsFrom}
use Rattle.client_options.specs.declared.ending.RunEnd.{RunEnd}
use Rattle.client_options.specs.declared.ending.RunEnd.TheVariants.{NoMemory}
use Rattle.client_options.specs.declared.words.ClientWords.{ClientWords}
use Rattle.client_options.specs.declared.words.Plan.{Plan}
use Rattle.datagram_post.specs.declared.post.Post as posts
use Rattle.datagram_options.specs.declared.ending.CallEnd.{CallEnd}
use Rattle.datagram_options.specs.declared.ending.CallEnd.TheVariants.{As}
use Rattle.datagram_calls.specs.Calls.{is_session_end}
use Rattle.datagram_calls.specs.Credentials.{short_creds}
use Rattle.datagram_calls.specs.Sessions.{Speaks}

-- what is returned of a session is what it came to; where there was no memory to print that,
-- nothing is
abbrev pub Reports : Option Outcome → List (List ℕ) → CallEnd → Option Outcome → List (List ℕ)
    → CallEnd → Type 0
Reports outcome results end outcome' results' end' =
    ((outcome' ≡ outcome) × (results' ≡ results) × (end' ≡ end))
    ⊎ ((outcome' ≡ None) × (results' ≡ []) × (end' ≡ As NoMemory))

-- a session of the plan was held, and this is returned of it
pub record HasSpoken {P C D : Type 0} (post : posts.Ghosts P) (clock : clocks.Ghosts C)
    (draw : draws.Ghosts D) (plan : Plan) (tries : ℕ) (creds : List MechCred) (old new : P)
    (clock_old clock_new : C) (draw_old draw_new : D) (outcome : Option Outcome)
    (results : List (List ℕ)) (end : CallEnd) : Type 0 where
  pub agreed : Option Outcome
  pub answered : List (List ℕ)
  pub ended : CallEnd
  pub speaks : Speaks post clock draw plan tries creds old new clock_old clock_new draw_old draw_new
      agreed answered ended
  pub reports : Reports agreed answered ended outcome results end

-- with credentials a session was held, want of memory aside; over a post that tells its datagrams
-- this is what it sent, heard and came to
pub record WithCreds {P C D : Type 0} (post : posts.Ghosts P) (clock : clocks.Ghosts C)
    (draw : draws.Ghosts D) (plan : Plan) (tries : ℕ) (creds : List MechCred) (old new : P)
    (clock_old clock_new : C) (draw_old draw_new : D) (outcome : Option Outcome)
    (results : List (List ℕ)) (end : CallEnd) : Type 0 where
  pub begun : end ≢ As NoMemory → is_session_end end ≡ true
  pub spoke : IsTrue (post.tells old) → HasSpoken post clock draw plan tries creds old new
      clock_old clock_new draw_old draw_new outcome results end

-- without them nothing was sent, heard or drawn, and the run ends by them
pub record WithoutCreds {P C D : Type 0} (stop : RunEnd) (old new : P) (clock_old clock_new : C)
    (draw_old draw_new : D) (outcome : Option Outcome) (results : List (List ℕ)) (end : CallEnd) :
    Type 0 where
  pub ends : end ≡ As stop
  pub same : new ≡ old
  pub untimed : clock_new ≡ clock_old
  pub undrawn : draw_new ≡ draw_old
  pub none : outcome ≡ None
  pub empty : results ≡ []

-- by what the credentials come to
abbrev pub Behind : {P C D : Type 0} → posts.Ghosts P → clocks.Ghosts C → draws.Ghosts D → Plan → ℕ
    → Result (List MechCred) RunEnd → P → P → C → C → D → D → Option Outcome → List (List ℕ)
    → CallEnd → Type 0
Behind post clock draw plan tries (Ok creds) old new clock_old clock_new draw_old draw_new outcome
    results end = WithCreds post clock draw plan tries creds old new clock_old clock_new draw_old
    draw_new outcome results end
Behind post clock draw plan tries (Err stop) old new clock_old clock_new draw_old draw_new outcome
    results end =
    WithoutCreds stop old new clock_old clock_new draw_old draw_new outcome results end

-- the credentials are read from the files that the words name, and what follows is by those of them
-- that have room in datagrams
pub record Runs {F P C D : Type 0} (shelf : shelves.Ghosts F) (post : posts.Ghosts P)
    (clock : clocks.Ghosts C) (draw : draws.Ghosts D) (words : ClientWords) (tries : ℕ)
    (shelf_old shelf_new : F) (old new : P) (clock_old clock_new : C) (draw_old draw_new : D)
    (outcome : Option Outcome) (results : List (List ℕ)) (end : CallEnd) : Type 0 where
  pub creds : Result (List MechCred) RunEnd
  pub read : CredsFrom shelf shelf_old shelf_new words.sources creds
  pub behind : Behind post clock draw words.plan tries (short_creds creds) old new clock_old
      clock_new draw_old draw_new outcome results end
