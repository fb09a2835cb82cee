-- A session over datagrams, from the plan of its words to its end.
use Rattle.std.specs.Prelude.{◌≡◌, ◌⊎◌, ℕ, ◌++◌, ◌∷◌, IsTrue, List, [], length, Option, None, Some}
use Rattle.std.specs.Prelude.{Ok, Err}
use Rattle.sec_base.specs.declared.clock.Clock as clocks
use Rattle.sec_base.specs.declared.draw.Draw as draws
use Rattle.spnego_core.specs.declared.outcome.Outcome.{Outcome}
use Rattle.spnego_core.specs.declared.setup.MechCred.{MechCred}
use Rattle.datagram_post.specs.declared.post.Post as posts
use Rattle.gss_client.specs.Session.{SessionState}
use Rattle.gss_client.specs.Start.{StartMeans}
use Rattle.gss_client.specs.Talk.{created_over, created_from}
use Rattle.gss_client.specs.Talking.{Talking}
use Rattle.client_command.specs.Runs.{start_of}
use Rattle.client_options.specs.declared.ending.RunEnd.TheVariants as ends
use Rattle.client_options.specs.declared.words.Plan.{Plan}
use Rattle.datagram_client.specs.Creating.{Creates}
use Rattle.datagram_client.specs.declared.refusal.PostRefusal.{PostRefusal}
use Rattle.datagram_calls.specs.Calls.{AsksOf, end_of_refusal, Converses}
use Rattle.datagram_options.specs.declared.ending.CallEnd.{CallEnd}
use Rattle.datagram_options.specs.declared.ending.CallEnd.TheVariants.{As}

-- ---- a session from its start

-- the context stood, and the calls were made
pub record Stood {P D : Type 0} (post : posts.Ghosts P) (draw : draws.Ghosts D)
    (part : Talking SessionState) (asks : AsksOf) (old new : P) (draw_old draw_new : D)
    (outcome : Option Outcome) (results : List (List ℕ)) (end : CallEnd) : Type 0 where
  pub session : SessionState
  pub middle : P
  pub created : Creates post part 1 0 old middle (Ok session)
  pub agreed : outcome ≡ Some session.outcome
  pub conversed : Converses post draw asks session middle new draw_old draw_new results end

-- the creation was refused, and nothing was called
pub record WasRefused {P D : Type 0} (post : posts.Ghosts P) (part : Talking SessionState)
    (old new : P) (draw_old draw_new : D) (outcome : Option Outcome) (results : List (List ℕ))
    (end : CallEnd) : Type 0 where
  pub refusal : PostRefusal
  pub created : Creates post part 1 0 old new (Err refusal)
  pub undrawn : draw_new ≡ draw_old
  pub none : outcome ≡ None
  pub empty : results ≡ []
  pub ends : end ≡ end_of_refusal refusal

-- a session by this creation
abbrev pub HoldsBy : {P D : Type 0} → posts.Ghosts P → draws.Ghosts D → Talking SessionState
    → AsksOf → P → P → D → D → Option Outcome → List (List ℕ) → CallEnd → Type 0
HoldsBy post draw part asks old new draw_old draw_new outcome results end =
    Stood post draw part asks old new draw_old draw_new outcome results end
    ⊎ WasRefused post part old new draw_old draw_new outcome results end

-- a session from this start
abbrev pub Holds : {P D : Type 0} → posts.Ghosts P → draws.Ghosts D → StartMeans → AsksOf → P → P
    → D → D → Option Outcome → List (List ℕ) → CallEnd → Type 0
Holds post draw start asks old new draw_old draw_new outcome results end =
    HoldsBy post draw (created_over start) asks old new draw_old draw_new outcome results end

-- ---- the session of a plan

-- what a plan asks for
abbrev pub asks_of : Plan → ℕ → AsksOf
asks_of plan tries =
    record { command = plan.command; args = plan.args; times = plan.times; tries = tries }

-- there was no memory for the mechanisms, and nothing was sent
pub record Unarmed {P D : Type 0} (old new : P) (draw_old draw_new : D)
    (outcome : Option Outcome) (results : List (List ℕ)) (end : CallEnd) : Type 0 where
  pub same : new ≡ old
  pub undrawn : draw_new ≡ draw_old
  pub none : outcome ≡ None
  pub empty : results ≡ []
  pub ends : end ≡ As ends.NoMemory

-- the session of a plan: the next moment of the clock is its stamp, the next 66 random octets are
-- its own, and those behind them its calls' confounders. Its creation is the talk by its
-- credentials over the replies
pub record Speaks {P C D : Type 0} (post : posts.Ghosts P) (clock : clocks.Ghosts C)
    (draw : draws.Ghosts D) (plan : Plan) (tries : ℕ) (creds : List MechCred) (old new : P)
    (clock_old clock_new : C) (draw_old draw_new : D) (outcome : Option Outcome)
    (results : List (List ℕ)) (end : CallEnd) : Type 0 where
  pub stamp : ℕ
  pub moment : IsTrue (clock.tells clock_new)
      → clock.given clock_new ≡ clock.given clock_old ++ stamp ∷ []
  pub draws : List ℕ
  pub size : length draws ≡ 66
  pub draw_middle : D
  pub kept : IsTrue (draw.tells draw_middle) → IsTrue (draw.tells draw_old)
  pub drew : IsTrue (draw.tells draw_middle)
      → draw.given draw_middle ≡ draw.given draw_old ++ draws
  pub holds : HoldsBy post draw (created_from (start_of plan creds stamp draws))
      (asks_of plan tries) old new draw_middle draw_new outcome results end
      ⊎ Unarmed old new draw_middle draw_new outcome results end
