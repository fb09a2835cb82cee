-- What a drill's sessions and log are.
use Rattle.std.specs.Prelude.{◌≡◌, ℕ, zero, suc, ◌+◌, ◌*◌, ◌%◌, ◌^◌, List, [], ◌∷◌, ◌++◌, reverse}
use Rattle.std.specs.Prelude.{Some, None}
use Rattle.spnego_core.specs.declared.outcome.Outcome.{Outcome}
use Rattle.accept_book.specs.Booking.{names_of}
use Rattle.accept_core.specs.declared.entry.Entry.{Entry}
use Rattle.gss_client.specs.Conferring.{DueCall}
use Rattle.pair_laws.specs.Creation.{Enters}
use Rattle.pair_laws.specs.Posts.{posts_in, posts_results}
use Rattle.pair_laws.specs.Rows.{history_after}
use Rattle.pair_laws.specs.Walking.{HasNames}
use Rattle.drill_command.specs.Calls.{calls_from, after_calls}
use Rattle.drill_command.specs.Fitting.{tokens_for}
use Rattle.drill_plan.specs.Generator.{after_steps}
use Rattle.drill_plan.specs.Sessions.{session_count, calls_in, moment_of, kind_of}
use Rattle.drill_plan.specs.Setting.{drill_credential}
use Rattle.drill_plan.specs.declared.session.DrillSession.{DrillSession}

-- the generator's value before session `number` draws its calls
abbrev pub value_before : ℕ → ℕ → ℕ → ℕ
value_before seed calls zero = seed
value_before seed calls (suc number) =
    after_calls (calls_in calls number) (value_before seed calls number)

-- the calls of session `number`
abbrev pub calls_of : ℕ → ℕ → ℕ → List DueCall
calls_of seed calls number =
    calls_from (calls_in calls number) (value_before seed calls number)

-- the value of a generator after the 66 octets of a session's first token
unfoldable pub after_start : ℕ → ℕ
after_start x = after_steps 66 x

-- its value after the 16 octets of each of so many calls
unfoldable pub after_confounders : ℕ → ℕ → ℕ
after_confounders count x = after_steps (16 * count) x

-- its value after it gave a session's client its octets: those of the first token, and then those
-- of so many calls
abbrev pub after_client : ℕ → ℕ → ℕ
after_client count x = after_confounders count (after_start x)

-- the value of the client's generator before session `number`: it begins with the number after the
-- seed, and goes on from session to session
abbrev pub client_before : ℕ → ℕ → ℕ → ℕ
client_before seed calls zero = (seed + 1) % 2 ^ 64
client_before seed calls (suc number) =
    after_client (calls_in calls number) (client_before seed calls number)

-- session `number` was answered without a refusal, and agreed on an outcome of its mechanism, with
-- the names of its credential. It was answered the service's result of each call: nothing for NULL,
-- its argument for ECHO, the initiator's name for WHOAMI, and how many posts there are so far, in
-- all sessions, for POST and COUNT. The history, newest first, has the entries of its creation, its
-- calls and its end before the old ones, and no other.
pub record IsSession (number : ℕ) (wanted : List DueCall) (old new : List Entry)
    (one : DrillSession) : Type 0 where
  pub ended : one.ended ≡ None
  pub agreed : Outcome
  pub outcome : one.outcome ≡ Some agreed
  pub mech : agreed.mech ≡ kind_of number
  pub named : HasNames (drill_credential (kind_of number)) agreed
  pub results : one.results.items ≡ posts_results (posts_in old) agreed.initiator wanted
  pub opened : List Entry
  pub enters : Enters (number + 1) (moment_of number) (kind_of number)
      (tokens_for (kind_of number)) old opened
  pub names : enters.names ≡ names_of agreed
  pub history : new ≡ history_after (number + 1) 1 wanted opened

-- so many sessions one after the other, from an empty history to this one
abbrev pub AreSessions : ℕ → ℕ → ℕ → List Entry → List DrillSession → Type 0
AreSessions seed calls zero history sessions = (history ≡ []) × (sessions ≡ [])
AreSessions seed calls (suc number) history sessions =
    (before : List Entry) × (front : List DrillSession) × (one : DrillSession)
    × AreSessions seed calls number before front
    × (sessions ≡ front ++ one ∷ [])
    × ∥ IsSession number (calls_of seed calls number) before history one ∥₁

-- the sessions and the log of a drill with this seed and so many calls, each as it should be
abbrev pub IsDrilled : ℕ → ℕ → List DrillSession → List Entry → Type 0
IsDrilled seed calls sessions log =
    AreSessions seed calls (session_count calls) (reverse log) sessions
