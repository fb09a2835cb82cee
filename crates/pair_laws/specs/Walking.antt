-- What an honest pair's steps have besides: the marks that they ask for, how long the acceptor's
-- tokens are, how long what they settle lasts, and whose names the outcome has.
use Rattle.std.specs.Prelude.{◌≡◌, ℕ, ◌≤◌, List, [], ◌∷◌, Some, Ok}
use Rattle.gss_base.specs.declared.mech.MechKind.{MechKind}
use Rattle.ap_exchange.specs.Request.{label_of}
use Rattle.spnego_core.specs.Accepting.{accept_step, step_of, mark_asked}
use Rattle.spnego_core.specs.Exchange.{Occasion, Completes}
use Rattle.spnego_core.specs.Initiating.{Started}
use Rattle.spnego_core.specs.InitMech.{cred_for}
use Rattle.spnego_core.specs.Sizes.{IsShort}
use Rattle.spnego_core.specs.declared.accept_end.AcceptEnd.{AcceptEnd}
use Rattle.spnego_core.specs.declared.accept_end.AcceptEnd.TheVariants as accepts
use Rattle.spnego_core.specs.declared.accept_end.AcceptPause.{AcceptPause}
use Rattle.spnego_core.specs.declared.accept_end.AcceptStep.TheVariants as steps
use Rattle.spnego_core.specs.declared.outcome.Outcome.{Outcome}
use Rattle.spnego_core.specs.declared.setup.AcceptSetup.{AcceptSetup}
use Rattle.spnego_core.specs.declared.setup.MechCred.{MechCred}
use Rattle.spnego_core.specs.declared.setup.MechCred.TheVariants as creds
use Rattle.spnego_core.specs.Ends.{PlainSetup, EndSays}

-- the mark that the acceptor's step to a token asks for, where it does, is of this moment
abbrev pub IsStamped : AcceptSetup → ℕ → Occasion → AcceptEnd → List ℕ → Type 0
IsStamped setup stamp occasion acceptor token = (pause : AcceptPause)
    → step_of (accept_step setup acceptor token occasion.now occasion.drawn)
    ≡ Ok (steps.WantsAuth pause) → (mark_asked pause).at ≡ stamp

-- along a dialogue each mark that is asked for is of this stamp, each reply has at most 65,536
-- octets, and what the last one settles lasts until this moment or longer
abbrev pub Walks : (setup : AcceptSetup) (stamp moment : ℕ) (occasions : List Occasion)
    (acceptor : AcceptEnd) (initiator : EndSays) (token : List ℕ) (outcome : Outcome)
    → Completes setup occasions acceptor initiator token outcome → Type 0
Walks setup stamp moment [] acceptor initiator token outcome c = ⊥
Walks setup stamp moment (last ∷ []) acceptor initiator token outcome c =
    IsStamped setup stamp last acceptor token × IsShort c.reply × (moment ≤ c.lasts)
Walks setup stamp moment (occasion ∷ next ∷ later) acceptor initiator token outcome c =
    IsStamped setup stamp occasion acceptor token × IsShort c.0.reply
    × Walks setup stamp moment (next ∷ later) c.0.acceptor_after c.0.initiator_after c.0.further
    outcome c.1

-- an outcome has the names of a credential: the ticket's client and server, or the user and no
-- acceptor
abbrev pub HasNames : MechCred → Outcome → Type 0
HasNames (creds.Kerberos name credential) outcome = (outcome.initiator ≡ label_of credential.client)
    × (outcome.acceptor ≡ label_of credential.server)
HasNames (creds.Scram user password) outcome = (outcome.initiator ≡ user) × (outcome.acceptor ≡ [])

-- the same of the initiator's credential of a mechanism
abbrev pub IsNamed : PlainSetup → MechKind → Outcome → Type 0
IsNamed own kind outcome = (cred : MechCred) → cred_for own.list kind ≡ Some cred
    → HasNames cred outcome

-- an honest pair whose occasions are all at one moment completes so
pub record Walked (setup : AcceptSetup) (own : PlainSetup) (kind : MechKind) (moment : ℕ)
    (occasions : List Occasion) (started : Started) : Type 0 where
  pub outcome : Outcome
  pub mech : outcome.mech ≡ kind
  pub named : IsNamed own kind outcome
  pub completes : Completes setup occasions accepts.New started.end started.token outcome
  pub walks : Walks setup own.stamp moment occasions accepts.New started.end started.token outcome
      completes
